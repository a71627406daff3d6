-- The scale of two verdicts: the lower, the higher, the other. Assumes nothing.
use Rattle.verdicts.specs.Scale.{Ops}
use Rattle.verdicts.specs.declared.scale.YesNo.{YesNo}
use Rattle.verdicts.specs.declared.scale.YesNo.TheVariants.{Broken, Kept}

abbrev pub lower : YesNo → YesNo → YesNo
lower Broken y = Broken
lower Kept y = y

abbrev pub higher : YesNo → YesNo → YesNo
higher Broken y = y
higher Kept y = Kept

abbrev pub other : YesNo → YesNo
other Broken = Kept
other Kept = Broken

abbrev pub yes_no : Ops YesNo
yes_no = record { bottom = Broken; top = Kept; meet = lower; join = higher; negate = other }
