-- The scale of three verdicts, in rising order broken, unclear, kept. Assumes nothing.
use Rattle.verdicts.specs.Scale.{Ops}
use Rattle.verdicts.specs.declared.scale.YesNo.{YesNo}
use Rattle.verdicts.specs.declared.three_way.ThreeWay.{ThreeWay}
use Rattle.verdicts.specs.declared.three_way.ThreeWay.TheVariants.{Broken, Unclear, Kept}

abbrev pub lower : ThreeWay → ThreeWay → ThreeWay
lower Broken y = Broken
lower Unclear Broken = Broken
lower Unclear Unclear = Unclear
lower Unclear Kept = Unclear
lower Kept y = y

abbrev pub higher : ThreeWay → ThreeWay → ThreeWay
higher Broken y = y
higher Unclear Broken = Unclear
higher Unclear Unclear = Unclear
higher Unclear Kept = Kept
higher Kept y = Kept

-- the ends swapped
abbrev pub turned : ThreeWay → ThreeWay
turned Broken = Kept
turned Unclear = Unclear
turned Kept = Broken

abbrev pub three_way : Ops ThreeWay
three_way = record { bottom = Broken; top = Kept; meet = lower; join = higher; negate = turned }

-- a verdict of two, on the scale of three
abbrev pub in_three : YesNo → ThreeWay
in_three YesNo.Broken = Broken
in_three YesNo.Kept = Kept
