-- What the words reading says. Assumes nothing.
use Rattle.std.specs.Prelude.{ℕ, cond, List, length, ◌==◌}
use Rattle.readings.specs.Meaning.{Meaning}
use Rattle.readings.specs.Listed.{find_in, spellings}
use Rattle.readings.specs.declared.words.Words.{Words}
use Rattle.readings.specs.declared.mark.Mark.TheVariants.{Off, On}

-- 256 codes: code c shows name c and nothing else, and nothing is ever in doubt
abbrev pub words_over : List (List ℕ) → Meaning
words_over ns = record {
  codes = 256;
  names = length ns;
  finds = find_in ns;
  marks = λ c n. cond (c == n) On Off;
}

abbrev pub words_meaning : Words → Meaning
words_meaning w = words_over (spellings w.list)
