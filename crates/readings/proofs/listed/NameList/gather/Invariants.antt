use Rattle.std.proofs.Common.{◌≡◌, take, None}
use Rattle.rules.specs.First.{first}
use Rattle.readings.specs.Listed.{lent, spellings, wrong_at}
use Rattle.readings.proofs.listed.NameList.gather.Given as goal

-- the names so far are in the list, and none of them is wrong
abbrev pub invariant-loop-i : goal.invariant-loop-i
invariant-loop-i g l = (l.list.count ≡ l.i) × (spellings l.list ≡ take l.i (lent l.names)) × (first l.i (wrong_at (lent l.names)) ≡ None)
