-- `any_word` meets its contract: what is found is told by the words so far. Assumes nothing.
use mathlib.Core.Path.{◌≡◌}
use lib.Dec.{eqb}
use lib.ListN.{take}
use Rattle.records.specs.Lists.{any}
use Rattle.classes.proofs.number.any_word.Given as goal

abbrev pub invariant-loop-other : goal.invariant-loop-other
invariant-loop-other l = l.found ≡ any (eqb l.word) (take l.other-index l.words)
