-- `boxes::open_box` meets its contract. The loop's invariant: the bytes passed are whole files. Assumes nothing.
use lib.ListN.{length}
use Rattle.totals.proofs.Loops.{Left}
use Rattle.totals.proofs.boxes.open_box.Given as goal

abbrev pub invariant-loop-behind : goal.invariant-loop-behind
invariant-loop-behind l = Left l.packed l.rest

abbrev pub decreases-loop-behind : goal.decreases-loop-behind
decreases-loop-behind l = length l.rest
