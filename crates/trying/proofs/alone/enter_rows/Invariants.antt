-- `enter_rows` meets its contract: after i turns the first i rows are entered. Assumes nothing.
use Prim.Native.Nat.{◌≤◌}
use Rattle.trying.proofs.Loops.{Entering}
use Rattle.trying.proofs.alone.enter_rows.Given as goal

abbrev pub invariant-loop-i : goal.invariant-loop-i
invariant-loop-i l = (l.i ≤ l.n) × Entering l.head l.rows l.initial.index l.index l.i
