-- `plain_row` meets its contract: after k turns the first k objects stand in the row. Assumes nothing.
use mathlib.Core.Path.{◌≡◌}
use Prim.Native.Nat.{◌≤◌}
use Rattle.trying.proofs.Loops.{row_up_to}
use Rattle.trying.proofs.plain.plain_row.Given as goal

abbrev pub invariant-loop-k : goal.invariant-loop-k
invariant-loop-k l = (l.k ≤ l.variables) × (l.row ≡ row_up_to l.i l.k)
