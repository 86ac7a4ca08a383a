-- `put_marks` meets its contract: after j turns the first j rows are marked. Assumes nothing.
use mathlib.Core.Path.{◌≡◌}
use Prim.Native.Nat.{◌≤◌}
use lib.ListN.{length}
use Rattle.literals.specs.Held.{rows_in}
use Rattle.effects.specs.Held.{Marked}
use Rattle.effects.proofs.put_marks.Given as goal

abbrev pub invariant-loop-j : goal.invariant-loop-j
invariant-loop-j l = (l.j ≤ l.m) × (length l.marks ≡ 256) × Marked l.marks (rows_in l.j l.rows)
