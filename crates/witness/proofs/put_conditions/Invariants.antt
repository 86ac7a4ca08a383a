-- `put_conditions` meets its contract: after j turns the facts of the true conditions among the first j rows are written. Assumes nothing.
use mathlib.Core.Path.{◌≡◌}
use Prim.Native.Nat.{◌≤◌}
use lib.ListN.{length}
use Rattle.records.specs.Memory.{over}
use Rattle.witness.proofs.Facts.{conditions_to}
use Rattle.witness.proofs.put_conditions.Given as goal

abbrev pub invariant-loop-j : goal.invariant-loop-j
invariant-loop-j l = (l.j ≤ l.n) × (l.at ≡ length (conditions_to l.head l.usages l.rows l.j)) × (l.out ≡ over (conditions_to l.head l.usages l.rows l.j) l.initial.out)
