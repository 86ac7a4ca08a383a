-- `keep_rows` meets its contract: those kept of the first i rows are written, and the index is of them and the rows to come; each turn goes to the next row that is struck. Assumes nothing.
use Prim.Native.Nat.{◌-◌}
use Rattle.literals.specs.Held.{rows_in}
use Rattle.effects.specs.Held.{effects_in}
use Rattle.effects.proofs.IndexedRows.{Keeping}
use Rattle.effects.proofs.keep_rows.Given as goal

abbrev pub invariant-loop-next : goal.invariant-loop-next
invariant-loop-next l = Keeping (rows_in l.m (effects_in l.initial.scratch)) l.work l.n l.head l.initial.scratch l.initial.index l.scratch l.index l.k l.i

abbrev pub decreases-loop-next : goal.decreases-loop-next
decreases-loop-next l = l.n - l.i
