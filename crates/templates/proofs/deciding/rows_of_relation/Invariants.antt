-- `rows_of_relation` meets its contract: of the rows before j those with the relation are kept. Assumes nothing.
use Prim.Native.Nat.{◌≤◌}
use Rattle.templates.proofs.Narrowed.{Keeping}
use Rattle.templates.proofs.deciding.rows_of_relation.Given as goal

abbrev pub invariant-loop-j : goal.invariant-loop-j
invariant-loop-j l = (l.j ≤ l.n) × Keeping l.rows l.relation l.initial.kept l.kept l.k l.j
