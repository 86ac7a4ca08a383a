-- `same_atom` meets its contract: the bytes 1 to 7 are those from 1 to 4 and from 4 to 7. Assumes nothing.
use mathlib.Core.Path.{sym, ◌∙◌}
use native.Mathlib.Omega.{arith}
use Rattle.literals.proofs.Rows.{atom_same, atom_other}
use Rattle.literals.proofs.row.same_atom.Goals as goal

pub returns-then-same_four : goal.returns-then-same_four
returns-then-same_four c = let a = c.args in
    atom_same a.row.now a.table.now a.at (omega arith) (omega arith) (sym c.same_four.ensures ∙ c.if-same_four.true) c.same_four-then-same_four.ensures

pub returns-else-same_four : goal.returns-else-same_four
returns-else-same_four c = let a = c.args in
    c.if-same_four.false ∙ atom_other a.row.now a.table.now a.at (omega arith) (omega arith) (sym c.same_four.ensures ∙ c.if-same_four.false)
