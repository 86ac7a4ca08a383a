-- `all_rows` meets its contract: a table that holds a domain has all its rows. Assumes nothing.
use native.Mathlib.Omega.{arith}
use Rattle.literals.proofs.Heads.{all_room}
use Rattle.literals.proofs.head.all_rows.Goals as goal

pub returns-else-n-table-clause-number : goal.returns-else-n-table-clause-number
returns-else-n-table-clause-number c = λ D H. let n = c.literals_in-n.ensures.number D H.says in let r = all_room H in absurd (omega arith)
