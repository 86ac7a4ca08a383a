-- `any_contradicts` meets its contract: an effect contradicts none. Assumes nothing.
use Prim.Native.Nat.{◌-◌, ◌*◌}
use native.Mathlib.Omega.{arith}
use lib.ListN.{drop}
use Rattle.literals.specs.Held.{rows_in}
use Rattle.literals.proofs.Rows.{against_none}
use Rattle.literals.proofs.row.any_contradicts.Goals as goal

pub returns-in_default : goal.returns-in_default
returns-in_default c =
    let a = c.args in
    against_none a.p.now (rows_in (a.to - a.from) (drop (8 * a.from) a.table.now)) (omega arith) (λ e. omega arith) (λ e. omega arith) (λ e. omega arith) (λ e. omega arith) (λ e. omega arith) (λ e. omega arith)
