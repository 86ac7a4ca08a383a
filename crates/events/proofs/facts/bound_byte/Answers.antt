-- `bound_byte` meets its contract. Assumes nothing.
use mathlib.Core.Path.{ap, ◌∙◌}
use Prim.Native.Nat.{◌+◌}
use lib.ListN.{get_or}
use native.Mathlib.Omega.{arith}
use Rattle.literals.specs.Held.{argument_number}
use Rattle.literals.proofs.Arguments.{argument_back}
use Rattle.events.specs.Held.{bound_argument}
use Rattle.events.proofs.RowLoops.{bound_object, bound_fill}
use Rattle.events.proofs.facts.bound_byte.Goals as goal

pub returns-in_default : goal.returns-in_default
returns-in_default c =
    let a = c.args in
    bound_object a.arity a.act.now a.rows.now a.row (omega arith) (omega arith) a.i _
    (λ e. omega arith) (λ e. omega arith) (omega arith) (c.bound_argument.ensures
    ∙ ap (bound_argument a.act.now)
    (ap argument_number c.from-in_default.ensures ∙ argument_back (get_or a.rows.now (a.row + a.i) 0)))

pub returns-in_default-2 : goal.returns-in_default-2
returns-in_default-2 c = let a = c.args in bound_fill a.arity a.act.now a.rows.now a.row (omega arith) (omega arith) a.i (omega arith) (λ e. omega arith) (λ e. omega arith) (omega arith)
