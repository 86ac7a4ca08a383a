-- `ground_literal` meets its contract. Assumes nothing.
use mathlib.Core.Path.{refl, sym, ap, ◌∙◌}
use native.Mathlib.Omega.{arith}
use Rattle.literals.specs.Held.{number_for}
use Rattle.events.specs.Held.{ground_in}
use Rattle.events.proofs.GroundLiterals.{row_none, row_one}
use Rattle.events.proofs.grounding.ground_literal.Goals as goal

pub returns-in_default : goal.returns-in_default
returns-in_default c =
    let a = c.args in
    let first = ground_in a.n a.memory.now in
    record { literals = row_none a.time a.head.now a.act.now a.rows.now a.row 0 (sym (ap number_for c.in_default.is) ∙ c.usage_for.ensures) first refl; counts = refl }

pub returns : goal.returns
returns c =
    let a = c.args in
    let first = ground_in a.n a.memory.now in
    let row = c.bound_row in
    let put = c.put_literal.ensures in record {
      literals = row_one a.time a.head.now a.act.now a.rows.now a.row _ (omega (arith, sym (ap number_for c.in-Some.is) ∙ c.usage_for.ensures)) first
          (λ e. omega arith) row.result row.ensures put.literals;
      counts = put.counts;
    }
