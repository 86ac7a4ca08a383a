-- `clears_once` meets its contract. Assumes nothing.
use mathlib.Core.Path.{◌≡◌, ap, ◌∙◌}
use mathlib.Core.Bool.{cond}
use Rattle.literals.specs.declared.Role.{Role}
use Rattle.literals.specs.Domain.{may_clear}
use Rattle.literals.proofs.Arguments.{clears_told}
use Rattle.literals.proofs.fields.clears_once.Goals as goal
use Rattle.literals.proofs.fields.clears_once.Goals.{then-may_clear, else-may_clear}

pub returns : goal.returns
returns c =
    let most : c.if-may_clear.most ≡ cond c.may_clear.result 1 0 =
    elim c.if-may_clear.branch [
      | then-may_clear w ↦ w.most-is ∙ rw w.if-may_clear.true
      | else-may_clear w ↦ w.most-is ∙ rw w.if-may_clear.false
    ] in
    clears_told c.args.p.now c.count_from.ensures (c.may_clear.ensures ∙ ap (λ (r : Role). may_clear r.usage) c.from.ensures) most
