-- `literals::fields::is_again` meets its contract. Assumes nothing.
use Rattle.std.proofs.Common.{◌≡◌, rules, ◌∙◌, eqb, drop}
use Rattle.literals.proofs.Bytes.{again_same}
use Rattle.literals.proofs.fields.is_again.Goals as goal

pub returns-then-label-counted : goal.returns-then-label-counted
returns-then-label-counted c =
    let e : eqb c.args.label 255 ≡ c.args.counted = search rules in
    c.any_equal.ensures ∙ again_same (drop 1 c.args.earlier.now) c.args.label e
