-- `literal_tuple` meets its contract, by the component of the literal's relation. Assumes nothing.
use native.Mathlib.Omega.{arith}
use mathlib.Core.Path.{refl, ◌∙◌}
use Rattle.literals.proofs.Places.{components_few}
use Rattle.classes.proofs.NewClasses.{unmatched_tuple, matched_tuple}
use Rattle.classes.proofs.number.literal_tuple.Goals as goal

pub key_tuple-requires : goal.key_tuple-requires
key_tuple-requires c =
    let p = c.in-Some.ensures in
    let f = components_few c.args.head.now in
    record { component = omega arith; row = c.requires }

pub returns-in-Some : goal.returns-in-Some
returns-in-Some c =
    let a = c.args in
    let p = c.in-Some.ensures in
    c.key_tuple.ensures ∙ matched_tuple a.head.now a.rows.now a.at c.in-Some.c c.requires p.0 (λ e. omega arith)

pub returns-in-None : goal.returns-in-None
returns-in-None c =
    let a = c.args in
    unmatched_tuple a.head.now a.rows.now a.at _ c.requires refl c.in-None.ensures
