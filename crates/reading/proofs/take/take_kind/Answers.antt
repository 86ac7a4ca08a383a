-- `take_kind` meets its contract, kind by kind. Assumes nothing.
use mathlib.Core.Path.{◌≡◌, refl, sym}
use Rattle.std.specs.Prelude.{Err}
use Rattle.std.proofs.Common.{rules}
use Rattle.literals.specs.Decode.{relation_record, action_record, literal_record, closing_record}
use Rattle.literals.specs.Faults.{at_start_of}
use Rattle.literals.proofs.Stops.{place_record}
use Rattle.reading.proofs.Written.{unwritten, closing_kept, same_relation, same_action, same_closing}
use Rattle.reading.proofs.take.take_kind.Goals as goal

pub returns-in_err-take_relation-in-Relation : goal.returns-in_err-take_relation-in-Relation
returns-in_err-take_relation-in-Relation c =
    let told : c.from_residual.result ≡ Err (at_start_of c.in_err-take_relation-in-Relation.field-0.0) = search rules in
    rw (told, c.in-Relation.is)
    (record { number = λ D old K. unwritten K relation_record _ (same_relation D _) (c.in_err-take_relation-in-Relation.ensures D K.filled); place = λ D H. sym (place_record D relation_record _ refl) })

pub returns-in_ok-take_relation-in-Relation : goal.returns-in_ok-take_relation-in-Relation
returns-in_ok-take_relation-in-Relation c =
    rw c.in-Relation.is
    (record { number = λ D old K. unwritten K relation_record _ (same_relation D _) (c.in_ok-take_relation-in-Relation.ensures D K.filled); place = λ D H. sym (place_record D relation_record _ refl) })

pub returns-in_err-take_action-in-Action : goal.returns-in_err-take_action-in-Action
returns-in_err-take_action-in-Action c =
    let told : c.from_residual-in_err-take_action-in-Action.result ≡ Err (at_start_of c.in_err-take_action-in-Action.field-0.0) = search rules in
    rw (told, c.in-Action.is)
    (record { number = λ D old K. unwritten K action_record _ (same_action D _) (c.in_err-take_action-in-Action.ensures D K.filled); place = λ D H. sym (place_record D action_record _ refl) })

pub returns-in_ok-take_action-in-Action : goal.returns-in_ok-take_action-in-Action
returns-in_ok-take_action-in-Action c =
    rw c.in-Action.is
    (record { number = λ D old K. unwritten K action_record _ (same_action D _) (c.in_ok-take_action-in-Action.ensures D K.filled); place = λ D H. sym (place_record D action_record _ refl) })

pub returns-in_err-take_literal-in-Literal : goal.returns-in_err-take_literal-in-Literal
returns-in_err-take_literal-in-Literal c =
    let told : c.from_residual-in_err-take_literal-in-Literal.result ≡ Err (at_start_of c.in_err-take_literal-in-Literal.field-0.0) = search rules in
    rw (told, c.in-Literal.is)
    (record { number = λ D old K. c.in_err-take_literal-in-Literal.ensures D old K; place = λ D H. sym (place_record D literal_record _ refl) })

pub returns-in_ok-take_literal-in-Literal : goal.returns-in_ok-take_literal-in-Literal
returns-in_ok-take_literal-in-Literal c =
    rw c.in-Literal.is
    (record { number = λ D old K. c.in_ok-take_literal-in-Literal.ensures D old K; place = λ D H. sym (place_record D literal_record _ refl) })

pub returns-in_err-take_closing-in-Closing : goal.returns-in_err-take_closing-in-Closing
returns-in_err-take_closing-in-Closing c =
    let told : c.from_residual-in_err-take_closing-in-Closing.result ≡ Err (at_start_of c.in_err-take_closing-in-Closing.field-0.0) = search rules in
    rw (told, c.in-Closing.is)
    (record { number = λ D old K. unwritten K closing_record _ (same_closing D _) (c.in_err-take_closing-in-Closing.ensures D K.filled.says, closing_kept K.filled _); place = λ D H. sym (place_record D closing_record _ refl) })

pub returns-in_ok-take_closing-in-Closing : goal.returns-in_ok-take_closing-in-Closing
returns-in_ok-take_closing-in-Closing c =
    rw c.in-Closing.is
    (record { number = λ D old K. unwritten K closing_record _ (same_closing D _) (c.in_ok-take_closing-in-Closing.ensures D K.filled.says, closing_kept K.filled _); place = λ D H. sym (place_record D closing_record _ refl) })
