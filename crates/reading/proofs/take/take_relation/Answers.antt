-- `take_relation` meets its contract. Assumes nothing.
use mathlib.Core.Path.{refl, sym}
use native.Mathlib.Omega.{arith}
use Rattle.literals.specs.Decode.{relation_record}
use Rattle.std.specs.Prelude.{Err}
use Rattle.std.proofs.Common.{◌≡◌, rules}
use Rattle.literals.proofs.Stops.{relation_passes}
use Rattle.literals.proofs.Refusals.{fault_some}
use Rattle.reading.proofs.Takes.{take_stop, take_done, not_zero, relation_behind_actions, relation_behind_components, relation_full, relation_number}
use Rattle.reading.proofs.take.take_relation.Goals as goal

pub returns-then-actions_in-gt0 : goal.returns-then-actions_in-gt0
returns-then-actions_in-gt0 c D F = let a = c.actions_in.ensures.number in take_stop F relation_record _ (relation_behind_actions F.says _ (omega arith)) (not_zero 12)

pub returns-then-components_in-gt0 : goal.returns-then-components_in-gt0
returns-then-components_in-gt0 c D F = let a = c.actions_in.ensures.number in let b = c.components_in.ensures.number in take_stop F relation_record _ (relation_behind_components F.says _ (omega arith) (omega arith)) (not_zero 12)

pub returns-then-relations_in-ge-MAX_RELATIONS : goal.returns-then-relations_in-ge-MAX_RELATIONS
returns-then-relations_in-ge-MAX_RELATIONS c D F = let a = c.actions_in.ensures.number in let b = c.components_in.ensures.number in let r = c.relations_in.ensures.number in take_stop F relation_record _ (relation_full F.says _ (omega arith) (omega arith) (omega arith)) (not_zero 13)

pub returns-in_err-relation_fields : goal.returns-in_err-relation_fields
returns-in_err-relation_fields c D F =
    let a = c.actions_in.ensures.number in
    let b = c.components_in.ensures.number in
    let r = c.relations_in.ensures.number in
    let told : c.from_residual.result ≡ Err c.in_err-relation_fields.field-0.0 = search rules in
    let n = relation_number F.says _ (omega arith) (omega arith) (omega arith) c.in_err-relation_fields.ensures in
    rw told (take_stop F relation_record _ n (fault_some _))

pub add_relation-requires : goal.add_relation-requires
add_relation-requires c = let r = c.relations_in.ensures.number in let q = (relation_passes _ (sym c.in_ok-relation_fields.ensures)).0 in record { room = omega arith; long = omega arith }

pub returns : goal.returns
returns c D F =
    let a = c.actions_in.ensures.number in
    let b = c.components_in.ensures.number in
    let r = c.relations_in.ensures.number in
    let n = relation_number F.says _ (omega arith) (omega arith) (omega arith) c.in_ok-relation_fields.ensures in
    take_done D relation_record _ n refl (c.add_relation.ensures D F n)
