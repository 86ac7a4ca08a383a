-- `take_action` meets its contract. Assumes nothing.
use mathlib.Core.Path.{refl, sym}
use native.Mathlib.Omega.{arith}
use Rattle.literals.specs.Decode.{action_record}
use Rattle.std.specs.Prelude.{Err}
use Rattle.std.proofs.Common.{◌≡◌, rules}
use Rattle.literals.proofs.Stops.{action_passes}
use Rattle.literals.proofs.Refusals.{fault_some}
use Rattle.reading.proofs.Takes.{take_stop, take_done, not_zero, action_behind_components, action_full, action_number}
use Rattle.reading.proofs.take.take_action.Goals as goal

pub returns-then-components_in-gt0 : goal.returns-then-components_in-gt0
returns-then-components_in-gt0 c D F = let b = c.components_in.ensures.number in take_stop F action_record _ (action_behind_components F.says _ (omega arith)) (not_zero 12)

pub returns-then-actions_in-ge-MAX_ACTIONS : goal.returns-then-actions_in-ge-MAX_ACTIONS
returns-then-actions_in-ge-MAX_ACTIONS c D F = let a = c.actions_in.ensures.number in let b = c.components_in.ensures.number in take_stop F action_record _ (action_full F.says _ (omega arith) (omega arith)) (not_zero 13)

pub returns-in_err-action_fields : goal.returns-in_err-action_fields
returns-in_err-action_fields c D F =
    let a = c.actions_in.ensures.number in
    let b = c.components_in.ensures.number in
    let told : c.from_residual.result ≡ Err c.in_err-action_fields.field-0.0 = search rules in
    let n = action_number F.says _ (omega arith) (omega arith) c.in_err-action_fields.ensures in
    rw told (take_stop F action_record _ n (fault_some _))

pub add_action-requires : goal.add_action-requires
add_action-requires c = let a = c.actions_in.ensures.number in let q = (action_passes _ (sym c.in_ok-action_fields.ensures)).0 in record { room = omega arith; long = omega arith }

pub returns : goal.returns
returns c D F =
    let a = c.actions_in.ensures.number in
    let b = c.components_in.ensures.number in
    let n = action_number F.says _ (omega arith) (omega arith) c.in_ok-action_fields.ensures in
    take_done D action_record _ n refl (c.add_action.ensures D F n)
