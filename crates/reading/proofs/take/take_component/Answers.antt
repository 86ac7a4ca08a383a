-- `take_component` meets its contract. The table stays, as a component has no row there. Assumes nothing.
use mathlib.Core.Path.{◌≡◌, refl}
use native.Mathlib.Omega.{arith}
use Rattle.std.specs.Prelude.{Err}
use Rattle.std.proofs.Common.{rules}
use Rattle.literals.specs.Decode.{component_record}
use Rattle.literals.proofs.Refusals.{fault_some}
use Rattle.reading.proofs.Takes.{take_stop, take_done, held_over, not_zero, component_full, component_full_place}
use Rattle.reading.proofs.Takes.{component_number, component_place}
use Rattle.reading.proofs.Written.{unwritten, same_component}
use Rattle.reading.proofs.take.take_component.Goals as goal

pub returns-then-components_in-ge-MAX_COMPONENTS : goal.returns-then-components_in-ge-MAX_COMPONENTS
returns-then-components_in-ge-MAX_COMPONENTS c =
    let b = c.components_in.ensures.number in
    rw c.from.ensures
    (record {
      number = λ D old K.
          let n = component_full K.filled.says _ (omega arith) in
          unwritten K component_record _ (same_component D _) (take_stop K.filled component_record _ n (not_zero 13));
      place = λ D K. component_full_place K.says _ (omega arith);
    })

pub returns-in_err-component_fault : goal.returns-in_err-component_fault
returns-in_err-component_fault c =
    let b = c.components_in.ensures.number in
    let f = c.in_err-component_fault.ensures.fault in
    let told : c.from_residual.result ≡ Err c.in_err-component_fault.field-0.0 = search rules in
    rw told
    (record {
      number = λ D old K.
          let n = component_number K.filled.says _ (omega arith) (f D (held_over K)) in
          unwritten K component_record _ (same_component D _) (take_stop K.filled component_record _ n (fault_some _));
      place = λ D K. component_place K.says _ (omega arith) (f D K);
    })

pub add_component-requires : goal.add_component-requires
add_component-requires c =
    let b = c.components_in.ensures.number in
    record { whole = c.requires; room = omega arith; short = c.in_ok-component_fault.ensures.fits }

pub returns : goal.returns
returns c =
    let b = c.components_in.ensures.number in
    let f = c.in_ok-component_fault.ensures.fault in record {
      number = λ D old K.
          let n = component_number K.filled.says _ (omega arith) (f D (held_over K)) in
          unwritten K component_record _ (same_component D _)
          (take_done D component_record _ n refl (c.add_component.ensures D K.filled n));
      place = λ D K. component_place K.says _ (omega arith) (f D K);
    }
