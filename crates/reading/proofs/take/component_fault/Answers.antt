-- `component_fault` meets its contract. Assumes nothing.
use mathlib.Core.Path.{◌≡◌, refl, sym, ap, ◌∙◌}
use native.Mathlib.Omega.{arith}
use Rattle.std.specs.Prelude.{Err}
use Rattle.std.proofs.Common.{rules}
use Rattle.literals.specs.Faults.{at_start_of, told_stop}
use Rattle.literals.proofs.Refusals.{fault_some}
use Rattle.reading.proofs.Takes.{component_short, component_fields_stop, component_used, component_labels}
use Rattle.reading.proofs.Takes.{component_plain, component_cleared, component_kept}
use Rattle.reading.proofs.take.component_fault.Goals as goal

pub returns-in_err-component_fields-clause-fault : goal.returns-in_err-component_fields-clause-fault
returns-in_err-component_fields-clause-fault c D K =
    let told : c.from_residual.result ≡ Err (at_start_of c.in_err-component_fields.field-0.0) = search rules in
    rw told (component_fields_stop K _ c.in_err-component_fields.ensures (fault_some _))

pub bounds-p-0 : goal.bounds-p-0
bounds-p-0 c = let f = component_short _ _ c.in_ok-component_fields.ensures refl in omega (arith, f.0)

pub returns-then-is_used-clause-fault : goal.returns-then-is_used-clause-fault
returns-then-is_used-clause-fault c D K =
    ap told_stop c.from.ensures ∙ component_used K _ c.in_ok-component_fields.ensures refl c.is_used.ensures c.if-is_used.true

pub keys_with-requires : goal.keys_with-requires
keys_with-requires c = (component_short _ _ c.in_ok-component_fields.ensures refl).1

pub label_fields-requires-clause-short : goal.label_fields-requires-clause-short
label_fields-requires-clause-short c = (component_short _ _ c.in_ok-component_fields.ensures refl).1

pub returns-in_err-label_fields-clause-fault : goal.returns-in_err-label_fields-clause-fault
returns-in_err-label_fields-clause-fault c D K =
    let told : c.from_residual-in_err-label_fields.result ≡ Err c.in_err-label_fields.field-0.0 = search rules in
    rw told
    (component_labels K _ c.in_ok-component_fields.ensures refl c.is_used.ensures c.if-is_used.false
    (c.keys_with.ensures.number D K.says) c.in_err-label_fields.ensures (fault_some _))

pub returns-then-not-clears_in-clause-fault : goal.returns-then-not-clears_in-clause-fault
returns-then-not-clears_in-clause-fault c D K =
    component_plain K _ c.in_ok-component_fields.ensures refl c.is_used.ensures c.if-is_used.false
    (c.keys_with.ensures.number D K.says) c.in_ok-label_fields.ensures refl (sym c.clears_in.ensures ∙ c.if-not-clears_in.true)

pub returns-then-not-clears_in-clause-fits : goal.returns-then-not-clears_in-clause-fits
returns-then-not-clears_in-clause-fits c = (component_short _ _ c.in_ok-component_fields.ensures refl).1

pub any_clears_key-requires-clause-long : goal.any_clears_key-requires-clause-long
any_clears_key-requires-clause-long c = let f = component_short _ _ c.in_ok-component_fields.ensures refl in omega (arith, f.0)

pub any_clears_key-requires-clause-short : goal.any_clears_key-requires-clause-short
any_clears_key-requires-clause-short c = (component_short _ _ c.in_ok-component_fields.ensures refl).1

pub returns-then-any_clears_key-clause-fault : goal.returns-then-any_clears_key-clause-fault
returns-then-any_clears_key-clause-fault c D K =
    ap told_stop c.from-then-any_clears_key.ensures
    ∙ component_cleared K _ c.in_ok-component_fields.ensures refl c.is_used.ensures c.if-is_used.false
    (c.keys_with.ensures.number D K.says)
    c.in_ok-label_fields.ensures refl (c.all_rows.ensures.number D K)
    c.any_clears_key.ensures c.if-any_clears_key.true

pub returns-clause-fault : goal.returns-clause-fault
returns-clause-fault c D K =
    component_kept K _ c.in_ok-component_fields.ensures refl c.is_used.ensures c.if-is_used.false
    (c.keys_with.ensures.number D K.says) c.in_ok-label_fields.ensures refl (c.all_rows.ensures.number D K) c.any_clears_key.ensures
    c.if-any_clears_key.false

pub returns-clause-fits : goal.returns-clause-fits
returns-clause-fits c = (component_short _ _ c.in_ok-component_fields.ensures refl).1
