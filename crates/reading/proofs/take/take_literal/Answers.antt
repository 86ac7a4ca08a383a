-- `take_literal` meets its contract. Assumes nothing.
use mathlib.Core.Path.{◌≡◌, refl, sym, ◌∙◌}
use Prim.Native.Nat.{◌+◌, ◌-◌}
use native.Mathlib.Omega.{arith}
use lib.ListN.{length}
use Rattle.literals.specs.Decode.{literal_record}
use Rattle.literals.specs.Held.{literal_arguments}
use Rattle.std.specs.Prelude.{Err}
use Rattle.std.proofs.Common.{rules}
use Rattle.literals.proofs.Bytes.{plain_arguments}
use Rattle.literals.proofs.Refusals.{fault_some}
use Rattle.reading.proofs.Takes.{row_stop, held_over, not_zero, span_size, span_all, literal_early, literal_late, literal_full}
use Rattle.reading.proofs.Takes.{literal_short, told_every, shape_stop, arguments_stop_lem}
use Rattle.reading.proofs.Written.{literal_stopped, literal_placed}
use Rattle.reading.proofs.take.take_literal.Goals as goal
use Rattle.reading.proofs.take.take_literal.Goals.{then-beyond+in_ok-literal_arguments, else-beyond}

pub returns-then-n-eq0 : goal.returns-then-n-eq0
returns-then-n-eq0 c =
    λ D old K. row_stop K literal_record _ (literal_early K.filled.says _ (sym c.actions_in-n.ensures.number ∙ c.if-n-eq0.true)) (not_zero 12)

pub returns-then-components_in-gt0 : goal.returns-then-components_in-gt0
returns-then-components_in-gt0 c =
    let b = c.components_in.ensures.number in
    λ D old K. row_stop K literal_record _ (literal_late K.filled.says _ (omega arith)) (not_zero 12)

pub returns-then-span-ge-MAX_LITERALS : goal.returns-then-span-ge-MAX_LITERALS
returns-then-span-ge-MAX_LITERALS c =
    let back8 = c in
    let actions-in = back8.actions_in-n in
    let a = actions-in.ensures.number in
    let b = c.components_in.ensures.number in
    let s = c.span_of-span.ensures in
    λ D old K.
    let l = K.filled.says.actions in
    let w : actions-in.result - 1 + 1 ≡ length D.actions = omega arith in
    let S = (s.rows D _ (held_over K) (omega arith)).1 in
    let z = span_size w S in
    row_stop K literal_record _ (literal_full K.filled.says _ (omega arith) (omega arith) (omega arith)) (not_zero 13)

pub returns-in_err-literal_shape : goal.returns-in_err-literal_shape
returns-in_err-literal_shape c =
    let actions-in = c.actions_in-n in
    let a = actions-in.ensures.number in
    let b = c.components_in.ensures.number in
    let s = c.span_of-span.ensures in
    let told : c.from_residual.result ≡ Err c.in_err-literal_shape.field-0.0 = search rules in
    λ D old K.
    let l = K.filled.says.actions in
    let w : actions-in.result - 1 + 1 ≡ length D.actions = omega arith in
    let S = (s.rows D _ (held_over K) (omega arith)).1 in
    rw told
    (literal_stopped K _ _ w (omega arith) (omega arith) S (omega arith)
    (shape_stop (held_over K) _ _ w c.in_err-literal_shape.ensures (fault_some _)) (fault_some _))

pub literal_arguments-requires : goal.literal_arguments-requires
literal_arguments-requires c = (literal_short _ _ _ (sym c.in_ok-literal_shape.ensures)).0

pub returns-in_err-literal_arguments : goal.returns-in_err-literal_arguments
returns-in_err-literal_arguments c =
    let actions-in = c.actions_in-n in
    let a = actions-in.ensures.number in
    let b = c.components_in.ensures.number in
    let s = c.span_of-span.ensures in
    let told : c.from_residual-in_err-literal_arguments.result ≡ Err c.in_err-literal_arguments.field-0.0 = search rules in
    λ D old K.
    let l = K.filled.says.actions in
    let w : actions-in.result - 1 + 1 ≡ length D.actions = omega arith in
    let S = (s.rows D _ (held_over K) (omega arith)).1 in
    rw told
    (literal_stopped K _ _ w (omega arith) (omega arith) S (omega arith)
    (arguments_stop_lem (held_over K) _ _ w c.in_ok-literal_shape.ensures refl
    c.variables_of-variables.ensures.number c.in_err-literal_arguments.ensures (fault_some _))
    (fault_some _))

pub place_literal-requires : goal.place_literal-requires
place_literal-requires c =
    let a = c.actions_in-n.ensures.number in
    let s = c.span_of-span.ensures in
    let R = c.requires in
    let K = R.holds in
    let l = K.filled.says.actions in
    let w : c.actions_in-n.result - 1 + 1 ≡ length R.sofar.actions = omega arith in
    let S = (s.rows R.sofar _ (held_over K) (omega arith)).1 in
    let n = span_size w S in
    let t = span_all w S in
    let f = literal_short _ _ _ (sym c.in_ok-literal_shape.ensures) in
    let m = R.room f.0 (omega arith) in
    let told : literal_arguments c.variables_of-variables.result c.args.p.now ≡ 0 =
    elim c.if-beyond.branch [
      | then-beyond+in_ok-literal_arguments w ↦ sym w.in_ok-literal_arguments.ensures
      | else-beyond w ↦ let v = c.variables_of-variables.ensures.few in plain_arguments _ _ (omega arith) (sym c.any_beyond-beyond.ensures ∙ w.if-beyond.false)
    ] in
    let v = c.variables_of-variables.ensures.few in
    let e = told_every _ _ (omega arith) c.any_beyond-beyond.result c.any_beyond-beyond.ensures told in
    record { latest = omega arith; actions = omega arith; size = s.size; few = omega arith; room = omega arith; long = f.0; short = f.1; every = e }

pub returns : goal.returns
returns c =
    let variables-of = c.variables_of-variables in
    let actions-in = c.actions_in-n in
    let told : literal_arguments variables-of.result c.args.p.now ≡ 0 =
    elim c.if-beyond.branch [
      | then-beyond+in_ok-literal_arguments w ↦ sym w.in_ok-literal_arguments.ensures
      | else-beyond w ↦ let v = variables-of.ensures.few in plain_arguments _ _ (omega arith) (sym c.any_beyond-beyond.ensures ∙ w.if-beyond.false)
    ] in
    let a = actions-in.ensures.number in
    let b = c.components_in.ensures.number in
    let s = c.span_of-span.ensures in
    λ D old K.
    let l = K.filled.says.actions in
    let w : actions-in.result - 1 + 1 ≡ length D.actions = omega arith in
    let S = (s.rows D _ (held_over K) (omega arith)).1 in
    literal_placed K _ _ w (omega arith) (omega arith) S (omega arith) c.in_ok-literal_shape.ensures refl
    variables-of.ensures.number (sym told) refl c.place_literal.ensures
