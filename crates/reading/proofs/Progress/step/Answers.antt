-- `Progress::step` meets its contract: a law of proofs/Turns for each return. Assumes nothing.
use mathlib.Core.Path.{◌≡◌, refl, sym, ◌∙◌}
use lib.Dec.{eqb}
use native.Mathlib.Omega.{arith}
use Rattle.records.proofs.Laws.{whole_within}
use Rattle.literals.specs.Decode.{at_record}
use Rattle.literals.specs.Faults.{told_stop}
use Rattle.literals.proofs.Refusals.{fault_some}
use Rattle.reading.proofs.Takes.{held_over}
use Rattle.reading.proofs.Turns.{told_whole, record_ready, step_behind, step_end, step_short, step_on, step_stop_lem}
use Rattle.reading.proofs.Written.{closing_told}
use Rattle.reading.proofs.Progress.step.Goals as goal

pub returns-then-at-s : goal.returns-then-at-s
returns-then-at-s c q old S = step_behind _ _ S c.if-self.true c.if-at-s.true _ (told_whole _ _ _ c.of_record.ensures _ c.from.ensures)

pub returns-then-self : goal.returns-then-self
returns-then-self c q old S = step_end _ _ S c.if-self.true c.if-at-s.false

pub returns-in_default : goal.returns-in_default
returns-in_default c q old S =
    step_short _ _ S c.if-self.false _ (sym c.record_at.ensures) c.in_default.not-Whole _
    (told_whole _ _ _ c.of_record-in_default.ensures _ c.from-in_default.ensures)

pub overflow_add-end : goal.overflow_add-end
overflow_add-end c = let w = whole_within _ _ (sym c.record_at.ensures ∙ c.in-Whole.is) in omega arith

pub slice_bounds-take_record-end : goal.slice_bounds-take_record-end
slice_bounds-take_record-end c = let w = whole_within _ _ (sym c.record_at.ensures ∙ c.in-Whole.is) in omega arith

pub take_record-requires : goal.take_record-requires
take_record-requires c = record_ready c.requires (sym c.record_at.ensures ∙ c.in-Whole.is)

pub of_record-requires-in-Err : goal.of_record-requires-in-Err
of_record-requires-in-Err c =
    let w = whole_within _ _ (sym c.record_at.ensures ∙ c.in-Whole.is) in
    omega (arith, c.requires.short)

pub returns-in-Err : goal.returns-in-Err
returns-in-Err c q old S =
    let t = c.in-Err in
    step_stop_lem _ _ S c.if-self.false (sym c.record_at.ensures ∙ c.in-Whole.is) (told_stop t.fault) (t.ensures.number q.sofar old S.holds)
    (t.ensures.place q.sofar (held_over S.holds)) (fault_some _) _ c.of_record-in-Err.ensures

pub returns : goal.returns
returns c q old S =
    let t = c.in_default-take_record in
    let closing : c.eq.result ≡ eqb c.in-Whole.kind 5 = c.eq.ensures ∙ closing_told _ _ refl refl refl refl refl c.in-Whole.kind c.try_from.result c.try_from.ensures in
    step_on _ _ S c.if-self.false (sym c.record_at.ensures ∙ c.in-Whole.is) (at_record 0) (t.ensures.number q.sofar old S.holds)
    (t.ensures.place q.sofar (held_over S.holds)) refl _ closing
