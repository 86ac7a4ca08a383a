-- `forbidden` meets its contract: the tests in their order. Assumes nothing.
use Prim.{tt}
use mathlib.Core.Path.{sym, ap, ◌∙◌}
use Rattle.events.proofs.FactRows.{waiting_count}
use Rattle.machine.specs.Held.{StateRows}
use Rattle.machine.proofs.NextKept.{events_chosen, events_alone}
use Rattle.machine.proofs.Closing.{not_open, not_met, not_kept, not_apart, nothing_forbids}
use Rattle.machine.proofs.step.forbidden.Goals as goal

pub returns-then-not-ends_open : goal.returns-then-not-ends_open
returns-then-not-ends_open c =
    let opens = c.ends_open in
    let fails = c.if-not-ends_open.true in record {
      few = tt;
      asked = λ D objs s es lent some kept is rows held.
          let r = ap (λ (x : StateRows). x.running) is in
          let w = ap (λ (x : StateRows). x.waiting) is in
          let ends = opens.ensures D s.running es lent.says.bounded kept.running kept.waiting kept.running_few
          kept.waiting_few r w in
          (not_open D objs s es (sym ends ∙ fails), tt);
    }

pub returns-then-not-open_met : goal.returns-then-not-open_met
returns-then-not-open_met c =
    let opens = c.ends_open in
    let keeps = c.open_met in
    let all-open = c.if-not-ends_open.false in
    let fails = c.if-not-open_met.true in record {
      few = tt;
      asked = λ D objs s es lent some kept is rows held.
          let r = ap (λ (x : StateRows). x.running) is in
          let w = ap (λ (x : StateRows). x.waiting) is in
          let ends = opens.ensures D s.running es lent.says.bounded kept.running kept.waiting kept.running_few
          kept.waiting_few r w in
          let keep = keeps.ensures D s.running s.facts lent r kept.running kept.running_few rows held objs kept.chosen in
          (not_kept D objs s es (sym ends ∙ all-open) (sym keep ∙ fails), tt);
    }

pub returns-then-not-events_met : goal.returns-then-not-events_met
returns-then-not-events_met c =
    let opens = c.ends_open in
    let grounds = c.ground_step-literals in
    let mets = c.events_met in
    let all-open = c.if-not-ends_open.false in
    let fails = c.if-not-events_met.true in record {
      few = tt;
      asked = λ D objs s es lent some kept is rows held.
          let r = ap (λ (x : StateRows). x.running) is in
          let w = ap (λ (x : StateRows). x.waiting) is in
          let ends = opens.ensures D s.running es lent.says.bounded kept.running kept.waiting kept.running_few
          kept.waiting_few r w in
          let G = grounds.ensures.grounded D es lent w kept.waiting kept.waiting_few in
          let met = mets.ensures D _ es s.facts G rows held objs (events_chosen kept) in
          (not_met D objs s es (sym ends ∙ all-open) (sym met ∙ fails), tt);
    }

pub independent-requires : goal.independent-requires
independent-requires c =
    let keeps = c.open_met in
    let grounds = c.ground_step-literals in record { memory = grounds.auto.memory ∙ keeps.auto.memory ∙ c.requires.memory; few = grounds.ensures.few }

pub returns-then-not-independent : goal.returns-then-not-independent
returns-then-not-independent c =
    let opens = c.ends_open in
    let keeps = c.open_met in
    let grounds = c.ground_step-literals in
    let mets = c.events_met in
    let aparts = c.independent in
    let all-open = c.if-not-ends_open.false in
    let all-kept = c.if-not-open_met.false in
    let all-met = c.if-not-events_met.false in
    let fails = c.if-not-independent.true in record {
      few = tt;
      asked = λ D objs s es lent some kept is rows held.
          let r = ap (λ (x : StateRows). x.running) is in
          let w = ap (λ (x : StateRows). x.waiting) is in
          let ends = opens.ensures D s.running es lent.says.bounded kept.running kept.waiting kept.running_few
          kept.waiting_few r w in
          let keep = keeps.ensures D s.running s.facts lent r kept.running kept.running_few rows held objs kept.chosen in
          let G = grounds.ensures.grounded D es lent w kept.waiting kept.waiting_few in
          let met = mets.ensures D _ es s.facts G rows held objs (events_chosen kept) in
          let apart = aparts.ensures D _ es G (sym (waiting_count es _ w)) kept.waiting_few objs some (events_alone kept) in (
            not_apart D objs s es (sym ends ∙ all-open) (sym met ∙ all-met) (sym keep ∙ all-kept)
                (sym apart ∙ fails),
            tt,
          );
    }

pub returns : goal.returns
returns c =
    let opens = c.ends_open in
    let keeps = c.open_met in
    let grounds = c.ground_step-literals in
    let mets = c.events_met in
    let aparts = c.independent in
    let all-open = c.if-not-ends_open.false in
    let all-kept = c.if-not-open_met.false in
    let all-met = c.if-not-events_met.false in
    let All-apart = c.if-not-independent.false in record {
      few = grounds.ensures.few;
      asked = λ D objs s es lent some kept is rows held.
          let r = ap (λ (x : StateRows). x.running) is in
          let w = ap (λ (x : StateRows). x.waiting) is in
          let ends = opens.ensures D s.running es lent.says.bounded kept.running kept.waiting kept.running_few
          kept.waiting_few r w in
          let keep = keeps.ensures D s.running s.facts lent r kept.running kept.running_few rows held objs kept.chosen in
          let G = grounds.ensures.grounded D es lent w kept.waiting kept.waiting_few in
          let met = mets.ensures D _ es s.facts G rows held objs (events_chosen kept) in
          let apart = aparts.ensures D _ es G (sym (waiting_count es _ w)) kept.waiting_few objs some (events_alone kept) in (
            nothing_forbids D objs s es (sym ends ∙ all-open) (sym met ∙ all-met) (sym keep ∙ all-kept)
                (sym apart ∙ All-apart),
            G,
          );
    }
