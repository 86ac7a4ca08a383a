-- `Player::take_run_record` meets its contract: each kind by its function. Assumes nothing.
use mathlib.Core.Path.{refl, ap}
use native.Mathlib.Omega.{arith}
use Rattle.std.specs.Prelude.{Err}
use Rattle.run_semantics.specs.RunFile.{objects_record, fact_record, event_record, step_record, end_record}
use Rattle.run_semantics.specs.Play.{begin, close_step, play_record}
use Rattle.run_fields.specs.Kinds.{run_kind}
use Rattle.player.specs.Held.{whole_in, turn_in}
use Rattle.player.proofs.Sound.{begun_tally}
use Rattle.player.proofs.PlayTurns.{ending_some, stopped_unless, of_objects, of_fact, of_event, of_step, of_end, stop_is, step_some, step_passed}
use Rattle.player.proofs.NotedTurns.{noted_ended, noted_of, noted_begun, noted_objects, noted_fact_record, noted_event, noted_step_record, noted_end}
use Rattle.player.proofs.Readied.{facts_held, facts_room, room_now, waits_few, step_shape, stands_begun}
use Rattle.player.proofs.Player.take_run_record.Goals as goal

pub take_fact-requires : goal.take_fact-requires
take_fact-requires c = let p = c.requires in record { few = facts_held p.playable; work = room_now p.playable }

pub begin-begun-requires : goal.begin-begun-requires
begin-begun-requires c = let p = c.requires in record { few = facts_held p.playable; facts = facts_room p.playable }

pub take_event-requires : goal.take_event-requires
take_event-requires c =
    let a = c.args in
    let p = c.requires in
    let b = c.begin-begun in
    record { few = waits_few p.playable (whole_in b.result a.agenda.now) (λ D p old. b.ensures D p a.agenda.now old); agenda = p.memory.agenda_length }

pub begin-begun-requires-in-Step : goal.begin-begun-requires-in-Step
begin-begun-requires-in-Step c = let p = c.requires in record { few = facts_held p.playable; facts = facts_room p.playable }

pub begin-begun-requires-in-End : goal.begin-begun-requires-in-End
begin-begun-requires-in-End c = let p = c.requires in record { few = facts_held p.playable; facts = facts_room p.playable }

pub returns-in-Objects : goal.returns-in-Objects
returns-in-Objects c =
    let a = c.args in
    let k = ap run_kind c.in-Objects.is in record {
      leads = λ D q old H st noted.
          of_objects D q (run_kind a.kind) a.p.now a.behind _ _ old k (c.take_objects.ensures D q a.agenda.now _ old st);
      noted = λ D q old H st noted.
          noted_of D _ _ q a.p.now a.behind (run_kind a.kind) objects_record k (noted_objects D _ _ q a.p.now a.behind st.sound noted);
    }

pub returns-in-Fact : goal.returns-in-Fact
returns-in-Fact c =
    let a = c.args in
    let l = c.take_fact in
    let k = ap run_kind c.in-Fact.is in record {
      leads = λ D q old H st noted.
          of_fact D q (run_kind a.kind) a.p.now a.behind _ _ old k (l.ensures.leads D q a.agenda.now old H.says st noted);
      noted = λ D q old H st noted.
          noted_of D _ _ q a.p.now a.behind (run_kind a.kind) fact_record k
          (noted_fact_record D _ _ q a.p.now a.behind (l.ensures.noted D q a.agenda.now old H.says st noted));
    }

pub returns-in-Event : goal.returns-in-Event
returns-in-Event c =
    let a = c.args in
    let p = c.requires in
    let b = c.begin-begun in
    let k = ap run_kind c.in-Event.is in record {
      leads = λ D q old H st noted.
          let s = stands_begun p.playable (whole_in b.result a.agenda.now) (λ D p old. b.ensures D p a.agenda.now old) D H.says q old st
          noted in
          of_event D q (run_kind a.kind) a.p.now a.behind _ _ old k (c.take_event.ensures D (begin D q) _ old H.says s);
      noted = λ D q old H st noted.
          noted_of D _ _ q a.p.now a.behind (run_kind a.kind) event_record k (noted_event D _ _ q a.p.now a.behind noted);
    }

pub returns-in-End : goal.returns-in-End
returns-in-End c =
    let a = c.args in
    let p = c.requires in
    let b = c.begin-begun-in-End in
    let k = ap run_kind c.in-End.is in record {
      leads = λ D q old H st noted.
          let s = stands_begun p.playable (whole_in b.result a.agenda.now) (λ D p old. b.ensures D p a.agenda.now old) D H.says q old st
          noted in
          of_end D q (run_kind a.kind) a.p.now a.behind _ _ old k (c.take_end.ensures D (begin D q) a.agenda.now _ old s);
      noted = λ D q old H st noted.
          noted_of D _ _ q a.p.now a.behind (run_kind a.kind) end_record k (noted_end D _ _ q a.p.now a.behind noted);
    }

pub returns-in-Err : goal.returns-in-Err
returns-in-Err c =
    let a = c.args in
    let p = c.requires in
    let b = c.begin-begun-in-Step in
    let begun = whole_in b.result a.agenda.now in
    let e = c.in-Err in
    let over = c.stopped in
    let k = ap run_kind c.in-Step.is in record {
      leads = λ D q old H st noted.
          let s = stands_begun p.playable begun (λ D p old. b.ensures D p a.agenda.now old) D H.says q old st noted in
          of_step D q (run_kind a.kind) _ a.behind _ a.work.now old k
          (stopped_unless D (begin D q) b.result a.agenda.now a.work.now old s over.result e.stop over.ensures _ (close_step D (begin D q) a.behind)
          (stop_is D q begun a.work.now old s _ _ e.ensures (run_kind a.kind) k a.behind));
      noted = λ D q old H st noted.
          let s = stands_begun p.playable begun (λ D p old. b.ensures D p a.agenda.now old) D H.says q old st noted in
          noted_ended D _ _ (play_record D q (run_kind a.kind) _ a.behind) (turn_in (Err over.result) a.agenda.now)
          a.work.now old
          (of_step D q (run_kind a.kind) _ a.behind _ a.work.now old k
          (stopped_unless D (begin D q) b.result a.agenda.now a.work.now old s over.result e.stop over.ensures _ (close_step D (begin D q) a.behind)
          (stop_is D q begun a.work.now old s _ _ e.ensures (run_kind a.kind) k a.behind)))
          (ending_some _);
    }

pub take_step-requires : goal.take_step-requires
take_step-requires c =
    let a = c.args in
    let p = c.requires in
    let b = c.begin-begun-in-Step in
    let q = step_shape p.playable (whole_in b.result a.agenda.now) (λ D p old. b.ensures D p a.agenda.now old) in
    let at = q.2 in
    let further = p.further in
    record { closable = q.0; steps = q.1; further = omega arith; memory = p.memory }

pub returns-in_default : goal.returns-in_default
returns-in_default c =
    let a = c.args in
    let p = c.requires in
    let b = c.begin-begun-in-Step in
    let begun = whole_in b.result a.agenda.now in
    let x = c.in_default in
    let k = ap run_kind c.in-Step.is in
    let l = c.take_step in record {
      leads = λ D q old H st noted.
          let s = stands_begun p.playable begun (λ D p old. b.ensures D p a.agenda.now old) D H.says q old st noted in
          step_passed D q begun a.work.now old s _ 0 x.ensures (run_kind a.kind) k a.behind refl _ _
          (l.ensures.leads D (begin D q) old H s
          (step_some D q begun a.work.now old s _ 0 x.ensures (run_kind a.kind) k a.behind refl)
          (begun_tally D q) (noted_begun D _ _ q noted));
      noted = λ D q old H st noted.
          let s = stands_begun p.playable begun (λ D p old. b.ensures D p a.agenda.now old) D H.says q old st noted in
          noted_of D _ _ q _ a.behind (run_kind a.kind) step_record k
          (noted_step_record D _ _ q _ _ (l.ensures.noted D (begin D q) old H s
          (step_some D q begun a.work.now old s _ 0 x.ensures (run_kind a.kind) k a.behind refl)
          (begun_tally D q) (noted_begun D _ _ q noted)));
    }
