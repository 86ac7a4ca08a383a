-- `Player::step` meets its contract: a law of proofs/PlayTurns for each return. Assumes nothing.
use mathlib.Core.Path.{refl, sym, subst, ◌∙◌}
use Rattle.std.specs.Prelude.{Err}
use native.Mathlib.Omega.{arith}
use Rattle.records.proofs.Laws.{whole_within}
use Rattle.run_semantics.specs.RunFile.{other_record}
use Rattle.run_semantics.specs.Play.{stop_at, play_step}
use Rattle.run_semantics.specs.declared.Stop.{Stop}
use Rattle.run_semantics.specs.declared.Stop.TheVariants.{Malformed}
use Rattle.run_semantics.specs.Numbers.{stop_number}
use Rattle.player.specs.Held.{whole_in, turn_in, PlayLeadsTo}
use Rattle.player.proofs.PlayTurns.{ending_some, stopped_at, leads_of, of_other}
use Rattle.player.proofs.PlayTurns.{turn_behind, turn_end, turn_none, turn_whole, turn_noted}
use Rattle.player.proofs.NotedTurns.{noted_ended, noted_of, noted_other}
use Rattle.player.proofs.Player.step.Goals as goal

pub returns-then-at-run : goal.returns-then-at-run
returns-then-at-run c =
    let a = c.args in
    let player = whole_in a.self a.agenda.now in
    let over = c.stopped in record {
      leads = λ D q old H st noted.
          turn_behind D a.run.now q player a.work.now old st c.if-self.true c.if-at-run.true _
          (stopped_at D q a.self a.agenda.now a.work.now old st over.result Malformed over.ensures);
      noted = λ D q old H st noted.
          noted_ended D a.head.now a.index.now (play_step D a.run.now q) (turn_in (Err over.result) a.agenda.now) a.work.now old
          (turn_behind D a.run.now q player a.work.now old st c.if-self.true c.if-at-run.true _
          (stopped_at D q a.self a.agenda.now a.work.now old st over.result Malformed over.ensures)) (ending_some _);
    }

pub returns-then-self : goal.returns-then-self
returns-then-self c =
    let a = c.args in
    let player = whole_in a.self a.agenda.now in record {
      leads = λ D q old H st noted. turn_end D a.run.now q player a.work.now old st c.if-self.true c.if-at-run.false;
      noted = λ D q old H st noted.
          noted_ended D a.head.now a.index.now (play_step D a.run.now q) (record { number = 2; player = player }) a.work.now old
          (turn_end D a.run.now q player a.work.now old st c.if-self.true c.if-at-run.false) (λ z. omega arith);
    }

pub overflow_add-end : goal.overflow_add-end
overflow_add-end c =
    let w = whole_within _ _ (sym c.record_at.ensures ∙ c.in-Whole.is) in omega arith

pub slice_bounds-p-end : goal.slice_bounds-p-end
slice_bounds-p-end c = let w = whole_within _ _ (sym c.record_at.ensures ∙ c.in-Whole.is) in omega arith

pub returns-in-Err : goal.returns-in-Err
returns-in-Err c =
    let a = c.args in
    let player = whole_in a.self a.agenda.now in
    let e = c.in-Err in
    let over = c.stopped-in-Err in
    let found = sym c.record_at.ensures ∙ c.in-Whole.is in
    let going = c.if-self.false in record {
      leads = λ D q old H st noted.
          turn_whole D a.run.now q player a.work.now old st going _ _ _ found _ _ _ refl
          (of_other D q _ _ _ _ a.work.now old e.ensures.1
          (subst (λ (s : Stop). PlayLeadsTo (stop_at (stop_number s) q) (turn_in (Err over.result) a.agenda.now) a.work.now old) e.ensures.0
          (stopped_at D q a.self a.agenda.now a.work.now old st over.result e.stop over.ensures)));
      noted = λ D q old H st noted.
          turn_noted D a.run.now q player a.work.now old st going _ _ _ found _ refl a.head.now _
          (noted_of D _ _ q _ _ _ other_record e.ensures.1 (noted_other D _ _ q _ _));
    }

pub take_run_record-requires : goal.take_run_record-requires
take_run_record-requires c =
    let p = c.requires in
    let w = whole_within _ _ (sym c.record_at.ensures ∙ c.in-Whole.is) in
    record { playable = p.playable; memory = p.memory; further = omega arith }

pub returns : goal.returns
returns c =
    let a = c.args in
    let player = whole_in a.self a.agenda.now in
    let l = c.take_run_record in
    let found = sym c.record_at.ensures ∙ c.in-Whole.is in
    let k = sym c.in-Ok.ensures in
    let going = c.if-self.false in record {
      leads = λ D q old H st noted.
          turn_whole D a.run.now q player a.work.now old st going _ _ _ found _ _ _ refl
          (leads_of D q _ _ _ _ _ old _ k (l.ensures.leads D q old H st noted));
      noted = λ D q old H st noted.
          turn_noted D a.run.now q player a.work.now old st going _ _ _ found _ refl a.head.now _
          (noted_of D _ _ q _ _ _ _ k (l.ensures.noted D q old H st noted));
    }

pub returns-in_default : goal.returns-in_default
returns-in_default c =
    let a = c.args in
    let player = whole_in a.self a.agenda.now in
    let over = c.stopped-in_default in record {
      leads = λ D q old H st noted.
          turn_none D a.run.now q player a.work.now old st c.if-self.false _ c.record_at.ensures c.in_default.not-Whole _
          (stopped_at D q a.self a.agenda.now a.work.now old st over.result Malformed over.ensures);
      noted = λ D q old H st noted.
          noted_ended D a.head.now a.index.now (play_step D a.run.now q) (turn_in (Err over.result) a.agenda.now) a.work.now old
          (turn_none D a.run.now q player a.work.now old st c.if-self.false _ c.record_at.ensures c.in_default.not-Whole _
          (stopped_at D q a.self a.agenda.now a.work.now old st over.result Malformed over.ensures)) (ending_some _);
    }
