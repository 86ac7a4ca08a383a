-- `Player::take_rest` meets its contract: the state stays as it is, and the step counts or is refused. Assumes nothing.
use mathlib.Core.Path.{refl, ap}
use Rattle.run_semantics.specs.Play.{run_objects}
use Rattle.run_semantics.proofs.Numbers.{numbered_stop}
use Rattle.machine.specs.Held.{StateRows}
use Rattle.machine.proofs.Resting.{kept_none}
use Rattle.player.specs.Held.{whole_in}
use Rattle.player.proofs.PlayTurns.{stepped_on, close_stopped, close_on, state_is, facts_rows, rest_closes, rest_notes}
use Rattle.player.proofs.NotedTurns.{noted_closed}
use Rattle.player.proofs.Player.take_rest.Goals as goal

pub returns-in-Err : goal.returns-in-Err
returns-in-Err c =
    let a = c.args in
    let player = whole_in a.self a.agenda.now in
    let none = c.requires.none in
    let e = c.in-Err in record {
      leads = λ D q old H st b noted.
          let z = e.ensures D (run_objects q) q.state H (kept_none st.sound.kept) (ap (λ (h : StateRows). h.running) (state_is D q st))
          (facts_rows D q player a.work.now old st H.says.bounded) noted in
          close_stopped D q a.behind a.self a.agenda.now a.work.now old st c.stopped.result e.stop c.stopped.ensures _ _ _ (rest_closes D q st none b _ z.0);
      noted = λ D q old H st b noted.
          let z = e.ensures D (run_objects q) q.state H (kept_none st.sound.kept) (ap (λ (h : StateRows). h.running) (state_is D q st))
          (facts_rows D q player a.work.now old st H.says.bounded) noted in
          noted_closed D _ _ q a.behind _ (rest_closes D q st none b _ z.0).number_is (λ k. absurd (numbered_stop e.stop k));
    }

pub returns : goal.returns
returns c =
    let a = c.args in
    let player = whole_in a.self a.agenda.now in
    let none = c.requires.none in
    let r = c.in_default in record {
      leads = λ D q old H st b noted.
          let z = r.ensures D (run_objects q) q.state H (kept_none st.sound.kept) (ap (λ (h : StateRows). h.running) (state_is D q st))
          (facts_rows D q player a.work.now old st H.says.bounded) noted in
          close_on D q a.behind player a.work.now old st 0 _ _ _ (rest_closes D q st none b 0 z.0) refl _
          (stepped_on a.self _ a.behind a.self.state a.self.tally.weight a.agenda.now c.stepped.ensures);
      noted = λ D q old H st b noted.
          let z = r.ensures D (run_objects q) q.state H (kept_none st.sound.kept) (ap (λ (h : StateRows). h.running) (state_is D q st))
          (facts_rows D q player a.work.now old st H.says.bounded) noted in
          noted_closed D _ _ q a.behind 0 (rest_closes D q st none b 0 z.0).number_is (λ k. rest_notes D q st none _ _ z.1);
    }
