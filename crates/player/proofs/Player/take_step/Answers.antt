-- `Player::take_step` meets its contract: a step without events, one that is refused, or one that is made. Assumes nothing.
use mathlib.Core.Path.{refl, sym, subst}
use mathlib.Core.List.{List}
use Prim.Native.Nat.{ℕ}
use Rattle.std.specs.Prelude.{Err}
use Rattle.run_semantics.specs.Play.{run_objects, close_step}
use Rattle.run_semantics.proofs.Numbers.{numbered_stop}
use Rattle.machine.specs.Held.{state_in, StepHeld}
use Rattle.player.specs.Held.{whole_in, turn_in, PlayLeadsTo}
use Rattle.player.proofs.PlayTurns.{stepped_on, some_object, close_stopped, close_on, state_is, weight_under}
use Rattle.player.proofs.NotedTurns.{noted_closed}
use Rattle.player.proofs.Player.take_step.Goals as goal

pub returns-in-Ok : goal.returns-in-Ok
returns-in-Ok c =
    let a = c.args in
    let l = c.in-Ok in record {
      leads = λ D q old H st n b noted.
          let leaves = l.ensures.leaves D (run_objects q) q.state q.waiting old
          (record { domain = H; some = some_object q n; kept = st.sound.kept; state_is = state_is D q st; facts_are = st.memory })
          (weight_under D q st b) noted in
          close_on D q a.behind (whole_in a.self a.agenda.now) a.work.now old st 0 _ l.closed.weight _ leaves refl _
          (stepped_on a.self _ a.behind l.closed.state l.closed.weight c.step.new.agenda c.stepped.ensures);
      noted = λ D q old H st n b noted.
          let held : StepHeld D (run_objects q) q.state q.waiting a.head.now a.table.now (state_in a.self.state a.agenda.now) a.work.now old =
          record { domain = H; some = some_object q n; kept = st.sound.kept; state_is = state_is D q st; facts_are = st.memory } in
          let leaves = l.ensures.leaves D (run_objects q) q.state q.waiting old held (weight_under D q st b) noted in
          noted_closed D _ _ q a.behind 0 leaves.number_is (λ k. l.ensures.noted D (run_objects q) q.state q.waiting old held noted);
    }

pub returns-in-Err : goal.returns-in-Err
returns-in-Err c =
    let a = c.args in
    let e = c.in-Err in record {
      leads = λ D q old H st n b noted.
          let leaves = e.ensures.leaves D (run_objects q) q.state q.waiting old
          (record { domain = H; some = some_object q n; kept = st.sound.kept; state_is = state_is D q st; facts_are = st.memory })
          (weight_under D q st b) noted in
          subst (λ (t : List ℕ). PlayLeadsTo (close_step D q a.behind) (turn_in (Err c.stopped.result) t) c.step.new.work old) (sym e.ensures.refused)
          (close_stopped D q a.behind a.self a.agenda.now a.work.now old st c.stopped.result e.stop c.stopped.ensures _ _ _ leaves);
      noted = λ D q old H st n b noted.
          let leaves = e.ensures.leaves D (run_objects q) q.state q.waiting old
          (record { domain = H; some = some_object q n; kept = st.sound.kept; state_is = state_is D q st; facts_are = st.memory })
          (weight_under D q st b) noted in
          noted_closed D _ _ q a.behind _ leaves.number_is (λ k. absurd (numbered_stop e.stop k));
    }
