-- `Player::take_event` meets its contract: refused, or one event more. Assumes nothing.
use mathlib.Core.Path.{sym, ap, ◌∙◌}
use Prim.Native.Nat.{ℕ, ◌+◌}
use Rattle.run_semantics.specs.RunFile.{event_of, event_stop}
use Rattle.run_semantics.specs.Play.{go_on, with_event}
use Rattle.player.specs.Held.{whole_in}
use Rattle.player.proofs.Sound.{event_taken}
use Rattle.player.proofs.PlayTurns.{gone_on, event_waits, stopped_unless, passes, objects_are, objects_low, waiting_is, event_on}
use Rattle.player.proofs.Player.take_event.Goals as goal

pub returns-in-Err : goal.returns-in-Err
returns-in-Err c D q work old H st =
    let a = c.args in
    let e = c.in-Err in
    stopped_unless D q a.self a.agenda.now work old st c.stopped.result e.stop c.stopped.ensures (event_stop D q.objects q.waiting a.p.now)
    (go_on (with_event q (event_of a.p.now) a.behind))
    (e.ensures.is D q.waiting H (objects_low D q st) (waiting_is D q st) st.sound.kept.waiting
    ∙ ap (λ (n : ℕ). event_stop D n q.waiting a.p.now) (sym (objects_are D q st)))

pub returns : goal.returns
returns c D q work old H st =
    let a = c.args in
    let w = c.wait in
    let asked = c.in_default.ensures.is D q.waiting H (objects_low D q st) (waiting_is D q st) st.sound.kept.waiting
    ∙ ap (λ (n : ℕ). event_stop D n q.waiting a.p.now) (sym (objects_are D q st)) in
    let t = event_taken D q a.p.now st.sound.objects (sym asked) in
    let on = gone_on a.self c.onward.result a.behind a.self.state.facts (a.self.state.waits + 1) w.new.agenda c.onward.ensures in
    let more = event_waits a.self.state.facts a.self.state.opened (a.self.state.waits + 1) a.agenda.now w.new.agenda w.ensures.entries in
    passes D q (event_stop D q.objects q.waiting a.p.now) (go_on (with_event q (event_of a.p.now) a.behind)) _ work old (sym asked)
    (event_on D H.bounded q (whole_in a.self a.agenda.now) work old st a.p.now a.behind _
    (w.ensures.waits D q.waiting (event_of a.p.now) H.bounded st.sound.kept.waiting (waiting_is D q st) t.moment c.ground_row.ensures)
    _ (on.0, on.1, on.2, on.3 ∙ more, on.4))
