-- `take_end` meets its contract. Assumes nothing.
use mathlib.Core.Path.{sym, ap, ◌∙◌}
use Prim.Native.Nat.{ℕ}
use Rattle.run_semantics.specs.RunFile.{end_stop}
use Rattle.run_semantics.specs.Play.{go_on, with_close}
use Rattle.player.specs.Held.{whole_in}
use Rattle.player.proofs.PlayTurns.{stopped_unless, passes, end_on, objects_are, waiting_are}
use Rattle.player.proofs.Player.take_end.Goals as goal

pub returns-in-Err : goal.returns-in-Err
returns-in-Err c D q agenda work old st =
    let a = c.args in
    let e = c.in-Err in
    stopped_unless D q a.self agenda work old st c.stopped.result e.stop c.stopped.ensures (end_stop q.objects q.waiting a.p.now)
    (go_on (with_close q a.behind))
    (e.ensures q.waiting (waiting_are D q st) ∙ ap (λ (n : ℕ). end_stop n q.waiting a.p.now) (sym (objects_are D q st)))

pub returns : goal.returns
returns c D q agenda work old st =
    let a = c.args in
    let asked = c.in_default.ensures q.waiting (waiting_are D q st) ∙ ap (λ (n : ℕ). end_stop n q.waiting a.p.now) (sym (objects_are D q st)) in
    passes D q (end_stop q.objects q.waiting a.p.now) (go_on (with_close q a.behind)) _ work old (sym asked)
    (end_on D q (whole_in a.self agenda) work old st a.behind)
