-- `take_objects` meets its contract. Assumes nothing.
use mathlib.Core.Path.{sym, ap, ◌∙◌}
use Prim.Native.Nat.{ℕ}
use Rattle.literals.specs.Decode.{byte}
use Rattle.run_semantics.specs.RunFile.{objects_stop}
use Rattle.run_semantics.specs.Play.{go_on, with_objects}
use Rattle.player.specs.Held.{whole_in}
use Rattle.player.proofs.PlayTurns.{stopped_unless, passes, objects_on, objects_are, counted}
use Rattle.player.proofs.Player.take_objects.Goals as goal

pub returns-in-Err : goal.returns-in-Err
returns-in-Err c D q agenda work old st =
    let a = c.args in
    let e = c.in-Err in
    stopped_unless D q a.self agenda work old st c.stopped.result e.stop c.stopped.ensures (objects_stop q.objects a.p.now)
    (go_on (with_objects q (byte a.p.now 0) a.behind))
    (e.ensures.is ∙ ap (λ (n : ℕ). objects_stop n a.p.now) (sym (objects_are D q st)))

pub returns : goal.returns
returns c D q agenda work old st =
    let a = c.args in
    let asked = c.in_default.ensures.is ∙ ap (λ (n : ℕ). objects_stop n a.p.now) (sym (objects_are D q st)) in
    passes D q (objects_stop q.objects a.p.now) (go_on (with_objects q (byte a.p.now 0) a.behind)) _ work old (sym asked)
    (objects_on D q (whole_in a.self agenda) work old st a.behind _ (byte a.p.now 0) (counted c.new.result (byte a.p.now 0) c.new.ensures))
