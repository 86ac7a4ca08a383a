-- `count_of` meets its contract. Assumes nothing.
use mathlib.Core.Path.{◌≡◌, sym, ◌∙◌}
use mathlib.Core.Bool.{not}
use Rattle.std.proofs.Common.{rules}
use Rattle.records.proofs.Lists.{not_false, not_true}
use Rattle.run_semantics.proofs.Numbers.{numbered_stop}
use Rattle.player.proofs.TrackCalls.{is_objects, objects_number, count_other, count_stopped, count_passed}
use Rattle.player.proofs.track.count_of.Goals as goal

pub returns-then-ne-clause-is : goal.returns-then-ne-clause-is
returns-then-ne-clause-is c =
    let a = c.args in
    let t = c.try_from in
    let other : c.ne.result ≡ not (is_objects t.result) = search rules in
    count_other a.kind a.p.now (sym (objects_number a.kind t.result t.ensures) ∙ not_true _ (sym other ∙ c.if-ne.true))

pub returns-in-Ok-clause-is : goal.returns-in-Ok-clause-is
returns-in-Ok-clause-is c =
    let a = c.args in
    let t = c.try_from in
    let other : c.ne.result ≡ not (is_objects t.result) = search rules in
    count_passed a.kind a.p.now (sym (objects_number a.kind t.result t.ensures) ∙ not_false _ (sym other ∙ c.if-ne.false)) (sym c.in-Ok.ensures.is)

pub returns-in-Err-clause-is : goal.returns-in-Err-clause-is
returns-in-Err-clause-is c = count_stopped c.args.kind c.args.p.now (λ z. numbered_stop _ (c.in-Err.ensures.is ∙ z))
