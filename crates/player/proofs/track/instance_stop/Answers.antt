-- `instance_stop` meets its contract: the tests in their order. Assumes nothing.
use mathlib.Core.Path.{refl, sym, ◌∙◌}
use native.Mathlib.Omega.{arith}
use Rattle.player.proofs.TrackCalls.{stop_none, stop_count, stop_object, stop_right}
use Rattle.player.proofs.track.instance_stop.Goals.{then-instance-keys_in-via-then-instance-keys_in, then-instance-keys_in-via-else-instance-keys_in+then-any_from}
use Rattle.player.proofs.track.instance_stop.Goals as goal

pub returns-in-None : goal.returns-in-None
returns-in-None c D H = stop_none D c.args.instance.now c.args.run.now 0 c.in-None.ensures.is refl

pub returns-then-instance-keys_in : goal.returns-then-instance-keys_in
returns-then-instance-keys_in c D H =
    let a = c.args in
    let given = c.in-Some in
    let some = given.ensures.some in
    elim c.then-instance-keys_in.branch [
      | then-instance-keys_in-via-then-instance-keys_in w ↦ stop_count D a.instance.now a.run.now given.objects given.ensures.is (λ z. omega arith)
          (λ e. w.if-instance-keys_in.true (e ∙ sym H.keys ∙ sym c.keys_in.ensures.number))
      | then-instance-keys_in-via-else-instance-keys_in+then-any_from w ↦ stop_object D a.instance.now a.run.now given.objects given.ensures.is (λ z. omega arith)
          (w.if-instance-keys_in.false ∙ c.keys_in.ensures.number ∙ H.keys)
          (sym w.any_from.ensures ∙ w.if-any_from.true)
    ]

pub returns-else-any_from : goal.returns-else-any_from
returns-else-any_from c D H =
    let a = c.args in
    let given = c.in-Some in
    let some = given.ensures.some in
    stop_right D a.instance.now a.run.now given.objects given.ensures.is (λ z. omega arith)
    (c.if-instance-keys_in.false ∙ c.keys_in.ensures.number ∙ H.keys)
    (sym c.any_from.ensures ∙ c.if-any_from.false)
