-- `end_stop` meets its contract. Assumes nothing.
use borrow.Author.Rules.{rules}
use mathlib.Core.Path.{◌≡◌, refl}
use native.Mathlib.Omega.{arith}
use Rattle.run_semantics.specs.RunFile.{step_stop}
use Rattle.run_semantics.specs.Numbers.{stopped_by}
use Rattle.run_semantics.proofs.Numbers.{err_stops}
use Rattle.run_fields.specs.Held.{objects_or_0}
use Rattle.run_fields.proofs.RunFields.{end_stopped, end_waiting, end_passed}
use Rattle.run_fields.proofs.end_stop.Goals as goal

pub returns-in_err-step_stop : goal.returns-in_err-step_stop
returns-in_err-step_stop c es l =
    let r = c.from_residual in
    let s : stopped_by r.result ≡ step_stop (objects_or_0 c.args.objects) c.args.p.now = search rules in
    end_stopped _ es _ _ s (err_stops r.result r.ensures.0)

pub returns-then-waiting-ne0 : goal.returns-then-waiting-ne0
returns-then-waiting-ne0 c es l = let w = c.if-waiting-ne0.true in end_waiting _ es _ _ c.in_ok-step_stop.ensures refl (omega arith)

pub returns : goal.returns
returns c es l = let w = c.if-waiting-ne0.false in end_passed _ es _ _ c.in_ok-step_stop.ensures refl (omega arith)
