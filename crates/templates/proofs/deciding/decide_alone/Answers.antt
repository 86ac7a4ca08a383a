use Prim.Native.Nat.{◌<◌}
use native.Mathlib.Omega.{arith}
use lib.ListN.{length}
use Rattle.verdict.proofs.ReadActions.{same_held}
use Rattle.naming.proofs.NamedRows.{noted_action}
use Rattle.templates.proofs.Alone.{decides, number_byte}
use Rattle.templates.proofs.deciding.decide_alone.Goals as goal

pub loop-i-init : goal.loop-i-init
loop-i-init c = record { reach = omega arith; noted = λ D H wf only. c.new-notes.ensures }

pub summary_of-summary-requires : goal.summary_of-summary-requires
summary_of-summary-requires c =
    let few = c.actions_in-i-end.ensures.number in
    omega arith

pub overflow_cast-i : goal.overflow_cast-i
overflow_cast-i c = let n = c.actions_in-i-end.ensures.few in let t = c.loop-i-test.true in omega arith

pub loop-i-preserved : goal.loop-i-preserved
loop-i-preserved c =
    let l = c.loop-i in
    let few = c.actions_in-i-end.ensures.number in
    record {
      reach = omega arith;
      noted =
          λ D H wf only.
          let m = H.says.actions in
          let h : l.i < length D.actions = omega arith in
          noted_action D l.i h (l.invariant.noted D H wf only) (c.summary_of-summary.ensures D (same_held c.of-places.ensures H) wf h only) c.with-notes.ensures;
    }

pub returns : goal.returns
returns c =
    let few = c.actions_in-i-end.ensures.number in record {
      few = number_byte _ c.decide-decided.ensures;
      number = λ D H wf only.
          let m = H.says.actions in
          decides D c.loop-i.i (c.loop-i.invariant.noted D H wf only) (omega arith) c.decide-decided.ensures;
    }
