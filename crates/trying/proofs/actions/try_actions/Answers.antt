use mathlib.Core.Path.{◌≡◌, refl, subst, ◌∙◌}
use Prim.Native.Nat.{ℕ, ◌<◌}
use native.Mathlib.Omega.{arith}
use lib.ListN.{length}
use Rattle.verdict.proofs.ReadActions.{same_held}
use Rattle.trying.specs.Held.{Making}
use Rattle.trying.proofs.actions.try_actions.Goals as goal

pub loop-i-init : goal.loop-i-init
loop-i-init c =
    record {
      reach = omega arith;
      few = omega arith;
      same = refl;
      making = λ D old H wf M. M;
    }

pub try_action-end-requires : goal.try_action-end-requires
try_action-end-requires c =
    let back8 = c in
    let actions-in = c.actions_in-i-end in
    let p = back8.requires in
    let l = c.loop-i in
    let D = p.read.0 in
    let H = p.read.1 in
    let n = actions-in.ensures.number ∙ H.says.actions in
    let m = actions-in.ensures.few in
    let f = l.invariant.few in
    let s = l.invariant.same in
    record { action = omega arith; listed = (D, same_held c.of-places.ensures H, p.read.2, omega arith); room = omega arith }

pub overflow_step-i : goal.overflow_step-i
overflow_step-i c = let m = c.actions_in-i-end.ensures.few in omega arith

pub loop-i-preserved : goal.loop-i-preserved
loop-i-preserved c =
    let l = c.loop-i in
    let n = c.actions_in-i-end.ensures.number in
    let t = c.try_action-end.ensures in
    record {
      reach = omega arith;
      few = (let f = l.invariant.few in let e = t.few in omega arith);
      same = c.try_action-end.auto.made ∙ l.invariant.same;
      making =
          λ D old H wf M.
          let a = n ∙ H.says.actions in
          let h : l.i < length D.actions = omega arith in
          t.answers D old (same_held c.of-places.ensures H) wf h (l.invariant.making D old H wf M);
    }

pub shape_of-made : goal.shape_of-made
shape_of-made c = c.loop-i.invariant.same

pub returns : goal.returns
returns c =
    let l = c.loop-i in
    let n = c.actions_in-i-end.ensures.number in
    let m = c.actions_in-i-end.ensures.few in
    let f = l.invariant.few in
    let q = l.invariant.reach in record {
      few = omega arith;
      answers = λ D old H wf M.
          let a = n ∙ H.says.actions in
          let e : l.i ≡ length D.actions = omega arith in
          subst (λ (k : ℕ). Making D k l.end l.made old) e (l.invariant.making D old H wf M);
    }
