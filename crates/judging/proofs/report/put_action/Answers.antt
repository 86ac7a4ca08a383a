use mathlib.Core.Path.{refl, ◌∙◌}
use mathlib.Core.List.{[], ◌++◌}
use Prim.Native.Nat.{◌+◌, ◌<◌}
use native.Mathlib.Omega.{arith}
use lib.ListN.{length, get_or, take, drop}
use Rattle.verdict.specs.Decision.{rows_of_classes}
use Rattle.judging.proofs.Reported.{classes_begin, classes_open, classes_close, classes_end}
use Rattle.judging.proofs.report.put_action.Goals as goal

pub loop-class-init : goal.loop-class-init
loop-class-init c =
    let start = c.args in
    (omega arith, omega arith, refl, λ D a xs rs rest old given l e R. classes_begin D a start.action xs rs rest R)

pub loop-class-preserved : goal.loop-class-preserved
loop-class-preserved c =
    let back8 = c in
    let start = back8.args in
    let turn = c.loop-class in
    let called = c.put_class-next in (
      omega arith,
      omega arith,
      called.auto.report ∙ turn.invariant.2,
      λ D a xs rs rest old given l e R.
          let k = turn.class in
          let h : k < length xs = omega arith in
          classes_close D a start.action xs rs rest k h
          (called.ensures.rows D a (get_or xs k []) (rs ++ rows_of_classes D a start.action 0 (take k xs))
          (rows_of_classes D a start.action (k + 1) (drop (k + 1) xs) ++ rest) old given l
          (classes_open D a start.action xs rs rest k h (turn.invariant.3 D a xs rs rest old given l e R))),
    )

pub shape_of-report : goal.shape_of-report
shape_of-report c = c.loop-class.invariant.2

pub returns : goal.returns
returns c =
    let start = c.args in
    let turn = c.loop-class in record {
      few = omega arith;
      rows = λ D a xs rs rest old given l e R.
          classes_end D a start.action xs rs rest turn.class (omega arith) (turn.invariant.3 D a xs rs rest old given l e R);
    }
