use mathlib.Core.Path.{refl, sym, ◌∙◌}
use Prim.Native.Nat.{◌+◌, ◌<◌}
use native.Mathlib.Omega.{arith}
use lib.ListN.{length, get_or, take, drop}
use Rattle.literals.specs.Domain.{no_action}
use Rattle.classes.specs.Classes.{classes}
use Rattle.verdict.specs.Decision.{rows_from}
use Rattle.judging.proofs.Reported.{actions_begin, actions_open, actions_close, actions_end, lasting_is, count_is}
use Rattle.judging.proofs.report.put_report.Goals as goal

pub loop-i-init : goal.loop-i-init
loop-i-init c = let n = c.actions_in-i-end.ensures in (omega arith, n.few, n.number, omega arith, refl, λ D given H k n h. actions_begin D n h)

pub loop-i-preserved : goal.loop-i-preserved
loop-i-preserved c =
    let back8 = c in
    let start = back8.args in
    let turn = c.loop-i in
    let called = c.put_action-at in (
      omega arith,
      turn.invariant.1,
      turn.invariant.2,
      omega arith,
      called.auto.report ∙ turn.invariant.4,
      λ D given H k n h.
          let i = turn.i in
          let a = get_or D.actions i no_action in
          let m = H.actions in
          let e = turn.invariant.2 in
          let l : i < length D.actions = omega arith in
          actions_close D i l
          (called.ensures.rows D a (classes D a) (rows_from D 0 (take i D.actions)) (rows_from D (i + 1) (drop (i + 1) D.actions))
          start.report.now given
          (lasting_is H i l ∙ sym c.is_lasting.ensures) (count_is D start.counts.now i k)
          (actions_open D i l (turn.invariant.5 D given H k n h))),
    )

pub shape_of-report : goal.shape_of-report
shape_of-report c = c.loop-i.invariant.4

pub returns : goal.returns
returns c D old H k n h =
    let turn = c.loop-i in
    let m = H.actions in
    let e = turn.invariant.2 in
    actions_end D turn.i (omega arith) (turn.invariant.5 D old H k n h)
