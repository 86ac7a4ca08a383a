-- `try_at_once` meets its contract: its answers stand in the part of the memory that is lent. Assumes nothing.
use mathlib.Core.Path.{refl}
use Prim.Native.Nat.{◌+◌}
use native.Mathlib.Omega.{arith}
use Rattle.verdict.proofs.ReadActions.{action_held}
use Rattle.trying.proofs.Answering.{making_more}
use Rattle.trying.proofs.actions.try_at_once.Goals as goal

pub overflow_add-result : goal.overflow_add-result
overflow_add-result c =
    let back8 = c in
    let back16 = back8 in
    let r = back16.requires.room in
    let k = c.answer_rows-count.ensures.few in omega arith

pub returns : goal.returns
returns c =
    let back8 = c in
    let back16 = back8 in
    let a = back16.args in
    let r = back16.requires.room in
    let w = c.answer_rows-count in
    let k = w.ensures.few in record {
      few = omega arith;
      answers = λ D old H wf h M l.
          let S = back8.rows_of-span.ensures.rows D H h in
          let L =
          back8.step_alone-alone.ensures.alone D H wf h in
          let t = w.ensures.answers D a.i (action_held H wf a.i h S.literals) wf h L in
          making_more D a.i h l M (a.at + 64) w.result refl r t.0 k _ t.2;
    }
