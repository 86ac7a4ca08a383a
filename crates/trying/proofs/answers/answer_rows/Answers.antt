-- `answer_rows` meets its contract: the classes are numbered, and the part of the memory that they need is lent. Assumes nothing.
use Prim.Native.Nat.{◌≤◌}
use native.Mathlib.Omega.{arith}
use lib.ListN.{length}
use Rattle.literals.specs.Domain.{action}
use Rattle.trying.specs.Held.{ClassesOf}
use Rattle.trying.proofs.Answering.{part_size, answers_count, answers_front}
use Rattle.trying.proofs.answers.answer_rows.Goals as goal

pub returns : goal.returns
returns c =
    let back8 = c in
    let back16 = back8 in
    let a = back16.args in
    let p = back16.requires in
    let n = back8.number_classes-count in
    let k = n.ensures.few in
    let few : n.result ≤ length a.made.now = omega arith in record {
      few = omega arith;
      answers = λ D i A wf h L.
          let s = n.ensures.classes D (action D i) A in
          let C : ClassesOf D i a.places.now.head.now a.alone a.base.now a.after.now a.rows.now n.new.numbers =
          record { whole = A; numbers_are = s.1; formed = wf; listed = h; alone = L } in (
            answers_count C a.made.now n.result s.0 few,
            s.1,
            answers_front C a.made.now n.result s.0 few _
                (c.put_answers.ensures D i C (part_size C a.made.now n.result s.0 few)),
          );
    }
