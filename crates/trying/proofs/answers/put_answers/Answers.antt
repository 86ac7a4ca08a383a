use mathlib.Core.Path.{◌≡◌, refl, ◌∙◌}
use mathlib.Core.Bool.{Bool, true, false, cond}
use mir.Val.{bool_byte}
use native.Mathlib.Omega.{arith}
use lib.ListN.{length-set}
use lib.Seq.{paste-zero}
use Rattle.literals.specs.Domain.{action}
use Rattle.trying.specs.Held.{answers_of}
use Rattle.trying.proofs.Answering.{answers_more, answers_all}
use Rattle.trying.proofs.answers.put_answers.Goals as goal

byte_of : (b : Bool) → bool_byte b ≡ cond b 1 0
byte_of true = refl
byte_of false = refl

pub loop-j-init : goal.loop-j-init
loop-j-init c =
    let a = c.args in (
      refl,
      omega arith,
      refl,
      λ D i C s. paste-zero a.made.now 0 (answers_of D
          i),
    )

pub overflow_cast-j : goal.overflow_cast-j
overflow_cast-j c = let m = c.requires.made in omega arith

pub bounds-made-j : goal.bounds-made-j
bounds-made-j c = let l = c.loop-j.invariant.2 in omega arith

pub loop-j-preserved : goal.loop-j-preserved
loop-j-preserved c =
    let back8 = c in
    let class-tuple = c.class_tuple-instance in
    let try-class = c.try_class in
    let a = back8.args in
    let l = c.loop-j in (
      refl,
      omega arith,
      length-set l.made l.j c.from.result ∙ l.invariant.2,
      λ D i C s.
          answers_more C a.made.now s l.made l.j (omega arith) (l.invariant.3 D i C s) class-tuple.result
          (λ h. class-tuple.ensures D (action D i) C.whole C.numbers_are h) try-class.result try-class.ensures
          c.from.result (c.from.ensures ∙ byte_of c.try_class.result),
    )

pub shape_of-made : goal.shape_of-made
shape_of-made c = c.loop-j.invariant.2

pub returns : goal.returns
returns c D i C s =
    let a = c.args in
    let l = c.loop-j in
    answers_all C a.made.now s l.made l.j (omega arith) (l.invariant.3 D i C s)
