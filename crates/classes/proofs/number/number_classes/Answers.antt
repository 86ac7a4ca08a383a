use native.Mathlib.Omega.{arith}
use Rattle.classes.proofs.Numbering.{so_far_none, so_far_more, so_far_all}
use Rattle.classes.proofs.number.number_classes.Goals as goal

pub loop-j-init : goal.loop-j-init
loop-j-init c = let a = c.args in so_far_none a.places.now.head.now a.rows.now a.numbers.now a.words.now

pub bounds-numbers-j : goal.bounds-numbers-j
bounds-numbers-j c = let w = c.loop-j.invariant.whole in omega arith

pub loop-j-preserved : goal.loop-j-preserved
loop-j-preserved c =
    let back8 = c in
    let number-literal = c.number_literal-o in
    let a = back8.args in
    let p = back8.requires in
    let l = c.loop-j in
    rw c.class_byte.ensures
    (so_far_more a.places.now.head.now a.rows.now a.numbers.now l.numbers a.words.now l.words _ l.count l.j
    number-literal.result number-literal.auto.words p.rowed (omega arith)
    l.invariant (omega arith)
    number-literal.ensures.number number-literal.ensures.words)

pub shape_of-numbers : goal.shape_of-numbers
shape_of-numbers c = c.loop-j.invariant.whole

pub shape_of-words : goal.shape_of-words
shape_of-words c = c.loop-j.invariant.room

pub returns : goal.returns
returns c =
    let a = c.args in
    let p = c.requires in
    let l = c.loop-j in
    let w = l.invariant.few in
    let r = l.invariant.reach in record {
      few = omega arith;
      classes = so_far_all a.places.now.head.now a.rows.now a.numbers.now l.numbers a.words.now l.words l.count l.j
          p.rowed l.invariant (omega arith);
    }
