use mathlib.Core.Path.{refl, ◌∙◌}
use Prim.Native.Nat.{◌<◌}
use native.Mathlib.Omega.{arith}
use lib.ListN.{length}
use Rattle.classes.specs.Classes.{classes}
use Rattle.naming.proofs.NamedRows.{named_begin, named_next, named_end}
use Rattle.naming.proofs.NumberedAction.name_each.Goals as goal

pub loop-class-init : goal.loop-class-init
loop-class-init c =
    record {
      reach = omega arith;
      few = omega arith;
      room = refl;
      named = λ before old D a i N M t E g. named_begin D a i (classes D a) before N;
    }

pub name_class-named-requires : goal.name_class-named-requires
name_class-named-requires c =
    let p = c.requires in
    let t = c.loop-class-test.true in
    let m = p.few in
    record { sides = p.sides; first = p.first; last = p.last; few = omega arith }

pub overflow_cast-class : goal.overflow_cast-class
overflow_cast-class c =
    let t = c.loop-class-test.true in
    let p = c.requires in
    let m = p.few in
    let s = p.sides.few in
    omega arith

pub with_class-next-requires : goal.with_class-next-requires
with_class-next-requires c =
    let back8 = c in
    let loop = c.loop-class in
    let t = c.loop-class-test.true in
    let w = loop.invariant.few in
    let r = loop.invariant.room in
    let z = c.new-next.ensures.rows in
    let m = back8.requires.room in
    omega arith

pub overflow_step-class : goal.overflow_step-class
overflow_step-class c =
    let back8 = c in
    let t = c.loop-class-test.true in
    let p = back8.requires in
    let m = p.few in
    let s = p.sides.few in
    omega arith

pub loop-class-preserved : goal.loop-class-preserved
loop-class-preserved c =
    let l = c.loop-class in
    let below = c.loop-class-test.true in
    let w = l.invariant.few in
    let named = c.name_class-named.ensures in
    let called = c.with_class-next in
    record {
      reach = omega arith;
      few = omega arith;
      room = called.auto.names ∙ l.invariant.room;
      named =
          λ before old D a i N M t E g.
          let h : l.class < length (classes D a) = omega arith in
          named_next D a i (classes D a) before l.class h
          (called.ensures.named before _ old D a i (l.invariant.named before old D a i N M t E g) (named D a M t E h));
    }

pub shape_of-names : goal.shape_of-names
shape_of-names c = c.loop-class.invariant.room

pub returns : goal.returns
returns c =
    let l = c.loop-class in
    let w = l.invariant.few in
    let r = l.invariant.reach in
    let z = c.new-next.ensures.rows in record {
      rows = omega arith;
      named = λ before old D a i L M t E g.
          named_end D a i (classes D a) before l.class (omega arith)
          (l.invariant.named before old D a i (c.new-next.ensures.named before _ old L) M t E g);
    }
