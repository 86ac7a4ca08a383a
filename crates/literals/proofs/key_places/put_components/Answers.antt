use native.Mathlib.Omega.{arith}
use mathlib.Core.Path.{refl}
use Prim.Native.Nat.{◌-◌}
use Rattle.literals.specs.Held.{components_in}
use Rattle.literals.proofs.Places.{marked_none, marked_more, marked_all}
use Rattle.literals.proofs.key_places.put_components.Goals as goal

pub loop-c-init : goal.loop-c-init
loop-c-init c =
    let a = c.args in
    let n = c.components_in-c.ensures.number in
    (omega arith, marked_none a.head.now (components_in a.head.now) c.components_in-c.result a.places.now n)

pub loop-c-preserved : goal.loop-c-preserved
loop-c-preserved c =
    let a = c.args in
    let l = c.loop-c in
    let p = c.put_component in
    let i = l.invariant.0 in
    (omega arith, marked_more a.head.now (components_in a.head.now) (l.c - 1) l.c a.places.now l.places p.new.places (omega arith) (omega arith) l.invariant.1 p.auto.places p.ensures)

pub returns : goal.returns
returns c e =
    let a = c.args in
    let l = c.loop-c in
    marked_all a.head.now (components_in a.head.now) l.c a.places.now l.places refl (omega arith) l.invariant.1 e
