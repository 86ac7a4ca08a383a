use native.Mathlib.Omega.{arith}
use Rattle.literals.specs.Domain.{key}
use Rattle.literals.specs.Held.{component_row_in}
use Rattle.literals.proofs.Places.{place_few, own_none, own_more}
use Rattle.literals.proofs.key_places.put_component_places.Goals as goal

pub loop-k-init : goal.loop-k-init
loop-k-init c = let a = c.args in (
  omega arith,
  c.keys_in-k-end.ensures.few,
  c.keys_in-k-end.ensures.number,
  own_none a.head.now a.c a.places.now,
)

pub overflow_cast-places : goal.overflow_cast-places
overflow_cast-places c =
    let a = c.args in
    let l = c.loop-k in
    let h = place_few (key l.k) (component_row_in a.head.now a.c) in
    let e = c.place_under-place.ensures in
    omega arith

pub bounds-places-c : goal.bounds-places-c
bounds-places-c c = let w = c.loop-k.invariant.3.room in omega arith

pub loop-k-preserved : goal.loop-k-preserved
loop-k-preserved c =
    let a = c.args in
    let l = c.loop-k in
    let w = l.invariant.3.room in (
      omega arith,
      l.invariant.1,
      l.invariant.2,
      own_more a.head.now a.c a.places.now l.places l.k c.place_under-place.result (omega arith) c.place_under-place.ensures
          l.invariant.3,
    )

pub shape_of-places : goal.shape_of-places
shape_of-places c = c.loop-k.invariant.3.room

pub returns : goal.returns
returns c =
    let l = c.loop-k in
    let e = l.invariant.2 in
    record { own = λ k h. l.invariant.3.own k (omega arith); before = l.invariant.3.earlier }
