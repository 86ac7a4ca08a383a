use native.Mathlib.Omega.{arith}
use mathlib.Core.Path.{refl, ◌∙◌}
use Rattle.literals.proofs.Places.{places_none, places_more}
use Rattle.literals.proofs.key_places.put_key_places.Goals as goal

pub loop-c-init : goal.loop-c-init
loop-c-init c =
    let a = c.args in
    let n = c.components_in-c-end.ensures in
    (omega arith, n.few, n.number, refl, places_none a.head.now a.places.now, λ i h. refl)

pub put_component_places-requires : goal.put_component_places-requires
put_component_places-requires c = let l = c.loop-c.invariant in
    record { component = omega arith; places = l.3 ∙ c.requires }

pub loop-c-preserved : goal.loop-c-preserved
loop-c-preserved c =
    let back8 = c in
    let a = back8.args in
    let l = c.loop-c in
    let w = c.put_component_places in (
      omega arith,
      l.invariant.1,
      l.invariant.2,
      w.auto.places ∙ l.invariant.3,
      places_more a.head.now l.places w.new.places l.c l.invariant.4 w.ensures.own w.ensures.before,
      λ i h. w.ensures.before i (omega arith) ∙ l.invariant.5 i h,
    )

pub shape_of-places : goal.shape_of-places
shape_of-places c = c.loop-c.invariant.3

pub returns : goal.returns
returns c = let l = c.loop-c in let e = l.invariant.2 in record { keys = λ i k h. l.invariant.4 i k (omega arith); before = l.invariant.5 }
