-- Where the elements of a list come from. Assumes nothing.
use mathlib.Core.Path.{◌≡◌, refl}
use mathlib.Core.Bool.{Bool, true, false, cond}
use mathlib.Core.List.Memᴰ
use mathlib.Core.List.{List, [], ◌∷◌, map}
use Rattle.records.specs.Lists.{In}
use Rattle.literals.specs.declared.Moment.{Moment}
use Rattle.literals.specs.declared.Moment.TheVariants.{Start, End as Ending}
use Rattle.verdict.specs.Machine.{GroundAction, Event, same_ground, close_one, close_at, close_all}

pub map_in : {A B : Type 0} (f : A → B) (l : List A) {b : B} → In b (map f l) → (a : A) × In a l × (b ≡ f a)
map_in f [] m = absurd (Memᴰ.not-nil m)
map_in f (x ∷ xs) (Memᴰ.head e) = (x, Memᴰ.head refl, e)
map_in f (x ∷ xs) (Memᴰ.tail m) = let r = map_in f xs m in (r.0, Memᴰ.tail r.1, r.2)

pub close_in : (g : GroundAction) (gs : List GroundAction) {h : GroundAction} → In h (close_one g gs) → In h gs
close_in g [] m = m
close_in g (k ∷ ks) {h} m = go (λ n. close_in g ks n) (same_ground g k) m
  where
    go : (In h (close_one g ks) → In h ks) → (b : Bool) → In h (cond b ks (k ∷ close_one g ks)) → In h (k ∷ ks)
    go ih true n = Memᴰ.tail n
    go ih false (Memᴰ.head e) = Memᴰ.head e
    go ih false (Memᴰ.tail n) = Memᴰ.tail (ih n)

pub closed_in : (es : List Event) (gs : List GroundAction) {h : GroundAction} → In h (close_all es gs) → In h gs
closed_in [] gs m = m
closed_in (e ∷ es) gs {h} m = go e.moment (closed_in es (close_at e.moment e.act gs) m)
  where
    go : (m : Moment) → In h (close_at m e.act gs) → In h gs
    go Start n = n
    go Ending n = close_in e.act gs n
