-- What a step does to the list of open actions, summed by a measure c. Assumes nothing.
use mathlib.Core.Path.{◌≡◌, refl, ap, ◌∙◌}
use mathlib.Core.Bool.{Bool, true, false, not, ◌&&◌, cond, false≢true}
use mathlib.Core.Logic.{◌⊎◌, inl, inr}
use mathlib.Core.List.Memᴰ
use mathlib.Core.List.{List, [], ◌∷◌, ◌++◌}
use Prim.Native.Nat.{ℕ, ◌+◌}
use native.Mathlib.Omega.{arith}
use Rattle.records.specs.Lists.{In, all, keep_if, elem, distinct}
use Rattle.records.proofs.Lists.{and_l, and_r, or_l, or_r, or_cases, not_true, clash, all_in}
use Rattle.literals.specs.Domain.{Domain, action}
use Rattle.literals.specs.declared.Moment.{Moment}
use Rattle.literals.specs.declared.Moment.TheVariants.{Start, End}
use Rattle.verdict.specs.Machine.{GroundAction, Event, same_ground, same_moment, same_event, is_open_at, is_open, close_one, close_at, close_all, opens, opened_by}
use Rattle.verdict.proofs.Equality.{ground_eq}
use Rattle.verdict.proofs.Steps.{sum}

pub sum_append : {E : Type 0} (c : E → ℕ) (xs ys : List E) → sum c (xs ++ ys) ≡ sum c xs + sum c ys
sum_append c [] ys = omega arith
sum_append c (x ∷ xs) ys = let r = sum_append c xs ys in omega arith

-- an entry that is not closed stays open
close_other : (g h : GroundAction) (gs : List GroundAction) → elem same_ground h gs ≡ true → same_ground g h ≡ false → elem same_ground h (close_one g gs) ≡ true
close_other g h [] k ne = k
close_other g h (o ∷ os) k ne = go (same_ground g o) refl (or_cases (same_ground h o) (elem same_ground h os) k) (λ m. close_other g h os m ne)
  where
    go : (b : Bool) → same_ground g o ≡ b → (same_ground h o ≡ true) ⊎ (elem same_ground h os ≡ true)
        → (elem same_ground h os ≡ true → elem same_ground h (close_one g os) ≡ true)
        → elem same_ground h (cond b os (o ∷ close_one g os)) ≡ true
    go true e (inl m) ih = absurd (clash (ap (same_ground g) (ground_eq h o m) ∙ e) ne)
    go true e (inr m) ih = m
    go false e (inl m) ih = or_l _ m
    go false e (inr m) ih = or_r (same_ground h o) (ih m)

still_open : (m n : Moment) (g h : GroundAction) (gs : List GroundAction) → is_open_at n gs h ≡ true → same_moment m n && same_ground g h ≡ false
    → is_open_at n (close_at m g gs) h ≡ true
still_open Start Start g h gs k ne = refl
still_open Start End g h gs k ne = k
still_open End Start g h gs k ne = refl
still_open End End g h gs k ne = close_other g h gs k ne

module _ (c : GroundAction → ℕ) where
  close_one_sum : (g : GroundAction) (gs : List GroundAction) → elem same_ground g gs ≡ true → sum c (close_one g gs) + c g ≡ sum c gs
  close_one_sum g [] h = absurd (false≢true h)
  close_one_sum g (o ∷ os) h = go (same_ground g o) refl (or_cases (same_ground g o) (elem same_ground g os) h) (λ k. close_one_sum g os k)
    where
      go : (b : Bool) → same_ground g o ≡ b → (same_ground g o ≡ true) ⊎ (elem same_ground g os ≡ true)
          → (elem same_ground g os ≡ true → sum c (close_one g os) + c g ≡ sum c os)
          → sum c (cond b os (o ∷ close_one g os)) + c g ≡ c o + sum c os
      go true e k ih = rw (ground_eq g o e) (omega arith)
      go false e (inl k) ih = absurd (clash k e)
      go false e (inr k) ih = let r = ih k in omega arith

  abbrev pub ends_at : Moment → GroundAction → ℕ
  ends_at Start g = 0
  ends_at End g = c g

  abbrev pub starts_at : Moment → GroundAction → ℕ
  starts_at Start g = c g
  starts_at End g = 0

  abbrev pub ends : Event → ℕ
  ends e = ends_at e.moment e.act

  abbrev pub starts : Event → ℕ
  starts e = starts_at e.moment e.act

  close_at_sum : (m : Moment) (g : GroundAction) (gs : List GroundAction) → is_open_at m gs g ≡ true → sum c (close_at m g gs) + ends_at m g ≡ sum c gs
  close_at_sum Start g gs h = omega arith
  close_at_sum End g gs h = close_one_sum g gs h

  pub close_all_sum : (es : List Event) (gs : List GroundAction) → ((e : Event) → In e es → is_open gs e ≡ true) → distinct same_event es ≡ true
      → sum c (close_all es gs) + sum ends es ≡ sum c gs
  close_all_sum [] gs h d = omega arith
  close_all_sum (e ∷ es) gs h d =
      let first = close_at_sum e.moment e.act gs (h e (Memᴰ.head refl)) in
      let rest = close_all_sum es (close_at e.moment e.act gs)
      (λ f m. still_open e.moment f.moment e.act f.act gs (h f (Memᴰ.tail m)) (other f m)) (and_r (all (λ f. not (same_event e f)) es) _ d) in
      omega arith
    where
      other : (f : Event) → In f es → same_event e f ≡ false
      other f m = not_true _ (all_in (λ f. not (same_event e f)) es (and_l _ _ d) m)

  -- only entries of lasting actions are measured
  module _ (D : Domain) (lasting : (g : GroundAction) → (action D g.action).lasting ≡ false → c g ≡ 0) where
    keep_sum : (m : Moment) (g : GroundAction) (gs : List GroundAction) → sum c (keep_if (opens m (action D g.action)) g gs) ≡ sum c gs + starts_at m g
    keep_sum Start g gs = go (action D g.action).lasting (lasting g)
      where
        go : (l : Bool) → (l ≡ false → c g ≡ 0) → sum c (keep_if l g gs) ≡ sum c gs + c g
        go true h = omega arith
        go false h = let z = h refl in omega arith
    keep_sum End g gs = omega arith

    opened_by_sum : (es : List Event) → sum c (opened_by D es) ≡ sum starts es
    opened_by_sum [] = refl
    opened_by_sum (e ∷ es) =
        let r = opened_by_sum es in
        let k = keep_sum e.moment e.act (opened_by D es) in
        omega arith

    pub running_sum : (es : List Event) (gs : List GroundAction) → ((e : Event) → In e es → is_open gs e ≡ true) → distinct same_event es ≡ true
        → sum c (close_all es gs ++ opened_by D es) + sum ends es ≡ sum c gs + sum starts es
    running_sum es gs o d =
        let a = sum_append c (close_all es gs) (opened_by D es) in
        let b = close_all_sum es gs o d in
        let k = opened_by_sum es in
        omega arith
