-- The literals of an action at a moment: its own, and those that are asked there. Assumes nothing.
use mathlib.Core.Path.{◌≡◌, refl, sym, ap, ◌∙◌}
use mathlib.Core.Bool.{Bool, true, not}
use mathlib.Core.Logic.{◌⊎◌, inl, inr}
use mathlib.Core.List.Memᴰ
use mathlib.Core.List.{List, [], ◌∷◌}
use Prim.Native.Nat.{◌≤◌}
use native.Mathlib.Omega.{arith}
use lib.ListN.{length}
use Rattle.records.specs.Lists.{In, distinct, dedup}
use Rattle.records.proofs.Lists.{and_l, or_l, or_cases, not_true, clash, in_keep_if, keep_if_tail, filter_in, in_filter, in_dedup, dedup_in, pairwise_filter, distinct_dedup}
use Rattle.literals.specs.declared.Argument.{Argument}
use Rattle.literals.specs.declared.Variable.{Variable}
use Rattle.literals.specs.declared.Usage.{Usage}
use Rattle.literals.specs.declared.Usage.TheVariants.{Positive}
use Rattle.literals.specs.declared.Role.{Role}
use Rattle.literals.specs.Domain.{Atom, same_literal, Literal, Action, Domain}
use Rattle.literals.specs.declared.Moment.{Moment}
use Rattle.literals.specs.declared.Moment.TheVariants.{Start, End}
use Rattle.literals.specs.Matching.{own, over_all, asked, with_role, literals_at, required, over_all_literals}
use Rattle.classes.specs.Classes.{belongs, in_class, reach_in}
use Rattle.literals.proofs.Equality.{literal_eq, literal_self}

with_role_in : (rs : Role → Bool) (ls : List Literal) {p : Atom Argument} → In p (with_role rs ls) → (l : Literal) × In l ls ×
    (rs l.role ≡ true) × (p ≡ l.atom)
with_role_in rs [] m = absurd (Memᴰ.not-nil m)
with_role_in rs (l ∷ ls) {p} m = go (λ k. with_role_in rs ls k) (in_keep_if (rs l.role) l.atom (with_role rs ls) m)
  where
    go : (In p (with_role rs ls) → (l : Literal) × In l ls × (rs l.role ≡ true) × (p ≡ l.atom))
        → ((rs l.role ≡ true) × (p ≡ l.atom)) ⊎ In p (with_role rs ls)
        → (k : Literal) × In k (l ∷ ls) × (rs k.role ≡ true) × (p ≡ k.atom)
    go ih (inl h) = (l, Memᴰ.head refl, h.0, h.1)
    go ih (inr k) = let r = ih k in (r.0, Memᴰ.tail r.1, r.2, r.3)

pub in_with_role : (rs : Role → Bool) {l : Literal} (ls : List Literal) → In l ls → rs l.role ≡ true → In l.atom (with_role rs ls)
in_with_role rs ls (Memᴰ.head {x = k} e) t =
    let u : rs k.role ≡ true = rw e at t in rw (e, u) (Memᴰ.head refl)
in_with_role rs ls (Memᴰ.tail {x = k} {xs = ks} m) t = keep_if_tail (rs k.role) k.atom (in_with_role rs ks m t)

-- its own
pub literals_at_in : (a : Action) (m : Moment) (c : Usage) {p : Atom Argument} → In p (literals_at a m c)
    → (l : Literal) × In l a.lits × (own m c l.role ≡ true) × (p ≡ l.atom)
unfolding literals_at
literals_at_in a m c h = with_role_in (own m c) a.lits (dedup_in same_literal _ h)

-- those that are asked
pub required_in : (a : Action) (m : Moment) (c : Usage) {p : Atom Argument} → In p (required a m c)
    → (l : Literal) × In l a.lits × (asked m c l.role ≡ true) × (p ≡ l.atom)
unfolding required
required_in a m c h = with_role_in (asked m c) a.lits (dedup_in same_literal _ h)

own_asked : (m : Moment) (c : Usage) (r : Role) → own m c r ≡ true → asked m c r ≡ true
own_asked Start c r h = h
own_asked End c r h = or_l (over_all c r) h

-- its own conditions are asked
pub own_required : (a : Action) (m : Moment) (c : Usage) {p : Atom Argument} → In p (literals_at a m c) → In p (required a m c)
unfolding required
own_required a m c h =
    let l = literals_at_in a m c h in
    in_dedup same_literal literal_eq (Memᴰ.cast l.3 (in_with_role (asked m c) a.lits l.1 (own_asked m c l.0.role l.2)))

-- what is asked at an end is its own or over all
pub required_cases : (a : Action) (c : Usage) {p : Atom Argument} → In p (required a End c) → In p (literals_at a End c) ⊎ In p
    (over_all_literals a c)
unfolding literals_at
required_cases a c {p} h = let l = required_in a End c h in go l.0 l.1 l.3 (or_cases (own End c l.0.role) (over_all c l.0.role) l.2)
  where
    go : (l : Literal) → In l a.lits → p ≡ l.atom → (own End c l.role ≡ true) ⊎ (over_all c l.role ≡ true) → In p (dedup same_literal (with_role (own End c) a.lits)) ⊎ In p (over_all_literals a c)
    go l i e (inl t) = inl (in_dedup same_literal literal_eq (Memᴰ.cast e (in_with_role (own End c) a.lits i t)))
    go l i e (inr t) = inr (Memᴰ.cast e (in_with_role (over_all c) a.lits i t))

-- ---- of a class

module _ (D : Domain) (a : Action) (x : List Variable) (m : Moment) where
  pub class_distinct : (c : Usage) → distinct same_literal (in_class D a x m c) ≡ true
  unfolding in_class literals_at
  class_distinct c = pairwise_filter (λ p q. not (same_literal p q)) (belongs D x) (literals_at a m c) (distinct_dedup same_literal (with_role (own m c) a.lits))

  pub reach_distinct : distinct same_literal (reach_in D a x m) ≡ true
  unfolding reach_in required
  reach_distinct = pairwise_filter (λ p q. not (same_literal p q)) (belongs D x) (required a m Positive) (distinct_dedup same_literal (with_role (asked m Positive) a.lits))

  -- its own true conditions count towards unreachable
  pub own_reach : {p : Atom Argument} → In p (in_class D a x m Positive) → In p (reach_in D a x m)
  unfolding in_class reach_in
  own_reach h = let r = filter_in (belongs D x) (literals_at a m Positive) h in in_filter (belongs D x) (own_required a m Positive r.0) r.1

  -- so two of them make it unreachable
  pub own_few : length (reach_in D a x m) ≤ 1 → length (in_class D a x m Positive) ≤ 1
  own_few h = go (in_class D a x m Positive) (reach_in D a x m) (λ p. own_reach) (class_distinct Positive) h
    where
      go : (ps rs : List (Atom Argument)) → ((p : Atom Argument) → In p ps → In p rs) → distinct same_literal ps ≡ true → length rs ≤ 1
          → length ps ≤ 1
      go [] rs up d l = omega arith
      go (p ∷ []) rs up d l = omega arith
      go (p ∷ q ∷ ps) [] up d l = absurd (Memᴰ.not-nil (up p (Memᴰ.head refl)))
      go (p ∷ q ∷ ps) (r ∷ []) up d l =
          let e : p ≡ q = Memᴰ.eq_of_singleton (up p (Memᴰ.head refl)) ∙ sym (Memᴰ.eq_of_singleton (up q (Memᴰ.tail (Memᴰ.head refl)))) in
          absurd (clash (sym (ap (same_literal p) e) ∙ literal_self p) (not_true (same_literal p q) (and_l _ _ (and_l _ _ d))))
      go (p ∷ q ∷ ps) (r ∷ t ∷ rs) up d l = absurd (omega arith)
