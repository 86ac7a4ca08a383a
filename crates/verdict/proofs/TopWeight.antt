-- The highest weight of any instance, and the instances that weigh anything. Assumes nothing.
use mathlib.Core.Path.{◌≡◌, refl, ap}
use mathlib.Core.Bool.{Bool, true, false}
use mathlib.Core.List.Memᴰ
use mathlib.Core.List.{List, [], ◌∷◌, map}
use Prim.Native.Nat.{ℕ, zero, suc, ◌≤◌}
use native.Mathlib.Omega.{arith}
use lib.Dec.{eqb}
use lib.ListN.{length, length-append}
use borrow.Author.Tests.{eqb-true}
use Rattle.records.specs.Lists.{In, keep_if, add_if, count_by}
use Rattle.records.proofs.Lists.{and_l, and_r, count_some, flat_map_in, in_flat_map}
use Rattle.literals.specs.declared.Object.{Object}
use Rattle.literals.specs.declared.Key.{Key}
use Rattle.literals.specs.declared.Label.{Label}
use Rattle.literals.specs.Domain.{key, Fact, is_key, each_key_once, keys_of, Domain}
use Rattle.literals.proofs.Bytes.{keys_once}
use Rattle.literals.specs.Matching.{under, key_tuple, tuples_of, matches}
use Rattle.verdict.specs.Machine.{weight, instances_in, largest, top_weight}
use Rattle.verdict.specs.Claims.{well_formed}
use Rattle.verdict.proofs.Tuples.{matches_tuple, component_of_lem}
use Rattle.verdict.proofs.WellFormed.{template_well_formed, labels_fit_lem}

-- ---- the largest of some numbers

module _ {A : Type 0} (f : A → ℕ) where
  pub largest_in : {a : A} (l : List A) → In a l → f a ≤ largest (map f l)
  largest_in (x ∷ xs) (Memᴰ.head e) = let k = ap f e in omega arith
  largest_in (x ∷ xs) (Memᴰ.tail m) = let ih = largest_in xs m in omega arith
  largest_in [] m = absurd (Memᴰ.not-nil m)

  pub largest_below : (n : ℕ) (l : List A) → ((a : A) → In a l → f a ≤ n) → largest (map f l) ≤ n
  largest_below n [] h = omega arith
  largest_below n (x ∷ xs) h = let ih = largest_below n xs (λ a m. h a (Memᴰ.tail m)) in let k = h x (Memᴰ.head refl) in omega arith

-- ---- the highest weight

module _ (D : Domain) (s : List Fact) where
  -- an instance that weighs anything matches a fact
  weighs_in : (y : List Object) → 1 ≤ weight D y s → In y (instances_in D s)
  unfolding weight instances_in
  weighs_in y h = let r = count_some (matches D y) s h in in_flat_map (tuples_of D) r.1 (matches_tuple D y r.0 r.2)

  -- no instance weighs more
  pub below_top : (y : List Object) → weight D y s ≤ top_weight D s
  unfolding top_weight
  below_top y = go (weight D y s) refl
    where
      go : (n : ℕ) → weight D y s ≡ n → n ≤ largest (map (λ y. weight D y s) (instances_in D s))
      go zero e = omega arith
      go (suc n) e = let k = largest_in (λ y. weight D y s) (instances_in D s) (weighs_in y (omega arith)) in omega arith

  -- and where none that matches a fact weighs more than n, it is at most n
  pub top_below : (n : ℕ) → ((y : List Object) → In y (instances_in D s) → weight D y s ≤ n) → top_weight D s ≤ n
  unfolding top_weight
  top_below n h = largest_below (λ y. weight D y s) n (instances_in D s) h

-- ---- such an instance has an object for each key

module _ {A : Type 0} where
  pub under_count : (k : Key) (ls : List Label) (vs : List A) → length ls ≡ length vs → length (under k ls vs) ≡ count_by (is_key k) ls
  under_count k [] vs e = refl
  under_count k (l ∷ ls) [] e = absurd (omega arith)
  under_count k (l ∷ ls) (v ∷ vs) e = go (is_key k l) (under_count k ls vs (omega arith))
    where
      go : (b : Bool) → length (under k ls vs) ≡ count_by (is_key k) ls → length (keep_if b v (under k ls vs)) ≡ add_if b (count_by (is_key k) ls)
      go true h = ap suc h
      go false h = h

  pub tuple_size : (n : ℕ) (ls : List Label) (vs : List A) → length ls ≡ length vs → each_key_once n ls ≡ true → length (key_tuple n ls vs) ≡ n
  tuple_size zero ls vs e h = refl
  tuple_size (suc n) ls vs e h =
      let ih = tuple_size n ls vs e (and_l _ _ h) in
      let k = under_count (key n) ls vs e in
      let o = eqb-true (count_by (is_key (key n)) ls) 1 (and_r (each_key_once n ls) _ h) in
      simp length-append (omega arith)

pub instance_size : (D : Domain) → well_formed D ≡ true → (s : List Fact) (y : List Object) → In y (instances_in D s) → length y ≡ keys_of D.template
unfolding instances_in
instance_size D wf s y m =
    let r = flat_map_in (tuples_of D) s m in
    let f = r.0 in
    let c = component_of_lem D f r.2 in
    rw c.3
    (tuple_size (keys_of D.template) c.0.labels f.args (eqb-true (length c.0.labels) (length f.args) (and_r (eqb c.0.rel f.rel) _ c.2))
    (keys_once _ _ (labels_fit_lem D (template_well_formed D wf) c.0 c.1)))
