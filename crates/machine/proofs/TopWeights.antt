-- The highest weight after a step: of the instances that match no new fact the weight is no higher than before. Assumes nothing.
use mathlib.Core.Path.{◌≡◌, refl, ap}
use mathlib.Core.Bool.{Bool, true, false, not}
use mathlib.Core.List.{List, [], ◌∷◌, ◌++◌, map}
use Prim.Native.Nat.{ℕ, zero, suc, ◌+◌, ◌≤◌, max}
use native.Mathlib.Omega.{arith}
use lib.ListN.{length}
use lib.Seq.{drop_at}
use Rattle.records.specs.Lists.{In, add_if, keep_if, filter_by, count_by, elem, dedup}
use Rattle.records.proofs.Lists.{count_append, count_some, in_flat_map}
use Rattle.literals.specs.declared.Object.{Object}
use Rattle.literals.specs.declared.Usage.TheVariants.{Add, Delete}
use Rattle.literals.specs.Domain.{Fact, same_fact, Domain}
use Rattle.literals.specs.Matching.{tuples_of, matches}
use Rattle.verdict.specs.Machine.{Event, step_facts, facts_after, weight, instances_in, largest, top_weight}
use Rattle.verdict.proofs.Tuples.{matches_tuple}
use Rattle.store.specs.Held.{top_from}
use Rattle.verdict.proofs.TopWeight.{largest_in, largest_below, below_top, top_below}

pub top_all : (D : Domain) (fs : List Fact) → top_from D fs 0 ≡ top_weight D fs
unfolding top_from top_weight
top_all D fs = refl

-- those that are kept are no more
count_kept : {A : Type 0} (p q : A → Bool) (l : List A) → count_by q (filter_by p l) ≤ count_by q l
count_kept p q [] = omega arith
count_kept p q (x ∷ xs) = go (p x) (q x) refl (count_kept p q xs)
  where
    go : (b c : Bool) → q x ≡ c → count_by q (filter_by p xs) ≤ count_by q xs → count_by q (keep_if b x (filter_by p xs)) ≤ add_if c (count_by q xs)
    go true true e h = rw e (omega arith)
    go true false e h = rw e h
    go false true e h = omega arith
    go false false e h = h

module _ (D : Domain) (fs new : List Fact) (p : Fact → Bool) where
  abbrev kept : List Fact
  kept = filter_by p fs

  abbrev after : List Fact
  after = kept ++ new

  weight_after : (y : List Object) → weight D y after ≡ weight D y kept + weight D y new
  unfolding weight
  weight_after y = count_append (matches D y) kept new

  weight_kept : (y : List Object) → weight D y kept ≤ weight D y fs
  unfolding weight
  weight_kept y = count_kept p (matches D y) fs

  matches_new : (y : List Object) → 1 ≤ weight D y new → In y (instances_in D new)
  unfolding weight instances_in
  matches_new y h = let r = count_some (matches D y) new h in in_flat_map (tuples_of D) r.1 (matches_tuple D y r.0 r.2)

  top_new : top_from D after (length kept) ≡ largest (map (λ y. weight D y after) (instances_in D new))
  unfolding top_from
  top_new = ap (λ (gs : List Fact). largest (map (λ y. weight D y after) (instances_in D gs))) (drop_at kept new (length kept) refl)

  -- an instance of the new facts weighs at most the highest weight
  new_below : top_from D after (length kept) ≤ top_weight D after
  new_below =
      let h = largest_below (λ y. weight D y after) (top_weight D after) (instances_in D new) (λ y m. below_top D after y) in
      let e = top_new in
      omega arith

  module _ (t : ℕ) (h : top_weight D fs ≤ t) where
    -- an instance weighs at most t, or is one of the new facts
    each_below : (y : List Object) → weight D y after ≤ max t (top_from D after (length kept))
    each_below y = go (weight D y new) refl
      where
        go : (n : ℕ) → weight D y new ≡ n → weight D y after ≤ max t (top_from D after (length kept))
        go zero e = let a = weight_after y in let b = weight_kept y in let c = below_top D fs y in omega arith
        go (suc n) e =
            let a = largest_in (λ y. weight D y after) (instances_in D new) (matches_new y (omega arith)) in
            let b = top_new in
            omega arith

    pub top_kept : max t (top_weight D after) ≡ max t (top_from D after (length kept))
    top_kept =
        let a = top_below D after (max t (top_from D after (length kept))) (λ y m. each_below y) in
        let b = new_below in
        omega arith

-- "of all other instances the weight is no higher than before": after a step, only those of its new facts are weighed
pub top_after : (D : Domain) (objs : List Object) (fs : List Fact) (es : List Event) (t : ℕ) → top_weight D fs ≤ t
    → max t (top_weight D (facts_after D objs fs es))
    ≡ max t (top_from D (facts_after D objs fs es) (length (filter_by (λ f. not (elem same_fact f (step_facts D objs es Delete))) fs)))
unfolding facts_after
top_after D objs fs es t h = top_kept D fs (filter_by (λ f. not (elem same_fact f kept_facts_lem)) (dedup same_fact (step_facts D objs es Add))) (λ f. not (elem same_fact f (step_facts D objs es Delete))) t h
  where
    kept_facts_lem : List Fact
    kept_facts_lem = filter_by (λ f. not (elem same_fact f (step_facts D objs es Delete))) fs
