-- Sums of counts over numbers in a row. Assumes nothing.
use mathlib.Core.Path.{◌≡◌, refl, ap, ap₂, ◌∙◌}
use mathlib.Core.Bool.{true, false}
use mathlib.Core.Logic.{◌⊎◌, inl, inr}
use mathlib.Core.List.{List, [], ◌∷◌, ◌++◌, map}
use Prim.Native.Nat.{ℕ, zero, suc, ◌+◌, ◌≤◌, ◌<◌}
use native.Mathlib.Omega.{arith}
use lib.Dec.{eqb}
use lib.ListN.{length}
use borrow.Author.Tests.{eqb-true, eqb-false, ne_eqb}
use Rattle.records.specs.Lists.{add_if, count_by, numbers_from}
use Rattle.records.proofs.Lists.{bool_cases}
use Rattle.totals.specs.Claims.{sum, added}

-- ---- one element more

module _ (h : ℕ → ℕ) (a : ℕ) where
  abbrev more : ℕ → ℕ
  more n = add_if (eqb n a) (h n)

  -- below all the numbers
  sum_miss : (k m : ℕ) → a < k → sum (map more (numbers_from k m)) ≡ sum (map h (numbers_from k m))
  sum_miss k zero l = refl
  sum_miss k (suc m) l = ap₂ ◌+◌ (ap (λ b. add_if b (h k)) (ne_eqb k a (λ e. omega arith))) (sum_miss (k + 1) m (omega arith))

  -- among them
  sum_hit : (k m : ℕ) → k ≤ a → a < k + m → sum (map more (numbers_from k m)) ≡ suc (sum (map h (numbers_from k m)))
  sum_hit k zero l g = absurd (omega arith)
  sum_hit k (suc m) l g = go (bool_cases (eqb k a)) (λ i. sum_hit (k + 1) m i (omega arith))
    where
      go : (eqb k a ≡ true) ⊎ (eqb k a ≡ false) → (k + 1 ≤ a → sum (map more (numbers_from (k + 1) m)) ≡ suc (sum (map h (numbers_from (k + 1) m))))
          → add_if (eqb k a) (h k) + sum (map more (numbers_from (k + 1) m)) ≡ suc (h k + sum (map h (numbers_from (k + 1) m)))
      go (inl t) ih =
          let e = eqb-true k a t in
          let r = sum_miss (k + 1) m (omega arith) in
          let s : add_if (eqb k a) (h k) ≡ suc (h k) = ap (λ b. add_if b (h k)) t in omega arith
      go (inr f) ih =
          let ne = eqb-false k a f in
          let r = ih (omega arith) in
          let s : add_if (eqb k a) (h k) ≡ h k = ap (λ b. add_if b (h k)) f in omega arith

sum_none : (k m : ℕ) → sum (map (λ _. 0) (numbers_from k m)) ≡ 0
sum_none k zero = refl
sum_none k (suc m) = let h = sum_none (k + 1) m in omega arith

-- where every element has one of the numbers, the counts add up to all
pub sum_counts : {A : Type 0} (g : A → ℕ) (k m : ℕ) → ((x : A) → (k ≤ g x) × (g x < k + m)) → (l : List A)
    → sum (map (λ n. count_by (λ x. eqb n (g x)) l) (numbers_from k m)) ≡ length l
sum_counts g k m h [] = sum_none k m
sum_counts g k m h (x ∷ xs) = sum_hit (λ n. count_by (λ x. eqb n (g x)) xs) (g x) k m (h x).0 (h x).1 ∙ ap suc (sum_counts g k m h xs)

-- ---- number by number

pub added_append : (a c b d : List ℕ) → length a ≡ length c → added (a ++ b) (c ++ d) ≡ added a c ++ added b d
added_append [] [] b d e = refl
added_append [] (y ∷ ys) b d e = absurd (omega arith)
added_append (x ∷ xs) [] b d e = absurd (omega arith)
added_append (x ∷ xs) (y ∷ ys) b d e = ap {B = List ℕ} (λ l. (x + y) ∷ l) (added_append xs ys b d (omega arith))

pub added_map : (f g h : ℕ → ℕ) → ((n : ℕ) → h n ≡ f n + g n) → (l : List ℕ) → map h l ≡ added (map f l) (map g l)
added_map f g h e [] = refl
added_map f g h e (x ∷ xs) = ap₂ ◌∷◌ (e x) (added_map f g h e xs)
