-- What stands in a key tuple under a key. Assumes nothing.
use mathlib.Core.Path.{◌≡◌, refl, sym, ap, ◌∙◌}
use mathlib.Core.Bool.{true, false, ◌&&◌}
use mathlib.Core.Logic.{◌⊎◌, inl, inr}
use mathlib.Core.List.Memᴰ
use mathlib.Core.List.{List, [], ◌∷◌, ◌++◌}
use Prim.Native.Nat.{ℕ, zero, suc, ◌≤◌, ◌<◌}
use native.Mathlib.Omega.{arith}
use lib.Dec.{eqb, ltb}
use lib.ListN.{get_or, length, get_or-append}
use lib.Seq.{get_or_at}
use borrow.Author.Tests.{eqb-true, eqb-false, ltb-true, leb-true}
use Rattle.records.specs.Lists.{In, all, count_by}
use Rattle.records.proofs.Lists.{and_l, and_r, bool_cases, eqb_same, in_keep_if, keep_if_tail}
use Rattle.literals.specs.declared.Label.{Label}
use Rattle.literals.specs.declared.Label.TheVariants.{Key as keyed, Counted}
use Rattle.literals.specs.Domain.{key, is_counted, key_below, each_key_once, labels_fit}
use Rattle.literals.proofs.Bytes.{keys_below_lem, keys_once}
use Rattle.literals.specs.Matching.{under, key_tuple}
use Rattle.verdict.proofs.TopWeight.{under_count, tuple_size}

module _ {A : Type 0} where
  only_one : (l : List A) (v : A) → length l ≡ 1 → In v l → l ≡ v ∷ []
  only_one [] v e m = absurd (Memᴰ.not-nil m)
  only_one (z ∷ []) v e m = ap {B = List A} (λ w. w ∷ []) (sym (Memᴰ.eq_of_singleton m))
  only_one (z ∷ w ∷ ws) v e m = absurd (omega arith)

  -- the argument under a key stands in the tuple at that key's number
  pub tuple_at : (n : ℕ) (ls : List Label) (vs : List A) (d : A) → length ls ≡ length vs → each_key_once n ls ≡ true
      → (k : ℕ) (v : A) → k < n → In v (under (key k) ls vs) → get_or (key_tuple n ls vs) k d ≡ v
  tuple_at zero ls vs d e o k v h m = absurd (omega arith)
  tuple_at (suc n) ls vs d e o k v h m = go (bool_cases (eqb k n)) (λ l. tuple_at n ls vs d e (and_l _ _ o) k v l m)
    where
      size : length (key_tuple n ls vs) ≡ n
      size = tuple_size n ls vs e (and_l _ _ o)

      one : length (under (key n) ls vs) ≡ 1
      one = under_count (key n) ls vs e ∙ eqb-true _ 1 (and_r (each_key_once n ls) _ o)

      go : (eqb k n ≡ true) ⊎ (eqb k n ≡ false) → (k < n → get_or (key_tuple n ls vs) k d ≡ v)
          → get_or (key_tuple n ls vs ++ under (key n) ls vs) k d ≡ v
      go (inl t) ih =
          let q : k ≡ n = eqb-true k n t in
          let m' : In v (under (key n) ls vs) = rw q at m in
          ap (λ (l : List A). get_or (key_tuple n ls vs ++ l) k d) (only_one (under (key n) ls vs) v one m')
          ∙ get_or_at (key_tuple n ls vs) v [] d k (size ∙ sym q)
      go (inr f) ih =
          let q = eqb-false k n f in
          get_or-append (key_tuple n ls vs) (under (key n) ls vs) d k (let s = size in omega arith) ∙ ih (omega arith)

  -- an argument stands only under a key that is a label
  pub under_below : (n k : ℕ) (ls : List Label) (vs : List A) (v : A) → all (key_below n) ls ≡ true → In v (under (key k) ls vs) → k < n
  under_below n k [] vs v b m = absurd (Memᴰ.not-nil m)
  under_below n k (l ∷ ls) [] v b m = absurd (Memᴰ.not-nil m)
  under_below n k (Counted ∷ ls) (w ∷ ws) v b m = under_below n k ls ws v b m
  under_below n k (keyed j ∷ ls) (w ∷ ws) v b m =
      go (λ i. under_below n k ls ws v (and_r (ltb j.0 n) _ b) i) (in_keep_if (eqb k j.0) w (under (key k) ls ws) m)
    where
      go : (In v (under (key k) ls ws) → k < n) → ((eqb k j.0 ≡ true) × (v ≡ w)) ⊎ In v (under (key k) ls ws) → k < n
      go ih (inl h) = let e = eqb-true k j.0 h.0 in let l = ltb-true j.0 n (and_l _ _ b) in omega arith
      go ih (inr i) = ih i

  -- ---- the arguments under keys stand in a tuple

  abbrev pub Reads : A → List A → List Label → List A → Type 0
  Reads d y ls vs = (k : ℕ) (v : A) → In v (under (key k) ls vs) → get_or y k d ≡ v

  pub reads_tail : (d : A) (y : List A) (l : Label) (ls : List Label) (v : A) (vs : List A) → Reads d y (l ∷ ls) (v ∷ vs) → Reads d y ls vs
  reads_tail d y (keyed j) ls v vs h k w m = h k w (keep_if_tail (eqb k j.0) v m)
  reads_tail d y Counted ls v vs h k w m = h k w m

  pub read_head : (d : A) (y : List A) (k : ℕ) (ls : List Label) (v : A) (vs : List A) → Reads d y (keyed (key k) ∷ ls) (v ∷ vs)
      → get_or y k d ≡ v
  read_head d y k ls v vs h = h k v (rw (eqb_same k) (Memᴰ.head refl))

  -- of labels that fit
  pub tuple_reads : (n : ℕ) (ls : List Label) (vs : List A) (d : A) → length ls ≡ length vs → labels_fit n ls ≡ true
      → Reads d (key_tuple n ls vs) ls vs
  tuple_reads n ls vs d e f k v m = tuple_at n ls vs d e (keys_once n ls f) k v (under_below n k ls vs v (keys_below_lem n ls f) m) m

pub one_counted : (n : ℕ) (ls : List Label) → labels_fit n ls ≡ true → count_by is_counted ls ≤ 1
unfolding labels_fit
one_counted n ls t = leb-true _ 1 (and_r (all (key_below n) ls && each_key_once n ls) _ t)
