-- Which label is at fault: the place found is the first, labels that nothing stops fit, those that fit pass, and what each number tells. Assumes nothing.
use mathlib.Core.Path.{◌≡◌, refl, sym, ap, ap₂, ◌∙◌}
use mathlib.Core.Bool.{Bool, true, false, ◌&&◌, cond, false≢true}
use mathlib.Core.Logic.{◌⊎◌, inl, inr}
use mathlib.Core.List.Memᴰ
use mathlib.Core.List.{List, [], ◌∷◌, ◌++◌, map, map-append, append-nil, append_assoc}
use Prim.Native.Nat.{ℕ, zero, suc, ◌+◌, ◌≤◌, ◌<◌}
use native.Mathlib.Omega.{arith}
use lib.Dec.{eqb, ltb}
use lib.ListN.{length, get_or, take, length-map}
use borrow.Author.Tests.{eqb-true, eqb-false, ltb-true, ltb-false, le-ltb, leb-true}
use Rattle.records.specs.Lists.{In, add_if, count_by, all, any, first_at, found}
use Rattle.records.proofs.Lists.{and_l, and_r, bool_cases, off, eqb_same, any_in, all_in, count_append, count_pos}
use Rattle.literals.specs.Decode.{RecordStop}
use Rattle.literals.specs.declared.Key.{Key}
use Rattle.literals.specs.declared.Label.{Label}
use Rattle.literals.specs.declared.Label.TheVariants.{Key as keyed, Counted}
use Rattle.literals.specs.Domain.{key, is_key, is_counted, key_below, each_key_once, labels_fit}
use Rattle.literals.specs.Decode.{counted_again, same_label_key, key_again, key_too_high, at_record, at_label, label_fault}

-- ---- the first place that passes

module _ {A : Type 0} (p : List A → A → Bool) (d : A) where
  -- the element there passes
  pub first_passes : (before l : List A) → first_at p before l < length l → p (before ++ take (first_at p before l) l) (get_or l (first_at p before l) d) ≡ true
  first_passes before [] h = absurd (omega arith)
  first_passes before (x ∷ xs) h = go (p before x) refl h (λ k. first_passes (before ++ (x ∷ [])) xs k)
    where
      go : (b : Bool) → p before x ≡ b → cond b zero (suc (first_at p (before ++ (x ∷ [])) xs)) < suc (length xs)
          → (first_at p (before ++ (x ∷ [])) xs < length xs → p ((before ++ (x ∷ [])) ++ take (first_at p (before ++ (x ∷ [])) xs) xs) (get_or xs (first_at p (before ++ (x ∷ [])) xs) d) ≡ true)
          → p (before ++ take (cond b zero (suc (first_at p (before ++ (x ∷ [])) xs))) (x ∷ xs)) (get_or (x ∷ xs) (cond b zero (suc (first_at p (before ++ (x ∷ [])) xs))) d) ≡ true
      go true e h ih = rw append-nil e
      go false e h ih = sym (ap (λ (z : List A). p z (get_or xs (first_at p (before ++ (x ∷ [])) xs) d)) (append_assoc before (x ∷ []) (take (first_at p (before ++ (x ∷ [])) xs) xs))) ∙ ih (omega arith)

  -- and none before it does
  pub none_earlier : (before l : List A) (j : ℕ) → j < first_at p before l → p (before ++ take j l) (get_or l j d) ≡ false
  none_earlier before [] j h = absurd (omega arith)
  none_earlier before (x ∷ xs) j h = go (p before x) refl j h (λ i k. none_earlier (before ++ (x ∷ [])) xs i k)
    where
      go : (b : Bool) → p before x ≡ b → (j : ℕ) → j < cond b zero (suc (first_at p (before ++ (x ∷ [])) xs))
          → ((i : ℕ) → i < first_at p (before ++ (x ∷ [])) xs → p ((before ++ (x ∷ [])) ++ take i xs) (get_or xs i d) ≡ false) → p (before ++ take j (x ∷ xs)) (get_or (x ∷ xs) j d) ≡ false
      go true e j h ih = absurd (omega arith)
      go false e zero h ih = rw append-nil e
      go false e (suc i) h ih = sym (ap (λ (z : List A). p z (get_or xs i d)) (append_assoc before (x ∷ []) (take i xs))) ∙ ih i (omega arith)

-- of a list that stands for another
pub first_map : {A B : Type 0} (f : A → B) (p : List B → B → Bool) (q : List A → A → Bool) → ((before : List A) (a : A) → p (map f before) (f a) ≡ q before a)
    → (before l : List A) → first_at p (map f before) (map f l) ≡ first_at q before l
first_map f p q same before [] = refl
first_map {A} {B} f p q same before (x ∷ xs) =
    ap₂ (λ (b : Bool) (n : ℕ). cond b zero (suc n)) (same before x) (ap (λ (z : List B). first_at p z (map f xs)) (sym (map-append f before (x ∷ []))) ∙ first_map f p q same (before ++ (x ∷ [])) xs)

pub found_map : {A B : Type 0} (f : A → B) (p : List B → B → Bool) (q : List A → A → Bool) → ((before : List A) (a : A) → p (map f before) (f a) ≡ q before a)
    → (l : List A) → found p (map f l) ≡ found q l
found_map f p q same l = ap₂ ltb (first_map f p q same [] l) (length-map l f)

-- ---- labels that fit

two_more : (p : Label → Bool) (before : List Label) (l : Label) (ls : List Label) → 1 ≤ count_by p before → p l ≡ true → 2 ≤ count_by p (before ++ (l ∷ ls))
two_more p before l ls h e =
    let c = count_append p before (l ∷ ls) in
    let d : count_by p (l ∷ ls) ≡ suc (count_by p ls) = ap (λ (b : Bool). add_if b (count_by p ls)) e in omega arith

some_before : (p : Label → Bool) (before : List Label) → any p before ≡ true → 1 ≤ count_by p before
some_before p before t = let r = any_in p before t in count_pos p r.1 r.2

-- a second FF: two are counted
counted_twice : (before ls : List Label) → first_at counted_again before ls < length ls → 2 ≤ count_by is_counted (before ++ ls)
counted_twice before [] h = absurd (omega arith)
counted_twice before (l ∷ ls) h = go (counted_again before l) refl h (λ k. counted_twice (before ++ (l ∷ [])) ls k)
  where
    go : (b : Bool) → counted_again before l ≡ b → cond b zero (suc (first_at counted_again (before ++ (l ∷ [])) ls)) < suc (length ls)
        → (first_at counted_again (before ++ (l ∷ [])) ls < length ls → 2 ≤ count_by is_counted ((before ++ (l ∷ [])) ++ ls)) → 2 ≤ count_by is_counted (before ++ (l ∷ ls))
    go true e h ih = two_more is_counted before l ls (some_before is_counted before (and_r (is_counted l) _ e)) (and_l _ _ e)
    go false e h ih = rw append_assoc at (ih (omega arith))

-- a key again: it stands twice
pub record Twice (before ls : List Label) : Type 0 where
  pub which : Key
  pub listed : In (keyed which) ls
  pub often : 2 ≤ count_by (is_key which) (before ++ ls)

key_twice : (before ls : List Label) → first_at key_again before ls < length ls → Twice before ls
key_twice before [] h = absurd (omega arith)
key_twice before (l ∷ ls) h = go (key_again before l) refl h (λ k. key_twice (before ++ (l ∷ [])) ls k)
  where
    here : (l : Label) → any (same_label_key l) before ≡ true → Twice before (l ∷ ls)
    here (keyed k) t = record { which = k; listed = Memᴰ.head refl; often = two_more (is_key k) before (keyed k) ls (some_before (is_key k) before t) (eqb_same k.0) }
    here Counted t = let r = any_in (same_label_key Counted) before t in absurd (false≢true r.2)

    go : (b : Bool) → key_again before l ≡ b → cond b zero (suc (first_at key_again (before ++ (l ∷ [])) ls)) < suc (length ls)
        → (first_at key_again (before ++ (l ∷ [])) ls < length ls → Twice (before ++ (l ∷ [])) ls) → Twice before (l ∷ ls)
    go true e h ih = here l e
    go false e h ih = let r = ih (omega arith) in record { which = r.which; listed = Memᴰ.tail r.listed; often = rw append_assoc at r.often }

once_of : (k n : ℕ) (ls : List Label) → k < n → each_key_once n ls ≡ true → count_by (is_key (key k)) ls ≡ 1
once_of k zero ls h t = absurd (omega arith)
once_of k (suc n) ls h t = go (bool_cases (eqb k n)) (λ g. once_of k n ls g (and_l _ _ t))
  where
    go : (eqb k n ≡ true) ⊎ (eqb k n ≡ false) → (k < n → count_by (is_key (key k)) ls ≡ 1) → count_by (is_key (key k)) ls ≡ 1
    go (inl e) ih = ap (λ (m : ℕ). count_by (is_key (key m)) ls) (eqb-true k n e) ∙ eqb-true _ 1 (and_r (each_key_once n ls) _ t)
    go (inr e) ih = let d = eqb-false k n e in ih (omega arith)

-- no key is too high where all are below
all_below_lem : (n : ℕ) (before ls : List Label) → all (key_below n) ls ≡ true → length ls ≤ first_at (key_too_high n) before ls
all_below_lem n before [] t = omega arith
all_below_lem n before (l ∷ ls) t =
    let ih = all_below_lem n (before ++ (l ∷ [])) ls (and_r (key_below n l) _ t) in rw (and_l (key_below n l) _ t) (let y : suc (length ls) ≤ suc (first_at (key_too_high n) (before ++ (l ∷ [])) ls) = omega arith in y)

module _ (n : ℕ) (ls : List Label) (fits : labels_fit n ls ≡ true) where
  pub fit_counted : found counted_again ls ≡ false
  unfolding labels_fit
  fit_counted =
      off (found counted_again ls)
      (λ t. let h = counted_twice [] ls (ltb-true _ _ t) in let k = leb-true (count_by is_counted ls) 1 (and_r (all (key_below n) ls && each_key_once n ls) _ fits) in omega arith)

  pub fit_keys : found key_again ls ≡ false
  unfolding labels_fit
  fit_keys =
      off (found key_again ls)
      (λ t.
      let r = key_twice [] ls (ltb-true _ _ t) in
      let b = ltb-true r.which.0 n (all_in (key_below n) ls (and_l _ _ (and_l _ _ fits)) r.listed) in
      let o = once_of r.which.0 n ls b (and_r (all (key_below n) ls) _ (and_l _ _ fits)) in
      let h : 2 ≤ count_by (is_key (key r.which.0)) ls = r.often in omega arith)

  pub fit_high : found (key_too_high n) ls ≡ false
  unfolding labels_fit
  fit_high = le-ltb (first_at (key_too_high n) [] ls) (length ls) (all_below_lem n [] ls (and_l _ _ (and_l _ _ fits)))

  -- nothing stops them
  pub fit_passes : label_fault n ls ≡ at_record 0
  unfolding label_fault
  fit_passes = rw (fit_counted, fit_keys, fit_high, fits)

-- nothing stops labels exactly where they fit
pub passes_fit : (n : ℕ) (ls : List Label) → (label_fault n ls).number ≡ 0 → labels_fit n ls ≡ true
unfolding label_fault
passes_fit n ls = go (found counted_again ls) (found key_again ls) (found (key_too_high n) ls) (labels_fit n ls)
  where
    go : (x y z b : Bool) → (cond x (at_label 25 (first_at counted_again [] ls)) (cond y (at_label 24 (first_at key_again [] ls)) (cond z (at_label 21 (first_at (key_too_high n) [] ls)) (cond b (at_record 0) (at_record 21))))).number ≡ 0 → b ≡ true
    go true y z b e = absurd (omega arith)
    go false true z b e = absurd (omega arith)
    go false false true b e = absurd (omega arith)
    go false false false true e = refl
    go false false false false e = absurd (omega arith)

-- and then there is no place
pub passes_place : (n : ℕ) (ls : List Label) → (label_fault n ls).number ≡ 0 → (label_fault n ls).within ≡ 0
passes_place n ls e = ap (λ (f : RecordStop). f.within) (fit_passes n ls (passes_fit n ls e))

-- ---- what a fault tells of the labels

-- the first label that passes a test of those before it stands at i
pub record First (p : List Label → Label → Bool) (ls : List Label) (i : ℕ) : Type 0 where
  pub listed : i < length ls
  pub passes : p (take i ls) (get_or ls i Counted) ≡ true
  pub none : (j : ℕ) → j < i → p (take j ls) (get_or ls j Counted) ≡ false

-- no label does
abbrev pub None : (List Label → Label → Bool) → List Label → Type 0
None p ls = (j : ℕ) → j < length ls → p (take j ls) (get_or ls j Counted) ≡ false

first_found : (p : List Label → Label → Bool) (ls : List Label) → found p ls ≡ true → First p ls (first_at p [] ls)
first_found p ls t = let l = ltb-true (first_at p [] ls) (length ls) t in record { listed = l; passes = first_passes p Counted [] ls l; none = none_earlier p Counted [] ls }

none_found : (p : List Label → Label → Bool) (ls : List Label) → found p ls ≡ false → None p ls
none_found p ls t j h = let l = ltb-false (first_at p [] ls) (length ls) t in none_earlier p Counted [] ls j (omega arith)

-- "Two FF labels give 25, a repeated key 24, the rest 21, checked in that order", at the second FF, the first key equal to an earlier one, the first key not below n, else at the record
pub label_cases : (n : ℕ) (ls : List Label) (P : ℕ → ℕ → Type 0)
    → ((i : ℕ) → First counted_again ls i → P 25 (5 + i))
    → (None counted_again ls → (i : ℕ) → First key_again ls i → P 24 (5 + i))
    → (None counted_again ls → None key_again ls → (i : ℕ) → First (key_too_high n) ls i → P 21 (5 + i))
    → (None counted_again ls → None key_again ls → None (key_too_high n) ls → labels_fit n ls ≡ false → P 21 0)
    → (labels_fit n ls ≡ true → P 0 0)
    → P (label_fault n ls).number (label_fault n ls).within
unfolding label_fault
label_cases n ls P counted again high missing fit = go (found counted_again ls) refl (found key_again ls) refl (found (key_too_high n) ls) refl (labels_fit n ls) refl
  where
    by : Bool → Bool → Bool → Bool → RecordStop
    by x y z b = cond x (at_label 25 (first_at counted_again [] ls)) (cond y (at_label 24 (first_at key_again [] ls)) (cond z (at_label 21 (first_at (key_too_high n) [] ls)) (cond b (at_record 0) (at_record 21))))

    go : (x : Bool) → found counted_again ls ≡ x → (y : Bool) → found key_again ls ≡ y → (z : Bool) → found (key_too_high n) ls ≡ z → (b : Bool) → labels_fit n ls ≡ b → P (by x y z b).number (by x y z b).within
    go true d y e z f b g = counted (first_at counted_again [] ls) (first_found counted_again ls d)
    go false d true e z f b g = again (none_found counted_again ls d) (first_at key_again [] ls) (first_found key_again ls e)
    go false d false e true f b g = high (none_found counted_again ls d) (none_found key_again ls e) (first_at (key_too_high n) [] ls) (first_found (key_too_high n) ls f)
    go false d false e false f true g = fit g
    go false d false e false f false g = missing (none_found counted_again ls d) (none_found key_again ls e) (none_found (key_too_high n) ls f) g
