-- The class of one literal, by its key tuple and those of the classes before it. Assumes nothing.
use mathlib.Core.Path.{◌≡◌, refl, sym, ap, ◌∙◌}
use mathlib.Core.Bool.{Bool, true, false, ◌||◌, cond}
use mathlib.Core.Logic.{◌⊎◌, inl, inr}
use mathlib.Core.List.{List, [], ◌∷◌, map}
use Prim.Native.Nat.{ℕ, zero, suc, ◌+◌, ◌≤◌, ◌<◌}
use native.Mathlib.Omega.{arith}
use lib.Dec.{eqb, ltb}
use lib.ListN.{length, get_or, set, take, drop, replicate}
use lib.Seq.{length-take-le}
use borrow.Author.Tests.{eq-eqb, ne_eqb, le-ltb, ltb-true, ltb-false}
use Rattle.std.specs.Prelude.{Some, None, position as optional}
use Rattle.std.specs.List.{position_or_len}
use Rattle.records.specs.Lists.{any, position}
use Rattle.records.proofs.Chains.{position_is}
use Rattle.records.proofs.Lists.{bool_cases, clash}
use Rattle.literals.specs.Decode.{byte}
use Rattle.literals.proofs.Rows.{part_at}
use Rattle.literals.proofs.Heads.{parts_length, part_row}
use Rattle.literals.specs.Held.{components_in, keys_in, component_row_in, component_rows_in, key_row, key_rows_in, row_word, key_word, key_words_in}
use Rattle.classes.specs.Held.{numbered_by, words_after, only_row}
use Rattle.literals.proofs.KeyRows.{place_le, key_rows_none, key_rows_one}

-- ---- the first number that passes

module _ {A : Type 0} (p : A → Bool) (xs : List A) where
  pub place_none : optional p xs ≡ None → position p xs ≡ length xs
  place_none e = go (ltb (position_or_len p xs) (length xs)) refl e
    where
      go : (b : Bool) → ltb (position_or_len p xs) (length xs) ≡ b → cond b (Some (position_or_len p xs)) None ≡ None → position p xs ≡ length xs
      go true t q = cc
      go false f q = let g = ltb-false _ _ f in omega (arith, position_is p xs, place_le p xs)

  pub place_some : {i : ℕ} → optional p xs ≡ Some i → (position p xs ≡ i) × (i < length xs)
  place_some {i} e = go (ltb (position_or_len p xs) (length xs)) refl e
    where
      go : (b : Bool) → ltb (position_or_len p xs) (length xs) ≡ b → cond b (Some (position_or_len p xs)) None ≡ Some i → (position p xs ≡ i) × (i < length xs)
      go true t q =
          let g = ltb-true _ _ t in
          let e : position_or_len p xs ≡ i = cc in
          (omega (arith, position_is p xs), omega arith)
      go false f q = cc

pub none_passes : {A : Type 0} (p : A → Bool) (xs : List A) → position p xs ≡ length xs → (j : ℕ) (d : A) → j < length xs → p (get_or xs j d) ≡ false
none_passes p [] e j d h = absurd (omega arith)
none_passes p (x ∷ xs) e j d h = go (p x) refl e (λ f k g. none_passes p xs f k d g) j h
  where
    go : (b : Bool) → p x ≡ b → cond b zero (suc (position p xs)) ≡ suc (length xs)
        → (position p xs ≡ length xs → (k : ℕ) → k < length xs → p (get_or xs k d) ≡ false) → (j : ℕ) → j < suc (length xs) → p (get_or (x ∷ xs) j d) ≡ false
    go true t e more j h = absurd (omega arith)
    go false t e more zero h = t
    go false t e more (suc j) h = more (omega arith) j (omega arith)

-- none passes
none_place : {A : Type 0} (p : A → Bool) (xs : List A) → any p xs ≡ false → position p xs ≡ length xs
none_place p [] e = refl
none_place p (x ∷ xs) e = go (bool_cases (p x)) (none_place p xs)
  where
    go : (p x ≡ true) ⊎ (p x ≡ false) → (any p xs ≡ false → position p xs ≡ length xs) → position p (x ∷ xs) ≡ length (x ∷ xs)
    go (inl t) more = absurd (clash {b = any p (x ∷ xs)} (ap (λ (b : Bool). b || any p xs) t) e)
    go (inr f) more = rw (f, more (sym (ap (λ (b : Bool). b || any p xs) f) ∙ e))

pub none_found : {A : Type 0} (p : A → Bool) (xs : List A) → any p xs ≡ false → optional p xs ≡ None
none_found p xs e =
    ap (λ (k : ℕ). cond (ltb k (length xs)) (Some k) None) (sym (position_is p xs) ∙ none_place p xs e)
    ∙ ap (λ (b : Bool). cond b (Some (length xs)) None) (le-ltb (length xs) (length xs) (omega arith))

-- ---- one literal's class

module _ (w : ℕ) (words : List ℕ) (count : ℕ) (r : count ≤ length words) where
  held : length (take count words) ≡ count
  held = length-take-le count words r

  module _ (e : optional (eqb w) (take count words) ≡ None) where
    last : position (eqb w) (take count words) ≡ count
    last = place_none (eqb w) (take count words) e ∙ held

    numbered_new : record { class = Some count; count = count + 1 } ≡ numbered_by (w ∷ []) count words
    unfolding numbered_by
    numbered_new = rw (last, eq-eqb count count refl)

    words_new : set words count w ≡ words_after (w ∷ []) count words
    unfolding words_after
    words_new = rw (last, eq-eqb count count refl)

  module _ {class : ℕ} (e : optional (eqb w) (take count words) ≡ Some class) where
    first : position (eqb w) (take count words) ≡ class
    first = (place_some (eqb w) (take count words) e).0

    pub class_less : class < count
    class_less = let l = (place_some (eqb w) (take count words) e).1 in let h = held in omega arith

    numbered_old : record { class = Some class; count = count } ≡ numbered_by (w ∷ []) count words
    unfolding numbered_by
    numbered_old = rw (first, ne_eqb class count (λ z. let l = class_less in omega arith))

    words_old : words ≡ words_after (w ∷ []) count words
    unfolding words_after
    words_old = rw (first, ne_eqb class count (λ z. let l = class_less in omega arith))

-- by the place of the component of its relation
module _ (head rows : List ℕ) (at c : ℕ) (g : at + 8 ≤ length rows) (e : c ≡ position (λ row. eqb (get_or rows (at + 1) 0) (byte row 0)) (component_rows_in head)) where
  pub component_le : c ≤ components_in head
  component_le = omega (arith, place_le (λ row. eqb (get_or rows (at + 1) 0) (byte row 0)) (component_rows_in head), parts_length head)

  unmatched_rows : c ≡ components_in head → key_rows_in head (take 8 (drop at rows)) ≡ []
  unfolding key_rows_in
  unmatched_rows f = key_rows_none (keys_in head) (get_or rows (at + 1) 0) (take 8 (drop at rows)) (part_at 8 rows at g 1 (omega arith)) (component_rows_in head) (sym e ∙ f ∙ sym (parts_length head))

  pub unmatched_tuple : c ≡ components_in head → replicate 8 255 ≡ only_row (key_rows_in head (take 8 (drop at rows)))
  unmatched_tuple f = sym (ap only_row (unmatched_rows f))

  pub unmatched : (count : ℕ) (words : List ℕ) → c ≡ components_in head
      → (record { class = None; count = count } ≡ numbered_by (key_words_in head (take 8 (drop at rows))) count words)
      × (words ≡ words_after (key_words_in head (take 8 (drop at rows))) count words)
  unfolding numbered_by words_after key_words_in
  unmatched count words f = rw (unmatched_rows f) (refl, refl)

  module _ (h : c ≡ components_in head → ⊥) where
    matched_rows : key_rows_in head (take 8 (drop at rows)) ≡ key_row (keys_in head) (component_row_in head c) (take 8 (drop at rows)) ∷ []
    unfolding key_rows_in
    matched_rows =
        let u = key_rows_one (keys_in head) (get_or rows (at + 1) 0) (take 8 (drop at rows)) (part_at 8 rows at g 1 (omega arith)) (component_rows_in head) (λ z. h (e ∙ z ∙ parts_length head)) in
        let v : c < components_in head = omega (arith, component_le) in
        u
        ∙ ap (λ (k : ℕ). key_row (keys_in head) (get_or (component_rows_in head) k []) (take 8 (drop at rows)) ∷ []) (sym e)
        ∙ ap (λ (p : List ℕ). key_row (keys_in head) p (take 8 (drop at rows)) ∷ []) (part_row head c v)

    pub matched_tuple : key_row (keys_in head) (component_row_in head c) (take 8 (drop at rows)) ≡ only_row (key_rows_in head (take 8 (drop at rows)))
    matched_tuple = sym (ap only_row matched_rows)

    module _ (w : ℕ) (f : w ≡ key_word (keys_in head) (component_row_in head c) (take 8 (drop at rows))) where
      matched : key_words_in head (take 8 (drop at rows)) ≡ w ∷ []
      unfolding key_words_in key_word
      matched = ap (map (row_word (keys_in head))) matched_rows ∙ ap (λ (x : ℕ). x ∷ []) (sym f)

      module _ (count : ℕ) (words : List ℕ) (r : count ≤ length words) where
        pub new_class : optional (eqb w) (take count words) ≡ None → (out : List ℕ) → out ≡ set words count w
            → (record { class = Some count; count = count + 1 } ≡ numbered_by (key_words_in head (take 8 (drop at rows))) count words)
            × (out ≡ words_after (key_words_in head (take 8 (drop at rows))) count words)
        new_class q out o = rw matched (numbered_new w words count r q, o ∙ words_new w words count r q)

        pub old_class : {class : ℕ} → optional (eqb w) (take count words) ≡ Some class
            → (record { class = Some class; count = count } ≡ numbered_by (key_words_in head (take 8 (drop at rows))) count words)
            × (words ≡ words_after (key_words_in head (take 8 (drop at rows))) count words)
        old_class q = rw matched (numbered_old w words count r q, words_old w words count r q)
