-- Laws of the loops over the rows of components, literals and classes: the place of a row, and the key tuple of a row. Assumes nothing.
use mathlib.Core.Path.{◌≡◌, refl, sym, ap, ap₂, ◌∙◌}
use mathlib.Core.Bool.{Bool, true, false, cond}
use mathlib.Core.List.{List, [], ◌∷◌, ◌++◌}
use Prim.Native.Nat.{ℕ, zero, suc, ◌+◌, ◌-◌, ◌*◌, ◌%◌, ◌≤◌, ◌<◌}
use native.Mathlib.Numerals.{add-one}
use native.Mathlib.Nat.{add_comm, mul-zero, mul-suc}
use native.Mathlib.Omega.{arith}
use lib.Dec.{eqb}
use lib.ListN.{length, get_or, take, drop, replicate, length-append, get_or-append, drop_of_length-le}
use lib.Seq.{drop-cons, drop-drop, get_or-append-add, take_at}
use borrow.Author.Tests.{eq-eqb, ne_eqb, eqb-true, eqb-false, lt-ltb, le-ltb}
use Rattle.records.specs.Lists.{same_list, position, numbers_from}
use Rattle.literals.specs.Domain.{key, is_key}
use Rattle.literals.specs.Decode.{byte, label_of}
use Rattle.literals.specs.Held.{EightAt, WordOf, rows_by, place_under, argument_at, under_key, under_keys, key_row, key_rows, word_from, key_word}
use Rattle.literals.proofs.Rows.{row_inside, row_none, row_more, row_all, same_miss, same_hit, same_end, length_part, part_at, rows_more, rows_end}
use Rattle.literals.proofs.Bytes.{label_key}

-- ---- the place of the first row that passes, from row c on

pub place_first : (w : ℕ) (p : List ℕ → Bool) (t : List ℕ) (n : ℕ) → 0 + position p (rows_by w (n - 0) (drop (w * 0) t)) ≡ position p (rows_by w n t)
place_first w p t n = let e : n - 0 ≡ n = omega arith in rw (e, mul-zero w) (omega arith)

module _ (w : ℕ) (p : List ℕ → Bool) (t : List ℕ) (n c : ℕ) where
  pub place_end : n ≤ c → c + position p (rows_by w (n - c) (drop (w * c) t)) ≡ c
  place_end h = rw (rows_end w (drop (w * c) t) n c h) (omega arith)

  module _ (h : c < n) where
    pub place_hit : p (take w (drop (w * c) t)) ≡ true → c + position p (rows_by w (n - c) (drop (w * c) t)) ≡ c
    place_hit e = rw (rows_more w t n c h, e) (omega arith)

    pub place_miss : p (take w (drop (w * c) t)) ≡ false
        → c + 1 + position p (rows_by w (n - (c + 1)) (drop (w * (c + 1)) t)) ≡ c + position p (rows_by w (n - c) (drop (w * c) t))
    place_miss e = rw (rows_more w t n c h, e) (omega arith)

-- ---- w bytes and the row at an offset, from byte i on

module _ (w : ℕ) (x t : List ℕ) (at i : ℕ) (e : length x ≡ w) (h : at + w ≤ length t) where
  pub row_miss : i < w → (get_or x i 0 ≡ get_or t (at + i) 0 → ⊥) → same_list eqb (drop i x) (drop i (take w (drop at t))) ≡ false
  row_miss l n = same_miss x (take w (drop at t)) i (omega arith) (omega (arith, length_part w t at h)) (λ f. n (f ∙ part_at w t at h i l))

  pub row_hit : i < w → get_or x i 0 ≡ get_or t (at + i) 0
      → same_list eqb (drop i x) (drop i (take w (drop at t))) ≡ same_list eqb (drop (i + 1) x) (drop (i + 1) (take w (drop at t)))
  row_hit l f = same_hit x (take w (drop at t)) i (omega arith) (omega (arith, length_part w t at h)) (f ∙ sym (part_at w t at h i l))

  pub row_end : w ≤ i → same_list eqb (drop i x) (drop i (take w (drop at t))) ≡ true
  row_end l = same_end x (take w (drop at t)) i (omega arith) (omega (arith, length_part w t at h))

-- ---- the argument under a key, from label i on

under_none : (k : ℕ) (bs : List ℕ) → under_key k bs [] ≡ 255
under_none k [] = refl
under_none k (b ∷ bs) = refl

-- a row at an offset, from byte i on
row_cons : (t : List ℕ) (at : ℕ) → at + 8 ≤ length t → (i j k : ℕ) → i < 8 → i + 1 ≡ j → at + i ≡ k
    → drop i (take 8 (drop at t)) ≡ get_or t k 0 ∷ drop j (take 8 (drop at t))
row_cons t at h i j k l e f =
    drop-cons (take 8 (drop at t)) i 0 (omega (arith, length_part 8 t at h))
    ∙ ap₂ ◌∷◌ (part_at 8 t at h i l ∙ ap (λ (n : ℕ). get_or t n 0) f) (ap (λ (n : ℕ). drop n (take 8 (drop at t))) (sym (add-one i) ∙ e))

-- of a component's row and the row at an offset
module _ (part rows : List ℕ) (at k i : ℕ) (h : length part ≡ 8) (g : at + 8 ≤ length rows) where
  pub under_end : 6 ≤ i → under_key k (drop (i + 1) part) (drop (i + 2) (take 8 (drop at rows))) ≡ 255
  under_end l =
      ap (under_key k (drop (i + 1) part)) (drop_of_length-le (take 8 (drop at rows)) {i = i + 2} (omega (arith, length_part 8 rows at g)))
      ∙ under_none k (drop (i + 1) part)

  module _ (l : i < 6) where
    under_more : under_key k (drop (i + 1) part) (drop (i + 2) (take 8 (drop at rows)))
        ≡ cond (eqb k (get_or part (i + 1) 0)) (get_or rows (at + 2 + i) 0) (under_key k (drop (i + 1 + 1) part) (drop (i + 1 + 2) (take 8 (drop at rows))))
    under_more =
        ap₂ (under_key k)
        (drop-cons part (i + 1) 0 (omega arith) ∙ ap (λ (n : ℕ). get_or part (i + 1) 0 ∷ drop n part) (sym (add-one (i + 1))))
        (row_cons rows at g (i + 2) (i + 1 + 2) (at + 2 + i) (omega arith) (omega arith) (omega arith))

    pub under_hit : get_or part (i + 1) 0 ≡ k → under_key k (drop (i + 1) part) (drop (i + 2) (take 8 (drop at rows))) ≡ get_or rows (at + 2 + i) 0
    under_hit e = under_more ∙ rw (eq-eqb k (get_or part (i + 1) 0) (sym e))

    pub under_miss : (get_or part (i + 1) 0 ≡ k → ⊥)
        → under_key k (drop (i + 1) part) (drop (i + 2) (take 8 (drop at rows))) ≡ under_key k (drop (i + 1 + 1) part) (drop (i + 1 + 2) (take 8 (drop at rows)))
    under_miss e = under_more ∙ rw (ne_eqb k (get_or part (i + 1) 0) (λ f. e (sym f)))

-- the byte at the place of a key's label is what stands under it
module _ (part rows : List ℕ) (at k : ℕ) (s : k < 255) (h : length part ≡ 8) (g : at + 8 ≤ length rows) where
  abbrev stands : ℕ → Bool
  stands i = is_key (key k) (label_of (get_or part (i + 1) 0))

  from_label : (n i : ℕ) → i + n ≡ 6
      → argument_at rows at (i + position stands (numbers_from i n)) ≡ under_key k (drop (i + 1) part) (drop (i + 2) (take 8 (drop at rows)))
  from_label zero i e = rw (le-ltb (i + 0) 6 (omega arith)) (sym (under_end part rows at k i h g (omega arith)))
  from_label (suc n) i e = go (stands i) refl (from_label n (i + 1) (omega arith))
    where
      go : (b : Bool) → stands i ≡ b
          → argument_at rows at (i + 1 + position stands (numbers_from (i + 1) n)) ≡ under_key k (drop (i + 1 + 1) part) (drop (i + 1 + 2) (take 8 (drop at rows)))
          → argument_at rows at (i + cond b zero (suc (position stands (numbers_from (i + 1) n)))) ≡ under_key k (drop (i + 1) part) (drop (i + 2) (take 8 (drop at rows)))
      go true t ih =
          let z : i + 0 ≡ i = omega arith in
          ap (argument_at rows at) z
          ∙ rw (lt-ltb i 6 (omega arith)) (sym (under_hit part rows at k i h g (omega arith) (sym (eqb-true k (get_or part (i + 1) 0) (sym (label_key k s (get_or part (i + 1) 0)) ∙ t)))))
      go false t ih =
          let z : i + suc (position stands (numbers_from (i + 1) n)) ≡ i + 1 + position stands (numbers_from (i + 1) n) = omega arith in
          ap (argument_at rows at) z
          ∙ ih
          ∙ sym (under_miss part rows at k i h g (omega arith) (λ f. eqb-false k (get_or part (i + 1) 0) (sym (label_key k s (get_or part (i + 1) 0)) ∙ t) (sym f)))

  pub under_place : argument_at rows at (place_under (key k) part) ≡ under_key k (drop 1 part) (drop 2 (take 8 (drop at rows)))
  unfolding place_under
  under_place =
      let z : position stands (numbers_from 0 6) ≡ 0 + position stands (numbers_from 0 6) = omega arith in
      ap (argument_at rows at) z ∙ from_label 6 0 refl

-- ---- the key tuple, key by key

pub length_keys : (n : ℕ) (bs vs : List ℕ) → length (under_keys n bs vs) ≡ n
length_keys zero bs vs = refl
length_keys (suc n) bs vs = length-append (under_keys n bs vs) (under_key n bs vs ∷ []) ∙ omega (arith, length_keys n bs vs)

-- what stands under the key k
pub under_at : (n k : ℕ) (bs vs : List ℕ) → k < n → get_or (under_keys n bs vs) k 0 ≡ under_key k bs vs
under_at zero k bs vs h = absurd (omega arith)
under_at (suc n) k bs vs h = go (eqb k n) refl (under_at n k bs vs)
  where
    go : (b : Bool) → eqb k n ≡ b → (k < n → get_or (under_keys n bs vs) k 0 ≡ under_key k bs vs)
        → get_or (under_keys n bs vs ++ (under_key n bs vs ∷ [])) k 0 ≡ under_key k bs vs
    go true e ih =
        let s = eqb-true k n e in
        let l = length_keys n bs vs in
        let z : k ≡ length (under_keys n bs vs) + 0 = omega arith in
        ap (λ (i : ℕ). get_or (under_keys n bs vs ++ (under_key n bs vs ∷ [])) i 0) z
        ∙ get_or-append-add (under_keys n bs vs) (under_key n bs vs ∷ []) 0 0
        ∙ ap (λ (i : ℕ). under_key i bs vs) (sym s)
    go false e ih =
        let s = eqb-false k n e in
        let l = length_keys n bs vs in
        let g : k < n = omega arith in
        get_or-append (under_keys n bs vs) (under_key n bs vs ∷ []) 0 k (omega arith) ∙ ih g

-- ---- its row as a number: that of the eight bytes from the key k on, from the last key to the first

-- behind its row stands FF
abbrev pub tuple_filled : ℕ → List ℕ → List ℕ → List ℕ
tuple_filled n part row = key_row n part row ++ replicate 8 255

pub number_none : (n : ℕ) (part row : List ℕ) (k : ℕ) → n ≤ 8 → k ≡ n → EightAt (tuple_filled n part row) k 18446744073709551615
unfolding key_row
number_none n part row k h e =
    let l = length_keys n (drop 1 part) (drop 2 row) in
    row_none (under_keys n (drop 1 part) (drop 2 row)) k (omega arith) (e ∙ sym l)

pub number_more : (n : ℕ) (part row : List ℕ) (k m : ℕ) {b w : ℕ} → n ≤ 8 → k < n → m ≡ k + 1 → (b ≡ under_key k (drop 1 part) (drop 2 row)) × (b < 256)
    → EightAt (tuple_filled n part row) m w → EightAt (tuple_filled n part row) k (256 * (w % 72057594037927936) + b)
unfolding key_row
number_more n part row k m h g e i A =
    let u = under_keys n (drop 1 part) (drop 2 row) in
    let l = length_keys n (drop 1 part) (drop 2 row) in
    row_more u k m (omega arith) (omega arith) e (i.0 ∙ sym (under_at n k (drop 1 part) (drop 2 row) g) ∙ row_inside u k (omega arith), i.1) A

pub number_all : (n : ℕ) (part row : List ℕ) (k : ℕ) {w : ℕ} → n ≤ 8 → k ≤ 0 → EightAt (tuple_filled n part row) k w → WordOf (key_row n part row) w
unfolding key_row
number_all n part row k h e A =
    let l = length_keys n (drop 1 part) (drop 2 row) in
    row_all (under_keys n (drop 1 part) (drop 2 row)) k (omega arith) e A

-- ---- key tuples as numbers

pub word_all : (n : ℕ) (part row : List ℕ) → word_from 0 (under_keys n (drop 1 part) (drop 2 row)) ≡ key_word n part row
unfolding key_word key_row
word_all n part row =
    let u = under_keys n (drop 1 part) (drop 2 row) in
    ap (word_from 0) (sym (take_at u (replicate (8 - length u) 255) n (length_keys n (drop 1 part) (drop 2 row))))

-- numbers of k bytes are below this
abbrev pub word_limit : ℕ → ℕ
word_limit zero = 1
word_limit (suc k) = 256 * word_limit k

pub limit_more : (w k r : ℕ) → w < word_limit k → r < 256 → 256 * w + r < word_limit (k + 1)
limit_more w k r h g = rw (add-one k) (omega arith)

pub limit_few : (k : ℕ) → k ≤ 5 → word_limit k ≤ 1099511627776
limit_few zero h = omega arith
limit_few (suc zero) h = omega arith
limit_few (suc (suc zero)) h = omega arith
limit_few (suc (suc (suc zero))) h = omega arith
limit_few (suc (suc (suc (suc zero)))) h = omega arith
limit_few (suc (suc (suc (suc (suc zero))))) h = omega arith
limit_few (suc (suc (suc (suc (suc (suc k)))))) h = absurd (omega arith)

-- ---- places

pub place_le : {A : Type 0} (p : A → Bool) (l : List A) → position p l ≤ length l
place_le p [] = omega arith
place_le p (x ∷ xs) = go (p x) (place_le p xs)
  where
    go : (b : Bool) → position p xs ≤ length xs → cond b zero (suc (position p xs)) ≤ suc (length xs)
    go true h = omega arith
    go false h = omega arith

-- as many rows as were asked for, and the one at c
pub length_rows : (w n : ℕ) (t : List ℕ) → length (rows_by w n t) ≡ n
length_rows w zero t = refl
length_rows w (suc n) t = ap suc (length_rows w n (drop w t))

pub rows_at : (w n : ℕ) (t : List ℕ) (c : ℕ) (d : List ℕ) → c < n → get_or (rows_by w n t) c d ≡ take w (drop (w * c) t)
rows_at w zero t c d h = absurd (omega arith)
rows_at w (suc n) t zero d h = ap (λ (k : ℕ). take w (drop k t)) (sym (mul-zero w))
rows_at w (suc n) t (suc c) d h =
    rows_at w n (drop w t) c d (omega arith) ∙ ap (take w) (drop-drop (w * c) w t ∙ ap (λ (k : ℕ). drop k t) (add_comm w (w * c) ∙ sym (mul-suc w c)))

-- ---- the key tuple of a literal's row, by the place of its component

module _ (keys r : ℕ) (row : List ℕ) (e : byte row 1 ≡ r) where
  pub key_rows_none : (ps : List (List ℕ)) → position (λ p. eqb r (byte p 0)) ps ≡ length ps → key_rows keys ps row ≡ []
  unfolding key_rows
  key_rows_none [] h = refl
  key_rows_none (p ∷ ps) h = rw e (go (eqb r (byte p 0)) (λ k. key_rows_none ps k) h)
    where
      go : (b : Bool) → (position (λ p. eqb r (byte p 0)) ps ≡ length ps → key_rows keys ps row ≡ [])
          → cond b zero (suc (position (λ p. eqb r (byte p 0)) ps)) ≡ suc (length ps) → cond b (key_row keys p row ∷ []) (key_rows keys ps row) ≡ []
      go true ih k = absurd (omega arith)
      go false ih k = ih (omega arith)

  pub key_rows_one : (ps : List (List ℕ)) → (position (λ p. eqb r (byte p 0)) ps ≡ length ps → ⊥)
      → key_rows keys ps row ≡ key_row keys (get_or ps (position (λ p. eqb r (byte p 0)) ps) []) row ∷ []
  unfolding key_rows
  key_rows_one [] h = absurd (h refl)
  key_rows_one (p ∷ ps) h = rw e (go (eqb r (byte p 0)) (λ k. key_rows_one ps k) h)
    where
      go : (b : Bool)
          → ((position (λ p. eqb r (byte p 0)) ps ≡ length ps → ⊥) → key_rows keys ps row ≡ key_row keys (get_or ps (position (λ p. eqb r (byte p 0)) ps) []) row ∷ [])
          → (cond b zero (suc (position (λ p. eqb r (byte p 0)) ps)) ≡ suc (length ps) → ⊥)
          → cond b (key_row keys p row ∷ []) (key_rows keys ps row) ≡ key_row keys (get_or (p ∷ ps) (cond b zero (suc (position (λ p. eqb r (byte p 0)) ps))) []) row ∷ []
      go true ih k = refl
      go false ih k = ih (λ z. k (ap suc z))
