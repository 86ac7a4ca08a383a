-- What a chain of iterators goes through, beside the definitions: rows and components by their numbers, and the bytes of a number. Assumes
-- nothing.
use mathlib.Core.Path.{◌≡◌, refl, sym, ap, ap₂, subst, ◌∙◌}
use mathlib.Core.Bool.{Bool, true, false, ◌&&◌, ◌||◌, cond}
use mathlib.Core.Logic.{◌⊎◌, inl, inr}
use mathlib.Core.List.{List, [], ◌∷◌, ◌++◌, map, append_assoc}
use Prim.Native.Nat.{ℕ, zero, suc, ◌+◌, ◌-◌, ◌*◌, ◌%◌, ◌≤◌, ◌<◌}
use native.Mathlib.Numerals.{add-one}
use native.Mathlib.Nat.{mul-suc}
use native.Mathlib.Omega.{arith}
use lib.Dec.{eqb, ltb}
use lib.ListN.{length-map, length-drop, length, get_or, take, drop, replicate, replicate-append-replicate, get_or-replicate}
use lib.Seq.{drop-drop, ext_get_or, get_or-take, get_or-drop, length-take-le}
use borrow.Author.Tests.{ltb-true, ltb-false}
use denote.Param.Members.{Mut, Called}
use Rattle.std.specs.Prelude.{Option, Some, None, MatchOption, reverse}
use Rattle.std.specs.Iterator.{FoldsItems}
use Rattle.std.proofs.lemmas.Iterator.{YieldsList}
use Rattle.std.proofs.lemmas.Fn.{fold_over}
use Rattle.std.specs.Int.{w64, from_le_bytes, to_le_bytes}
use Rattle.std.specs.Option.{unwrap_or}
use Rattle.std.specs.List.{fold, position_or_len}
use Rattle.std.proofs.lemmas.Nat.{le_bytes_8}
use Rattle.std.proofs.lemmas.List.{reverse-append, get_or_past}
use Rattle.std.proofs.lemmas.List.Sums.{fold-append}
use Rattle.records.specs.Lists.{any, all, same_list, position, numbers_from, below}
use Rattle.records.proofs.Lists.{any_map, bool_cases}
use Rattle.literals.proofs.KeyRows.{place_le, under_at, under_place, length_keys, word_all, word_limit, limit_few, limit_more}
use Rattle.records.proofs.Chains.{position_is}
use Rattle.literals.specs.Held.{row_of, rows_by, rows_in, EightAt, WordOf, eight_bytes, meet_byte, arguments_meet}
use Rattle.literals.specs.Held.{component_row_in, component_rows_from, component_rows_in, components_in, starts}
use Rattle.literals.specs.Held.{argument_at, place_under, under_keys, word_from, key_word}
use Rattle.literals.specs.Domain.{key}
use Rattle.literals.proofs.Rows.{eight_cons, four_of, eight_before, eight_filled, word_front, word_is, length_row, meeting, payload_hit, payload_miss, payload_end}
use Rattle.literals.proofs.Indices.{get_d_map, any_agree, from_less, position_map, length_from}

-- ---- rows and components by their numbers

-- those of w bytes of a memory from row i on
pub rows_are : (w : ℕ) (t : List ℕ) (n i : ℕ) → rows_by w n (drop (w * i) t) ≡ map (λ k. take w (drop (w * k) t)) (numbers_from i n)
rows_are w t zero i = refl
rows_are w t (suc n) i =
    let f : w * i + w ≡ w * (i + 1) = sym (mul-suc w i) ∙ ap (λ (k : ℕ). w * k) (sym (add-one i)) in
    ap {B = List (List ℕ)} (λ r. take w (drop (w * i) t) ∷ r)
    (ap (rows_by w n) (drop-drop w (w * i) t ∙ ap (λ (k : ℕ). drop k t) f) ∙ rows_are w t n (i + 1))

-- a test of the rows of 8 bytes from row i on
pub any_rows : (p : List ℕ → Bool) (t : List ℕ) (n i : ℕ) → any (λ k. p (take 8 (drop (8 * k) t))) (numbers_from i n) ≡ any p (rows_in n (drop (8 * i) t))
any_rows p t n i = sym (ap (any p) (rows_are 8 t n i) ∙ any_map (λ k. take 8 (drop (8 * k) t)) p (numbers_from i n))

-- the rows of the components from the component c on
components_from : (head : List ℕ) (c n : ℕ) → component_rows_from head c n ≡ map (component_row_in head) (numbers_from c n)
components_from head c zero = refl
components_from head c (suc n) =
    ap {B = List (List ℕ)} (λ r. component_row_in head c ∷ r)
    (ap (λ (k : ℕ). component_rows_from head k n) (sym (add-one c)) ∙ components_from head (c + 1) n)

pub components_are : (head : List ℕ) → component_rows_in head ≡ map (component_row_in head) (below (components_in head))
unfolding component_rows_in
components_are head = components_from head 0 (components_in head)

pub any_component : (p : List ℕ → Bool) (head : List ℕ) → any (λ c. p (component_row_in head c)) (below (components_in head)) ≡ any p (component_rows_in head)
any_component p head = sym (ap (any p) (components_are head) ∙ any_map (component_row_in head) p (below (components_in head)))

-- ---- the result of a fold, where each call of its closure computes a function

module _ {S A B F C : Type 0} {steps : S → Option A → S → Type 0} {v : A → B} {g : Mut F (C × (A × Unit {0})) C} {s : S} {all : List B} (h : C → B → C) (f : F) where
  pub fold_from_yields : (a r : C) → FoldsItems steps g s f a r → YieldsList steps v s all
      → ((a : C) (x : A) (b : C) (q : F) → Called g f (a, (x, tt)) b q → (q ≡ f) × (b ≡ h a (v x))) → r ≡ fold h a all
  fold_from_yields a r ran y k =
      fold_over steps v g (λ ys b. b ≡ fold h a ys) f
      (λ ys b x d q e c.
      let t = k b x d q c in
      (t.1 ∙ ap (λ (z : C). h z (v x)) e ∙ sym (fold-append h a ys (v x ∷ [])), t.0))
      s all a r y.runs refl ran

-- ---- the place of the first that passes, as `position` of an iterator tells it

abbrev pub found_at : {A : Type 0} → (A → Bool) → List A → Option ℕ
found_at p xs = cond (ltb (position_or_len p xs) (length xs)) (Some (position_or_len p xs)) None

module _ {A : Type 0} (p : A → Bool) (xs : List A) where
  pub found_place : (o : Option ℕ) → o ≡ found_at p xs
      → MatchOption o (position p xs ≡ length xs) (λ c. (c ≡ position p xs) × (c < length xs))
  found_place o e = go o (bool_cases (ltb (position p xs) (length xs))) (e ∙ ap (λ (k : ℕ). cond (ltb k (length xs)) (Some k) None) (sym (position_is p xs)))
    where
      go : (o : Option ℕ) → (ltb (position p xs) (length xs) ≡ true) ⊎ (ltb (position p xs) (length xs) ≡ false)
          → o ≡ cond (ltb (position p xs) (length xs)) (Some (position p xs)) None
          → MatchOption o (position p xs ≡ length xs) (λ c. (c ≡ position p xs) × (c < length xs))
      go None (inl t) q = let z : None ≡ Some (position p xs) = q ∙ ap (λ (b : Bool). cond b (Some (position p xs)) None) t in absurd (let y : ◌≡◌ {A = ℕ} 0 1 = cc in omega arith)
      go None (inr f) q = let l = place_le p xs in let g = ltb-false (position p xs) (length xs) f in omega arith
      go (Some c) (inl t) q =
          let z : Some c ≡ Some (position p xs) = q ∙ ap (λ (b : Bool). cond b (Some (position p xs)) None) t in
          let y : c ≡ position p xs = cc in
          let g = ltb-true (position p xs) (length xs) t in
          (y, omega arith)
      go (Some c) (inr f) q = let z : Some c ≡ None = q ∙ ap (λ (b : Bool). cond b (Some (position p xs)) None) f in absurd (let y : ◌≡◌ {A = ℕ} 0 1 = cc in omega arith)

  pub place_or : (o : Option ℕ) → o ≡ found_at p xs → {r : ℕ} → r ≡ unwrap_or o (length xs) → r ≡ position p xs
  place_or None e h = let q = found_place None e in h ∙ sym q
  place_or (Some c) e h = let q = found_place (Some c) e in h ∙ q.0

-- of the first component with a relation
pub component_found : (r : ℕ) (head : List ℕ) (o : Option ℕ) → o ≡ found_at (λ c. starts r (component_row_in head c)) (below (components_in head))
    → MatchOption o (position (starts r) (component_rows_in head) ≡ components_in head) (λ c. (c ≡ position (starts r) (component_rows_in head)) × (c < components_in head))
component_found r head o e = go o (found_place (λ c. starts r (component_row_in head c)) (below (components_in head)) o e)
  where
    here : position (starts r) (component_rows_in head) ≡ position (λ c. starts r (component_row_in head c)) (below (components_in head))
    here = ap (position (starts r)) (components_are head) ∙ position_map (component_row_in head) (starts r) (below (components_in head))

    go : (o : Option ℕ) → MatchOption o (position (λ c. starts r (component_row_in head c)) (below (components_in head)) ≡ length (below (components_in head)))
        (λ c. (c ≡ position (λ c. starts r (component_row_in head c)) (below (components_in head))) × (c < length (below (components_in head))))
        → MatchOption o (position (starts r) (component_rows_in head) ≡ components_in head) (λ c. (c ≡ position (starts r) (component_rows_in head)) × (c < components_in head))
    go None h = here ∙ h ∙ length_from 0 (components_in head)
    go (Some c) h = let l = length_from 0 (components_in head) in let g = h.1 in (h.0 ∙ sym here, omega arith)

-- ---- what is found so far, and among those left

pub found_any : {A : Type 0} (p : A → Bool) (found : Bool) (l : List A) → fold (λ (b : Bool) (x : A). b || p x) found l ≡ (found || any p l)
found_any p true [] = refl
found_any p false [] = refl
found_any p true (x ∷ l) = found_any p true l
found_any p false (x ∷ l) = found_any p (p x) l

-- ---- whether arguments meet

pub meet_listed : (x y : List ℕ) (i j : ℕ) → i + 8 ≤ length x → j + 8 ≤ length y
    → all (λ k. meet_byte (get_or x (i + k) 0) (get_or y (j + k) 0)) (numbers_from 2 6) ≡ arguments_meet (take 8 (drop i x)) (take 8 (drop j y))
meet_listed x y i j h g = sym (ap₂ arguments_meet (eight_cons x i h) (eight_cons y j g))

-- a payload's from the byte i on beside those of the row at an offset
module _ (p t : List ℕ) (at : ℕ) (a : length p ≤ 8) (h : at + 8 ≤ length t) where
  abbrev beside : ℕ → Bool
  beside i = meet_byte (get_or p i 0) (get_or t (at + i) 0)

  payload_from : (n i : ℕ) → i + n ≡ length p → all beside (numbers_from i n) ≡ meeting p t at a h i
  payload_from zero i e = sym (payload_end p t at a h i (omega arith))
  payload_from (suc n) i e = go (bool_cases (beside i)) (payload_from n (i + 1) (omega arith))
    where
      go : (beside i ≡ true) ⊎ (beside i ≡ false) → all beside (numbers_from (i + 1) n) ≡ meeting p t at a h (i + 1)
          → beside i && all beside (numbers_from (i + 1) n) ≡ meeting p t at a h i
      go (inl b) ih = ap (λ (c : Bool). c && all beside (numbers_from (i + 1) n)) b ∙ ih ∙ sym (payload_hit p t at a h i (omega arith) b)
      go (inr b) ih = ap (λ (c : Bool). c && all beside (numbers_from (i + 1) n)) b ∙ sym (payload_miss p t at a h i (omega arith) b)

  pub payload_meeting_all : 2 ≤ length p → all beside (numbers_from 2 (length p - 2)) ≡ arguments_meet (row_of p) (take 8 (drop at t))
  payload_meeting_all l = payload_from (length p - 2) 2 (omega arith)

-- ---- the bytes of a number, the lowest first

-- the number of the eight bytes at an offset is the library's of these bytes
pub eight_of : (s : List ℕ) (at : ℕ) → ((i : ℕ) → get_or s i 0 < 256) → EightAt s at (from_le_bytes w64 (eight_bytes s at))
eight_of s at b =
    record {
      low = get_or s at 0 + 256 * get_or s (at + 1) 0 + 65536 * get_or s (at + 2) 0 + 16777216 * get_or s (at + 3) 0;
      high = get_or s (at + 4) 0 + 256 * get_or s (at + 5) 0 + 65536 * get_or s (at + 6) 0 + 16777216 * get_or s (at + 7) 0;
      lows = four_of s at (at + 1) (at + 2) (at + 3) refl refl refl (refl, b at) (refl, b (at + 1)) (refl, b (at + 2)) (refl, b (at + 3));
      highs = four_of s (at + 4) (at + 5) (at + 6) (at + 7) (omega arith) (omega arith) (omega arith) (refl, b (at + 4)) (refl, b (at + 5)) (refl, b (at + 6)) (refl, b (at + 7));
      is = omega arith;
    }

-- of a row and its number
module _ (row : List ℕ) {word : ℕ} (W : WordOf row word) where
  row_small : (i : ℕ) → get_or row i 0 < 256
  row_small zero = W.bytes.lows.first
  row_small (suc zero) = W.bytes.lows.second
  row_small (suc (suc zero)) = W.bytes.lows.third
  row_small (suc (suc (suc zero))) = W.bytes.lows.fourth
  row_small (suc (suc (suc (suc zero)))) = W.bytes.highs.first
  row_small (suc (suc (suc (suc (suc zero))))) = W.bytes.highs.second
  row_small (suc (suc (suc (suc (suc (suc zero)))))) = W.bytes.highs.third
  row_small (suc (suc (suc (suc (suc (suc (suc zero))))))) = W.bytes.highs.fourth
  row_small (suc (suc (suc (suc (suc (suc (suc (suc i)))))))) =
      let n = W.long in
      let e = get_or_past row (suc (suc (suc (suc (suc (suc (suc (suc i)))))))) 0 (omega arith) in
      omega arith

  row_number : word ≡ from_le_bytes w64 row
  row_number =
      let e = W.bytes.is in
      let l = W.bytes.lows.is in
      let h = W.bytes.highs.is in
      omega arith

  pub row_bytes : to_le_bytes w64 word ≡ row
  row_bytes = le_bytes_8 row word W.long row_small row_number

-- a row is among the rows of a memory where its number is among theirs
pub word_among : (row t : List ℕ) {word : ℕ} → WordOf row word → ((i : ℕ) → get_or t i 0 < 256) → (from to : ℕ) → from ≤ to → 8 * to ≤ length t
    → any (λ i. eqb (from_le_bytes w64 (eight_bytes t (8 * i))) word) (numbers_from from (to - from)) ≡ any (same_list eqb row) (rows_in (to - from) (drop (8 * from) t))
word_among row t {word} W b from to h l =
    any_agree (λ i. eqb (from_le_bytes w64 (eight_bytes t (8 * i))) word) (λ i. same_list eqb row (take 8 (drop (8 * i) t))) (numbers_from from (to - from))
    (λ i m. let g = from_less from (to - from) m in sym (word_is row t (8 * i) W (omega arith) (eight_of t (8 * i) b)))
    ∙ any_rows (same_list eqb row) t (to - from) from

-- ---- a number that bytes are put in below, from the last to the first

-- the byte in place of the highest
abbrev pub lower : ℕ → ℕ → ℕ
lower word byte = 256 * (word % 72057594037927936) + byte

-- one byte in front of the eight
behind : (x : ℕ) (s : List ℕ) {w : ℕ} → EightAt s 0 w → EightAt (x ∷ s) 1 w
behind x s A =
    record {
      low = A.low;
      high = A.high;
      lows = record { is = A.lows.is; first = A.lows.first; second = A.lows.second; third = A.lows.third; fourth = A.lows.fourth };
      highs = record { is = A.highs.is; first = A.highs.first; second = A.highs.second; third = A.highs.third; fourth = A.highs.fourth };
      is = A.is;
    }

module _ (fill : List ℕ) (f : (i : ℕ) → i < 8 → get_or fill i 0 ≡ 255) where
  lowered_from : (p : List ℕ) → ((i : ℕ) → get_or p i 0 < 256) → EightAt (p ++ fill) 0 (fold lower 18446744073709551615 (reverse p))
  lowered_from [] b = eight_filled fill 0 (λ i h. let e : 0 + i ≡ i = omega arith in ap (λ (k : ℕ). get_or fill k 0) e ∙ f i h)
  lowered_from (x ∷ p) b =
      let e : fold lower 18446744073709551615 (reverse (x ∷ p)) ≡ lower (fold lower 18446744073709551615 (reverse p)) x =
      ap (fold lower 18446744073709551615) (reverse-append (x ∷ []) p) ∙ fold-append lower 18446744073709551615 (reverse p) (x ∷ []) in
      rw e (eight_before (x ∷ (p ++ fill)) 0 1 refl (refl, b 0) (behind x (p ++ fill) (lowered_from p (λ i. b (suc i)))))

pub row_lowered : (p : List ℕ) → length p ≤ 8 → ((i : ℕ) → get_or p i 0 < 256) → {word : ℕ} → word ≡ fold lower 18446744073709551615 (reverse p) → WordOf (row_of p) word
row_lowered p h b e =
    rw e
    (word_front (row_of p) fill (length_row p h)
    (subst (λ (s : List ℕ). EightAt s 0 (fold lower 18446744073709551615 (reverse p))) (sym (append_assoc p (replicate (8 - length p) 255) fill)) (lowered_from (replicate (8 - length p) 255 ++ fill) filled p b)))
  where
    fill : List ℕ
    fill = replicate 8 255

    filled : (i : ℕ) → i < 8 → get_or (replicate (8 - length p) 255 ++ fill) i 0 ≡ 255
    filled i g = ap (λ (s : List ℕ). get_or s i 0) (replicate-append-replicate (8 - length p) 8 255) ∙ get_or-replicate (8 - length p + 8) i 255 0 (omega arith)

-- ---- a key tuple as a number, key by key

argument_small : (rows : List ℕ) (at place : ℕ) → ((i : ℕ) → get_or rows i 0 < 256) → argument_at rows at place < 256
argument_small rows at place b = go (ltb place 6)
  where
    go : (t : Bool) → cond t (get_or rows (at + 2 + place) 0) 255 < 256
    go true = b (at + 2 + place)
    go false = omega arith

-- what stands at the places of the keys
keyed_listed : (n at start : ℕ) (part rows places : List ℕ) → length part ≡ 8 → at + 8 ≤ length rows → n ≤ 6 → start + n ≤ length places
    → ((k : ℕ) → k < n → get_or places (start + k) 0 ≡ place_under (key k) part)
    → map (argument_at rows at) (take n (drop start places)) ≡ under_keys n (drop 1 part) (drop 2 (take 8 (drop at rows)))
keyed_listed n at start part rows places h g few room e =
    ext_get_or 0 _ _ (length-map own (argument_at rows at) ∙ long ∙ sym (length_keys n (drop 1 part) (drop 2 (take 8 (drop at rows)))))
    (λ i l.
    let m : i < n = omega (arith, length-map own (argument_at rows at), long) in
    get_d_map (argument_at rows at) own i 0 0 (omega (arith, long))
    ∙ ap (argument_at rows at) (get_or-take n (drop start places) i 0 m ∙ get_or-drop start places i 0 ∙ e i m)
    ∙ under_place part rows at i (omega arith) h g
    ∙ sym (under_at n i (drop 1 part) (drop 2 (take 8 (drop at rows))) m))
  where
    own : List ℕ
    own = take n (drop start places)

    long : length own ≡ n
    long = length-take-le n (drop start places) (omega (arith, length-drop start places))

-- none of few bytes falls out
lowered_few : (f : ℕ → ℕ) → ((x : ℕ) → f x < 256) → (k : ℕ) (xs : List ℕ) (w : ℕ) → k + length xs ≤ 6 → w < word_limit k
    → fold (λ (w x : ℕ). lower w (f x)) w xs ≡ word_from w (map f xs)
lowered_few f b k [] w n l = refl
lowered_few f b k (x ∷ xs) w n l =
    let e : lower w (f x) ≡ 256 * w + f x = omega (arith, limit_few k (omega arith)) in
    rw e (lowered_few f b (k + 1) xs (256 * w + f x) (omega arith) (limit_more w k (f x) l (b x)))

pub key_lowered : (n at start : ℕ) (part rows places : List ℕ) → length part ≡ 8 → at + 8 ≤ length rows → n ≤ 6 → start + n ≤ length places
    → ((k : ℕ) → k < n → get_or places (start + k) 0 ≡ place_under (key k) part) → ((i : ℕ) → get_or rows i 0 < 256)
    → fold (λ (w x : ℕ). lower w (argument_at rows at x)) 0 (take n (drop start places)) ≡ key_word n part (take 8 (drop at rows))
key_lowered n at start part rows places h g few room e b =
    lowered_few (argument_at rows at) (λ x. argument_small rows at x b) 0 (take n (drop start places)) 0
    (omega (arith, length-take-le n (drop start places) (omega (arith, length-drop start places)))) (omega arith)
    ∙ ap (word_from 0) (keyed_listed n at start part rows places h g few room e)
    ∙ word_all n part (take 8 (drop at rows))
