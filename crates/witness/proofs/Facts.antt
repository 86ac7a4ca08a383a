-- The bytes of the witness's facts, by the rows that they are taken from: laws of the functions that write them. Assumes nothing.
use mathlib.Core.Path.{◌≡◌, refl, sym, ap, ap₂, ◌∙◌}
use mathlib.Core.Bool.{Bool, true, false, cond}
use mathlib.Core.Logic.{◌⊎◌, inl, inr}
use mathlib.Core.List.Memᴰ
use mathlib.Core.List.{List, [], ◌∷◌, ◌++◌, flat_map, append-nil}
use Prim.Native.Nat.{ℕ, zero, suc, ◌+◌, ◌*◌, ◌≤◌, ◌<◌}
use native.Mathlib.Numerals.{add-one}
use native.Mathlib.Omega.{arith}
use lib.ListN.{length, get_or, take, drop, length-append, length-drop}
use lib.Seq.{length-take-le, paste}
use Rattle.std.proofs.lemmas.List.{take-append-drop}
use borrow.Author.Tests.{eq-eqb}
use Rattle.records.specs.Lists.{In, add_if, keep_if, count_by}
use Rattle.records.specs.Memory.{over}
use Rattle.records.proofs.Lists.{in_keep_if, count_append, flat_map_append}
use Rattle.records.proofs.Memory.{length_over, over_paste}
use Rattle.literals.specs.Held.{rows_in, bytes_from, arity_in}
use Rattle.literals.proofs.Rows.{rows_last, rows_whole}
use Rattle.literals.proofs.Tables.{length_flat}
use Rattle.literals.proofs.Heads.{length_bytes, bytes_front, bytes_more}
use Rattle.literals.proofs.KeyRows.{length_rows}
use Rattle.witness.specs.Held.{first_usages, select_by, is_condition, condition_bytes, condition_of, condition_if, conditions_of}

-- ---- the first usages, and how many of them pass

first_more : (l : List ℕ) (j : ℕ) → first_usages (j + 1) l ≡ first_usages j l ++ (get_or l j 0 ∷ [])
first_more l j =
    let e : 0 + j ≡ j = omega arith in
    ap (λ (n : ℕ). first_usages n l) (add-one j) ∙ bytes_more l 0 j ∙ ap (λ (i : ℕ). first_usages j l ++ (get_or l i 0 ∷ [])) e

module _ (p : ℕ → Bool) (l : List ℕ) where
  pub count_more : (j : ℕ) {b : Bool} → p (get_or l j 0) ≡ b → count_by p (first_usages (j + 1) l) ≡ count_by p (first_usages j l) + add_if b 0
  count_more j t =
      ap (count_by p) (first_more l j)
      ∙ count_append p (first_usages j l) (get_or l j 0 ∷ [])
      ∙ ap (λ (b : Bool). count_by p (first_usages j l) + add_if b 0) t

  count_from_lem : (k j n : ℕ) → j ≤ n → count_by p (bytes_from l k j) ≤ count_by p (bytes_from l k n)
  count_from_lem k zero n h = omega arith
  count_from_lem k (suc j) zero h = absurd (omega arith)
  count_from_lem k (suc j) (suc n) h = go (p (get_or l k 0)) (count_from_lem (suc k) j n (omega arith))
    where
      go : (b : Bool) → count_by p (bytes_from l (suc k) j) ≤ count_by p (bytes_from l (suc k) n)
          → add_if b (count_by p (bytes_from l (suc k) j)) ≤ add_if b (count_by p (bytes_from l (suc k) n))
      go true e = omega arith
      go false e = e

  pub count_le : (j n : ℕ) → j ≤ n → count_by p (first_usages j l) ≤ count_by p (first_usages n l)
  count_le j n h = count_from_lem 0 j n h

-- they are the first bytes of a memory that has so many
pub first_taken : (n : ℕ) (l : List ℕ) → n ≤ length l → first_usages n l ≡ take n l
first_taken n l h =
    let k = length-take-le n l h in
    ap₂ first_usages (sym k) (sym (take-append-drop n l)) ∙ bytes_front (take n l) (drop n l)

-- ---- elements whose numbers pass

module _ {A B : Type 0} (p : A → Bool) where
  select_snoc : (xs : List A) (ys : List B) (x : A) (y : B) → length xs ≡ length ys
      → select_by p (xs ++ (x ∷ [])) (ys ++ (y ∷ [])) ≡ select_by p xs ys ++ keep_if (p x) y []
  select_snoc [] [] x y e = refl
  select_snoc [] (w ∷ ws) x y e = absurd (omega arith)
  select_snoc (v ∷ vs) [] x y e = absurd (omega arith)
  select_snoc (v ∷ vs) (w ∷ ws) x y e = go (p v) (select_snoc vs ws x y (omega arith))
    where
      go : (b : Bool) → select_by p (vs ++ (x ∷ [])) (ws ++ (y ∷ [])) ≡ select_by p vs ws ++ keep_if (p x) y []
          → keep_if b w (select_by p (vs ++ (x ∷ [])) (ws ++ (y ∷ []))) ≡ keep_if b w (select_by p vs ws) ++ keep_if (p x) y []
      go true h = ap {B = List B} (λ l. w ∷ l) h
      go false h = h

  pub select_in : (xs : List A) (ys : List B) {y : B} → In y (select_by p xs ys) → In y ys
  select_in [] ys m = absurd (Memᴰ.not-nil m)
  select_in (x ∷ xs) [] m = m
  select_in (x ∷ xs) (w ∷ ws) {y} m = go (λ k. select_in xs ws k) (in_keep_if (p x) w (select_by p xs ws) m)
    where
      go : (In y (select_by p xs ws) → In y ws) → ((p x ≡ true) × (y ≡ w)) ⊎ In y (select_by p xs ws) → In y (w ∷ ws)
      go ih (inl h) = Memᴰ.head h.1
      go ih (inr k) = Memᴰ.tail (ih k)

  pub length_select : (xs : List A) (ys : List B) → length xs ≡ length ys → length (select_by p xs ys) ≡ count_by p xs
  length_select [] ys e = refl
  length_select (x ∷ xs) [] e = absurd (omega arith)
  length_select (x ∷ xs) (w ∷ ws) e = go (p x) (length_select xs ws (omega arith))
    where
      go : (b : Bool) → length (select_by p xs ws) ≡ count_by p xs → length (keep_if b w (select_by p xs ws)) ≡ add_if b (count_by p xs)
      go true h = ap suc h
      go false h = h

-- ---- a condition's fact

length_condition : (arity : ℕ) (row : List ℕ) → length row ≡ 8 → length (condition_bytes arity row) ≡ 8
length_condition arity row e = let d = length-drop 2 row in omega arith

-- ---- those of all true conditions

module _ (head ks t : List ℕ) where
  -- those among the first j
  abbrev pub conditions_to : ℕ → List ℕ
  conditions_to j = conditions_of head (first_usages j ks) (rows_in j t)

  -- the one of the literal j
  abbrev condition_at : ℕ → List ℕ
  condition_at j = condition_if head (get_or ks j 0) (take 8 (drop (8 * j) t))

  conditions_more : (j : ℕ) → conditions_to (j + 1) ≡ conditions_to j ++ condition_at j
  unfolding conditions_of flat_map
  conditions_more j =
      let l = length_bytes ks 0 j in
      let r = length_rows 8 j t in
      ap₂ (conditions_of head) (first_more ks j) (ap (λ (n : ℕ). rows_in n t) (add-one j) ∙ rows_last j t)
      ∙ ap (flat_map (condition_of head)) (select_snoc is_condition (first_usages j ks) (rows_in j t) (get_or ks j 0) (take 8 (drop (8 * j) t)) (omega arith))
      ∙ flat_map_append (condition_of head) (select_by is_condition (first_usages j ks) (rows_in j t)) (keep_if (is_condition (get_or ks j 0)) (take 8 (drop (8 * j) t)) [])
      ∙ ap (λ (b : List ℕ). conditions_to j ++ b) (one (is_condition (get_or ks j 0)) (take 8 (drop (8 * j) t)))
    where
      one : (b : Bool) (row : List ℕ) → flat_map (condition_of head) (keep_if b row []) ≡ cond b (condition_of head row) []
      one true row = append-nil (condition_of head row)
      one false row = refl

  pub length_conditions : (j : ℕ) → 8 * j ≤ length t → length (conditions_to j) ≡ 8 * count_by is_condition (first_usages j ks)
  unfolding conditions_of
  length_conditions j g =
      let l = length_bytes ks 0 j in
      let r = length_rows 8 j t in
      let n = length_select is_condition (first_usages j ks) (rows_in j t) (omega arith) in
      let f = length_flat (condition_of head) (select_by is_condition (first_usages j ks) (rows_in j t)) (λ row m. length_condition (arity_in head (get_or row 1 0)) row (rows_whole j t g row (select_in is_condition (first_usages j ks) (rows_in j t) m))) in
      omega arith

  -- the loop that writes them: j rows are behind it
  module _ (n : ℕ) (old : List ℕ) (g : 8 * n ≤ length t) (f : 8 * count_by is_condition (first_usages n ks) ≤ length old) (j at : ℕ) (out : List ℕ)
      (i : j ≤ n) (a : at ≡ length (conditions_to j)) (o : out ≡ over (conditions_to j) old) where
    pub conditions_length : length out ≡ length old
    conditions_length =
        let l = length_conditions j (omega arith) in
        let c = count_le is_condition ks j n i in
        ap length o ∙ length_over (conditions_to j) old (omega arith)

    module _ (s : j < n) where
      pub conditions_room : get_or ks j 0 ≡ 1 → at + 8 ≤ length out
      conditions_room e =
          let l = length_conditions j (omega arith) in
          let k = count_more is_condition ks j (eq-eqb (get_or ks j 0) 1 e) in
          let c = count_le is_condition ks (j + 1) n (omega arith) in
          let d = conditions_length in
          omega arith

      pub conditions_at : (r : ℕ) → r ≡ at + length (condition_at j) → r ≡ length (conditions_to (j + 1))
      conditions_at r e = let k = ap length (conditions_more j) ∙ length-append (conditions_to j) (condition_at j) in omega arith

      pub conditions_out : (out' : List ℕ) → out' ≡ paste out at (condition_at j) (length (condition_at j)) → out' ≡ over (conditions_to (j + 1)) old
      conditions_out out' e =
          e
          ∙ ap (λ (x : List ℕ). paste x at (condition_at j) (length (condition_at j))) o
          ∙ over_paste (conditions_to j) old (condition_at j) at (length (condition_at j)) (sym a) refl
          ∙ sym (ap (λ (x : List ℕ). over x old) (conditions_more j))
