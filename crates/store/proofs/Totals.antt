-- Totals of an index: as a fact comes or goes, and what they say of the facts held. Assumes nothing.
use mathlib.Core.Path.{◌≡◌, refl, sym, ap, ap₂, ◌∙◌}
use mathlib.Core.Bool.{Bool, true, false, cond}
use mathlib.Core.Logic.{◌⊎◌, inl, inr}
use mathlib.Core.List.Memᴰ
use mathlib.Core.List.{List, [], ◌∷◌, ◌++◌}
use Prim.Native.Nat.{ℕ, zero, suc, ◌+◌, ◌-◌, ◌*◌, ◌%◌, ◌≤◌, ◌<◌}
use native.Mathlib.Omega.{arith}
use lib.Dec.{eqb}
use lib.ListN.{length, get_or, set, take, drop, length-set, length-drop}
use lib.Seq.{length-take-le, get_or-set_same, get_or-set_other, ext_get_or}
use borrow.Author.Tests.{eqb-true, eqb-false, eq-eqb, ne_eqb}
use Rattle.records.specs.Lists.{In, add_if, count_by, any, same_list}
use Rattle.records.proofs.Lists.{off, bool_cases, eqb_same, in_any, any_in, same_list_eq, same_list_self, count_pos, count_none}
use Rattle.literals.specs.Decode.{byte}
use Rattle.literals.specs.Held.{rows_in, keys_in, arity_in, component_rows_in}
use Rattle.store.specs.Held.{instance_rows, row_weight, has_row, note_at, fact_index, wrap, plus, added, keyed_added, with_fact, word_of, slot_of, key_slot, amount_at}
use Rattle.store.specs.Held.{total_at, Sized, Indexed}
use Rattle.store.proofs.InstanceRows.{Single, single}

-- ---- slots

pub slot_below : (row : List ℕ) → slot_of row < 4096
unfolding slot_of
slot_below row = omega arith

pub key_below : (t : List ℕ) → key_slot t < 4096
unfolding key_slot
key_below t = omega arith

-- ---- what one fact adds

-- the facts among some instances at a place
abbrev keyed_at : ℕ → List (List ℕ) → ℕ
keyed_at place ts = count_by (λ (t : List ℕ). eqb place (8192 + key_slot t)) ts

keyed_low : (place : ℕ) → place < 8192 → (ts : List (List ℕ)) → keyed_at place ts ≡ 0
keyed_low place h ts = count_none (λ (t : List ℕ). eqb place (8192 + key_slot t)) ts (λ t m e. let k = eqb-true place (8192 + key_slot t) e in omega arith)

module _ (keys : ℕ) (component_rows : List (List ℕ)) where
  amount_is : (place : ℕ) (row : List ℕ)
      → amount_at keys component_rows place row ≡ cond (eqb place (slot_of row)) 1 0 + cond (eqb place (4096 + slot_of row)) (word_of row) 0 + keyed_at place (instance_rows keys component_rows row)
  unfolding amount_at
  amount_is place row = refl

  -- at a slot
  amount_slot : (s : ℕ) → s < 4096 → (row : List ℕ) → amount_at keys component_rows s row ≡ cond (eqb s (slot_of row)) 1 0
  amount_slot s h row =
      let w = ne_eqb s (4096 + slot_of row) (λ e. omega arith) in
      let k = keyed_low s (omega arith) (instance_rows keys component_rows row) in
      amount_is s row ∙ rw (w, k) (omega arith)

  -- at the words of a slot
  amount_word : (s : ℕ) → s < 4096 → (row : List ℕ) → amount_at keys component_rows (4096 + s) row ≡ cond (eqb s (slot_of row)) (word_of row) 0
  amount_word s h row =
      let b = slot_below row in
      let w = ne_eqb (4096 + s) (slot_of row) (λ e. omega arith) in
      let k = keyed_low (4096 + s) (omega arith) (instance_rows keys component_rows row) in
      amount_is (4096 + s) row ∙ rw (w, k) (go (bool_cases (eqb s (slot_of row))))
    where
      go : (eqb s (slot_of row) ≡ true) ⊎ (eqb s (slot_of row) ≡ false) → 0 + cond (eqb (4096 + s) (4096 + slot_of row)) (word_of row) 0 + 0 ≡ cond (eqb s (slot_of row)) (word_of row) 0
      go (inl t) = rw (t, eq-eqb (4096 + s) (4096 + slot_of row) (ap (λ (n : ℕ). 4096 + n) (eqb-true s (slot_of row) t))) (omega arith)
      go (inr f) = rw (f, ne_eqb (4096 + s) (4096 + slot_of row) (λ e. eqb-false s (slot_of row) f (omega arith)))

  -- at the slot of an instance
  amount_key : (s : ℕ) (row : List ℕ) → amount_at keys component_rows (8192 + s) row ≡ keyed_at (8192 + s) (instance_rows keys component_rows row)
  amount_key s row =
      let b = slot_below row in
      let f = ne_eqb (8192 + s) (slot_of row) (λ e. omega arith) in
      let w = ne_eqb (8192 + s) (4096 + slot_of row) (λ e. omega arith) in
      amount_is (8192 + s) row ∙ rw (f, w) (omega arith)

  -- ---- totals

  module _ (place : ℕ) where
    total_none : total_at keys component_rows place [] ≡ 0
    unfolding total_at
    total_none = refl

    total_cons : (row : List ℕ) (rows : List (List ℕ)) → total_at keys component_rows place (row ∷ rows) ≡ amount_at keys component_rows place row + total_at keys component_rows place rows
    unfolding total_at
    total_cons row rows = refl

    total_append : (xs ys : List (List ℕ)) → total_at keys component_rows place (xs ++ ys) ≡ total_at keys component_rows place xs + total_at keys component_rows place ys
    total_append [] ys = omega (arith, total_none)
    total_append (x ∷ xs) ys = omega (arith, total_cons x (xs ++ ys), total_cons x xs, total_append xs ys)

  -- the facts of a slot
  module _ (s : ℕ) (h : s < 4096) where
    abbrev here : List ℕ → Bool
    here row = eqb s (slot_of row)

    total_slot : (rows : List (List ℕ)) → total_at keys component_rows s rows ≡ count_by here rows
    total_slot [] = total_none s
    total_slot (x ∷ xs) = total_cons s x xs ∙ ap₂ ◌+◌ (amount_slot s h x) (total_slot xs) ∙ go (here x)
      where
        go : (b : Bool) → cond b 1 0 + count_by here xs ≡ add_if b (count_by here xs)
        go true = omega arith
        go false = omega arith

    words_none : (rows : List (List ℕ)) → count_by here rows ≡ 0 → total_at keys component_rows (4096 + s) rows ≡ 0
    words_none [] e = total_none (4096 + s)
    words_none (x ∷ xs) e = total_cons (4096 + s) x xs ∙ ap (λ (n : ℕ). n + total_at keys component_rows (4096 + s) xs) (amount_word s h x) ∙ go (here x) e (λ f. words_none xs f)
      where
        go : (b : Bool) → add_if b (count_by here xs) ≡ 0 → (count_by here xs ≡ 0 → total_at keys component_rows (4096 + s) xs ≡ 0) → cond b (word_of x) 0 + total_at keys component_rows (4096 + s) xs ≡ 0
        go true f ih = absurd (omega arith)
        go false f ih = omega (arith, ih f)

    -- one fact in a slot, whose word stands there
    pub record Sole (rows : List (List ℕ)) : Type 0 where
      pub fact : List ℕ
      pub held : In fact rows
      pub word : total_at keys component_rows (4096 + s) rows ≡ word_of fact
      pub alone : (row : List ℕ) → In row rows → slot_of row ≡ s → row ≡ fact

    sole : (rows : List (List ℕ)) → count_by here rows ≡ 1 → Sole rows
    sole [] e = absurd (omega arith)
    sole (x ∷ xs) e = go (here x) refl e (λ f. sole xs f)
      where
        step : (b : Bool) → here x ≡ b → total_at keys component_rows (4096 + s) (x ∷ xs) ≡ cond b (word_of x) 0 + total_at keys component_rows (4096 + s) xs
        step b t = total_cons (4096 + s) x xs ∙ ap (λ (n : ℕ). n + total_at keys component_rows (4096 + s) xs) (amount_word s h x ∙ ap (λ (b : Bool). cond b (word_of x) 0) t)

        only : count_by here xs ≡ 0 → (row : List ℕ) → In row (x ∷ xs) → slot_of row ≡ s → row ≡ x
        only f row (Memᴰ.head g) k = g
        only f row (Memᴰ.tail m) k = absurd (let z = count_pos here m (eq-eqb s (slot_of row) (sym k)) in omega arith)

        behind : (here x ≡ false) → (r : Sole xs) → (row : List ℕ) → In row (x ∷ xs) → slot_of row ≡ s → row ≡ r.fact
        behind t r row (Memᴰ.head g) k = absurd (eqb-false s (slot_of x) t (sym k ∙ ap slot_of g))
        behind t r row (Memᴰ.tail m) k = r.alone row m k

        go : (b : Bool) → here x ≡ b → add_if b (count_by here xs) ≡ 1 → (count_by here xs ≡ 1 → Sole xs) → Sole (x ∷ xs)
        go true t f ih =
            let z : count_by here xs ≡ 0 = omega arith in
            record { fact = x; held = Memᴰ.head refl; word = step true t ∙ omega (arith, words_none xs z); alone = only z }
        go false t f ih =
            let r = ih f in
            record { fact = r.fact; held = Memᴰ.tail r.held; word = step false t ∙ omega (arith, r.word); alone = behind t r }

  -- the facts whose instances have a slot
  module _ (s : ℕ) where
    instances_few : (row : List ℕ) → keyed_at (8192 + s) (instance_rows keys component_rows row) ≤ 1
    instances_few row = go (single keys component_rows row)
      where
        one : (b : Bool) → add_if b 0 ≤ 1
        one true = omega arith
        one false = omega arith

        go : Single (instance_rows keys component_rows row) → keyed_at (8192 + s) (instance_rows keys component_rows row) ≤ 1
        go (inl e) = rw e (omega arith)
        go (inr (t, e)) = rw e (one (eqb (8192 + s) (8192 + key_slot t)))

    total_few : (rows : List (List ℕ)) → total_at keys component_rows (8192 + s) rows ≤ length rows
    total_few [] = omega (arith, total_none (8192 + s))
    total_few (x ∷ xs) = omega (arith, total_cons (8192 + s) x xs, amount_key s x, instances_few x, total_few xs)

  weighs_few : (row : List ℕ) (ts : List (List ℕ)) → add_if (any (same_list eqb row) ts) 0 ≤ keyed_at (8192 + key_slot row) ts
  weighs_few row ts = go (any (same_list eqb row) ts) refl
    where
      go : (b : Bool) → any (same_list eqb row) ts ≡ b → add_if b 0 ≤ keyed_at (8192 + key_slot row) ts
      go true t =
          let r = any_in (same_list eqb row) ts t in
          count_pos (λ (t : List ℕ). eqb (8192 + key_slot row) (8192 + key_slot t)) r.1
          (eq-eqb (8192 + key_slot row) (8192 + key_slot r.0) (ap (λ (l : List ℕ). 8192 + key_slot l) (same_list_eq eqb eqb-true row r.0 r.2)))
      go false t = omega arith

  weight_few : (row : List ℕ) (rows : List (List ℕ)) → row_weight keys component_rows rows row ≤ total_at keys component_rows (8192 + key_slot row) rows
  unfolding row_weight
  weight_few row [] = omega arith
  weight_few row (x ∷ xs) =
      let w = weighs_few row (instance_rows keys component_rows x) in
      let e = total_cons (8192 + key_slot row) x xs in
      let a = amount_key (key_slot row) x in
      go (any (same_list eqb row) (instance_rows keys component_rows x)) (count_by (λ (fact : List ℕ). any (same_list eqb row) (instance_rows keys component_rows fact)) xs)
      (total_at keys component_rows (8192 + key_slot row) (x ∷ xs)) (total_at keys component_rows (8192 + key_slot row) xs)
      (omega arith) (weight_few row xs)
    where
      go : (b : Bool) (m n k : ℕ) → add_if b 0 + k ≤ n → m ≤ k → add_if b m ≤ n
      go true m n k f g = omega arith
      go false m n k f g = omega arith

-- ---- one number more, or less

module _ (index after : List ℕ) (p v : ℕ) (inside : p < length index) (place sum : ℕ) where
  more_at : after ≡ set index p (plus (get_or index p 0) v)
      → get_or index place 0 ≡ sum % wrap → get_or after place 0 ≡ (sum + cond (eqb place p) v 0) % wrap
  more_at e f = ap (λ (l : List ℕ). get_or l place 0) e ∙ go (bool_cases (eqb place p))
    where
      go : (eqb place p ≡ true) ⊎ (eqb place p ≡ false)
          → get_or (set index p (plus (get_or index p 0) v)) place 0 ≡ (sum + cond (eqb place p) v 0) % wrap
      go (inl t) =
          let q = eqb-true place p t in
          let g : get_or index p 0 ≡ sum % wrap = ap (λ (k : ℕ). get_or index k 0) (sym q) ∙ f in
          ap (λ (k : ℕ). get_or (set index p (plus (get_or index p 0) v)) k 0) q
          ∙ get_or-set_same index p (plus (get_or index p 0) v) 0 inside
          ∙ rw t (omega arith)
      go (inr t) = get_or-set_other index p place (plus (get_or index p 0) v) 0 (eqb-false place p t) ∙ rw t (omega arith)

  less_at : v < wrap → after ≡ set index p (plus (get_or index p 0) (wrap - v))
      → get_or index place 0 ≡ (sum + cond (eqb place p) v 0) % wrap → get_or after place 0 ≡ sum % wrap
  less_at small e f = ap (λ (l : List ℕ). get_or l place 0) e ∙ go (eqb place p) refl f
    where
      go : (b : Bool) → eqb place p ≡ b → get_or index place 0 ≡ (sum + cond b v 0) % wrap
          → get_or (set index p (plus (get_or index p 0) (wrap - v))) place 0 ≡ sum % wrap
      go true t h =
          let q = eqb-true place p t in
          let g : get_or index p 0 ≡ (sum + v) % wrap = ap (λ (k : ℕ). get_or index k 0) (sym q) ∙ h in
          ap (λ (k : ℕ). get_or (set index p (plus (get_or index p 0) (wrap - v))) k 0) q
          ∙ get_or-set_same index p (plus (get_or index p 0) (wrap - v)) 0 inside
          ∙ omega arith
      go false t h = get_or-set_other index p place (plus (get_or index p 0) (wrap - v)) 0 (eqb-false place p t) ∙ h ∙ omega arith

-- ---- bytes

-- each number is a byte
abbrev pub Bytes : List ℕ → Type 0
Bytes row = (i : ℕ) → byte row i < 256

digit : (a b c d : ℕ) → b < 256 → d < 256 → a * 256 + b ≡ c * 256 + d → (a ≡ c) × (b ≡ d)
digit a b c d h k e = (omega arith, omega arith)

word_small : (x : List ℕ) → Bytes x → word_of x < wrap
unfolding word_of
word_small x b = omega (arith, b 0, b 2, b 3, b 4, b 5, b 6, b 7)

-- equal words are those of equal rows, where the same relation has the same arity
module _ (x y : List ℕ) (bx : (i : ℕ) → 2 ≤ i → byte x i < 256) (by : (i : ℕ) → 2 ≤ i → byte y i < 256) where
  pub word_same : length x ≡ 8 → length y ≡ 8 → word_of x ≡ word_of y → (byte x 0 ≡ byte y 0 → byte x 1 ≡ byte y 1) → x ≡ y
  unfolding word_of
  word_same lx ly e f =
      let d7 = digit _ (byte x 7) _ (byte y 7) (bx 7 (omega arith)) (by 7 (omega arith)) e in
      let d6 = digit _ (byte x 6) _ (byte y 6) (bx 6 (omega arith)) (by 6 (omega arith)) d7.0 in
      let d5 = digit _ (byte x 5) _ (byte y 5) (bx 5 (omega arith)) (by 5 (omega arith)) d6.0 in
      let d4 = digit _ (byte x 4) _ (byte y 4) (bx 4 (omega arith)) (by 4 (omega arith)) d5.0 in
      let d3 = digit _ (byte x 3) _ (byte y 3) (bx 3 (omega arith)) (by 3 (omega arith)) d4.0 in
      let d2 = digit _ (byte x 2) _ (byte y 2) (bx 2 (omega arith)) (by 2 (omega arith)) d3.0 in
      ext_get_or 0 x y (lx ∙ sym ly) (λ i h. pick i (omega arith) d2.0 (f d2.0) d2.1 d3.1 d4.1 d5.1 d6.1 d7.1)
    where
      pick : (i : ℕ) → i < 8 → byte x 0 ≡ byte y 0 → byte x 1 ≡ byte y 1 → byte x 2 ≡ byte y 2 → byte x 3 ≡ byte y 3 → byte x 4 ≡ byte y 4 → byte x 5 ≡ byte y 5
          → byte x 6 ≡ byte y 6 → byte x 7 ≡ byte y 7 → byte x i ≡ byte y i
      pick zero h e0 e1 e2 e3 e4 e5 e6 e7 = e0
      pick (suc zero) h e0 e1 e2 e3 e4 e5 e6 e7 = e1
      pick (suc (suc zero)) h e0 e1 e2 e3 e4 e5 e6 e7 = e2
      pick (suc (suc (suc zero))) h e0 e1 e2 e3 e4 e5 e6 e7 = e3
      pick (suc (suc (suc (suc zero)))) h e0 e1 e2 e3 e4 e5 e6 e7 = e4
      pick (suc (suc (suc (suc (suc zero))))) h e0 e1 e2 e3 e4 e5 e6 e7 = e5
      pick (suc (suc (suc (suc (suc (suc zero)))))) h e0 e1 e2 e3 e4 e5 e6 e7 = e6
      pick (suc (suc (suc (suc (suc (suc (suc zero))))))) h e0 e1 e2 e3 e4 e5 e6 e7 = e7
      pick (suc (suc (suc (suc (suc (suc (suc (suc i)))))))) h e0 e1 e2 e3 e4 e5 e6 e7 = absurd (omega arith)

-- ---- a fact that comes, or goes

module _ (keys : ℕ) (component_rows : List (List ℕ)) (row : List ℕ) where
  amount_by : (s w place : ℕ) → s ≡ slot_of row → w ≡ word_of row
      → amount_at keys component_rows place row ≡ cond (eqb place s) 1 0 + cond (eqb place (4096 + s)) w 0 + keyed_at place (instance_rows keys component_rows row)
  amount_by s w place e f =
      amount_is keys component_rows place row
      ∙ ap₂ (λ (m n : ℕ). cond (eqb place m) 1 0 + cond (eqb place (4096 + m)) n 0 + keyed_at place (instance_rows keys component_rows row)) (sym e) (sym f)

  one_key : (place k : ℕ) (t : List ℕ) → instance_rows keys component_rows row ≡ t ∷ [] → k ≡ key_slot t → keyed_at place (instance_rows keys component_rows row) ≡ cond (eqb place (8192 + k)) 1 0
  one_key place k t z q = ap (keyed_at place) z ∙ go (eqb place (8192 + key_slot t)) ∙ ap (λ (n : ℕ). cond (eqb place (8192 + n)) 1 0) (sym q)
    where
      go : (b : Bool) → add_if b 0 ≡ cond b 1 0
      go true = refl
      go false = refl

-- two numbers more
module _ (index first second : List ℕ) (s w : ℕ) (len : length index ≡ fact_index) (small : s < 4096) (m : first ≡ set index s (plus (get_or index s 0) 1))
    (n : second ≡ set first (4096 + s) (plus (get_or first (4096 + s) 0) w)) where
  length_more : length second ≡ fact_index
  length_more = ap length n ∙ simp length-set (ap length m ∙ simp length-set len)

  two_more : (place sum : ℕ) → get_or index place 0 ≡ sum % wrap → get_or second place 0 ≡ (sum + cond (eqb place s) 1 0 + cond (eqb place (4096 + s)) w 0) % wrap
  two_more place sum h =
      let l : length first ≡ fact_index = ap length m ∙ simp length-set len in
      more_at first second (4096 + s) w (omega arith) place (sum + cond (eqb place s) 1 0) n (more_at index first s 1 (omega arith) place sum m h)

-- and less
module _ (index first second : List ℕ) (s w : ℕ) (len : length index ≡ fact_index) (small : s < 4096) (few : w < wrap)
    (m : first ≡ set index s (plus (get_or index s 0) (wrap - 1)))
    (n : second ≡ set first (4096 + s) (plus (get_or first (4096 + s) 0) (wrap - w))) where
  length_less : length second ≡ fact_index
  length_less = ap length n ∙ simp length-set (ap length m ∙ simp length-set len)

  two_less : (place sum : ℕ) → get_or index place 0 ≡ (sum + cond (eqb place (4096 + s)) w 0 + cond (eqb place s) 1 0) % wrap → get_or second place 0 ≡ sum % wrap
  two_less place sum h =
      let l : length first ≡ fact_index = ap length m ∙ simp length-set len in
      less_at first second (4096 + s) w (omega arith) place sum few n
      (less_at index first s 1 (omega arith) place (sum + cond (eqb place (4096 + s)) w 0) (omega arith) m h)

-- an index with one fact more
module _ {head index : List ℕ} {rows : List (List ℕ)} (I : Indexed head index rows) (row : List ℕ) (sized : byte row 1 ≡ arity_in head (byte row 0)) where
  joined : (last : List ℕ) → length last ≡ fact_index → ((place : ℕ) → place < note_at → get_or last place 0 ≡ (total_at (keys_in head) (component_rows_in head) place rows + amount_at (keys_in head) (component_rows_in head) place row) % wrap)
      → Indexed head last (rows ++ (row ∷ []))
  joined last l h = record { numbers = l; totals = sums; sized = all_sized }
    where
      sums : (place : ℕ) → place < note_at → get_or last place 0 ≡ total_at (keys_in head) (component_rows_in head) place (rows ++ (row ∷ [])) % wrap
      sums place b =
          h place b
          ∙ ap (λ (n : ℕ). n % wrap) (omega (arith, total_append (keys_in head) (component_rows_in head) place rows (row ∷ []), total_cons (keys_in head) (component_rows_in head) place row [], total_none (keys_in head) (component_rows_in head) place))

      new : (r : List ℕ) → In r rows ⊎ In r (row ∷ []) → byte r 1 ≡ arity_in head (byte r 0)
      new r (inl m) = I.sized r m
      new r (inr m) = let q = Memᴰ.eq_of_singleton m in ap (λ (x : List ℕ). byte x 1) q ∙ sized ∙ ap (λ (x : List ℕ). arity_in head (byte x 0)) (sym q)

      all_sized : Sized head (rows ++ (row ∷ []))
      all_sized r m = new r (Memᴰ.append_cases rows m)

  module _ (first second : List ℕ) (s w : ℕ) (e : s ≡ slot_of row) (f : w ≡ word_of row)
      (m : first ≡ set index s (plus (get_or index s 0) 1))
      (n : second ≡ set first (4096 + s) (plus (get_or first (4096 + s) 0) w)) where
    pub enter_none : instance_rows (keys_in head) (component_rows_in head) row ≡ [] → Indexed head second (rows ++ (row ∷ []))
    enter_none z =
        joined second (length_more index first second s w I.numbers (omega (arith, slot_below row)) m n)
        (λ place b. two_more index first second s w I.numbers (omega (arith, slot_below row)) m n place (total_at (keys_in head) (component_rows_in head) place rows) (I.totals place b)
        ∙ ap (λ (n : ℕ). n % wrap) (omega (arith, amount_by (keys_in head) (component_rows_in head) row s w place e f, ap (keyed_at place) z)))

    pub enter_one : (t third : List ℕ) (k : ℕ) → instance_rows (keys_in head) (component_rows_in head) row ≡ t ∷ [] → k ≡ key_slot t
        → third ≡ set second (8192 + k) (plus (get_or second (8192 + k) 0) 1) → Indexed head third (rows ++ (row ∷ []))
    enter_one t third k z q o =
        let b = slot_below row in
        let l = length_more index first second s w I.numbers (omega arith) m n in
        joined third (ap length o ∙ simp length-set l)
        (λ place b. more_at second third (8192 + k) 1 (omega (arith, key_below t)) place
        (total_at (keys_in head) (component_rows_in head) place rows + cond (eqb place s) 1 0 + cond (eqb place (4096 + s)) w 0) o
        (two_more index first second s w I.numbers (omega (arith, slot_below row)) m n place (total_at (keys_in head) (component_rows_in head) place rows) (I.totals place b))
        ∙ ap (λ (n : ℕ). n % wrap) (omega (arith, amount_by (keys_in head) (component_rows_in head) row s w place e f, one_key (keys_in head) (component_rows_in head) row place k t z q)))

-- and with one less
module _ {head index : List ℕ} (before after : List (List ℕ)) (row : List ℕ) (I : Indexed head index (before ++ (row ∷ after))) where
  rest : (last : List ℕ) → length last ≡ fact_index → ((place : ℕ) → get_or index place 0 ≡ (total_at (keys_in head) (component_rows_in head) place (before ++ after) + amount_at (keys_in head) (component_rows_in head) place row) % wrap
      → get_or last place 0 ≡ total_at (keys_in head) (component_rows_in head) place (before ++ after) % wrap) → Indexed head last (before ++ after)
  rest last l h = record { numbers = l; totals = sums; sized = all_sized }
    where
      sums : (place : ℕ) → place < note_at → get_or last place 0 ≡ total_at (keys_in head) (component_rows_in head) place (before ++ after) % wrap
      sums place b =
          h place
          (I.totals place b
          ∙ ap (λ (n : ℕ). n % wrap)
          (omega (arith, total_append (keys_in head) (component_rows_in head) place before (row ∷ after), total_append (keys_in head) (component_rows_in head) place before after, total_cons (keys_in head) (component_rows_in head) place row after)))

      old : (r : List ℕ) → In r before ⊎ In r after → In r (before ++ (row ∷ after))
      old r (inl m) = Memᴰ.append_left (row ∷ after) m
      old r (inr m) = Memᴰ.append_right before (Memᴰ.tail m)

      all_sized : Sized head (before ++ after)
      all_sized r m = I.sized r (old r (Memᴰ.append_cases before m))

  module _ (first second : List ℕ) (s w : ℕ) (e : s ≡ slot_of row) (f : w ≡ word_of row) (few : w < wrap)
      (m : first ≡ set index s (plus (get_or index s 0) (wrap - 1)))
      (n : second ≡ set first (4096 + s) (plus (get_or first (4096 + s) 0) (wrap - w))) where
    pub leave_none : instance_rows (keys_in head) (component_rows_in head) row ≡ [] → Indexed head second (before ++ after)
    leave_none z =
        rest second (length_less index first second s w I.numbers (omega (arith, slot_below row)) few m n)
        (λ place g. two_less index first second s w I.numbers (omega (arith, slot_below row)) few m n place (total_at (keys_in head) (component_rows_in head) place (before ++ after))
        (g ∙ ap (λ (n : ℕ). n % wrap) (omega (arith, amount_by (keys_in head) (component_rows_in head) row s w place e f, ap (keyed_at place) z))))

    pub leave_one : (t third : List ℕ) (k : ℕ) → instance_rows (keys_in head) (component_rows_in head) row ≡ t ∷ [] → k ≡ key_slot t
        → third ≡ set second (8192 + k) (plus (get_or second (8192 + k) 0) (wrap - 1)) → Indexed head third (before ++ after)
    leave_one t third k z q o =
        let b = slot_below row in
        let l = length_less index first second s w I.numbers (omega arith) few m n in
        rest third (ap length o ∙ simp length-set l)
        (λ place g. less_at second third (8192 + k) 1 (omega (arith, key_below t)) place (total_at (keys_in head) (component_rows_in head) place (before ++ after)) (omega arith) o
        (two_less index first second s w I.numbers (omega (arith, slot_below row)) few m n place (total_at (keys_in head) (component_rows_in head) place (before ++ after) + cond (eqb place (8192 + k)) 1 0)
        (g ∙ ap (λ (n : ℕ). n % wrap) (omega (arith, amount_by (keys_in head) (component_rows_in head) row s w place e f, one_key (keys_in head) (component_rows_in head) row place k t z q)))))

-- ---- the three numbers of a fact

module _ (keys : ℕ) (component_rows : List (List ℕ)) (row index : List ℕ) (count word : ℕ) where
  -- as they are written one after the other
  module _ (s : ℕ) (e : s ≡ slot_of row) (first second : List ℕ) (m : first ≡ added s count index) (n : second ≡ added (4096 + s) word first) where
    both : second ≡ added (4096 + slot_of row) word (added (slot_of row) count index)
    both = n ∙ ap₂ (λ (j : ℕ) (l : List ℕ). added (4096 + j) word l) e (m ∙ ap (λ (j : ℕ). added j count index) e)

    pub with_none : instance_rows keys component_rows row ≡ [] → second ≡ with_fact keys component_rows row count word index
    unfolding with_fact
    with_none z = both ∙ sym (ap (λ (ts : List (List ℕ)). keyed_added ts count (added (4096 + slot_of row) word (added (slot_of row) count index))) z)

    pub with_one : (t third : List ℕ) (k : ℕ) → instance_rows keys component_rows row ≡ t ∷ [] → k ≡ key_slot t → third ≡ added (8192 + k) count second
        → third ≡ with_fact keys component_rows row count word index
    unfolding with_fact
    with_one t third k z q o =
        o ∙ ap₂ (λ (j : ℕ) (l : List ℕ). added (8192 + j) count l) q both
        ∙ sym (ap (λ (ts : List (List ℕ)). keyed_added ts count (added (4096 + slot_of row) word (added (slot_of row) count index))) z)

-- a fact that comes
pub entered : {head index : List ℕ} {rows : List (List ℕ)} → Indexed head index rows → (row : List ℕ) → byte row 1 ≡ arity_in head (byte row 0) → (w : ℕ) → w ≡ word_of row
    → (last : List ℕ) → last ≡ with_fact (keys_in head) (component_rows_in head) row 1 w index → Indexed head last (rows ++ (row ∷ []))
unfolding with_fact
entered {head} {index} {rows} I row sized w f last e = go (single (keys_in head) (component_rows_in head) row)
  where
    first : List ℕ
    first = added (slot_of row) 1 index

    second : List ℕ
    second = added (4096 + slot_of row) w first

    by : (ts : List (List ℕ)) → instance_rows (keys_in head) (component_rows_in head) row ≡ ts → last ≡ keyed_added ts 1 second
    by ts z = e ∙ ap (λ (ts : List (List ℕ)). keyed_added ts 1 second) z

    go : Single (instance_rows (keys_in head) (component_rows_in head) row) → Indexed head last (rows ++ (row ∷ []))
    go (inl z) = rw (by [] z) (enter_none I row sized first second (slot_of row) w refl f refl refl z)
    go (inr (t, z)) = enter_one I row sized first second (slot_of row) w refl f refl refl t last (key_slot t) z refl (by (t ∷ []) z)

-- and one that goes
pub left : {head index : List ℕ} (before after : List (List ℕ)) (row : List ℕ) → Indexed head index (before ++ (row ∷ after)) → (w : ℕ) → w ≡ word_of row → w < wrap
    → (last : List ℕ) → last ≡ with_fact (keys_in head) (component_rows_in head) row (wrap - 1) (wrap - w) index → Indexed head last (before ++ after)
unfolding with_fact
left {head} {index} before after row I w f few last e = go (single (keys_in head) (component_rows_in head) row)
  where
    first : List ℕ
    first = added (slot_of row) (wrap - 1) index

    second : List ℕ
    second = added (4096 + slot_of row) (wrap - w) first

    by : (ts : List (List ℕ)) → instance_rows (keys_in head) (component_rows_in head) row ≡ ts → last ≡ keyed_added ts (wrap - 1) second
    by ts z = e ∙ ap (λ (ts : List (List ℕ)). keyed_added ts (wrap - 1) second) z

    go : Single (instance_rows (keys_in head) (component_rows_in head) row) → Indexed head last (before ++ after)
    go (inl z) = rw (by [] z) (leave_none before after row I first second (slot_of row) w refl f few refl refl z)
    go (inr (t, z)) = leave_one before after row I first second (slot_of row) w refl f few refl refl t last (key_slot t) z refl (by (t ∷ []) z)

-- ---- whether a fact is held

take_bytes : (n : ℕ) (l : List ℕ) → Bytes l → Bytes (take n l)
take_bytes zero l b i = omega arith
take_bytes (suc n) [] b i = omega arith
take_bytes (suc n) (x ∷ xs) b zero = b 0
take_bytes (suc n) (x ∷ xs) b (suc i) = take_bytes n xs (λ j. b (suc j)) i

drop_bytes : (n : ℕ) (l : List ℕ) → Bytes l → Bytes (drop n l)
drop_bytes zero l b = b
drop_bytes (suc n) [] b = b
drop_bytes (suc n) (x ∷ xs) b = drop_bytes n xs (λ j. b (suc j))

-- eight of them
abbrev pub Eight : List ℕ → Type 0
Eight row = (length row ≡ 8) × Bytes row

pub rows_eight : (n : ℕ) (t : List ℕ) → 8 * n ≤ length t → Bytes t → (row : List ℕ) → In row (rows_in n t) → Eight row
rows_eight zero t h b row m = absurd (Memᴰ.not-nil m)
rows_eight (suc n) t h b row (Memᴰ.head e) =
    (ap length e ∙ length-take-le 8 t (omega arith), λ i. let z = take_bytes 8 t b i in let q = ap (λ (l : List ℕ). byte l i) e in omega arith)
rows_eight (suc n) t h b row (Memᴰ.tail m) = rows_eight n (drop 8 t) (omega (arith, length-drop 8 t)) (drop_bytes 8 t b) row m

count_few : (p : List ℕ → Bool) (l : List (List ℕ)) → count_by p l ≤ length l
count_few p [] = omega arith
count_few p (x ∷ xs) = go (p x) (count_few p xs)
  where
    go : (b : Bool) → count_by p xs ≤ length xs → add_if b (count_by p xs) ≤ suc (length xs)
    go true h = omega arith
    go false h = omega arith

module _ {head : List ℕ} (index : List ℕ) (rows : List (List ℕ)) (I : Indexed head index rows) (few : length rows < wrap) where
  module _ (row : List ℕ) (s : ℕ) (e : s ≡ slot_of row) where
    count_at : get_or index s 0 ≡ count_by (λ (r : List ℕ). eqb s (slot_of r)) rows
    count_at =
        I.totals s (omega (arith, slot_below row))
        ∙ omega (arith, total_slot (keys_in head) (component_rows_in head) s (omega (arith, slot_below row)) rows, count_few (λ (r : List ℕ). eqb s (slot_of r)) rows)

    pub held_none : get_or index s 0 ≡ 0 → false ≡ has_row row rows
    held_none z =
        sym
        (off (has_row row rows)
        (λ t.
        let r = any_in (same_list eqb row) rows t in
        let k = count_pos (λ (x : List ℕ). eqb s (slot_of x)) r.1 (eq-eqb s (slot_of r.0) (e ∙ ap slot_of (same_list_eq eqb eqb-true row r.0 r.2))) in
        omega (arith, count_at)))

    module _ (z : get_or index s 0 ≡ 1) (w : ℕ) (f : w ≡ word_of row) (eight : Eight row) (all-eight : (r : List ℕ) → In r rows → Eight r) (sized : byte row 1 ≡ arity_in head (byte row 0)) where
      one : Sole (keys_in head) (component_rows_in head) s (omega (arith, slot_below row)) rows
      one = sole (keys_in head) (component_rows_in head) s (omega (arith, slot_below row)) rows (sym count_at ∙ z)

      word_at : get_or index (4096 + s) 0 ≡ word_of one.fact
      word_at = I.totals (4096 + s) (omega (arith, slot_below row)) ∙ omega (arith, one.word, word_small one.fact (all-eight one.fact one.held).1)

      pub held_one : eqb (get_or index (4096 + s) 0) w ≡ has_row row rows
      held_one = go (eqb (get_or index (4096 + s) 0) w) refl
        where
          go : (b : Bool) → eqb (get_or index (4096 + s) 0) w ≡ b → b ≡ has_row row rows
          go true t =
              let g = all-eight one.fact one.held in
              let q = word_same row one.fact (λ i h. eight.1 i) (λ i h. g.1 i) eight.0 g.0 (sym f ∙ sym (eqb-true (get_or index (4096 + s) 0) w t) ∙ word_at)
              (λ b. sized ∙ ap (arity_in head) b ∙ sym (I.sized one.fact one.held)) in
              sym (in_any (same_list eqb row) one.held (ap (same_list eqb row) (sym q) ∙ same_list_self eqb eqb_same row))
          go false t =
              sym
              (off (has_row row rows)
              (λ u.
              let r = any_in (same_list eqb row) rows u in
              let q = same_list_eq eqb eqb-true row r.0 r.2 in
              let a = one.alone r.0 r.1 (ap slot_of (sym q) ∙ sym e) in
              eqb-false (get_or index (4096 + s) 0) w t (word_at ∙ ap word_of (sym (q ∙ a)) ∙ sym f)))

  -- the weight of an instance is no more than the facts at its slot
  pub weight_most : (t : List ℕ) (k : ℕ) → k ≡ key_slot t → row_weight (keys_in head) (component_rows_in head) rows t ≤ get_or index (8192 + k) 0
  weight_most t k e =
      let g = I.totals (8192 + key_slot t) (omega (arith, key_below t)) in
      let q = ap (λ (n : ℕ). get_or index (8192 + n) 0) e in
      omega (arith, weight_few (keys_in head) (component_rows_in head) t rows, total_few (keys_in head) (component_rows_in head) (key_slot t) rows)
