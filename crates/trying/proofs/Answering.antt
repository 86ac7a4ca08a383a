-- The answers as the code gives them: by cases for a class, and one byte more. Assumes nothing.
use mathlib.Core.Path.{◌≡◌, refl, sym, ap, ap₂, ◌∙◌}
use mathlib.Core.Bool.{Bool, true, false, not, ◌&&◌, cond}
use mathlib.Core.List.{List, [], ◌∷◌, ◌++◌, append-nil, append_assoc}
use Prim.Native.Nat.{ℕ, zero, suc, ◌+◌, ◌-◌, ◌*◌, ◌≤◌, ◌<◌}
use native.Mathlib.Nat.{sub-zero}
use native.Mathlib.Numerals.{add-one}
use native.Mathlib.Omega.{arith}
use lib.Dec.{eqb, leb}
use lib.ListN.{length, get_or, set, take, drop, take-append-drop, drop_of_length-le, length-append, length-map, length-drop}
use lib.Seq.{length-take-le, take-length, drop-append-le, drop-drop, take_at, paste}
use borrow.Author.Tests.{le-leb, lt-leb, eq-eqb, ne_eqb}
use Rattle.records.specs.Memory.{over}
use Rattle.records.proofs.Lists.{not_true, not_false, get_d_in}
use Rattle.records.proofs.Memory.{over_paste, paste_more, paste_front}
use Rattle.literals.specs.declared.Variable.{Variable}
use Rattle.literals.specs.Domain.{Action, Domain, no_action, action}
use Rattle.literals.specs.Held.{rows_in, actions_in, keys_in, component_rows_in, Held}
use Rattle.literals.proofs.Indices.{get_d_map}
use Rattle.classes.specs.Classes.{classes}
use Rattle.classes.specs.Held.{tuple_row}
use Rattle.verdict.specs.Claims.{well_formed}
use Rattle.store.specs.Held.{row_weight}
use Rattle.events.specs.Held.{ground_in}
use Rattle.effects.specs.Held.{literals_in, effects_in}
use Rattle.trying.specs.declared.alone.Alone.{Alone}
use Rattle.trying.specs.Trying.{tries, tried_of, tried_from, tried}
use Rattle.trying.specs.Held.{any_free, tries_by_rows, ClassesOf, answers_of, Making}
use Rattle.trying.proofs.Abouts.{class_tried}

-- ---- of a class, by the weights that were found

and_none : (a : Bool) → a && false ≡ false
and_none true = refl
and_none false = refl

module _ (head : List ℕ) (r : Alone) (base after instance : List ℕ) where
  abbrev before : ℕ
  before = row_weight (keys_in head) (component_rows_in head) (rows_in r.counts.held (effects_in base)) instance

  abbrev left : ℕ
  left = row_weight (keys_in head) (component_rows_in head) (rows_in r.left after) instance

  abbrev free : Bool
  free = any_free head instance (r.counts.variables + 1) (ground_in r.counts.literals (literals_in base))

  pub answer_heavy : {w : ℕ} → w ≡ before → 1 < w → false ≡ tries_by_rows head r base after instance
  unfolding tries_by_rows
  answer_heavy e h = rw (lt-leb before 1 (omega arith))

  pub answer_barred : not r.allowed ≡ true → false ≡ tries_by_rows head r base after instance
  unfolding tries_by_rows
  answer_barred h = rw (not_true r.allowed h, and_none (leb before 1))

  module _ {w v : ℕ} (e : w ≡ before) (l : w ≤ 1) (ok : not r.allowed ≡ false) (f : v ≡ left) where
    can : r.allowed ≡ true
    can = not_false r.allowed ok

    pub answer_two : 2 ≤ v → true ≡ tries_by_rows head r base after instance
    unfolding tries_by_rows
    answer_two h = rw (le-leb before 1 (omega arith), can, le-leb 2 left (omega arith))

    pub answer_one : v < 2 → w ≡ 1 → false ≡ tries_by_rows head r base after instance
    unfolding tries_by_rows
    answer_one h k = rw (le-leb before 1 (omega arith), can, lt-leb 2 left (omega arith), ne_eqb before 0 (λ z. omega arith))

    pub answer_none : v ≡ 0 → false ≡ tries_by_rows head r base after instance
    unfolding tries_by_rows
    answer_none k =
        rw (le-leb before 1 (omega arith), can, lt-leb 2 left (omega arith), ne_eqb left 1 (λ z. omega arith), and_none (eqb before 0))

    pub answer_free : v < 2 → (w ≡ 1 → ⊥) → (v ≡ 0 → ⊥) → {t : Bool} → t ≡ free → t ≡ tries_by_rows head r base after instance
    unfolding tries_by_rows
    answer_free h m n t =
        t ∙ rw (le-leb before 1 (omega arith), can, lt-leb 2 left (omega arith), eq-eqb before 0 (omega arith), eq-eqb left 1 (omega arith))

-- ---- of an action, one behind the other

module _ {D : Domain} {i : ℕ} {head : List ℕ} {r : Alone} {base after rows numbers : List ℕ}
    (C : ClassesOf D i head r base after rows numbers) (made₀ : List ℕ) (size : length made₀ ≡ length (classes D (action D i))) where
  length_answers : length (answers_of D i) ≡ length made₀
  length_answers = length-map (classes D (action D i)) (λ x. cond {A = ℕ} (tries D i x) 1 0) ∙ sym size

  pub answers_more : (made : List ℕ) (j : ℕ) → j < length made₀ → made ≡ paste made₀ 0 (answers_of D i) j → (instance : List ℕ)
      → (j < length (classes D (action D i)) → instance ≡ tuple_row (get_or (classes D (action D i)) j []))
      → (said : Bool) → said ≡ tries_by_rows head r base after instance → (byte : ℕ) → byte ≡ cond said 1 0
      → set made j byte ≡ paste made₀ 0 (answers_of D i) (j + 1)
  answers_more made j h e instance t said s byte b =
      let z : 0 + j ≡ j = omega arith in
      let x : List Variable = get_or (classes D (action D i)) j [] in
      let l : j < length (classes D (action D i)) = omega arith in
      let is : said ≡ tries D i x =
      s ∙ class_tried D C.formed i C.listed C.whole.says x (get_d_in (classes D (action D i)) j [] l) C.alone instance (t l) in
      ap (λ (k : ℕ). set made k byte) (sym z)
      ∙ paste_more (answers_of D i) made₀ made 0 j (length made₀) (omega arith) length_answers e byte h
      (b ∙ ap (λ (s : Bool). cond {A = ℕ} s 1 0) is
      ∙ sym (get_d_map (λ x. cond {A = ℕ} (tries D i x) 1 0) (classes D (action D i)) j [] 0 l))

  pub answers_all : (made : List ℕ) (j : ℕ) → j ≡ length made₀ → made ≡ paste made₀ 0 (answers_of D i) j → made ≡ answers_of D i
  unfolding over
  answers_all made j h e =
      e
      ∙ paste_front (answers_of D i) made₀ j (h ∙ sym length_answers)
      ∙ ap (λ (t : List ℕ). answers_of D i ++ t)
      (drop_of_length-le made₀ {i = length (answers_of D i)} (let k = length_answers in omega arith))
      ∙ append-nil (answers_of D i)

-- at the front of a memory, which a part of it is lent for
module _ {D : Domain} {i : ℕ} {head : List ℕ} {r : Alone} {base after rows numbers : List ℕ}
    (C : ClassesOf D i head r base after rows numbers) (made : List ℕ) (n : ℕ) (count : n ≡ length (classes D (action D i)))
    (few : n ≤ length made) where
  pub part_size : length (take (n - 0) made) ≡ length (classes D (action D i))
  part_size = ap (λ (k : ℕ). length (take k made)) (sub-zero n) ∙ length-take-le n made few ∙ count

  pub answers_count : n ≡ length (answers_of D i)
  answers_count = count ∙ sym (length-map (classes D (action D i)) (λ x. cond {A = ℕ} (tries D i x) 1 0))

  pub answers_front : (part : List ℕ) → part ≡ answers_of D i → part ++ drop (n - 0) made ≡ over (answers_of D i) made
  unfolding over
  answers_front part e = ap₂ (λ (p : List ℕ) (k : ℕ). p ++ drop k made) e (sub-zero n ∙ answers_count)

-- ---- of all actions

from_snoc : (D : Domain) (k j : ℕ) (as' : List Action) → j < length as'
    → tried_from D k (take (suc j) as') ≡ tried_from D k (take j as') ++ tried_of D (k + j) (get_or as' j no_action)
from_snoc D k j [] h = absurd (omega arith)
from_snoc D k zero (a ∷ as') h = let z : k ≡ k + 0 = omega arith in append-nil (tried_of D k a) ∙ ap (λ (m : ℕ). tried_of D m a) z
from_snoc D k (suc j) (a ∷ as') h =
    let z : suc k + j ≡ k + suc j = omega arith in
    ap (λ (l : List ℕ). tried_of D k a ++ l)
    (from_snoc D (suc k) j as' (omega arith) ∙ ap (λ (m : ℕ). tried_from D (suc k) (take j as') ++ tried_of D m (get_or as' j no_action)) z)
    ∙ sym (append_assoc (tried_of D k a) (tried_from D (suc k) (take j as')) (tried_of D (k + suc j) (get_or as' j no_action)))

module _ (D : Domain) (i : ℕ) (h : i < length D.actions) where
  -- the bytes of the actions up to i
  abbrev sofar : List ℕ
  sofar = tried_from D 0 (take i D.actions)

  up_to : tried_from D 0 (take (i + 1) D.actions) ≡ tried_from D 0 (take i D.actions) ++ tried_of D i (action D i)
  unfolding action
  up_to =
      let z : 0 + i ≡ i = omega arith in
      ap (λ (n : ℕ). tried_from D 0 (take n D.actions)) (add-one i)
      ∙ from_snoc D 0 i D.actions h
      ∙ ap (λ (m : ℕ). sofar ++ tried_of D m (get_or D.actions i no_action)) z

  -- one that lasts has none
  pub making_lasting : {at : ℕ} {made old : List ℕ} → (action D i).lasting ≡ true → Making D i at made old → Making D (i + 1) at made old
  making_lasting {at} {made} {old} l M =
      let e : tried_from D 0 (take (i + 1) D.actions) ≡ sofar =
      up_to ∙ ap (λ (b : Bool). sofar ++ cond b [] (answers_of D i)) l ∙ append-nil sofar in
      record { written = M.written ∙ sym (ap length e); bytes = M.bytes ∙ sym (ap (λ (t : List ℕ). over t old) e) }

  -- one at once has those that the code writes in a part of the memory
  module _ {at : ℕ} {made old : List ℕ} (l : (action D i).lasting ≡ false) (M : Making D i at made old) (end r : ℕ) (size : end ≡ at + 64)
      (room : end ≤ length made) (count : r ≡ length (answers_of D i)) (few : r ≤ 64) where
    new_are : tried_from D 0 (take (i + 1) D.actions) ≡ sofar ++ answers_of D i
    new_are = up_to ∙ ap (λ (b : Bool). sofar ++ cond b [] (answers_of D i)) l

    -- the part takes the place of what was there
    put_part : (part : List ℕ) → part ≡ over (answers_of D i) (take (end - at) (drop at made))
        → take at made ++ (part ++ drop (end - at) (drop at made)) ≡ paste made at (answers_of D i) r
    unfolding over
    put_part part e =
        let mid : List ℕ = take (end - at) (drop at made) in
        let post : List ℕ = drop (end - at) (drop at made) in
        let new : List ℕ = answers_of D i in
        let n = length-drop at made in
        let k = length-take-le (end - at) (drop at made) (omega arith) in
        ap (λ (t : List ℕ). take at made ++ t)
        (ap (λ (t : List ℕ). t ++ post) e
        ∙ append_assoc new (drop (length new) mid) post
        ∙ ap₂ (λ (s t : List ℕ). s ++ t) (sym (take-length new) ∙ ap (λ (m : ℕ). take m new) (sym count))
        (sym (drop-append-le (length new) mid post (omega arith))
        ∙ ap (drop (length new)) (take-append-drop (end - at) (drop at made))
        ∙ drop-drop (length new) at made
        ∙ ap (λ (m : ℕ). drop (at + m) made) (sym count)))
        ∙ sym (append_assoc (take at made) (take r new) (drop (at + r) made))

    pub making_more : (part : List ℕ) → part ≡ over (answers_of D i) (take (end - at) (drop at made))
        → Making D (i + 1) (at + r) (take at made ++ (part ++ drop (end - at) (drop at made))) old
    making_more part e =
        let n = length-append sofar (answers_of D i) in
        let w = M.written in
        record {
          written = ap₂ (λ (p q : ℕ). p + q) M.written count ∙ sym n ∙ sym (ap length new_are);
          bytes =
              put_part part e
              ∙ ap (λ (t : List ℕ). paste t at (answers_of D i) r) M.bytes
              ∙ over_paste sofar old (answers_of D i) at r (sym M.written) (sym count)
              ∙ sym (ap (λ (t : List ℕ). over t old) new_are);
        }

-- where the loop over the actions stands
pub record InActions (head table made₀ made : List ℕ) (end i : ℕ) : Type 0 where
  pub reach : i ≤ actions_in head
  pub few : end ≤ 64 * i
  pub same : length made ≡ length made₀
  pub making : (D : Domain) (old : List ℕ) → Held D head table → well_formed D ≡ true → Making D 0 0 made₀ old → Making D i end made old

pub making_none : (D : Domain) (made : List ℕ) → Making D 0 0 made made
unfolding over
making_none D made = record { written = refl; bytes = refl }

-- what is made is the engine's
pub made_is : {D : Domain} {n : ℕ} {made old : List ℕ} → Making D (length D.actions) n made old → take n made ≡ tried D
unfolding over tried
made_is {D} {n} {made} {old} M =
    let all : tried_from D 0 (take (length D.actions) D.actions) ≡ tried_from D 0 D.actions =
    ap (tried_from D 0) (take-length D.actions) in
    ap (take n) M.bytes
    ∙ take_at (tried_from D 0 (take (length D.actions) D.actions)) _ n (sym M.written)
    ∙ all
