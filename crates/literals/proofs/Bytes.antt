-- Laws for the checks of a record's fields: arguments, and labels as bytes. Assumes nothing.
use mathlib.Core.Path.{◌≡◌, refl, sym, ap, ap₂, ◌∙◌}
use mathlib.Core.Bool.{Bool, true, false, ◌&&◌, ◌||◌, not, cond}
use mathlib.Core.List.{List, [], ◌∷◌, ◌++◌, map}
use Prim.Native.Nat.{ℕ, zero, suc, ◌+◌, ◌-◌, ◌*◌, ◌≤◌, ◌<◌}
use native.Mathlib.Numerals.{add-one}
use native.Mathlib.Omega.{arith}
use lib.Dec.{eqb, ltb, leb}
use lib.ListN.{length, take, drop, get_or, length-drop}
use lib.Seq.{take-suc, drop-drop}
use Rattle.std.proofs.lemmas.List.{drop-take}
use borrow.Author.Tests.{ne_eqb, eqb-true, eqb-false, leb-true, leb-false, ltb-true, ltb-false, le-leb, lt-ltb, le-ltb}
use Rattle.std.specs.Prelude.{Option, Some, None}
use Rattle.std.specs.List.{count_by as library_count, position as place_of, zip}
use Rattle.std.proofs.lemmas.List.Folds.{list_all-append}
use Rattle.std.proofs.lemmas.List.FromFn.{length-range_with_len}
use Rattle.records.specs.Lists.{add_if, all, any, count_by, first_at, found, position, numbers_from, below, side_by_side}
use Rattle.records.proofs.Chains.{count_is, position_is}
use Rattle.records.proofs.Lists.{and_l, and_r, and_i, or_out, not_false, off, clash, any_in, any_out, in_any, all_of, eqb_comm, any_map, any_same, filter_all, count_filter, count_pos, count_none, count_not, count_map, first_hit, first_miss, first_end}
use Rattle.literals.specs.declared.Argument.TheVariants.{Variable as bound, Every}
use Rattle.literals.specs.declared.Label.{Label}
use Rattle.literals.specs.declared.Label.TheVariants.{Key as keyed, Counted}
use Rattle.literals.specs.Domain.{variable, is_every, variable_below, key, is_key, is_counted, key_below, each_key_once, labels_fit}
use Rattle.literals.specs.Domain.{clears_once}
use Rattle.literals.specs.Decode.{argument_of, literal_of, no_variable, label_of, counted_again, same_label_key, key_again, key_too_high}
use Rattle.literals.specs.Decode.{at_record, at_label, label_fault}
use Rattle.literals.specs.Held.{literal_arguments, again, high_key}
use Rattle.literals.specs.Held.{keys_below, each_once, has_every, key_beside, may_stand, key_cleared_in, again_at, label_places, rows_in}
use Rattle.literals.proofs.Arguments.{clears_none, beside_bytes}
use Rattle.literals.proofs.Labels.{first_map, found_map}
use Rattle.literals.proofs.Rows.{part_at}

-- ---- arguments

-- arguments below the number of variables are neither FF nor unknown
below_plain : (n : ℕ) (bs : List ℕ) → n ≤ 255 → any (leb n) bs ≡ false
    → (any (no_variable n) bs ≡ false) × (count_by (eqb 255) bs ≡ 0) × (any is_every (map argument_of bs) ≡ false)
below_plain n [] h e = (refl, refl, refl)
below_plain n (b ∷ bs) h e =
    let both = or_out (leb n b) _ e in
    let l = leb-false n b both.0 in
    let rest = below_plain n bs h both.1 in (
      rw (ne_eqb b 255 (λ z. omega arith), lt-ltb b n l) rest.0,
      rw (ne_eqb 255 b (λ z. omega arith)) rest.1,
      rw (ne_eqb b 255 (λ z. omega arith)) rest.2,
    )

pub plain_arguments : (n : ℕ) (p : List ℕ) → n ≤ 255 → any (leb n) (drop 2 p) ≡ false → literal_arguments n p ≡ 0
unfolding literal_arguments
plain_arguments n p h e =
    let b = below_plain n (drop 2 p) h e in
    rw (← clears_none p (sym b.1) refl, b.0)

pub plain_every : (n : ℕ) (p : List ℕ) → n ≤ 255 → any (leb n) (drop 2 p) ≡ false → false ≡ has_every (literal_of p)
plain_every n p h e = sym (below_plain n (drop 2 p) h e).2

-- where the arguments pass and one is not below, it is FF
pub some_every_lem : (n : ℕ) (p : List ℕ) → any (leb n) (drop 2 p) ≡ true → literal_arguments n p ≡ 0 → true ≡ has_every (literal_of p)
unfolding literal_arguments
some_every_lem n p t e =
    let x = any_in (leb n) (drop 2 p) t in
    let b = x.0 in
    let known = any_out (no_variable n) (passed (clears_once (literal_of p)) (any (no_variable n) (drop 2 p)) e) x.1 in
    sym (any_map argument_of is_every (drop 2 p) ∙ in_any (λ b. is_every (argument_of b)) x.1 (go b x.2 (eqb b 255) refl (not_false (variable_below n (argument_of b)) known)))
  where
    passed : (c u : Bool) → ◌≡◌ {A = ℕ} (cond (not c) 26 (cond u 18 0)) 0 → u ≡ false
    passed true true z = absurd (omega arith)
    passed true false z = refl
    passed false u z = absurd (omega arith)

    go : (b : ℕ) → leb n b ≡ true → (q : Bool) → eqb b 255 ≡ q → variable_below n (argument_of b) ≡ true → is_every (argument_of b) ≡ true
    go b l true q v = rw q
    go b l false q v =
        let below = ltb-true b n (sym (ap (λ (t : Bool). variable_below n (cond t Every (bound (variable b)))) q) ∙ v) in
        let above = leb-true n b l in
        absurd (omega arith)

-- ---- labels, as bytes

pub label_counted : (b : ℕ) → is_counted (label_of b) ≡ eqb 255 b
label_counted b = go (eqb b 255) ∙ eqb_comm b 255
  where
    go : (t : Bool) → is_counted (cond t Counted (keyed (key b))) ≡ t
    go true = refl
    go false = refl

pub label_key : (k : ℕ) → k < 255 → (b : ℕ) → is_key (key k) (label_of b) ≡ eqb k b
label_key k h b = go (eqb b 255) refl
  where
    go : (t : Bool) → eqb b 255 ≡ t → is_key (key k) (cond t Counted (keyed (key b))) ≡ eqb k b
    go true e = let f = eqb-true b 255 e in sym (ne_eqb k b (λ g. omega arith))
    go false e = refl

label_below : (n b : ℕ) → key_below n (label_of b) ≡ (eqb b 255 || ltb b n)
label_below n b = go (eqb b 255)
  where
    go : (t : Bool) → key_below n (cond t Counted (keyed (key b))) ≡ (t || ltb b n)
    go true = refl
    go false = refl

below_labels : (n : ℕ) (bs : List ℕ) → all (key_below n) (map label_of bs) ≡ keys_below n bs
below_labels n [] = refl
below_labels n (b ∷ bs) = ap₂ ◌&&◌ (label_below n b) (below_labels n bs)

-- each number below n once
numbers_more : (a n : ℕ) → numbers_from a (suc n) ≡ numbers_from a n ++ ((a + n) ∷ [])
numbers_more a zero = let z : a ≡ a + 0 = omega arith in ap {B = List ℕ} (λ (k : ℕ). k ∷ []) z
numbers_more a (suc n) =
    ap {B = List ℕ} (λ l. a ∷ l)
    (numbers_more (a + 1) n ∙ (let z : a + 1 + n ≡ a + suc n = omega arith in ap (λ (k : ℕ). numbers_from (a + 1) n ++ (k ∷ [])) z))

once_more : (n : ℕ) (bs : List ℕ) → each_once (suc n) bs ≡ (each_once n bs && eqb (count_by (eqb n) bs) 1)
once_more n bs =
    let t = λ (k : ℕ). eqb (library_count (eqb k) bs) 1 in
    ap (all t) (numbers_more 0 n ∙ (let z : 0 + n ≡ n = omega arith in ap {B = List ℕ} (λ (k : ℕ). numbers_from 0 n ++ (k ∷ [])) z))
    ∙ list_all-append t (numbers_from 0 n) (n ∷ [])
    ∙ ap (λ (x : Bool). each_once n bs && x) (and-true (t n) ∙ ap (λ (m : ℕ). eqb m 1) (sym (count_is (eqb n) bs)))
  where
    and-true : (x : Bool) → (x && true) ≡ x
    and-true true = refl
    and-true false = refl

once_labels : (n : ℕ) (bs : List ℕ) → n ≤ 255 → each_key_once n (map label_of bs) ≡ each_once n bs
once_labels zero bs h = refl
once_labels (suc n) bs h =
    ap₂ (λ (a : Bool) (m : ℕ). a && eqb m 1) (once_labels n bs (omega arith)) (count_map label_of (is_key (key n)) (eqb n) (label_key n (omega arith)) bs)
    ∙ sym (once_more n bs)

-- a second FF, and a key again, of the bytes
counted_again_lem : (before : List ℕ) (b : ℕ) → counted_again (map label_of before) (label_of b) ≡ again true before b
counted_again_lem before b = go (eqb b 255) refl
  where
    go : (t : Bool) → eqb b 255 ≡ t → is_counted (cond t Counted (keyed (key b))) && any is_counted (map label_of before) ≡ cond t true false && any (eqb b) before
    go true e =
        any_map label_of is_counted before
        ∙ any_same (λ c. is_counted (label_of c)) (eqb b) before (λ c. label_counted c ∙ ap (λ (m : ℕ). eqb m c) (sym (eqb-true b 255 e)))
    go false e = refl

key_again_lem : (before : List ℕ) (b : ℕ) → key_again (map label_of before) (label_of b) ≡ again false before b
key_again_lem before b = any_map label_of (same_label_key (label_of b)) before ∙ go (eqb b 255) refl
  where
    other : (c : ℕ) (u : Bool) → eqb b 255 ≡ false → eqb c 255 ≡ u → is_key (key b) (cond u Counted (keyed (key c))) ≡ eqb b c
    other c true e f = let d = eqb-false b 255 e in let g = eqb-true c 255 f in sym (ne_eqb b c (λ h. omega arith))
    other c false e f = refl

    none : (l : List ℕ) → any (λ c. false) l ≡ false
    none [] = refl
    none (c ∷ cs) = none cs

    go : (t : Bool) → eqb b 255 ≡ t → any (λ c. same_label_key (cond t Counted (keyed (key b))) (label_of c)) before ≡ cond t false true && any (eqb b) before
    go true e = none before
    go false e = any_same (λ c. is_key (key b) (label_of c)) (eqb b) before (λ c. other c (eqb c 255) e refl)

high_key_lem : (n : ℕ) (before : List ℕ) (b : ℕ) → key_too_high n (map label_of before) (label_of b) ≡ high_key n before b
high_key_lem n before b = ap not (label_below n b)

-- the fault of labels by their bytes
label_fault_lem : (n : ℕ) (bs : List ℕ)
    → label_fault n (map label_of bs)
    ≡ cond (found (again true) bs) (at_label 25 (first_at (again true) [] bs))
    (cond (found (again false) bs) (at_label 24 (first_at (again false) [] bs))
    (cond (found (high_key n) bs) (at_label 21 (first_at (high_key n) [] bs))
    (cond (labels_fit n (map label_of bs)) (at_record 0) (at_record 21))))
unfolding label_fault
label_fault_lem n bs =
    rw (
      found_map label_of counted_again (again true) counted_again_lem bs,
      first_map label_of counted_again (again true) counted_again_lem [] bs,
      found_map label_of key_again (again false) key_again_lem bs,
      first_map label_of key_again (again false) key_again_lem [] bs,
      found_map label_of (key_too_high n) (high_key n) (high_key_lem n) bs,
      first_map label_of (key_too_high n) (high_key n) (high_key_lem n) [] bs,
    )

-- the first place at which one passes a test of the ones before it and itself, if there is one
abbrev pub first_place : (List ℕ → ℕ → Bool) → List ℕ → Option ℕ
first_place q bs = cond (found q bs) (Some (first_at q [] bs)) None

-- what the code's tests of the labels of a payload lead to, one after the other
module _ (n : ℕ) (p : List ℕ) where
  abbrev labels : List ℕ
  labels = drop 1 p

  -- a label that is found, and none
  found_is : (q : List ℕ → ℕ → Bool) {i : ℕ} → first_place q labels ≡ Some i → (found q labels ≡ true) × (i ≡ first_at q [] labels)
  found_is q {i} e = go (found q labels) refl e
    where
      go : (b : Bool) → found q labels ≡ b → cond b (Some (first_at q [] labels)) None ≡ Some i → (found q labels ≡ true) × (i ≡ first_at q [] labels)
      go true f e = (f, cc)
      go false f e = cc

  none_found : (q : List ℕ → ℕ → Bool) → first_place q labels ≡ None → found q labels ≡ false
  none_found q e = go (found q labels) refl e
    where
      go : (b : Bool) → found q labels ≡ b → cond b (Some (first_at q [] labels)) None ≡ None → found q labels ≡ false
      go true f e = cc
      go false f e = f

  -- a label that is found stands in the payload
  pub found_within : (q : List ℕ → ℕ → Bool) {i : ℕ} → first_place q labels ≡ Some i → i + 1 < length p
  found_within q {i} e =
      let f = found_is q e in
      let l = ltb-true (first_at q [] labels) (length labels) f.0 in
      let d = length-drop 1 p in
      let same = f.1 in
      omega arith

  at_place : (m : ℕ) (q : List ℕ → ℕ → Bool) {i : ℕ} → i ≡ first_at q [] labels → record { number = m; within = 5 + i } ≡ at_label m (first_at q [] labels)
  at_place m q {i} e = ap (at_label m) e

  pub second_counted : {i : ℕ} → first_place (again true) labels ≡ Some i → record { number = 25; within = 5 + i } ≡ label_fault n (map label_of labels)
  second_counted e = let f = found_is (again true) e in at_place 25 (again true) f.1 ∙ sym (label_fault_lem n labels ∙ rw f.0)

  module _ (counted : first_place (again true) labels ≡ None) where
    pub repeated_key : {j : ℕ} → first_place (again false) labels ≡ Some j → record { number = 24; within = 5 + j } ≡ label_fault n (map label_of labels)
    repeated_key e =
        let f = found_is (again false) e in
        at_place 24 (again false) f.1 ∙ sym (label_fault_lem n labels ∙ rw (none_found (again true) counted, f.0))

    module _ (keys : first_place (again false) labels ≡ None) where
      pub first_high : {k : ℕ} → first_place (high_key n) labels ≡ Some k → record { number = 21; within = 5 + k } ≡ label_fault n (map label_of labels)
      first_high e =
          let f = found_is (high_key n) e in
          at_place 21 (high_key n) f.1
          ∙ sym (label_fault_lem n labels ∙ rw (none_found (again true) counted, none_found (again false) keys, f.0))

      -- no label is at fault: a key is missing
      pub missing_key : first_place (high_key n) labels ≡ None → labels_fit n (map label_of labels) ≡ false → at_record 21 ≡ label_fault n (map label_of labels)
      missing_key e t =
          sym
          (label_fault_lem n labels
          ∙ rw (none_found (again true) counted, none_found (again false) keys, none_found (high_key n) e, t))

-- a label is a key or FF
pub keys_and_counted : (bs : List ℕ) → count_by (λ l. not (is_counted l)) (map label_of bs) + count_by (eqb 255) bs ≡ length bs
keys_and_counted bs =
    rw (count_map label_of (λ l. not (is_counted l)) (λ b. not (eqb 255 b)) (λ b. ap not (label_counted b)) bs) (count_not (eqb 255) bs)

-- labels that fit: each key is below the count, and stands once
module _ (n : ℕ) (ls : List Label) (h : labels_fit n ls ≡ true) where
  pub keys_below_lem : all (key_below n) ls ≡ true
  unfolding labels_fit
  keys_below_lem = and_l _ _ (and_l _ _ h)

  pub keys_once : each_key_once n ls ≡ true
  unfolding labels_fit
  keys_once = and_r (all (key_below n) ls) _ (and_l _ _ h)

-- ---- a label that equals one before it

pub again_same : (before : List ℕ) (b : ℕ) {counted : Bool} → eqb b 255 ≡ counted → any (eqb b) before ≡ again counted before b
again_same before b e = sym (ap (λ (c : Bool). cond (eqb b 255) c (not c) && any (eqb b) before) (sym e) ∙ go (eqb b 255))
  where
    go : (x : Bool) → (cond x x (not x) && any (eqb b) before) ≡ any (eqb b) before
    go true = refl
    go false = refl

-- ---- the labels before one, with one more

pub before_more : (p : List ℕ) (i : ℕ) → 1 ≤ i → i < length p → drop 1 (take i p) ++ (get_or p i 0 ∷ []) ≡ drop 1 (take (i + 1) p)
before_more p zero l h = absurd (omega arith)
before_more [] (suc i) l h = absurd (omega arith)
before_more (x ∷ xs) (suc i) l h = sym (rw (add-one (suc i)) (take-suc xs i 0 (omega arith)))

-- a search among the labels behind the place i, by place
search_places : (q : List ℕ → ℕ → Bool) (p : List ℕ) (i n : ℕ) → 1 ≤ i → i + n ≡ length p
    → position (λ j. q (drop 1 (take j p)) (get_or p j 0)) (numbers_from i n) ≡ first_at q (drop 1 (take i p)) (drop i p)
search_places q p i zero l e = sym (first_end p i 0 q (drop 1 (take i p)) (omega arith))
search_places q p i (suc n) l e = go (q (drop 1 (take i p)) (get_or p i 0)) refl (search_places q p (i + 1) n (omega arith) (omega arith))
  where
    go : (b : Bool) → q (drop 1 (take i p)) (get_or p i 0) ≡ b
        → position (λ j. q (drop 1 (take j p)) (get_or p j 0)) (numbers_from (i + 1) n) ≡ first_at q (drop 1 (take (i + 1) p)) (drop (i + 1) p)
        → cond b 0 (suc (position (λ j. q (drop 1 (take j p)) (get_or p j 0)) (numbers_from (i + 1) n))) ≡ first_at q (drop 1 (take i p)) (drop i p)
    go true t rest = sym (first_hit p i 0 (omega arith) q (drop 1 (take i p)) t)
    go false t rest =
        ap (λ (m : ℕ). suc m)
        (rest
        ∙ ap (λ (b : List ℕ). first_at q b (drop (i + 1) p)) (sym (before_more p i l (omega arith))))
        ∙ sym (first_miss p i 0 (omega arith) q (drop 1 (take i p)) t)

pub places_found : (counted : Bool) (p : List ℕ) → place_of (again_at counted p) (label_places p) ≡ first_place (again counted) (drop 1 p)
places_found counted [] = refl
places_found counted (x ∷ xs) =
    let t = again_at counted (x ∷ xs) in
    let m : length (x ∷ xs) - 1 ≡ length xs = omega arith in
    ap (λ (n : ℕ). place_of t (numbers_from 1 n)) m
    ∙ ap₂ (λ (k n : ℕ). cond (ltb k n) (Some k) None)
    (sym (position_is t (numbers_from 1 (length xs))) ∙ search_places (again counted) (x ∷ xs) 1 (length xs) (omega arith) (omega arith))
    (length-range_with_len 1 (length xs))

-- a search by a test of the labels themselves
first_plain : (q : ℕ → Bool) (before bs : List ℕ) → first_at (λ earlier b. q b) before bs ≡ position q bs
first_plain q before [] = refl
first_plain q before (b ∷ bs) = ap (λ (n : ℕ). cond (q b) 0 (suc n)) (first_plain q (before ++ (b ∷ [])) bs)

pub high_found : (n : ℕ) (bs : List ℕ) → place_of (high_key n []) bs ≡ first_place (high_key n) bs
high_found n bs =
    ap (λ (k : ℕ). cond (ltb k (length bs)) (Some k) None) (sym (position_is (high_key n []) bs) ∙ sym (first_plain (high_key n []) [] bs))

-- ---- labels that fit, by how many there are

-- two tests of which no byte passes both
count_both : (p q r : ℕ → Bool) → ((b : ℕ) → r b ≡ (p b || q b)) → ((b : ℕ) → p b ≡ true → q b ≡ true → ⊥) → (bs : List ℕ)
    → count_by r bs ≡ count_by p bs + count_by q bs
count_both p q r same apart [] = refl
count_both p q r same apart (b ∷ bs) =
    ap (λ (t : Bool). add_if t (count_by r bs)) (same b) ∙ go (p b) (q b) (apart b) (count_both p q r same apart bs)
  where
    go : (x y : Bool) → (x ≡ true → y ≡ true → ⊥) → count_by r bs ≡ count_by p bs + count_by q bs
        → add_if (x || y) (count_by r bs) ≡ add_if x (count_by p bs) + add_if y (count_by q bs)
    go true true h e = absurd (h refl refl)
    go true false h e = omega arith
    go false true h e = omega arith
    go false false h e = e

below_next : (n b : ℕ) → ltb b (suc n) ≡ (ltb b n || eqb n b)
below_next n b = go (ltb b n) refl (eqb n b) refl
  where
    go : (x : Bool) → ltb b n ≡ x → (y : Bool) → eqb n b ≡ y → ltb b (suc n) ≡ (x || y)
    go true e y f = let l = ltb-true b n e in lt-ltb b (suc n) (omega arith)
    go false e true f = let l = eqb-true n b f in lt-ltb b (suc n) (omega arith)
    go false e false f = let l = ltb-false b n e in let k = eqb-false n b f in le-ltb b (suc n) (omega arith)

-- where each number below n stands once, n bytes are below n
below_once : (n : ℕ) (bs : List ℕ) → each_once n bs ≡ true → count_by (λ b. ltb b n) bs ≡ n
below_once zero bs t = count_none (λ b. ltb b 0) bs (λ b m l. let k = ltb-true b 0 l in omega arith)
below_once (suc n) bs t =
    let both = sym (once_more n bs) ∙ t in
    count_both (λ b. ltb b n) (eqb n) (λ b. ltb b (suc n)) (below_next n)
    (λ b l e. let k = ltb-true b n l in let same = eqb-true n b e in omega arith) bs
    ∙ ap₂ (λ (x y : ℕ). x + y) (below_once n bs (and_l _ _ both)) (eqb-true (count_by (eqb n) bs) 1 (and_r (each_once n bs) _ both))
    ∙ add-one n

-- all pass exactly where as many pass as there are
all_counted : (p : ℕ → Bool) (bs : List ℕ) → all p bs ≡ true → count_by p bs ≡ length bs
all_counted p bs t = count_filter p bs ∙ ap (λ (l : List ℕ). length l) (filter_all p bs t)

counted_all : (p : ℕ → Bool) (bs : List ℕ) → length bs ≤ count_by p bs → all p bs ≡ true
counted_all p bs h =
    all_of p bs
    (λ b m. not_false (p b)
    (off (not (p b)) (λ e. let c = count_not p bs in let k = count_pos (λ a. not (p a)) m e in omega arith)))

-- what the code's tests lead to, one after the other
module _ (n : ℕ) (p : List ℕ) (few : n ≤ 6) where
  abbrev given : List ℕ
  given = drop 1 p

  fit_bytes : labels_fit n (map label_of given) ≡ keys_below n given && each_once n given && leb (count_by (eqb 255) given) 1
  unfolding labels_fit
  fit_bytes =
      rw (below_labels n given, once_labels n given (omega arith), count_map label_of is_counted (eqb 255) label_counted given)

  -- the keys below n and FF, where each key stands once
  good_count : each_once n given ≡ true → count_by (λ b. eqb b 255 || ltb b n) given ≡ count_by (eqb 255) given + n
  good_count t =
      count_both (eqb 255) (λ b. ltb b n) (λ b. eqb b 255 || ltb b n) (λ b. ap (λ (x : Bool). x || ltb b n) (eqb_comm b 255))
      (λ b e l. let same = eqb-true 255 b e in let k = ltb-true b n l in omega arith) given
      ∙ ap (λ (m : ℕ). count_by (eqb 255) given + m) (below_once n given t)

  module _ {c : ℕ} (counted : c ≡ count_by (eqb 255) given) where
    pub two_counted : 1 < c → false ≡ labels_fit n (map label_of given)
    two_counted h =
        sym (off (labels_fit n (map label_of given)) (λ t.
        let k = leb-true (count_by (eqb 255) given) 1 (and_r (keys_below n given && each_once n given) _ (sym fit_bytes ∙ t)) in omega arith))

    pub too_many : n + c + 1 < length p → false ≡ labels_fit n (map label_of given)
    too_many h =
        sym (off (labels_fit n (map label_of given)) (λ t.
        let both = and_l (keys_below n given && each_once n given) _ (sym fit_bytes ∙ t) in
        let e : length given ≡ count_by (eqb 255) given + n = sym (all_counted (λ b. eqb b 255 || ltb b n) given (and_l (keys_below n given) _ both)) ∙ good_count (and_r (keys_below n given) _ both) in
        let d = length-drop 1 p in omega arith))

    pub few_enough : c ≤ 1 → length p ≤ n + c + 1 → {r : Bool} → r ≡ each_once n given → r ≡ labels_fit n (map label_of given)
    few_enough one h f =
        f ∙ go (each_once n given) refl
        (let z : count_by (eqb 255) given ≤ 1 = omega arith in z)
        (let d = length-drop 1 p in let z : length given ≤ count_by (eqb 255) given + n = omega arith in z)
      where
        go : (b : Bool) → each_once n given ≡ b → count_by (eqb 255) given ≤ 1 → length given ≤ count_by (eqb 255) given + n → b ≡ labels_fit n (map label_of given)
        go true t k l =
            let g = good_count t in
            sym (fit_bytes ∙ and_i (and_i (counted_all (λ b. eqb b 255 || ltb b n) given (omega arith)) t) (le-leb (count_by (eqb 255) given) 1 k))
        go false t k l =
            sym (off (labels_fit n (map label_of given)) (λ u.
            clash (and_r (keys_below n given) _ (and_l (keys_below n given && each_once n given) _ (sym fit_bytes ∙ u))) t))

-- ---- labels beside arguments, and the rows that clear a key

pub beside_zip : (bs as' : List ℕ)
    → all may_stand (zip bs as') ≡ side_by_side key_beside bs as'
beside_zip [] as' = refl
beside_zip (b ∷ bs) [] = refl
beside_zip (b ∷ bs) (a ∷ as') = ap₂ ◌&&◌ (sym (beside_bytes b a refl refl refl)) (beside_zip bs as')

-- whether the row of a literal has FF where a component has a key, by the bytes of the row at an offset
pub cleared_told : (p t : List ℕ) (at : ℕ) → at + 8 ≤ length t → {b : Bool} → b ≡ all may_stand (zip (drop 1 p) (take 6 (drop (at + 2) t)))
    → eqb (get_or p 0 0) (get_or t (at + 1) 0) && not b ≡ key_cleared_in p (take 8 (drop at t))
unfolding key_cleared_in
cleared_told p t at h e =
    let same : drop 2 (take 8 (drop at t)) ≡ take 6 (drop (at + 2) t) = drop-take 2 6 (drop at t) ∙ ap (take 6) (drop-drop 2 at t) in
    ap₂ (λ (x y : Bool). x && not y) (ap (eqb (get_or p 0 0)) (sym (part_at 8 t at h 1 (omega arith))))
    (e ∙ beside_zip (drop 1 p) (take 6 (drop (at + 2) t)) ∙ ap (side_by_side key_beside (drop 1 p)) (sym same))

rows_from : (q : List ℕ → Bool) (t : List ℕ) (i n : ℕ) → any (λ j. q (take 8 (drop (8 * j) t))) (numbers_from i n) ≡ any q (rows_in n (drop (8 * i) t))
rows_from q t i zero = refl
rows_from q t i (suc n) =
    ap (λ (b : Bool). q (take 8 (drop (8 * i) t)) || b)
    (rows_from q t (i + 1) n
    ∙ (let z : 8 * (i + 1) ≡ 8 * i + 8 = omega arith in ap (λ (k : ℕ). any q (rows_in n (drop k t))) z)
    ∙ ap (λ (l : List ℕ). any q (rows_in n l)) (sym (drop-drop 8 (8 * i) t)))

pub rows_told : (q : List ℕ → Bool) (t : List ℕ) (n : ℕ) → any (λ j. q (take 8 (drop (8 * j) t))) (below n) ≡ any q (rows_in n t)
rows_told q t n = rows_from q t 0 n
