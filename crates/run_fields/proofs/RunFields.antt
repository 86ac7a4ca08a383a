-- Laws for the checks of a run record's fields: the close of a run, bytes that stand twice, and what stops a start fact and an event, by bytes and by the domain.
-- Assumes nothing.
use mathlib.Core.Path.{◌≡◌, refl, sym, ap, ap₂, ◌∙◌}
use mathlib.Core.Bool.{Bool, true, false, ◌&&◌, ◌||◌, not, cond}
use mathlib.Core.List.Memᴰ
use mathlib.Core.List.{List, [], ◌∷◌, map}
use mathlib.Core.Logic.{◌⊎◌, inl, inr}
use Prim.Native.Nat.{ℕ, zero, suc, ◌+◌, ◌-◌, ◌≤◌, ◌<◌}
use native.Mathlib.Numerals.{add-one}
use native.Mathlib.Omega.{arith}
use lib.Dec.{eqb, ltb, leb}
use lib.ListN.{length, drop, get_or, length-map, length-drop, drop_of_length-le}
use lib.Seq.{drop-cons}
use borrow.Author.Tests.{ltb-true, ltb-false, le-leb, lt-leb, leb-false, eq-eqb, ne_eqb, eqb-true, eqb-false}
use Rattle.records.specs.Lists.{all, any, empty, distinct, elem, below, numbers_from}
use Rattle.records.proofs.Lists.{bool_cases, not_false, any_out, all_map, empty_no, empty_yes}
use Rattle.records.proofs.Numbers.{number_of, test_of, none_passes, rows_split}
use Rattle.literals.specs.declared.Object.{Object}
use Rattle.literals.specs.Domain.{object, same_object, Fact, same_fact, Domain, arity, action}
use Rattle.literals.specs.Decode.{byte}
use Rattle.literals.specs.Held.{relations_in, actions_in, arity_in, variables_in, lasting_in, HeadOf}
use Rattle.literals.proofs.Heads.{arity_limit, variables_limit}
use Rattle.literals.specs.Matching.{moment_number}
use Rattle.verdict.specs.Machine.{Event, same_event, injective}
use Rattle.verdict.specs.Held.{fact_row}
use Rattle.events.specs.Held.{Waiting, ground_row, waiting_of, GroundFits, EventsFit}
use Rattle.run_semantics.specs.RunFile.{fact_of, moment_of, event_of, max_facts, max_events, outside, fact_stop, event_stop, step_stop, end_stop}
use Rattle.store.specs.Held.{has_row}
use Rattle.run_fields.specs.Held.{fact_fields, event_fields, stands_again, waits_at}
use Rattle.events.proofs.FactRows.{has_fact}
use Rattle.run_fields.proofs.WaitingRows.{waiting_elem}

-- ---- the close of a run: the tests of the close of a step, and that no event waits

end_split : (n : ℕ) (es : List Event) (b : List ℕ) → end_stop n es b ≡ cond (eqb (step_stop n b) 0) (cond (empty es) 0 50) (step_stop n b)
unfolding end_stop step_stop
end_split n es b = rows_split ((eqb n 0, 50) ∷ (not (eqb (length b) 0), 50) ∷ []) (cond (empty es) 0 50) refl

module _ (n : ℕ) (es : List Event) (b : List ℕ) (stop : ℕ) (s : stop ≡ step_stop n b) where
  pub end_stopped : (stop ≡ 0 → ⊥) → stop ≡ end_stop n es b
  end_stopped z = sym (end_split n es b ∙ rw (← s, ne_eqb stop 0 z))

  module _ (z : stop ≡ 0) where
    pub end_waiting : 0 < length es → 50 ≡ end_stop n es b
    end_waiting l = sym (end_split n es b ∙ rw (← s, eq-eqb stop 0 z, empty_no es l))

    pub end_passed : length es ≤ 0 → 0 ≡ end_stop n es b
    end_passed l = sym (end_split n es b ∙ rw (← s, eq-eqb stop 0 z, empty_yes es l))

-- ---- whether a byte stands twice, as the code looks for one

eqb_turned : (x y : ℕ) → eqb y x ≡ eqb x y
eqb_turned x y = go (bool_cases (eqb x y))
  where
    go : (eqb x y ≡ true) ⊎ (eqb x y ≡ false) → eqb y x ≡ eqb x y
    go (inl t) = let e = eqb-true x y t in eq-eqb y x (sym e) ∙ sym t
    go (inr f) = ne_eqb y x (λ e. eqb-false x y f (sym e)) ∙ sym f

any_not_all : (x : ℕ) (l : List ℕ) → any (λ y. eqb y x) l ≡ not (all (λ y. not (eqb x y)) l)
any_not_all x [] = refl
any_not_all x (y ∷ ys) = ap (λ (t : Bool). t || any (λ z. eqb z x) ys) (eqb_turned x y) ∙ go (eqb x y) (any_not_all x ys)
  where
    go : (t : Bool) → any (λ z. eqb z x) ys ≡ not (all (λ z. not (eqb x z)) ys) → t || any (λ z. eqb z x) ys ≡ not (not t && all (λ z. not (eqb x z)) ys)
    go true h = refl
    go false h = h

module _ (s : List ℕ) where
  again_from : (i n : ℕ) → i + n ≡ length s → any (stands_again s) (numbers_from i n) ≡ not (distinct eqb (drop i s))
  again_from i zero e = let l : length s ≤ i = omega arith in rw (drop_of_length-le s l)
  again_from i (suc n) e =
      ap₂ ◌||◌ (any_not_all (get_or s i 0) (drop (i + 1) s)) (again_from (i + 1) n (omega arith))
      ∙ go (all (λ y. not (eqb (get_or s i 0) y)) (drop (i + 1) s)) (distinct eqb (drop (i + 1) s))
      ∙ sym (ap (λ (l : List ℕ). not (distinct eqb l)) (drop-cons s i 0 (omega arith) ∙ ap (λ (k : ℕ). get_or s i 0 ∷ drop k s) (sym (add-one i))))
    where
      go : (a b : Bool) → not a || not b ≡ not (a && b)
      go true b = refl
      go false b = refl

  pub again_twice : (i : ℕ) → any (stands_again s) (numbers_from i (length s - i)) ≡ not (distinct eqb (drop i s))
  again_twice i = go (bool_cases (ltb i (length s)))
    where
      go : (ltb i (length s) ≡ true) ⊎ (ltb i (length s) ≡ false) → any (stands_again s) (numbers_from i (length s - i)) ≡ not (distinct eqb (drop i s))
      go (inl t) = let l = ltb-true i (length s) t in again_from i (length s - i) (omega arith)
      go (inr f) =
          let l = ltb-false i (length s) f in
          let z : length s - i ≡ 0 = omega arith in
          rw (z, drop_of_length-le s l)

-- ---- what holds where no number up to 51 stops a start fact

pub fact_short_row : (head : List ℕ) (objects : ℕ) (begun : Bool) (b : List ℕ) → fact_fields head objects begun b ≡ 0
    → (1 ≤ length b) × (length b ≤ 7)
unfolding fact_fields
fact_short_row head objects begun b e =
    let r = (none_passes (
    (eqb objects 0 || begun, 50)
    ∷ (ltb (length b) 1, 50)
    ∷ (leb (relations_in head) (byte b 0), 51)
    ∷ (not (eqb (length b) (1 + arity_in head (byte b 0))), 50)
    ∷ (any (leb objects) (drop 1 b), 51)
    ∷ []) 0 refl e).0
    in
    let l : length b ≡ 1 + arity_in head (byte b 0) = eqb-true _ _ (not_false _ (r 3)) in
    let k = arity_limit head (byte b 0) in
    (ltb-false _ _ (r 1), omega arith)

-- a row is one of the facts' rows exactly where its fact is one of them
pub fact_found : (f : Fact) (fs : List Fact) (row : List ℕ) (rows : List (List ℕ)) (r : Bool) → row ≡ fact_row f → rows ≡ map fact_row fs → r ≡ has_row row rows → elem same_fact f fs ≡ r
fact_found f fs row rows r p q e = sym (e ∙ ap₂ has_row p q ∙ has_fact f fs)

-- ---- the number that stops a start fact, by the bytes of the domain

module _ (D : Domain) (fs : List Fact) (head : List ℕ) (H : HeadOf D head) (objects : ℕ) (begun : Bool) (b : List ℕ) where
  -- the tests up to 51
  fact_rows : List (Bool × ℕ)
  fact_rows =
      (eqb objects 0 || begun, 50)
      ∷ (ltb (length b) 1, 50)
      ∷ (leb (length D.arities) (byte b 0), 51)
      ∷ (not (eqb (length b) (1 + arity D (byte b 0))), 50)
      ∷ (outside objects (drop 1 b), 51)
      ∷ []

  fact_fields_is : fact_fields head objects begun b ≡ number_of fact_rows 0
  unfolding fact_fields fact_rows
  fact_fields_is = rw (H.relations, H.arities (byte b 0))

  fact_split : fact_stop D objects begun fs b
      ≡ cond (eqb (fact_fields head objects begun b) 0) (cond (not (elem same_fact (fact_of b) fs) && leb max_facts (length fs)) 52 0) (fact_fields head objects begun b)
  unfolding fact_stop fact_rows
  fact_split =
      rows_split fact_rows (cond (not (elem same_fact (fact_of b) fs) && leb max_facts (length fs)) 52 0) refl
      ∙ ap (λ (m : ℕ). cond (eqb m 0) (cond (not (elem same_fact (fact_of b) fs) && leb max_facts (length fs)) 52 0) m) (sym fact_fields_is)

  module _ (stop : ℕ) (s : stop ≡ fact_fields head objects begun b) where
    pub fact_stopped : (stop ≡ 0 → ⊥) → stop ≡ fact_stop D objects begun fs b
    fact_stopped z = sym (fact_split ∙ rw (← s, ne_eqb stop 0 z))

    module _ (z : stop ≡ 0) where
      fact_last : fact_stop D objects begun fs b ≡ cond (not (elem same_fact (fact_of b) fs) && leb max_facts (length fs)) 52 0
      fact_last = fact_split ∙ rw (← s, eq-eqb stop 0 z)

      pub fact_known : elem same_fact (fact_of b) fs ≡ true → 0 ≡ fact_stop D objects begun fs b
      fact_known k = sym (fact_last ∙ rw k)

      pub fact_full : elem same_fact (fact_of b) fs ≡ false → max_facts ≤ length fs → 52 ≡ fact_stop D objects begun fs b
      fact_full k l = sym (fact_last ∙ rw (k, le-leb max_facts (length fs) l))

      pub fact_room : length fs < max_facts → 0 ≡ fact_stop D objects begun fs b
      fact_room l = sym (fact_last ∙ rw (lt-leb max_facts (length fs) l) (go (elem same_fact (fact_of b) fs)))
        where
          go : (k : Bool) → ◌≡◌ {A = ℕ} (cond (not k && false) 52 0) 0
          go true = refl
          go false = refl

-- ---- what holds where no number up to 51 stops an event

pub byte_moment : (m : ℕ) → m ≤ 1 → m ≡ moment_number (moment_of m)
byte_moment zero h = refl
byte_moment (suc zero) h = refl
byte_moment (suc (suc m)) h = absurd (omega arith)

module _ (head : List ℕ) (objects : ℕ) (b : List ℕ) (e : event_fields head objects b ≡ 0) where
  -- no test passes
  event_none : (i : ℕ)
      → test_of (
      (eqb objects 0, 50)
      ∷ (ltb (length b) 2, 50)
      ∷ (ltb 1 (byte b 0), 51)
      ∷ (leb (actions_in head) (byte b 1), 51)
      ∷ (not (eqb (length b) (2 + variables_in head (byte b 1))), 50)
      ∷ (eqb (byte b 0) 1 && not (lasting_in head (byte b 1)), 51)
      ∷ (any (leb objects) (drop 2 b), 51)
      ∷ []) i
      ≡ false
  unfolding event_fields
  event_none =
      (none_passes (
      (eqb objects 0, 50)
      ∷ (ltb (length b) 2, 50)
      ∷ (ltb 1 (byte b 0), 51)
      ∷ (leb (actions_in head) (byte b 1), 51)
      ∷ (not (eqb (length b) (2 + variables_in head (byte b 1))), 50)
      ∷ (eqb (byte b 0) 1 && not (lasting_in head (byte b 1)), 51)
      ∷ (any (leb objects) (drop 2 b), 51)
      ∷ []) 0 refl e).0

  event_size : length b ≡ 2 + variables_in head (byte b 1)
  event_size = eqb-true (length b) (2 + variables_in head (byte b 1)) (not_false _ (event_none 4))

  pub event_short_row : (2 ≤ length b) × (length b ≤ 18)
  event_short_row = let k = variables_limit head (byte b 1) in let l = event_size in (ltb-false _ _ (event_none 1), omega arith)

  -- the byte of its moment
  event_byte : byte b 0 ≡ moment_number (event_of b).moment
  event_byte = byte_moment (byte b 0) (ltb-false 1 (byte b 0) (event_none 2))

  -- it is an event of the domain, with an object below 64 for each variable
  event_fits : (D : Domain) → HeadOf D head → objects ≤ 64 → GroundFits D (event_of b).act
  event_fits D H h =
      let l = event_size in
      let k = length-map (drop 2 b) object in
      let d = length-drop 2 b in
      let a = H.actions in
      let m = leb-false (actions_in head) (byte b 1) (event_none 3) in
      let v = H.variables (byte b 1) (omega arith) in
      record {
        listed = omega arith;
        bound = omega arith;
        objects = λ o i.
            let r = Memᴰ.of_map object (drop 2 b) i in
            let f = leb-false objects r.0 (any_out (leb objects) (event_none 6) r.1) in
            let g = ap (λ (x : Object). x.0) r.2 in
            omega arith;
      }

  -- and it waits exactly where one of the rows is its row
  pub event_waits : (D : Domain) → HeadOf D head → objects ≤ 64 → (es : List Event) → EventsFit D es
      → (w : Waiting) → w ≡ waiting_of es → (act : List ℕ) → act ≡ ground_row (event_of b).act
      → (r : Bool) → r ≡ any (waits_at w.moments w.rows (byte b 0) act) (below w.count) → elem same_event (event_of b) es ≡ r
  event_waits D H h es F w p act g r q =
      sym (q ∙ waiting_elem H.bounded es F w p (event_of b) (event_fits D H h) (byte b 0) act event_byte g)

-- ---- the number that stops an event, by the bytes of the domain

-- no object twice, by the bytes
pub objects_once : (l : List ℕ) → distinct same_object (map object l) ≡ distinct eqb l
objects_once [] = refl
objects_once (x ∷ xs) = ap₂ ◌&&◌ (all_map object (λ y. not (same_object (object x) y)) xs) (objects_once xs)

-- behind a test only what holds where it fails counts
cond_else : (t : Bool) (m : ℕ) {x y : ℕ} → (t ≡ false → x ≡ y) → cond t m x ≡ cond t m y
cond_else true m h = refl
cond_else false m h = h refl

module _ (D : Domain) (es : List Event) (head : List ℕ) (H : HeadOf D head) (objects : ℕ) (b : List ℕ) where
  -- the tests up to 51
  event_rows_lem : List (Bool × ℕ)
  event_rows_lem =
      (eqb objects 0, 50)
      ∷ (ltb (length b) 2, 50)
      ∷ (ltb 1 (byte b 0), 51)
      ∷ (leb (length D.actions) (byte b 1), 51)
      ∷ (not (eqb (length b) (2 + (action D (byte b 1)).vars)), 50)
      ∷ (eqb (byte b 0) 1 && not (action D (byte b 1)).lasting, 51)
      ∷ (outside objects (drop 2 b), 51)
      ∷ []

  event_fields_is : event_fields head objects b ≡ number_of event_rows_lem 0
  unfolding event_fields event_rows_lem
  event_fields_is =
      rw H.actions
      (ap (λ (m : ℕ). cond (eqb objects 0) 50 (cond (ltb (length b) 2) 50 (cond (ltb 1 (byte b 0)) 51 m)))
      (cond_else (leb (length D.actions) (byte b 1)) 51
      (λ f. let l = leb-false (length D.actions) (byte b 1) f in rw (H.variables (byte b 1) l, H.lasting (byte b 1) l))))

  -- the tests behind them
  abbrev event_last : ℕ
  event_last =
      cond (not (injective (event_of b))) 53
      (cond (elem same_event (event_of b) es) 54
      (cond (leb max_events (length es)) 52 0))

  event_split : event_stop D objects es b ≡ cond (eqb (event_fields head objects b) 0) event_last (event_fields head objects b)
  unfolding event_stop event_rows_lem
  event_split = rows_split event_rows_lem event_last refl ∙ ap (λ (m : ℕ). cond (eqb m 0) event_last m) (sym event_fields_is)

  module _ (stop : ℕ) (s : stop ≡ event_fields head objects b) where
    pub event_stopped : (stop ≡ 0 → ⊥) → stop ≡ event_stop D objects es b
    event_stopped z = sym (event_split ∙ rw (← s, ne_eqb stop 0 z))

    -- whether an object stands twice, and whether the event waits
    module _ (z : stop ≡ 0) (twice : Bool) (t : twice ≡ not (distinct eqb (drop 2 b))) where
      twice_is : not (injective (event_of b)) ≡ twice
      twice_is = ap not (objects_once (drop 2 b)) ∙ sym t

      event_passed : event_stop D objects es b ≡ event_last
      event_passed = event_split ∙ rw (← s, eq-eqb stop 0 z)

      pub event_twice : twice ≡ true → 53 ≡ event_stop D objects es b
      event_twice f = sym (event_passed ∙ rw (twice_is, f))

      module _ (f : twice ≡ false) (waits : Bool) (w : elem same_event (event_of b) es ≡ waits) where
        pub event_repeated : waits ≡ true → 54 ≡ event_stop D objects es b
        event_repeated g = sym (event_passed ∙ rw (twice_is, f, w, g))

        pub event_full : waits ≡ false → max_events ≤ length es → 52 ≡ event_stop D objects es b
        event_full g l = sym (event_passed ∙ rw (twice_is, f, w, g, le-leb max_events (length es) l))

        pub event_room : waits ≡ false → length es < max_events → 0 ≡ event_stop D objects es b
        event_room g l = sym (event_passed ∙ rw (twice_is, f, w, g, lt-leb max_events (length es) l))
