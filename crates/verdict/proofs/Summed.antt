-- The decision read off the summaries is the decision of the rows. Assumes nothing.
use mathlib.Core.Path.{◌≡◌, refl, sym, ap, ap₂, ◌∙◌}
use mathlib.Core.Bool.{Bool, true, false, ◌||◌, cond}
use Rattle.std.specs.Prelude.{Option, None, Some}
use mathlib.Core.Option.{Option as Maybe, none, some}
use mathlib.Core.List.{List, [], ◌∷◌, ◌++◌, map, map-append, head?}
use Prim.Native.Nat.{ℕ, suc}
use borrow.Author.Tests.{eqb-true}
use Rattle.records.specs.Lists.{keep_if, filter_by, any}
use Rattle.records.proofs.Lists.{any_append, any_map, filter_append}
use Rattle.literals.specs.declared.Variable.{Variable}
use Rattle.literals.specs.Domain.{Action, Domain}
use Rattle.literals.specs.declared.Moment.{Moment}
use Rattle.classes.specs.Classes.{moments_of, classes}
use Rattle.verdict.specs.declared.Spot.{Spot}
use Rattle.verdict.specs.declared.Place.{Place}
use Rattle.verdict.specs.declared.Summary.{Summary}
use Rattle.verdict.specs.declared.Notes.{Notes}
use Rattle.verdict.specs.Decision.{Row, row_at, rows_of_classes, rows_from, rows, is_unbounded, fault_of, is_bounded_outside, first_row, has_fault, or_else, accept, decide_bounded, decide_by, decide_rows, decision}
use Rattle.verdict.specs.Judged.{answer_at, answer_row, decided}
use Rattle.verdict.specs.Summaries.{spot_of, first_spot, has_unbounded, summary_rows, summary_of, summaries, place_in, place_else, first_place, notes_of, answer_place, decide_notes, decided_summaries, SummariesDecide}
use Rattle.verdict.proofs.Rows.{filter_first}

-- ---- an action's rows under another number

abbrev renumber : ℕ → Row → Row
renumber i r = record { action = i; class = r.class; moment = r.moment; name = r.name; journey_end = r.journey_end }

moments_numbered : (D : Domain) (a : Action) (i j : ℕ) (x : List Variable) (ms : List Moment) → map (renumber i) (map (row_at D a 0 j x) ms) ≡ map (row_at D a i j x) ms
moments_numbered D a i j x [] = refl
moments_numbered D a i j x (m ∷ ms) = ap (λ l. row_at D a i j x m ∷ l) (moments_numbered D a i j x ms)

numbered : (D : Domain) (a : Action) (i j : ℕ) (xs : List (List Variable)) → map (renumber i) (rows_of_classes D a 0 j xs) ≡ rows_of_classes D a i j xs
numbered D a i j [] = refl
numbered D a i j (x ∷ xs) =
    map-append (renumber i) (map (row_at D a 0 j x) (moments_of a)) (rows_of_classes D a 0 (suc j) xs)
    ∙ ap₂ ◌++◌ (moments_numbered D a i j x (moments_of a)) (numbered D a i (suc j) xs)

-- ---- the first place of one sort, by a test that does not look at the action's number

-- where a row stands
abbrev place_of : Maybe Row → Option Place
place_of none = None
place_of (some r) = Some (record { action = r.action; class = r.class; moment = r.moment })

else_place : (xs ys : List Row) → place_of (head? (xs ++ ys)) ≡ place_else (place_of (head? xs)) (place_of (head? ys))
else_place [] ys = refl
else_place (x ∷ xs) ys = refl

module _ (p : Row → Bool) (blind : (i : ℕ) (r : Row) → p (renumber i r) ≡ p r) where
  filter_renumber : (i : ℕ) (l : List Row) → filter_by p (map (renumber i) l) ≡ map (renumber i) (filter_by p l)
  filter_renumber i [] = refl
  filter_renumber i (r ∷ l) = ap₂ (λ (b : Bool) (k : List Row). keep_if b (renumber i r) k) (blind i r) (filter_renumber i l) ∙ go (p r)
    where
      go : (b : Bool) → keep_if b (renumber i r) (map (renumber i) (filter_by p l)) ≡ map (renumber i) (keep_if b r (filter_by p l))
      go true = refl
      go false = refl

  module _ (D : Domain) (a : Action) (i : ℕ) (xs : List (List Variable)) where
    -- those of an action that pass, by those under the number 0
    passing : filter_by p (rows_of_classes D a i 0 xs) ≡ map (renumber i) (filter_by p (rows_of_classes D a 0 0 xs))
    passing = ap (filter_by p) (sym (numbered D a i 0 xs)) ∙ filter_renumber i (rows_of_classes D a 0 0 xs)

    -- the first of them, as a place and as a spot
    own_place : place_of (first_row p (rows_of_classes D a i 0 xs)) ≡ place_in i (first_spot p (rows_of_classes D a 0 0 xs))
    own_place = ap (λ (l : List Row). place_of (head? l)) passing ∙ go (filter_by p (rows_of_classes D a 0 0 xs))
      where
        go : (l : List Row) → place_of (head? (map (renumber i) l)) ≡ place_in i (spot_of (head? l))
        go [] = refl
        go (r ∷ l) = refl

    own_spot : first_spot p (rows_of_classes D a i 0 xs) ≡ first_spot p (rows_of_classes D a 0 0 xs)
    own_spot = ap (λ (l : List Row). spot_of (head? l)) passing ∙ go (filter_by p (rows_of_classes D a 0 0 xs))
      where
        go : (l : List Row) → spot_of (head? (map (renumber i) l)) ≡ spot_of (head? l)
        go [] = refl
        go (r ∷ l) = refl

  -- of all actions, from the number i on
  module _ (D : Domain) (f : Summary → Option Spot) (is : (a : Action) → f (summary_of D a) ≡ first_spot p (rows_of_classes D a 0 0 (classes D a))) where
    first_all : (i : ℕ) (acts : List Action) → first_place f i (map (summary_of D) acts) ≡ place_of (first_row p (rows_from D i acts))
    first_all i [] = refl
    first_all i (a ∷ acts) =
        ap₂ place_else (ap (place_in i) (is a) ∙ sym (own_place D a i (classes D a))) (first_all (suc i) acts)
        ∙ sym (ap (λ (l : List Row). place_of (head? l)) (filter_append p (rows_of_classes D a i 0 (classes D a)) (rows_from D (suc i) acts))
        ∙ else_place (filter_by p (rows_of_classes D a i 0 (classes D a))) (filter_by p (rows_from D (suc i) acts)))

-- ---- whether some moment is unbounded

open_own : (D : Domain) (a : Action) (i : ℕ) (xs : List (List Variable)) → has_unbounded (rows_of_classes D a i 0 xs) ≡ has_unbounded (rows_of_classes D a 0 0 xs)
open_own D a i xs =
    ap has_unbounded (sym (numbered D a i 0 xs)) ∙ any_map (renumber i) (λ (r : Row). is_unbounded r.name) (rows_of_classes D a 0 0 xs)

open_all : (D : Domain) (i : ℕ) (acts : List Action) → any (λ (s : Summary). s.endless) (map (summary_of D) acts) ≡ has_unbounded (rows_from D i acts)
unfolding summary_of
open_all D i [] = refl
open_all D i (a ∷ acts) =
    ap₂ ◌||◌ (sym (open_own D a i (classes D a))) (open_all D (suc i) acts)
    ∙ sym (any_append (λ (r : Row). is_unbounded r.name) (rows_of_classes D a i 0 (classes D a)) (rows_from D (suc i) acts))

-- an action's number does not matter to its summary
pub any_number : (D : Domain) (a : Action) (i : ℕ) → summary_rows (rows_of_classes D a i 0 (classes D a)) ≡ summary_of D a
unfolding summary_of
any_number D a i =
    λ k. record {
      heavy = own_spot (has_fault 40) (λ i r. refl) D a i (classes D a) k;
      unbalanced = own_spot (has_fault 41) (λ i r. refl) D a i (classes D a) k;
      unbounded = own_spot (has_fault 42) (λ i r. refl) D a i (classes D a) k;
      bounded = own_spot is_bounded_outside (λ i r. refl) D a i (classes D a) k;
      endless = open_own D a i (classes D a) k;
    }

-- ---- the decision

-- of rows: their notes
abbrev row_notes : Maybe Row → Maybe Row → Maybe Row → Maybe Row → Bool → Notes
row_notes a b c q u = record { heavy = place_of a; unbalanced = place_of b; unbounded = place_of c; bounded = place_of q; endless = u }

module _ (rs : List Row) where
  has_number : (n : ℕ) (r : Row) → first_row (has_fault n) rs ≡ some r → fault_of r ≡ n
  has_number n r e = eqb-true (fault_of r) n (filter_first (has_fault n) rs r e).1

  -- the worst row has the number that it was looked for by
  decide_by_lem : (a b c : Maybe Row) → ((r : Row) → a ≡ some r → fault_of r ≡ 40) → ((r : Row) → b ≡ some r → fault_of r ≡ 41) → ((r : Row) → c ≡ some r → fault_of r ≡ 42)
      → decide_notes (row_notes a b c (first_row is_bounded_outside rs) (has_unbounded rs))
      ≡ answer_row (decide_by (or_else a (or_else b c)) rs).number (decide_by (or_else a (or_else b c)) rs).place
  unfolding decide_notes
  decide_by_lem (some r) b c ha hb hc = ap (λ n. answer_row n (some r)) (sym (ha r refl))
  decide_by_lem none (some r) c ha hb hc = ap (λ n. answer_row n (some r)) (sym (hb r refl))
  decide_by_lem none none (some r) ha hb hc = ap (λ n. answer_row n (some r)) (sym (hc r refl))
  decide_by_lem none none none ha hb hc = go (first_row is_bounded_outside rs) (has_unbounded rs)
    where
      go : (o : Maybe Row) (u : Bool) → cond u (answer_place 43 (place_of o) (answer_at 1 0)) (answer_at 0 0)
          ≡ answer_row (cond u (decide_bounded o) (accept 0)).number (cond u (decide_bounded o) (accept 0)).place
      go none true = refl
      go none false = refl
      go (some r) true = refl
      go (some r) false = refl

pub summaries_decide : SummariesDecide
unfolding decided_summaries notes_of summaries summary_of decided decision rows decide_rows
summaries_decide D =
    let first : (n : ℕ) (f : Summary → Option Spot) → ((a : Action) → f (summary_of D a) ≡ first_spot (has_fault n) (rows_of_classes D a 0 0 (classes D a)))
    → first_place f 0 (map (summary_of D) D.actions) ≡ place_of (first_row (has_fault n) (rows_from D 0 D.actions))
    = λ n f is. first_all (has_fault n) (λ i r. refl) D f is 0 D.actions in
    let rs = rows_from D 0 D.actions in
    ap decide_notes
    (λ i. record {
      heavy = first 40 (λ (s : Summary). s.heavy) (λ a. refl) i;
      unbalanced = first 41 (λ (s : Summary). s.unbalanced) (λ a. refl) i;
      unbounded = first 42 (λ (s : Summary). s.unbounded) (λ a. refl) i;
      bounded = first_all is_bounded_outside (λ i r. refl) D (λ (s : Summary). s.bounded) (λ a. refl) 0 D.actions i;
      endless = open_all D 0 D.actions i;
    })
    ∙ decide_by_lem rs (first_row (has_fault 40) rs) (first_row (has_fault 41) rs) (first_row (has_fault 42) rs) (has_number rs 40) (has_number rs 41) (has_number rs 42)
