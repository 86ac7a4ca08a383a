-- What a memory holds, by index: a chain over the indices tests the same as one over the list. Assumes nothing.
use mathlib.Core.Path.{◌≡◌, refl, sym, ap, ap₂, ◌∙◌, subst}
use mathlib.Core.Logic.{◌⊎◌, inl, inr}
use mathlib.Core.Bool.{Bool, true, false, cond}
use mathlib.Core.List.{List, [], ◌∷◌, ◌++◌, map, map-append}
use Prim.Native.Nat.{ℕ, zero, suc, ◌+◌, ◌-◌, ◌*◌, ◌≤◌, ◌<◌}
use native.Mathlib.Omega.{arith}
use lib.Dec.{eqb, ltb}
use lib.ListN.{length, get_or, take, drop}
use lib.Seq.{get_or-drop, drop-drop}
use borrow.Author.Tests.{eqb-true, eqb-false}
use denote.Param.Members.{Mut, Called}
use Rattle.std.specs.Array.{IsFromFnResult, IsFromFnResultFrom}
use Rattle.std.proofs.lemmas.List.{ext_get_or, drop-map}
use Rattle.std.specs.Prelude.{Some, None}
use Rattle.std.specs.Bool.{MatchBool}
use Rattle.std.specs.List.{position_or_len, AllWithin, HoldsAt}
use mathlib.Core.List.Memᴰ
use Rattle.records.specs.Lists.{In, any, all, below, numbers_from, position}
use Rattle.records.proofs.Chains.{position_is}
use Rattle.records.proofs.Lists.{bool_cases, off, clash, all_of, all_in, in_any, any_in, in_get_d, get_d_in, any_map, all_map}
use Rattle.literals.specs.Held.{rows_by}
use Rattle.literals.proofs.Indices.{at_all, below_snoc, map_agree, position_map, length_from}
use Rattle.literals.proofs.KeyRows.{length_rows, rows_at}
use Rattle.events.specs.Held.{EventRow, event_at, events_in, GroundLiteral, ground_at, ground_in}

-- a list of n elements, each of them told by its index
listed : {A : Type 0} (l : List A) (n : ℕ) (d : A) (f : ℕ → A) → length l ≡ n → ((i : ℕ) → i < n → get_or l i d ≡ f i) → l ≡ map f (below n)
listed l n d f e h = sym (at_all d l) ∙ ap (λ (k : ℕ). map (λ i. get_or l i d) (below k)) e ∙ map_agree (λ i. get_or l i d) f n h

-- ---- rows of a width

module _ (w n : ℕ) (t : List ℕ) where
  abbrev row_at : ℕ → List ℕ
  row_at i = take w (drop (w * i) t)

  pub rows_listed : rows_by w n t ≡ map row_at (below n)
  rows_listed = listed (rows_by w n t) n [] row_at (length_rows w n t) (λ i h. rows_at w n t i [] h)

  module _ (p : List ℕ → Bool) where
    pub any_rows : any p (rows_by w n t) ≡ any (λ i. p (row_at i)) (below n)
    any_rows = ap (any p) rows_listed ∙ any_map row_at p (below n)

    -- the first, as a chain finds it
    pub place_rows : cond (ltb (position_or_len (λ i. p (row_at i)) (below n)) (length (below n))) (Some (position_or_len (λ i. p (row_at i)) (below n))) None
        ≡ cond (ltb (position p (rows_by w n t)) (length (rows_by w n t))) (Some (position p (rows_by w n t))) None
    place_rows =
        let e : position_or_len (λ i. p (row_at i)) (below n) ≡ position p (rows_by w n t) =
        sym (ap (position p) rows_listed ∙ position_map row_at p (below n) ∙ position_is (λ i. p (row_at i)) (below n)) in
        let l : length (below n) ≡ length (rows_by w n t) = length_from 0 n ∙ sym (length_rows w n t) in
        ap₂ (λ (i k : ℕ). cond (ltb i k) (Some i) None) e l

-- ---- waiting events

module _ (moments rows : List ℕ) where
  event_more : (i : ℕ) → event_at (drop 1 moments) (drop 17 rows) i ≡ event_at moments rows (suc i)
  event_more i =
      let e : 1 + i ≡ suc i = omega arith in
      let f : 17 * i + 17 ≡ 17 * suc i = omega arith in
      ap₂ {C = EventRow} (λ m r. record { moment = m; row = r })
      (get_or-drop 1 moments i 0 ∙ ap (λ (k : ℕ). get_or moments k 0) e)
      (ap (take 17) (drop-drop (17 * i) 17 rows ∙ ap (λ (k : ℕ). drop k rows) (omega arith)))

length_events : (n : ℕ) (moments rows : List ℕ) → length (events_in n moments rows) ≡ n
length_events zero moments rows = refl
length_events (suc n) moments rows = ap suc (length_events n (drop 1 moments) (drop 17 rows))

no_row : EventRow
no_row = record { moment = 0; row = [] }

event_listed : (n : ℕ) (moments rows : List ℕ) (i : ℕ) → i < n → get_or (events_in n moments rows) i no_row ≡ event_at moments rows i
event_listed zero moments rows i h = absurd (omega arith)
event_listed (suc n) moments rows zero h = refl
event_listed (suc n) moments rows (suc i) h = event_listed n (drop 1 moments) (drop 17 rows) i (omega arith) ∙ event_more moments rows i

module _ (n : ℕ) (moments rows : List ℕ) where
  pub events_listed : events_in n moments rows ≡ map (event_at moments rows) (below n)
  events_listed = listed (events_in n moments rows) n no_row (event_at moments rows) (length_events n moments rows) (event_listed n moments rows)

  module _ (p : EventRow → Bool) where
    pub all_events : all p (events_in n moments rows) ≡ all (λ i. p (event_at moments rows i)) (below n)
    all_events = ap (all p) events_listed ∙ all_map (event_at moments rows) p (below n)

-- ---- ground literals

pub ground_listed : (n : ℕ) (memory : List ℕ) → ground_in n memory ≡ map (ground_at memory) (below n)
ground_listed zero memory = refl
ground_listed (suc n) memory =
    ap (λ (l : List GroundLiteral). l ++ (ground_at memory n ∷ [])) (ground_listed n memory)
    ∙ sym (ap (map (ground_at memory)) (below_snoc n) ∙ map-append (ground_at memory) (below n) (n ∷ []))

module _ (n : ℕ) (memory : List ℕ) (p : GroundLiteral → Bool) where
  pub any_ground : any p (ground_in n memory) ≡ any (λ i. p (ground_at memory i)) (below n)
  any_ground = ap (any p) (ground_listed n memory) ∙ any_map (ground_at memory) p (below n)

  pub all_ground : all p (ground_in n memory) ≡ all (λ i. p (ground_at memory i)) (below n)
  all_ground = ap (all p) (ground_listed n memory) ∙ all_map (ground_at memory) p (below n)

-- ---- an array that is filled by calls

-- each call gives h of its number, and leaves the closure
module _ {F : Type 0} (g : Mut F (ℕ × Unit {0}) ℕ) (f : F) (h : ℕ → ℕ) (step : (i y : ℕ) (q : F) → Called g f (i, tt) y q → (q ≡ f) × (y ≡ h i)) where
  filled : (ys : List ℕ) (i n : ℕ) → IsFromFnResultFrom g f ys i n → (j : ℕ) → i ≤ j → j < i + n → get_or ys j 0 ≡ h j
  filled ys i zero e j a b = absurd (omega arith)
  filled ys i (suc n) e j a b =
      let rest : IsFromFnResultFrom g f ys (i + 1) n =
      subst (λ (q : F). IsFromFnResultFrom g q ys (i + 1) n) (step i e.1 e.0 e.3).0 e.4 in
      go (bool_cases (eqb j i)) (λ c. filled ys (i + 1) n rest j c (omega arith))
    where
      go : (eqb j i ≡ true) ⊎ (eqb j i ≡ false) → (i + 1 ≤ j → get_or ys j 0 ≡ h j) → get_or ys j 0 ≡ h j
      go (inl t) k = let z = eqb-true j i t in ap (λ (k : ℕ). get_or ys k 0) z ∙ e.2.1 0 ∙ (step i e.1 e.0 e.3).1 ∙ ap h (sym z)
      go (inr t) k = let z = eqb-false j i t in k (omega arith)

  pub filled_whole : (ys : List ℕ) (n : ℕ) → IsFromFnResult g f ys n → (xs : List ℕ) → length xs ≡ n → ((i : ℕ) → i < n → h i ≡ get_or xs i 0) → ys ≡ xs
  filled_whole ys n r xs e k =
      let l = r.long in
      ext_get_or 0 ys xs (omega arith) (λ i b. filled ys 0 n r.each i (omega arith) (omega arith) ∙ k i (omega arith))

-- ---- those from a place on

drop_numbers : (i k n : ℕ) → drop k (numbers_from i n) ≡ numbers_from (i + k) (n - k)
drop_numbers i zero n = ap₂ numbers_from (omega arith) (omega arith)
drop_numbers i (suc k) zero = let e : 0 - suc k ≡ 0 = omega arith in rw e
drop_numbers i (suc k) (suc n) = drop_numbers (i + 1) k n ∙ ap₂ numbers_from (omega arith) (omega arith)

-- what they are
pub numbers_within : (i n : ℕ) {j : ℕ} → In j (numbers_from i n) → (i ≤ j) × (j < i + n)
numbers_within i zero m = absurd (Memᴰ.not-nil m)
numbers_within i (suc n) (Memᴰ.head e) = (omega arith, omega arith)
numbers_within i (suc n) (Memᴰ.tail m) = let h = numbers_within (i + 1) n m in let a = h.0 in let b = h.1 in (omega arith, omega arith)

module _ (from n : ℕ) (memory : List ℕ) (p : GroundLiteral → Bool) where
  pub any_behind : any p (drop from (ground_in n memory)) ≡ any (λ i. p (ground_at memory i)) (numbers_from from (n - from))
  any_behind =
      ap (λ (l : List GroundLiteral). any p (drop from l)) (ground_listed n memory)
      ∙ ap (any p) (drop-map (ground_at memory) from (below n))
      ∙ any_map (ground_at memory) p (drop from (below n))
      ∙ ap (any (λ i. p (ground_at memory i))) (drop_numbers 0 from n ∙ ap (λ (k : ℕ). numbers_from k (n - from)) (omega arith))

-- ---- a chain whose test is known only of what the list has

module _ (xs : List ℕ) (test : ℕ → Bool) (H : ℕ → Type 0) (holds : (i : ℕ) → In i xs → H i) where
  within : (b : Bool) → AllWithin (λ i. H i → test i ≡ b) xs 0 (length xs) → (i : ℕ) → In i xs → test i ≡ b
  within b w i m =
      let p = in_get_d xs 0 m in
      let k : ℕ = p.0 in
      let l : k < length xs = p.1 in
      subst (λ (j : ℕ). H j → test j ≡ b) p.2 (w k 0 (omega arith) l) (holds i m)

  at_one : (b : Bool) → (k : ℕ) × (k < length xs) × HoldsAt (λ i. H i → test i ≡ b) xs k → (i : ℕ) × In i xs × (test i ≡ b)
  at_one b w =
      let m = get_d_in xs w.0 0 w.1 in
      (get_or xs w.0 0, m, w.2 0 (holds (get_or xs w.0 0) m))

  pub all_told : {r : Bool} → MatchBool r (AllWithin (λ i. H i → test i ≡ true) xs 0 (length xs)) ((k : ℕ) × (k < length xs) × HoldsAt (λ i. H i → test i ≡ false) xs k)
      → r ≡ all test xs
  all_told {r} = go r
    where
      go : (b : Bool) → MatchBool b (AllWithin (λ i. H i → test i ≡ true) xs 0 (length xs)) ((k : ℕ) × (k < length xs) × HoldsAt (λ i. H i → test i ≡ false) xs k)
          → b ≡ all test xs
      go true w = sym (all_of test xs (within true w))
      go false w = let o = at_one false w in sym (off (all test xs) (λ t. clash (all_in test xs t o.1) o.2))

  pub any_told : {r : Bool} → MatchBool r ((k : ℕ) × (k < length xs) × HoldsAt (λ i. H i → test i ≡ true) xs k) (AllWithin (λ i. H i → test i ≡ false) xs 0 (length xs))
      → r ≡ any test xs
  any_told {r} = go r
    where
      go : (b : Bool) → MatchBool b ((k : ℕ) × (k < length xs) × HoldsAt (λ i. H i → test i ≡ true) xs k) (AllWithin (λ i. H i → test i ≡ false) xs 0 (length xs))
          → b ≡ any test xs
      go true w = let o = at_one true w in sym (in_any test o.1 o.2)
      go false w = sym (off (any test xs) (λ t. let a = any_in test xs t in clash a.2 (within false w a.0 a.1)))
