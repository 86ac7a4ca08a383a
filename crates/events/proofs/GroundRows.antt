-- Laws of loops over rows of 17 bytes: finding one, taking one out, writing one behind them; and over the events that wait. Assumes nothing.
use mathlib.Core.Path.{◌≡◌, refl, sym, ap, ap₂, ◌∙◌}
use mathlib.Core.Bool.{Bool, true, false, ◌&&◌, cond}
use mathlib.Core.Logic.{◌⊎◌, inl, inr}
use mathlib.Core.List.{List, [], ◌∷◌, ◌++◌, append-nil, append_assoc}
use Prim.Native.Nat.{ℕ, zero, suc, ◌+◌, ◌-◌, ◌*◌, ◌≤◌, ◌<◌}
use native.Mathlib.Nat.{sub-zero}
use native.Mathlib.Omega.{arith}
use lib.Dec.{eqb, ltb}
use lib.ListN.{length, get_or, take, drop, replicate, length-drop, drop_of_length-le}
use lib.Seq.{paste, length-paste, take-paste, take_all, get_or-drop, drop-drop}
use borrow.Author.Tests.{ltb-true, ltb-false, eqb-true, eqb-false, eq-eqb, ne_eqb}
use Rattle.records.specs.Lists.{all, below, numbers_from, same_list, position}
use Rattle.records.proofs.Lists.{bool_cases}
use Rattle.std.specs.Prelude.{Option, Some, None}
use Rattle.literals.proofs.KeyRows.{place_le, length_rows, row_miss, row_hit, row_end}
use Rattle.events.specs.Held.{Open, grounds_in, EventRow, event_at, events_in, entry_place, without_entry, close_entry, close_event}
use Rattle.events.specs.Held.{close_events, join_entry, opens_by, join_event, join_events, OpenAfter, count_after}

-- a part of 17 bytes
pub part_ground : (t : List ℕ) (at : ℕ) → take (at + 17 - at) (drop at t) ≡ take 17 (drop at t)
part_ground t at = let e : at + 17 - at ≡ 17 = omega arith in ap (λ (k : ℕ). take k (drop at t)) e

-- 17 bytes are the same where each of them is
module _ (x t : List ℕ) (at : ℕ) (wide : length x ≡ 17) (room : at + 17 ≤ length t) where
  same_from : (i n : ℕ) → i + n ≡ 17 → all (λ i. eqb (get_or x i 0) (get_or t (at + i) 0)) (numbers_from i n) ≡ same_list eqb (drop i x) (drop i (take 17 (drop at t)))
  same_from i zero e = sym (row_end 17 x t at i (omega arith) (omega arith) (omega arith))
  same_from i (suc n) e = go (same_from (i + 1) n (omega arith)) (bool_cases (eqb (get_or x i 0) (get_or t (at + i) 0)))
    where
      go : all (λ i. eqb (get_or x i 0) (get_or t (at + i) 0)) (numbers_from (i + 1) n) ≡ same_list eqb (drop (i + 1) x) (drop (i + 1) (take 17 (drop at t)))
          → (eqb (get_or x i 0) (get_or t (at + i) 0) ≡ true) ⊎ (eqb (get_or x i 0) (get_or t (at + i) 0) ≡ false)
          → all (λ i. eqb (get_or x i 0) (get_or t (at + i) 0)) (numbers_from i (suc n)) ≡ same_list eqb (drop i x) (drop i (take 17 (drop at t)))
      go rest (inl s) =
          ap (λ (b : Bool). b && all (λ i. eqb (get_or x i 0) (get_or t (at + i) 0)) (numbers_from (i + 1) n)) s
          ∙ rest
          ∙ sym (row_hit 17 x t at i (omega arith) (omega arith) (omega arith) (eqb-true _ _ s))
      go rest (inr d) =
          ap (λ (b : Bool). b && all (λ i. eqb (get_or x i 0) (get_or t (at + i) 0)) (numbers_from (i + 1) n)) d
          ∙ sym (row_miss 17 x t at i (omega arith) (omega arith) (omega arith) (eqb-false _ _ d))

  pub bytes_same : all (λ i. eqb (get_or x i 0) (get_or t (at + i) 0)) (below 17) ≡ same_list eqb x (take 17 (drop at t))
  bytes_same = same_from 0 17 refl

-- ---- the events that wait, from event i on

module _ (moments rows : List ℕ) (n i : ℕ) where
  abbrev pub events_from : List EventRow
  events_from = events_in (n - i) (drop i moments) (drop (17 * i) rows)

  abbrev pub events_behind : List EventRow
  events_behind = events_in (n - (i + 1)) (drop (i + 1) moments) (drop (17 * (i + 1)) rows)

  events_end : n ≤ i → events_from ≡ []
  events_end h = let e : n - i ≡ 0 = omega arith in rw e

  events_more : i < n → events_from ≡ event_at moments rows i ∷ events_behind
  events_more h =
      let e : n - i ≡ suc (n - (i + 1)) = omega arith in
      let f : 17 * i + 17 ≡ 17 * (i + 1) = omega arith in
      let z : i + 0 ≡ i = omega arith in
      let m : get_or (drop i moments) 0 0 ≡ get_or moments i 0 = get_or-drop i moments 0 0 ∙ ap (λ (k : ℕ). get_or moments k 0) z in
      ap (λ (k : ℕ). events_in k (drop i moments) (drop (17 * i) rows)) e
      ∙ ap₂ {C = List EventRow} ◌∷◌ (ap {B = EventRow} (λ k. record { moment = k; row = take 17 (drop (17 * i) rows) }) m)
      (ap₂ (λ (a b : List ℕ). events_in (n - (i + 1)) a b) (drop-drop 1 i moments) (drop-drop 17 (17 * i) rows ∙ ap (λ (k : ℕ). drop k rows) f))

  -- the ends among them leave
  module _ (o : Open) where
    pub closes_end : n ≤ i → close_events events_from o ≡ o
    closes_end h = rw (events_end h)

    pub closes_more : i < n → (r : Open) → r ≡ close_event (event_at moments rows i) o → close_events events_from o ≡ close_events events_behind r
    closes_more h r e = rw (events_more h, e)

  -- the starts among them join
  module _ (head : List ℕ) (o : Open) where
    pub joins_end : n ≤ i → join_events head events_from o ≡ record { fits = true; running = o }
    joins_end h = rw (events_end h)

    module _ (r : OpenAfter) (e : r ≡ join_event head (event_at moments rows i) o) (h : i < n) where
      by_first : join_events head events_from o ≡ cond r.fits (join_events head events_behind r.running) r
      by_first = rw (events_more h, e)

      pub joins_more : r.fits ≡ true → join_events head events_from o ≡ join_events head events_behind r.running
      joins_more f = by_first ∙ ap (λ (b : Bool). cond b (join_events head events_behind r.running) r) f

      pub joins_full : r.fits ≡ false → join_events head events_from o ≡ r
      joins_full f = by_first ∙ ap (λ (b : Bool). cond b (join_events head events_behind r.running) r) f

pub events_first : (moments rows : List ℕ) (n : ℕ) → events_in (n - 0) (drop 0 moments) (drop (17 * 0) rows) ≡ events_in n moments rows
events_first moments rows n = ap (λ (k : ℕ). events_in k moments rows) (sub-zero n)

-- ---- an entry taken out

-- a copy over all of a list as long
pub whole_copy : (d s t : List ℕ) → length d ≡ length s → t ≡ paste d 0 s (length s) → t ≡ s
whole_copy d s t h e = e ∙ ap₂ ◌++◌ (take_all (length s) s (omega arith)) (drop_of_length-le d {i = 0 + length s} (omega arith)) ∙ append-nil s

-- what stands behind the entry k
abbrev pub behind : ℕ → List ℕ → List ℕ
behind k t = take (544 - (17 * k + 17)) (drop (17 * k + 17) t)

-- the later entries forward, then zeros behind
module _ (old copy mid rows : List ℕ) (k : ℕ) (size : length old ≡ 544) (few : k < 32) (w : copy ≡ old) (e : mid ≡ paste old (17 * k) (behind k copy) (length (behind k copy))) where
  later : behind k copy ≡ drop (17 * k + 17) old
  later = ap (behind k) w ∙ take_all (544 - (17 * k + 17)) (drop (17 * k + 17) old) (simp length-drop (omega arith))

  length_later : 17 * k + length (behind k copy) ≡ 527
  length_later = omega (arith, ap length later ∙ length-drop (17 * k + 17) old)

  length_mid : length mid ≡ 544
  length_mid = ap length e ∙ length-paste old (17 * k) (behind k copy) (length (behind k copy)) (omega (arith, length_later)) (omega arith) ∙ size

  front : take 527 mid ≡ take (17 * k) old ++ drop (17 * k + 17) old
  front =
      ap₂ take (sym length_later) e
      ∙ take-paste old (17 * k) (behind k copy) (length (behind k copy)) (omega arith) (omega arith)
      ∙ ap (λ (t : List ℕ). take (17 * k) old ++ t) (take_all (length (behind k copy)) (behind k copy) (omega arith) ∙ later)

  pub out_is : rows ≡ paste mid 527 (replicate 17 0) 17 → rows ≡ take (17 * k) old ++ (drop (17 * k + 17) old ++ replicate 17 0)
  out_is f =
      f
      ∙ ap₂ ◌++◌ (ap (λ (t : List ℕ). t ++ replicate 17 0) front) (drop_of_length-le mid {i = 544} (omega (arith, length_mid)))
      ∙ append-nil ((take (17 * k) old ++ drop (17 * k + 17) old) ++ replicate 17 0)
      ∙ append_assoc (take (17 * k) old) (drop (17 * k + 17) old) (replicate 17 0)

-- the first equal entry out
module _ (o : Open) (row : List ℕ) where
  abbrev place : ℕ
  place = position (same_list eqb row) (grounds_in o.count o.rows)

  place_at_most : place ≤ o.count
  place_at_most = omega (arith, place_le (same_list eqb row) (grounds_in o.count o.rows), length_rows 17 o.count o.rows)

  -- where there is one, and where not
  found_at : (k : Option ℕ) → entry_place row (grounds_in o.count o.rows) ≡ k → cond (ltb place o.count) (Some place) None ≡ k
  found_at k e = ap (λ (n : ℕ). cond (ltb place n) (Some place) None) (sym (length_rows 17 o.count o.rows)) ∙ e

  pub close_none : entry_place row (grounds_in o.count o.rows) ≡ None → o ≡ close_entry row o
  unfolding close_entry
  close_none e = go (ltb place o.count) refl (found_at None e)
    where
      go : (b : Bool) → ltb place o.count ≡ b → cond b (Some place) None ≡ None → o ≡ cond (eqb place o.count) o (without_entry place o)
      go true t f = absurd (cc)
      go false t f =
          let a = ltb-false place o.count t in
          let b = place_at_most in
          sym (ap (λ (b : Bool). cond b o (without_entry place o)) (eq-eqb place o.count (omega arith)))

  module _ {k : ℕ} (e : entry_place row (grounds_in o.count o.rows) ≡ Some k) where
    place_is : (k ≡ place) × (k < o.count)
    place_is = go (ltb place o.count) refl (found_at (Some k) e)
      where
        go : (b : Bool) → ltb place o.count ≡ b → cond b (Some place) None ≡ Some k → (k ≡ place) × (k < o.count)
        go true t f = let a = ltb-true place o.count t in let i : k ≡ place = cc in (i, omega arith)
        go false t f = absurd (cc)

    pub place_few : k < o.count
    place_few = place_is.1

    pub close_some : (rows : List ℕ) → rows ≡ take (17 * k) o.rows ++ (drop (17 * k + 17) o.rows ++ replicate 17 0)
        → record { count = o.count - 1; rows = rows } ≡ close_entry row o
    unfolding close_entry without_entry
    close_some rows g =
        let i = place_is.0 in
        let l = place_is.1 in
        ap {B = Open} (λ t. record { count = o.count - 1; rows = t }) g
        ∙ ap (λ (n : ℕ). without_entry n o) i
        ∙ sym (ap (λ (b : Bool). cond b o (without_entry place o)) (ne_eqb place o.count (λ z. omega arith)))

-- of an event
module _ (o : Open) (e : EventRow) where
  pub close_fewer : (r : Open) → r ≡ close_event e o → r.count ≤ o.count
  unfolding close_event close_entry without_entry
  close_fewer r f =
      let k = go (eqb e.moment 1) (eqb (position (same_list eqb e.row) (grounds_in o.count o.rows)) o.count) (position (same_list eqb e.row) (grounds_in o.count o.rows)) in
      let z = ap (λ (r : Open). r.count) f in
      omega arith
    where
      go : (a b : Bool) (k : ℕ) → (cond a (cond b o (without_entry k o)) o).count ≤ o.count
      go false b k = omega arith
      go true true k = omega arith
      go true false k = omega arith

pub closes_fewer : (es : List EventRow) (o r : Open) → r ≡ close_events es o → r.count ≤ o.count
closes_fewer [] o r f = let z = ap (λ (r : Open). r.count) f in omega arith
closes_fewer (e ∷ es) o r f = let a = closes_fewer es (close_event e o) r f in let b = close_fewer o e (close_event e o) refl in omega arith

-- ---- what the answer says of where entries fit

pub fits_not : (r : OpenAfter) → count_after r ≡ None → r.fits ≡ false
fits_not r e = go r.fits e
  where
    go : (b : Bool) → cond b (Some r.running.count) None ≡ None → b ≡ false
    go true f = absurd (cc)
    go false f = refl

pub fits_with : (r : OpenAfter) {k : ℕ} → count_after r ≡ Some k → (r.fits ≡ true) × (r.running.count ≡ k)
fits_with r {k} e = go r.fits e
  where
    go : (b : Bool) → cond b (Some r.running.count) None ≡ Some k → (b ≡ true) × (r.running.count ≡ k)
    go true f = (refl, cc)
    go false f = absurd (cc)

-- ---- an entry more

pub join_is : (o : Open) (row rows : List ℕ) (k : ℕ) → k ≡ 17 → rows ≡ paste o.rows (17 * o.count) row k → record { count = o.count + 1; rows = rows } ≡ join_entry row o
unfolding join_entry
join_is o row rows k h e = ap {B = Open} (λ t. record { count = o.count + 1; rows = t }) (e ∙ ap (paste o.rows (17 * o.count) row) h)

-- ---- of an event

module _ (head : List ℕ) where
  pub joins_few : (e : EventRow) (o : Open) → o.count ≤ 32 → (r : OpenAfter) → r ≡ join_event head e o → r.running.count ≤ 32
  unfolding join_event join_entry
  joins_few e o h r f = let k = go (opens_by head e.moment (get_or e.row 0 0)) (ltb o.count 32) refl in let z = ap (λ (r : OpenAfter). r.running.count) f in omega arith
    where
      go : (a b : Bool) → ltb o.count 32 ≡ b
          → (cond {A = OpenAfter} a (cond b (record { fits = true; running = join_entry e.row o }) (record { fits = false; running = o })) (record { fits = true; running = o })).running.count ≤ 32
      go false b q = h
      go true false q = h
      go true true q = let l = ltb-true o.count 32 q in omega arith
