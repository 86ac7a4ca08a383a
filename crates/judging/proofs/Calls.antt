-- The call of judging, in the shape of the code: what each of its answers leaves. Assumes nothing.
use mathlib.Core.Path.{◌≡◌, refl, sym, ap, subst, ◌∙◌}
use mathlib.Core.Bool.{Bool, true, false, ◌&&◌, not, cond, true≢false}
use mathlib.Core.Option.{Option, none, some}
use mathlib.Core.List.{List, []}
use Prim.Native.Nat.{ℕ, ◌*◌, ◌≤◌, ◌<◌}
use native.Mathlib.Omega.{arith}
use lib.Dec.{eqb, leb}
use lib.ListN.{length, get_or}
use borrow.Author.Tests.{lt-ltb, le-ltb, leb-true, leb-false, le-leb, lt-leb}
use Rattle.records.specs.Lists.{In, any}
use Rattle.records.specs.Memory.{over}
use Rattle.records.proofs.Lists.{and_l, and_r}
use Rattle.literals.specs.Domain.{Fact, Domain, action}
use Rattle.literals.specs.Decode.{domain}
use Rattle.literals.specs.declared.Moment.{Moment}
use Rattle.literals.specs.declared.Moment.TheVariants.{Start, End}
use Rattle.classes.specs.declared.Name.{Name}
use Rattle.classes.specs.declared.Name.TheVariants.{Unreachable, Irrelevant, Heavy, Balanced, Unbalanced, Bounded, Unbounded}
use Rattle.literals.specs.Matching.{moment_number}
use Rattle.classes.specs.Classes.{classes, name_of}
use Rattle.verdict.specs.declared.Judgement.{Judgement}
use Rattle.naming.specs.declared.NamedDomain.{NamedDomain}
use Rattle.verdict.specs.Decision.{Row, rows, is_unbounded, fault_by, fault_of, is_bounded_outside, first_row, worst_row, accept, decide_bounded, decide_by, decide_rows, decision, class_at, witness_at, witness_of, witness, shown_at, shown_of, is_shown}
use Rattle.verdict.specs.Judged.{row_bytes, fact_bytes, Answer, answer_at, answer_row, decided, writes_witness, fills_report, judged_domain}
use Rattle.verdict.specs.Summaries.{summaries, notes_of, decide_notes, decided_summaries}
use Rattle.verdict.specs.Held.{judgement_of, moment_by}
use Rattle.naming.specs.Held.{naming_of}
use Rattle.witness.specs.Held.{fits_in, shown_in, RefusedAt, ShownAt}
use Rattle.judging.specs.Held.{JudgedAs}
use Rattle.verdict.proofs.Rows.{stands, worst_first}
use Rattle.verdict.proofs.Summed.{summaries_decide}

-- ---- the decision

pub decided_is : (D : Domain) → answer_row (decide_rows (rows D)).number (decide_rows (rows D)).place ≡ decided D
unfolding decided decision
decided_is D = refl

number_is : (D : Domain) → (decided D).number ≡ (decide_rows (rows D)).number
number_is D = ap (λ (a : Answer). a.number) (sym (decided_is D)) ∙ by (decide_rows (rows D)).place
  where
    by : (o : Option Row) → (answer_row (decide_rows (rows D)).number o).number ≡ (decide_rows (rows D)).number
    by none = refl
    by (some r) = refl

-- a refusal by 40 to 42 names its worst row
record Faulty (rs : List Row) : Type 0 where
  row : Row
  listed : In row rs
  place : (decide_rows rs).place ≡ some row
  number : (decide_rows rs).number ≡ fault_of row

faulty : (rs : List Row) → 40 ≤ (decide_rows rs).number → (decide_rows rs).number ≤ 42 → Faulty rs
unfolding decide_rows
faulty rs lo hi = go (worst_row rs) refl lo hi
  where
    bounded : (o : Option Row) → (decide_bounded o).number ≤ 42 → 40 ≤ (decide_bounded o).number → ⊥
    bounded none h l = omega arith
    bounded (some r) h l = omega arith

    rest : (b : Bool) → 40 ≤ (cond b (decide_bounded (first_row is_bounded_outside rs)) (accept 0)).number → (cond b (decide_bounded (first_row is_bounded_outside rs)) (accept 0)).number ≤ 42 → ⊥
    rest true l h = bounded (first_row is_bounded_outside rs) h l
    rest false l h = omega arith

    go : (o : Option Row) → worst_row rs ≡ o → 40 ≤ (decide_by o rs).number → (decide_by o rs).number ≤ 42 → Faulty rs
    go (some r) e l h = record { row = r; listed = (worst_first rs r e).0; place = ap (λ o. (decide_by o rs).place) e; number = ap (λ o. (decide_by o rs).number) e }
    go none e l h = absurd (rest (any (λ (r : Row). is_unbounded r.name) rs) l h)

moment_back : (m : Moment) → moment_by (moment_number m) ≡ m
moment_back Start = refl
moment_back End = refl

-- what the places of an answer a are then
pub record Placed (D : Domain) (a : Answer) : Type 0 where
  pub action_listed : a.first < length D.actions
  pub class_listed : a.second < length (classes D (action D a.first))
  pub ended : Bool
  pub fault : a.number ≡ fault_by (name_of D (action D a.first) (class_at D a.first a.second) (moment_by a.third)) ended
  pub shown : witness D ≡ witness_at D (action D a.first) (class_at D a.first a.second) (moment_by a.third)
  pub written : is_shown D ≡ shown_at D (action D a.first) (class_at D a.first a.second) (moment_by a.third)

witness_by_lem : (D : Domain) → witness D ≡ witness_of D (decide_rows (rows D)).place
unfolding witness decision
witness_by_lem D = refl

shown_by : (D : Domain) → is_shown D ≡ shown_of D (decide_rows (rows D)).place
unfolding is_shown decision
shown_by D = refl

pub placed : (D : Domain) → 40 ≤ (decided D).number → (decided D).number ≤ 42 → Placed D (decided D)
placed D lo hi = at (faulty (rows D) (rw (number_is D) at lo) (rw (number_is D) at hi))
  where
    at : Faulty (rows D) → Placed D (decided D)
    at f =
        let r = f.row in
        let s = stands D r f.listed in
        let x = class_at D r.action r.class in
        let a = action D r.action in
        let answer : answer_row (decide_rows (rows D)).number (some r) ≡ decided D = ap (answer_row (decide_rows (rows D)).number) (sym f.place) ∙ decided_is D in
        subst (Placed D) answer
        (record {
          action_listed = s.action_listed;
          class_listed = s.class_listed;
          ended = r.journey_end;
          fault = f.number ∙ ap (λ n. fault_by n r.journey_end) (ap (λ (q : Row). q.name) s.is ∙ ap (name_of D a x) (sym (moment_back r.moment)));
          shown = witness_by_lem D ∙ ap (witness_of D) f.place ∙ ap (witness_at D a x) (sym (moment_back r.moment));
          written = shown_by D ∙ ap (shown_of D) f.place ∙ ap (shown_at D a x) (sym (moment_back r.moment));
        })

-- a decision is 0, 1 or 40 to 43
fault_fills : (n : Name) (e : Bool) → not (eqb (fault_by n e) 0) ≡ true → fills_report (fault_by n e) ≡ true
fault_fills Unreachable e h = absurd (true≢false (sym h))
fault_fills Irrelevant e h = absurd (true≢false (sym h))
fault_fills Heavy e h = refl
fault_fills Balanced e h = absurd (true≢false (sym h))
fault_fills Unbalanced e h = refl
fault_fills Bounded e h = absurd (true≢false (sym h))
fault_fills Unbounded true h = absurd (true≢false (sym h))
fault_fills Unbounded false h = refl

rows_fill : (rs : List Row) → fills_report (decide_rows rs).number ≡ true
unfolding decide_rows
rows_fill rs = go (worst_row rs) refl
  where
    bounded : (o : Option Row) → fills_report (decide_bounded o).number ≡ true
    bounded none = refl
    bounded (some r) = refl

    rest : (b : Bool) → fills_report (cond b (decide_bounded (first_row is_bounded_outside rs)) (accept 0)).number ≡ true
    rest true = bounded (first_row is_bounded_outside rs)
    rest false = refl

    go : (o : Option Row) → worst_row rs ≡ o → fills_report (decide_by o rs).number ≡ true
    go (some r) e = fault_fills r.name r.journey_end (worst_first rs r e).1
    go none e = rest (any (λ (r : Row). is_unbounded r.name) rs)

decided_fills : (D : Domain) → fills_report (decided D).number ≡ true
decided_fills D = rw (number_is D) (rows_fill (rows D))

-- ---- the answers

module _ (D : Domain) (report wit : List ℕ) where
  short_report : length report < 4 * length (rows D) → judged_domain D report wit ≡ answer_at 30 0
  unfolding judged_domain
  short_report h = rw (lt-ltb (length report) (4 * length (rows D)) h)

  short_witness : 4 * length (rows D) ≤ length report → writes_witness D (decided D).number ≡ true → length wit < 8 * length (witness D) → judged_domain D report wit ≡ answer_at 31 0
  unfolding judged_domain
  short_witness h w g = rw (le-ltb (length report) (4 * length (rows D)) h, w, lt-ltb (length wit) (8 * length (witness D)) g)

  long_witness : 4 * length (rows D) ≤ length report → writes_witness D (decided D).number ≡ true → 8 * length (witness D) ≤ length wit → judged_domain D report wit ≡ decided D
  unfolding judged_domain
  long_witness h w g = rw (le-ltb (length report) (4 * length (rows D)) h, w, le-ltb (length wit) (8 * length (witness D)) g)

  no_witness : 4 * length (rows D) ≤ length report → writes_witness D (decided D).number ≡ false → judged_domain D report wit ≡ decided D
  unfolding judged_domain
  no_witness h w = rw (le-ltb (length report) (4 * length (rows D)) h, w)

  -- all that a call leaves
  abbrev pub Leaves : Judgement → List ℕ → List ℕ → Type 0
  Leaves r u w = JudgedAs (domain D) report wit r u w

  by_answer : {r : Judgement} {u w : List ℕ} (a : Answer) → judged_domain D report wit ≡ a → r ≡ judgement_of a
      → u ≡ cond (fills_report a.number) (over (row_bytes (rows D)) report) report → w ≡ cond (writes_witness D a.number) (over (fact_bytes (witness D)) wit) wit → Leaves r u w
  by_answer a e x y z =
      record {
        answer = x ∙ ap judgement_of (sym e);
        reported = y ∙ ap (λ (b : Answer). cond (fills_report b.number) (over (row_bytes (rows D)) report) report) (sym e);
        witnessed = z ∙ ap (λ (b : Answer). cond (writes_witness D b.number) (over (fact_bytes (witness D)) wit) wit) (sym e);
      }

  pub leaves_30 : {r : Judgement} → length report < 4 * length (rows D) → r ≡ judgement_of (answer_at 30 0) → Leaves r report wit
  unfolding writes_witness
  leaves_30 h x = by_answer (answer_at 30 0) (short_report h) x refl refl

  module _ (h : 4 * length (rows D) ≤ length report) where
    -- 40 to 42: the witness of the named place, which fits or not
    module _ (writes : writes_witness D (decided D).number ≡ true) where
      pub leaves_31 : {r : Judgement} {w : List ℕ} → fits_in (witness D) wit ≡ false → w ≡ shown_in (witness D) wit → r ≡ judgement_of (answer_at 31 0) → Leaves r report w
      unfolding writes_witness
      leaves_31 g q x = by_answer (answer_at 31 0) (short_witness h writes (leb-false (8 * length (witness D)) (length wit) g)) x refl (q ∙ rw g)

      pub leaves_shown : {r : Judgement} {u w : List ℕ} → fits_in (witness D) wit ≡ true → w ≡ shown_in (witness D) wit → r ≡ judgement_of (decided D) → u ≡ over (row_bytes (rows D)) report → Leaves r u w
      leaves_shown g q x y =
          by_answer (decided D) (long_witness h writes (leb-true (8 * length (witness D)) (length wit) g)) x (y ∙ rw (decided_fills D)) (q ∙ rw (g, writes))

    -- 0, 1 and 43: no witness
    pub leaves_plain : {r : Judgement} {u : List ℕ} → writes_witness D (decided D).number ≡ false → r ≡ judgement_of (decided D) → u ≡ over (row_bytes (rows D)) report → Leaves r u wit
    leaves_plain w x y = by_answer (decided D) (no_witness h w) x (y ∙ rw (decided_fills D)) (rw w)

-- ---- by what the calls within leave

-- naming leads to the domain's rows, notes and decision
module _ (D : Domain) {n : NamedDomain} (e : n ≡ naming_of D) where
  pub rows_of : n.rows ≡ length (rows D)
  unfolding naming_of
  rows_of = ap (λ (n : NamedDomain). n.rows) e

  notes_of_lem : n.notes ≡ notes_of (summaries D)
  unfolding naming_of
  notes_of_lem = ap (λ (n : NamedDomain). n.notes) e

  -- the decision is read off the summaries
  pub decision_of : {j : Judgement} → j ≡ judgement_of (decide_notes n.notes) → j ≡ judgement_of (decided D)
  unfolding decided_summaries
  decision_of h = h ∙ ap (λ a. judgement_of (decide_notes a)) notes_of_lem ∙ ap judgement_of (summaries_decide D)

pub number_of : (D : Domain) {j : Judgement} → j ≡ judgement_of (decided D) → j.number ≡ (decided D).number
number_of D e = ap (λ (j : Judgement). j.number) e

-- the decision's places, of a judgement that is it
judged_placed : (D : Domain) {j : Judgement} → j ≡ judgement_of (decided D) → 40 ≤ j.number → j.number ≤ 42 → Placed D (record { number = j.number; first = j.first; second = j.second; third = j.third })
judged_placed D {j} is lo hi =
    let answer : Answer = record { number = j.number; first = j.first; second = j.second; third = j.third } in
    let same : answer ≡ decided D = ap (λ (q : Judgement). record { number = q.number; first = q.first; second = q.second; third = q.third }) is in
    let number : j.number ≡ (decided D).number = ap (λ (q : Judgement). q.number) is in
    subst (Placed D) (sym same) (placed D (omega arith) (omega arith))

-- whether a witness is written: not by another number than 40 to 42, and by these as `is_shown` says of their place
pub writes_below : (D : Domain) (n : ℕ) → n < 40 → writes_witness D n ≡ false
unfolding writes_witness
writes_below D n h = rw (lt-leb 40 n h)

pub writes_above : (D : Domain) (n : ℕ) → 42 < n → writes_witness D n ≡ false
unfolding writes_witness
writes_above D n h = rw (le-leb 40 n (omega arith), lt-leb n 42 h)

pub writes_at : (D : Domain) {j : Judgement} {r : Bool} {m : Moment} → j ≡ judgement_of (decided D) → 40 ≤ j.number → j.number ≤ 42 → m ≡ moment_by j.third
    → (j.first < length D.actions → j.second < length (classes D (action D j.first))
    → r ≡ shown_at D (action D j.first) (get_or (classes D (action D j.first)) j.second []) m)
    → r ≡ writes_witness D j.number
unfolding class_at writes_witness
writes_at D {j} is lo hi e s =
    let p = judged_placed D is lo hi in
    s p.action_listed p.class_listed
    ∙ ap (shown_at D (action D j.first) (get_or (classes D (action D j.first)) j.second [])) e
    ∙ sym p.written ∙ sym (rw (le-leb 40 j.number lo, le-leb j.number 42 hi) refl)

-- what showing the place of a refusal by 40 to 42 leaves
pub showing_of : (D : Domain) (wit : List ℕ) {j : Judgement} {r : Bool} {m : Moment} {out : List ℕ} → j ≡ judgement_of (decided D) → writes_witness D j.number ≡ true
    → m ≡ moment_by j.third
    → (j.first < length D.actions → RefusedAt D (action D j.first) j.second m j.number → ShownAt D (action D j.first) j.second m wit out r)
    → (r ≡ fits_in (witness D) wit) × (out ≡ shown_in (witness D) wit)
unfolding class_at writes_witness
showing_of D wit {j} {r} {m} {out} is w e h =
    let in-range = and_l (leb 40 j.number && leb j.number 42) (is_shown D) w in
    let lo = leb-true 40 j.number (and_l (leb 40 j.number) (leb j.number 42) in-range) in
    let hi = leb-true j.number 42 (and_r (leb 40 j.number) (leb j.number 42) in-range) in
    let p = judged_placed D is lo hi in
    let l = subst (λ (m : Moment). RefusedAt D (action D j.first) j.second m j.number → ShownAt D (action D j.first) j.second m wit out r) e (h p.action_listed) (record { listed = p.class_listed; journey_end = p.ended; fault = p.fault; refused = λ z. omega arith }) in
    (l.fits ∙ ap (λ (fs : List Fact). fits_in fs wit) (sym p.shown), l.bytes ∙ ap (λ (fs : List Fact). shown_in fs wit) (sym p.shown))
