-- The call of playing with an instance or without one: from what reading and the run promise to the answer. Assumes nothing.
use mathlib.Core.Path.{◌≡◌, refl, sym, ap, ap₂, ◌∙◌}
use mathlib.Core.Bool.{Bool, true, false, ◌&&◌, cond}
use mathlib.Core.List.{List, [], map}
use Prim.Native.Nat.{ℕ, ◌+◌, ◌-◌, ◌≤◌, ◌<◌}
use native.Mathlib.Omega.{arith}
use lib.Dec.{eqb}
use lib.ListN.{length, take, drop}
use borrow.Author.Tests.{eq-eqb, ne_eqb, lt-ltb, le-ltb}
use Rattle.records.specs.Lists.{In}
use Rattle.records.specs.Memory.{over}
use Rattle.records.specs.declared.Record.{Record}
use Rattle.records.specs.declared.Record.TheVariants.{Whole, Cut, End}
use Rattle.records.specs.Record.{record_at, payload}
use Rattle.literals.specs.Domain.{Fact, keys_of, Domain}
use Rattle.literals.specs.Decode.{Refusal, refused, domain, decode, byte}
use Rattle.literals.specs.Held.{rows_in, Bounded}
use Rattle.verdict.specs.Claims.{total}
use Rattle.verdict.specs.Held.{fact_row}
use Rattle.store.specs.Held.{FactFits}
use Rattle.machine.proofs.HeldBytes.{fits_few, work_rows}
use Rattle.player.specs.declared.play.Fault.TheVariants.{Domain as InDomain, Run as InRun}
use Rattle.player.specs.declared.play.PlayAnswer.{PlayAnswer}
use Rattle.player.specs.declared.play.Tracked.{Tracked}
use Rattle.player.specs.declared.run.Ended.{Ended}
use Rattle.player.specs.Held.{ended_of}
use Rattle.run_semantics.specs.RunFile.{max_facts, outside, objects_stop}
use Rattle.run_semantics.specs.Play.{work_bytes, before_run, outcome_at, held_bytes, play_run, outcome_call, call_by, call, work_after}
use Rattle.run_semantics.specs.Play.{returned_bytes}
use Rattle.run_semantics.specs.RunFile.{RunKind, objects_record, fact_record, event_record, step_record, end_record, other_record, run_kind_of}
use Rattle.run_semantics.specs.declared.Stop.{Stop}
use Rattle.run_fields.specs.Kinds.{KindOf}
use Rattle.run_fields.specs.declared.kind.Kind.{Kind}
use Rattle.run_fields.specs.declared.kind.Kind.TheVariants.{Objects, Fact as StartFact, Event, Step, End as Close}
use Rattle.std.specs.Prelude.{Result, Ok, Err}
use Rattle.run_semantics.specs.Track.{instance_of, count_of, count_given, objects_given, instance_stop, track_run, reported_total, track_by}
use Rattle.run_semantics.specs.Track.{tracked}
use Rattle.player.specs.Called.{file_of, offset_of}
use Rattle.player.specs.Held.{fault_file, fault_offset, part_at, answer_of, answer_by, answer_unplayed, tracked_if, tracked_of}
use Rattle.player.proofs.PlayCalls.{fault_file_lem, fault_offset_lem, fault_part}

-- ---- what the instance stops

module _ (D : Domain) (y r : List ℕ) (n : ℕ) (e : n ≡ objects_given r) where
  pub stop_none : n ≡ 0 → 0 ≡ instance_stop D y r
  unfolding instance_stop
  stop_none z = let f : eqb (objects_given r) 0 ≡ true = eq-eqb _ _ (sym e ∙ z) in rw f

  module _ (some : n ≡ 0 → ⊥) where
    given : eqb (objects_given r) 0 ≡ false
    given = ne_eqb _ _ (λ z. some (e ∙ z))

    pub stop_count : (length y ≡ keys_of D.template → ⊥) → 51 ≡ instance_stop D y r
    unfolding instance_stop
    stop_count c = rw (given, ne_eqb _ _ c)

    pub stop_object : length y ≡ keys_of D.template → outside n y ≡ true → 51 ≡ instance_stop D y r
    unfolding instance_stop
    stop_object c o = let o' : outside (objects_given r) y ≡ true = ap (λ (k : ℕ). outside k y) (sym e) ∙ o in rw (given, eq-eqb _ _ c, o')

    pub stop_right : length y ≡ keys_of D.template → outside n y ≡ false → 0 ≡ instance_stop D y r
    unfolding instance_stop
    stop_right c o = let o' : outside (objects_given r) y ≡ false = ap (λ (k : ℕ). outside k y) (sym e) ∙ o in rw (given, eq-eqb _ _ c, o')

-- ---- the object count that is given

-- a record of the object count is one of kind 16
abbrev pub is_objects : Result Kind Stop → Bool
is_objects (Ok Objects) = true
is_objects (Ok StartFact) = false
is_objects (Ok Event) = false
is_objects (Ok Step) = false
is_objects (Ok Close) = false
is_objects (Err s) = false

pub objects_number : (n : ℕ) (r : Result Kind Stop) → KindOf n r → is_objects r ≡ eqb n 16
objects_number n r e = told r e ∙ go (eqb n 16) (eqb n 17) (eqb n 18) (eqb n 19) (eqb n 20)
  where
    gives : RunKind → Bool
    gives objects_record = true
    gives fact_record = false
    gives event_record = false
    gives step_record = false
    gives end_record = false
    gives other_record = false

    told : (r : Result Kind Stop) → KindOf n r → is_objects r ≡ gives (run_kind_of n)
    told (Ok Objects) e = ap gives e
    told (Ok StartFact) e = ap gives e
    told (Ok Event) e = ap gives e
    told (Ok Step) e = ap gives e
    told (Ok Close) e = ap gives e
    told (Err s) e = ap gives (sym e.1)

    go : (a b c d e : Bool) → gives (cond a objects_record (cond b fact_record (cond c event_record (cond d step_record (cond e end_record other_record))))) ≡ a
    go true b c d e = refl
    go false true c d e = refl
    go false false true d e = refl
    go false false false true e = refl
    go false false false false true = refl
    go false false false false false = refl

module _ (k : ℕ) (b : List ℕ) where
  pub count_other : eqb k 16 ≡ false → 0 ≡ count_of k b
  unfolding count_of
  count_other e = rw e

  pub count_stopped : (objects_stop 0 b ≡ 0 → ⊥) → 0 ≡ count_of k b
  unfolding count_of
  count_stopped n = go (eqb k 16) (eqb (objects_stop 0 b) 0) (ne_eqb (objects_stop 0 b) 0 n)
    where
      go : (t s : Bool) → s ≡ false → 0 ≡ cond (t && s) (byte b 0) 0
      go true s e = rw e
      go false s e = refl

  pub count_passed : eqb k 16 ≡ true → objects_stop 0 b ≡ 0 → byte b 0 ≡ count_of k b
  unfolding count_of
  count_passed e z = rw (e, eq-eqb (objects_stop 0 b) 0 z)

module _ (r : List ℕ) where
  pub given_whole : (k start len : ℕ) → record_at r 0 ≡ Whole k start len → (end : ℕ) → end ≡ start + len → (n : ℕ)
      → n ≡ count_of k (take (end - start) (drop start r)) → n ≡ objects_given r
  unfolding objects_given payload
  given_whole k start len e end z n h =
      let l : end - start ≡ len = omega arith in
      h ∙ ap (λ (m : ℕ). count_of k (take m (drop start r))) l ∙ sym (ap (count_given r) e)

  pub given_none : (f : Record) → f ≡ record_at r 0 → ((k start len : ℕ) → f ≡ Whole k start len → ⊥) → 0 ≡ objects_given r
  unfolding objects_given
  given_none (Whole k start len) e other = absurd (other k start len refl)
  given_none Cut e other = ap (count_given r) e
  given_none End e other = ap (count_given r) e

-- ---- playing with an instance

-- the rows of the facts that are left
pub end_rows : (D : Domain) → Bounded D → (fs : List Fact) → ((f : Fact) → In f fs → FactFits D f) → length fs ≤ max_facts
    → (n : ℕ) → n ≡ length fs → (work old : List ℕ) → work ≡ over (held_bytes fs) old → rows_in n work ≡ map fact_row fs
end_rows D B fs fit few n e work old w = ap₂ rows_in e w ∙ work_rows fs (fits_few B fs fit) few old

module _ (D : Domain) (y r : List ℕ) where
  pub track_on : instance_stop D y r ≡ 0 → track_run D y r ≡ play_run D r
  unfolding track_run
  track_on z = rw z

  pub track_stopped : (instance_stop D y r ≡ 0 → ⊥) → track_run D y r ≡ outcome_at (instance_stop D y r) 0 before_run.state before_run.tally
  unfolding track_run
  track_stopped z = rw (ne_eqb (instance_stop D y r) 0 z)

  -- the answer and the total
  abbrev Told : Tracked → List ℕ → List ℕ → Type 0
  Told t work old =
      (t ≡ record { played = answer_by (track_run D y r); total = reported_total D y (track_run D y r) })
      × (work ≡ over (held_bytes (track_run D y r).facts) old)

  pub stopped_answer : (n : ℕ) → n ≡ instance_stop D y r → (n ≡ 0 → ⊥) → (work old : List ℕ) → work ≡ over (held_bytes []) old
      → Told (record { played = record { number = n; place = 0; steps = 0; weight = 0; fault = InRun 0 }; total = 0 }) work old
  unfolding reported_total
  stopped_answer n e z work old w =
      rw (track_stopped (λ k. z (e ∙ k))) (
        (λ i. record {
          played = record { number = e i; place = same (eqb (instance_stop D y r) 2) i; steps = 0; weight = 0; fault = InRun 0 };
          total = 0;
        }),
        w,
      )
    where
      same : (b : Bool) → ◌≡◌ {A = ℕ} 0 (cond b 0 0)
      same true = refl
      same false = refl

  module _ (z : instance_stop D y r ≡ 0) (ended : Ended) (is : ended ≡ ended_of (play_run D r)) where
    pub early_answer : ended.begun ≡ false → (a : PlayAnswer) → a ≡ answer_by (play_run D r)
        → (work old : List ℕ) → work ≡ over (held_bytes (play_run D r).facts) old → Told (record { played = a; total = 0 }) work old
    unfolding reported_total
    early_answer b a ae work old w =
        let f : (play_run D r).begun ≡ false = sym (ap (λ (x : Ended). x.begun) is) ∙ b in
        rw (track_on z, f) ((λ i. record { played = ae i; total = 0 }), w)

    pub total_answer : ended.begun ≡ true → (a : PlayAnswer) → a ≡ answer_by (play_run D r)
        → (t : ℕ) → t ≡ total D (instance_of y) (record { facts = (play_run D r).facts; running = (play_run D r).running })
        → (work old : List ℕ) → work ≡ over (held_bytes (play_run D r).facts) old → Told (record { played = a; total = t }) work old
    unfolding reported_total
    total_answer b a ae t te work old w =
        let f : (play_run D r).begun ≡ true = sym (ap (λ (x : Ended). x.begun) is) ∙ b in
        rw (track_on z, f) ((λ i. record { played = ae i; total = te i }), w)

-- ---- the call

module _ (d y r w : List ℕ) where
  pub with_refused : (given : Bool) (x : Refusal) → decode d ≡ refused x
      → (record { played = answer_unplayed x.number x.place (InDomain x.start); total = 0 } ≡ tracked_of (tracked_if given d y r w))
      × (w ≡ (tracked_if given d y r w).call.memory)
  unfolding tracked_if tracked call track_by call_by
  with_refused true x e = rw e (refl, refl)
  with_refused false x e = rw e (refl, refl)

  module _ (D : Domain) (e : decode d ≡ domain D) where
    pub with_small : (given : Bool) → length w < work_bytes
        → (record { played = answer_unplayed 58 0 (InRun (length r)); total = 0 } ≡ tracked_of (tracked_if given d y r w))
        × (w ≡ (tracked_if given d y r w).call.memory)
    unfolding tracked_if tracked call
    with_small true h = rw (e, track_by, lt-ltb (length w) work_bytes h) (refl, refl)
    with_small false h = rw (e, call_by, lt-ltb (length w) work_bytes h) (refl, refl)

    module _ (h : work_bytes ≤ length w) where
      pub with_none : (given : Bool) → given ≡ false → (a : PlayAnswer) → a ≡ answer_by (play_run D r)
          → (work : List ℕ) → work ≡ over (held_bytes (play_run D r).facts) w
          → (record { played = a; total = 0 } ≡ tracked_of (tracked_if given d y r w)) × (work ≡ (tracked_if given d y r w).call.memory)
      unfolding tracked_if call outcome_call
      with_none given g a ae work we =
          rw (g, e, call_by, le-ltb (length w) work_bytes h) ((λ i. record { played = ae i; total = 0 }), we)

      pub with_one : (given : Bool) → given ≡ true → (t : Tracked)
          → t ≡ record { played = answer_by (track_run D y r); total = reported_total D y (track_run D y r) }
          → (work : List ℕ) → work ≡ over (held_bytes (track_run D y r).facts) w
          → (t ≡ tracked_of (tracked_if given d y r w)) × (work ≡ (tracked_if given d y r w).call.memory)
      unfolding tracked_if tracked outcome_call
      with_one given g t te work we = rw (g, e, track_by, le-ltb (length w) work_bytes h) (te, we)

-- ---- the two calls

module _ (d y r w : List ℕ) (t : Tracked) (work : List ℕ) where
  -- without an instance, whatever stands in its place
  pub without_is : (t ≡ tracked_of (tracked_if false d y r w)) × (work ≡ (tracked_if false d y r w).call.memory)
      → (t.played ≡ answer_of (call d r w)) × (work ≡ work_after d r w)
  unfolding tracked_if work_after
  without_is e = (ap (λ (x : Tracked). x.played) e.0, e.1)

  pub with_is : (t ≡ tracked_of (tracked_if true d y r w)) × (work ≡ (tracked_if true d y r w).call.memory)
      → (t ≡ tracked_of (tracked d y r w)) × (work ≡ (tracked d y r w).call.memory)
  unfolding tracked_if
  with_is e = e

-- the answer's parts
module _ (d y r w : List ℕ) (t : Tracked) (e : t ≡ tracked_of (tracked d y r w)) where
  pub told_number : t.played.number ≡ (tracked d y r w).call.answer.number
  told_number = ap (λ (x : Tracked). x.played.number) e

  pub told_place : t.played.place ≡ (tracked d y r w).call.answer.first
  told_place = ap (λ (x : Tracked). x.played.place) e

  pub told_steps : t.played.steps ≡ (tracked d y r w).call.answer.steps
  told_steps = ap (λ (x : Tracked). x.played.steps) e

  pub told_weight : t.played.weight ≡ (tracked d y r w).call.answer.weight
  told_weight = ap (λ (x : Tracked). x.played.weight) e

  pub told_total : t.total ≡ (tracked d y r w).total
  told_total = ap (λ (x : Tracked). x.total) e

  pub told_file : fault_file t.played.fault ≡ file_of (tracked d y r w).call.part
  told_file = ap (λ (x : Tracked). fault_file x.played.fault) e ∙ fault_file_lem (tracked d y r w).call.part

  pub told_offset : fault_offset t.played.fault ≡ offset_of (tracked d y r w).call.part
  told_offset = ap (λ (x : Tracked). fault_offset x.played.fault) e ∙ fault_offset_lem (tracked d y r w).call.part

  pub told_part : (p : List ℕ) → p ≡ part_at d r t.played.fault → p ≡ returned_bytes d r (tracked d y r w).call.part
  told_part p f = f ∙ ap (λ (x : Tracked). part_at d r x.played.fault) e ∙ fault_part d r (tracked d y r w).call.part
