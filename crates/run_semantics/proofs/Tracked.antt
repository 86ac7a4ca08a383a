-- Playing with an instance: where the instance stops it, and what the total is. Assumes nothing.
use mathlib.Core.Path.{◌≡◌, refl, sym, ap, ◌∙◌}
use mathlib.Core.Bool.{Bool, true, false, ◌&&◌, ◌||◌, not, cond}
use mathlib.Core.List.{List, [], ◌∷◌, map}
use Prim.Native.Nat.{ℕ, ◌≤◌}
use native.Mathlib.Omega.{arith}
use lib.Dec.{eqb, ltb, leb}
use lib.ListN.{length}
use borrow.Author.Tests.{leb-true, le-ltb}
use Rattle.records.specs.declared.Record.{Record}
use Rattle.records.specs.declared.Record.TheVariants.{Whole, Cut, End}
use Rattle.records.specs.Record.{record_at, payload}
use Rattle.records.proofs.Lists.{and_l, and_r}
use Rattle.literals.specs.declared.Object.{Object}
use Rattle.literals.specs.Domain.{Domain}
use Rattle.literals.specs.Decode.{Decoded, domain, decode, byte}
use Rattle.verdict.specs.Judged.{decided_file}
use Rattle.verdict.specs.Machine.{Event, State, allowed, next, run, last_state, weight}
use Rattle.verdict.specs.Claims.{is_instance, Chosen, total, never_rising}
use Rattle.verdict.proofs.Files.{file_never_rises}
use Rattle.run_semantics.specs.RunFile.{objects_record, fact_record, event_record, step_record, end_record, other_record}
use Rattle.run_semantics.specs.RunFile.{max_objects, objects_stop, record_stop, start_facts_in, steps_in, begun_in, entries_up_to, Entry}
use Rattle.run_semantics.specs.Play.{work_bytes, before_run, Outcome, outcome_at, play_run, of_run, Call, played_at, outcome_call}
use Rattle.run_semantics.specs.Play.{call_by, call}
use Rattle.run_semantics.specs.Track.{instance_of, count_of, count_given, objects_given, instance_stop, track_run, reported_total, Tracked}
use Rattle.run_semantics.specs.Track.{track_by, tracked}
use Rattle.run_semantics.specs.Claims.{objects_of, start_of, states_of, final_of, played_entries, record_end, found_end, end_number}
use Rattle.run_semantics.specs.Claims.{ObjectsFirst, AsPlayed, TotalOfRun, NothingGained}
use Rattle.run_semantics.proofs.Never.{among_facts, played_as_machine}

-- ---- where the instance stops nothing, playing is as without one

module _ (D : Domain) (y r : List ℕ) (z : instance_stop D y r ≡ 0) where
  pub track_is : track_run D y r ≡ play_run D r
  unfolding track_run
  track_is = rw z

-- the call on a domain that is read
by_domain : (d : List ℕ) (D : Domain) → decode d ≡ domain D → (y r w : List ℕ) → work_bytes ≤ length w
    → tracked d y r w ≡ record { call = outcome_call (track_run D y r) w; total = reported_total D y (track_run D y r) }
unfolding tracked
by_domain d D e y r w l = ap (λ (x : Decoded). track_by x y r w) e ∙ rw (track_by, le-ltb (length w) work_bytes l)

pub as_played : (d y r w : List ℕ) → AsPlayed d y r w
unfolding tracked call track_by call_by
as_played d y r w D e z =
    ap (λ (x : Decoded). (track_by x y r w).call) e ∙ go (ltb (length w) work_bytes) ∙ sym (ap (λ (x : Decoded). call_by x r w) e)
  where
    go : (b : Bool)
        → (elim b as (λ _. Tracked) [
          | true ↦ record { call = record { answer = played_at 58 0 0 0; memory = w; part = of_run (length r) }; total = 0 }
          | false ↦ record { call = outcome_call (track_run D y r) w; total = reported_total D y (track_run D y r) }
        ]).call
        ≡ elim b as (λ _. Call) [
          | true ↦ record { answer = played_at 58 0 0 0; memory = w; part = of_run (length r) }
          | false ↦ outcome_call (play_run D r) w
        ]
    go true = refl
    go false = ap (λ (o : Outcome). outcome_call o w) (track_is D y r z)

-- ---- only the first record gives an object count

-- before it every other record is stopped
others_stop : (D : Domain) (b : List ℕ) (f e s z : Bool)
    → record_end D [] (cond f fact_record (cond e event_record (cond s step_record (cond z end_record other_record)))) b ≡ 50
unfolding record_stop
others_stop D b true e s z = refl
others_stop D b false true s z = refl
others_stop D b false false true z = refl
others_stop D b false false false true = refl
others_stop D b false false false false = refl

count_passes : (D : Domain) (b : List ℕ)
    → eqb (cond (eqb (objects_stop 0 b) 0) (byte b 0) 0) 0 ≡ not (eqb (record_end D [] objects_record b) 0)
unfolding record_stop objects_stop
count_passes D b = go (eqb (length b) 1) (eqb (byte b 0) 0) refl (ltb max_objects (byte b 0))
  where
    go : (t z : Bool) → eqb (byte b 0) 0 ≡ z → (l : Bool)
        → let n : ℕ = cond (not t) 50 (cond (z || l) 51 0) in eqb (cond (eqb n 0) (byte b 0) 0) 0 ≡ not (eqb (cond (eqb n 0) 0 n) 0)
    go false z e l = refl
    go true true e l = refl
    go true false e true = refl
    go true false e false = e

pub objects_first : ObjectsFirst
unfolding objects_given end_number count_of
objects_first D r = go (record_at r 0)
  where
    given : (k : ℕ) (b : List ℕ) (t : Bool)
        → eqb (cond (t && eqb (objects_stop 0 b) 0) (byte b 0) 0) 0
        ≡ not
        (eqb (record_end D []
        (cond t objects_record
        (cond (eqb k 17) fact_record (cond (eqb k 18) event_record (cond (eqb k 19) step_record (cond (eqb k 20) end_record other_record)))))
        b) 0)
    given k b true = count_passes D b
    given k b false = rw (others_stop D b (eqb k 17) (eqb k 18) (eqb k 19) (eqb k 20))

    go : (f : Record) → eqb (count_given r f) 0 ≡ not (eqb (found_end D r [] f) 0)
    go (Whole k start len) = given k (payload r start len) (eqb k 16)
    go Cut = refl
    go End = refl

-- ---- the total

-- the total of playing, told by the machine
total_played : (d : List ℕ) (D : Domain) → decode d ≡ domain D → (y r : List ℕ)
    → reported_total D y (play_run D r)
    ≡ cond (begun_in (entries_up_to r (play_run D r).place)) (total D (instance_of y) (final_of D (played_entries D r))) 0
unfolding reported_total
total_played d D e y r = let told = played_as_machine d D e r in rw (told.begun, told.facts, told.running)

pub total_of_run : (d y r w : List ℕ) (answered : ℕ) → answered ≡ (tracked d y r w).total → TotalOfRun d y r w answered
total_of_run d y r w answered a D e l z =
    a
    ∙ ap (λ (x : Tracked). x.total) (by_domain d D e y r w l)
    ∙ ap (reported_total D y) (track_is D y r z)
    ∙ total_played d D e y r

-- the last of numbers that never rise is at most the first
last_falls : (f : State → ℕ) (s : State) (l : List State) → never_rising (f s ∷ map f l) ≡ true → f (last_state s l) ≤ f s
last_falls f s [] h = omega arith
last_falls f s (t ∷ l) h =
    let a = leb-true (f t) (f s) (and_l _ _ h) in
    let b = last_falls f t l (and_r (leb (f t) (f s)) _ h) in
    omega arith

run_falls : (f : State → ℕ) (D : Domain) (objs : List Object) (s : State) (ess : List (List Event))
    → never_rising (map f (run D objs s ess)) ≡ true → f (last_state s (run D objs s ess)) ≤ f s
unfolding run
run_falls f D objs s [] h = omega arith
run_falls f D objs s (es ∷ ess) h = last_falls f s (cond (allowed D objs s es) (run D objs (next D objs s es) ess) []) h

module _ (d : List ℕ) (D : Domain) (e : decode d ≡ domain D) (one : (decided_file d).number ≡ 1) (y r : List ℕ)
    (among : is_instance D (objects_of (played_entries D r)) (instance_of y) ≡ true)
    (low : weight D (instance_of y) (start_of (played_entries D r)).facts ≤ 1) where
  abbrev es : List Entry
  es = played_entries D r

  abbrev objs : List Object
  objs = objects_of es

  chosen : Chosen D objs (start_facts_in es) (instance_of y) (steps_in es)
  chosen =
      let told = played_as_machine d D e r in
      record {
        facts_over = among_facts D objs (start_facts_in es) told.facts_legal;
        instance = among;
        steps_legal = told.steps_legal;
        events = told.events_legal;
      }

  states_fall : never_rising (map (total D (instance_of y)) (states_of D es)) ≡ true
  states_fall = file_never_rises d D e one objs (start_facts_in es) (instance_of y) (steps_in es) chosen low

  final_low : total D (instance_of y) (final_of D es) ≤ total D (instance_of y) (start_of es)
  final_low = run_falls (total D (instance_of y)) D objs (start_of es) (steps_in es) states_fall

  -- of playing, with or without a stop by the instance
  played_low : reported_total D y (play_run D r) ≤ total D (instance_of y) (start_of es)
  played_low =
      let q = total_played d D e y r in
      let l = go (begun_in (entries_up_to r (play_run D r).place)) in
      omega arith
    where
      go : (b : Bool) → cond b (total D (instance_of y) (final_of D es)) 0 ≤ total D (instance_of y) (start_of es)
      go true = final_low
      go false = omega arith

  tracked_low : reported_total D y (track_run D y r) ≤ total D (instance_of y) (start_of es)
  unfolding track_run reported_total
  tracked_low = go (eqb (instance_stop D y r) 0)
    where
      go : (b : Bool)
          → reported_total D y (cond b (play_run D r) (outcome_at (instance_stop D y r) 0 before_run.state before_run.tally))
          ≤ total D (instance_of y) (start_of es)
      go true = played_low
      go false = omega arith

  answered_low : (w : List ℕ) → (tracked d y r w).total ≤ total D (instance_of y) (start_of es)
  unfolding tracked track_by
  answered_low w = rw e (go (ltb (length w) work_bytes))
    where
      go : (b : Bool)
          → (elim b as (λ _. Tracked) [
            | true ↦ record { call = record { answer = played_at 58 0 0 0; memory = w; part = of_run (length r) }; total = 0 }
            | false ↦ record { call = outcome_call (track_run D y r) w; total = reported_total D y (track_run D y r) }
          ]).total
          ≤ total D (instance_of y) (start_of es)
      go true = omega arith
      go false = tracked_low

pub nothing_gained : (d y r w : List ℕ) (answered : ℕ) → answered ≡ (tracked d y r w).total → NothingGained d y r answered
nothing_gained d y r w answered a D e one among low =
    record {
      states = states_fall d D e one y r among low;
      at_most = let l = answered_low d D e one y r among low w in omega arith;
    }
