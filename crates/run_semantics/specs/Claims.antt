-- Demand 2 of a run, "played exactly as the written-out machine plays it", and what demand 3 says of it. The claims, each proved in
-- proofs/. Assumes nothing.
use Rattle.std.specs.Prelude.{◌≡◌, true, ◌&&◌, not, cond, List, [], map, ℕ, suc, ◌≤◌, eqb, ltb, length}
use Rattle.records.specs.Lists.{In, all}
use Rattle.records.specs.Memory.{over}
use Rattle.records.specs.declared.Record.{Record}
use Rattle.records.specs.declared.Record.TheVariants.{Whole, Cut, End}
use Rattle.records.specs.Record.{record_at, payload}
use Rattle.literals.specs.declared.Object.{Object}
use Rattle.literals.specs.Domain.{Domain}
use Rattle.literals.specs.Decode.{domain, decode}
use Rattle.verdict.specs.Binding.{objects_from}
use Rattle.verdict.specs.Judged.{decided_file}
use Rattle.verdict.specs.Machine.{Event, State, legal_step, is_open, own_hold, over_all_hold, independent, allowed, next, start_state, run}
use Rattle.verdict.specs.Machine.{last_state, largest, weight, top_weight}
use Rattle.verdict.specs.Claims.{Accepted, is_event, is_fact, is_instance, total, never_rising}
use Rattle.run_semantics.specs.RunFile.{RunKind, objects_record, fact_record, event_record, step_record, end_record, other_record}
use Rattle.run_semantics.specs.RunFile.{run_kind_of, Entry, entries_before, entries_up_to, behind_in, objects_in, start_facts_in, steps_in}
use Rattle.run_semantics.specs.RunFile.{waiting_in, begun_in, closed_in, record_stop}
use Rattle.run_semantics.specs.Play.{work_bytes, Outcome, play_run, held_bytes, call, played, forbidden, too_large}
use Rattle.run_semantics.specs.Track.{instance_of, objects_given, instance_stop, tracked}

-- ---- a run of the machine on what a run file holds

-- the objects of these records: "object count" says how many, none before it is read
abbrev pub objects_of : List Entry → List Object
objects_of es = objects_from 0 (objects_in es)

-- the start state of these records
abbrev pub start_of : List Entry → State
start_of es = start_state (start_facts_in es)

-- the states that the machine reaches on their steps
abbrev pub states_of : Domain → List Entry → List State
states_of D es = run D (objects_of es) (start_of es) (steps_in es)

-- the last of them
abbrev pub final_of : Domain → List Entry → State
final_of D es = last_state (start_of es) (states_of D es)

-- "highest weight of any instance in any state reached"
abbrev pub peak_of : Domain → List Entry → ℕ
peak_of D es = largest (map (λ (s : State). top_weight D s.facts) (states_of D es))

-- ---- where playing ends, and by which number, told by the records before it

-- a step that the records close: "57, 55, 56", then "52 over 1,024 facts or 32 open", or 0
abbrev pub step_end : Domain → List Object → State → List Event → ℕ
step_end D objs s es = cond (allowed D objs s es) (cond (too_large (next D objs s es)) 52 0) (forbidden D objs s es)

abbrev pub close_end : Domain → List Entry → RunKind → ℕ
close_end D es objects_record = 0
close_end D es fact_record = 0
close_end D es event_record = 0
close_end D es step_record = step_end D (objects_of es) (final_of D es) (waiting_in es)
close_end D es end_record = 0
close_end D es other_record = 0

-- a whole record: what stops it by itself, which knows no machine, and for a step's close what the machine says of the step that waits
abbrev pub record_end : Domain → List Entry → RunKind → List ℕ → ℕ
record_end D es kind b = let n = record_stop D es kind b in cond (eqb n 0) (close_end D es kind) n

-- what stands behind those records: 50 where it is no whole record
abbrev pub found_end : Domain → List ℕ → List Entry → Record → ℕ
found_end D r es (Whole k start len) = record_end D es (run_kind_of k) (payload r start len)
found_end D r es Cut = 50
found_end D r es End = 50

-- 0 where playing goes on behind the record; behind the run's close 2, or 50 for bytes that follow
unfoldable pub end_number : Domain → List ℕ → List Entry → ℕ → ℕ
unfolding record_at payload record_stop allowed next forbidden
end_number D r es at = cond (closed_in es) (cond (ltb at (length r)) 50 2) (found_end D r es (record_at r at))

-- ---- "every run is played exactly as the written-out machine plays it"

-- an outcome of a run file r, told by these records of it
pub record EndsBehind (D : Domain) (r : List ℕ) (es : List Entry) (o : Outcome) : Type 0 where
  -- playing ends where they end: none of them ends it, and what stands there does, by this number
  pub place : o.place ≡ behind_in es
  pub earlier : (e : Entry) → In e es → end_number D r (entries_before r e.at) e.at ≡ 0
  pub number : o.number ≡ end_number D r es o.place
  pub some : o.number ≡ 0 → ⊥
  -- 2: the whole file is played
  pub whole : o.number ≡ 2 → o.place ≡ length r
  -- their start facts and events are ones of the domain over the run's objects, with different objects for different variables
  pub facts_legal : all (is_fact D (objects_of es)) (start_facts_in es) ≡ true
  pub steps_legal : all (legal_step D) (steps_in es) ≡ true
  pub events_legal : all (all (is_event D (objects_of es))) (steps_in es) ≡ true
  -- the machine takes all of their steps
  pub taken : length (states_of D es) ≡ suc (length (steps_in es))
  pub steps : o.steps ≡ length (steps_in es)
  pub facts : o.facts ≡ (final_of D es).facts
  pub running : o.running ≡ (final_of D es).running
  -- the start counts once an uncut record of kind 18 to 20 is met
  pub begun : o.begun ≡ begun_in (entries_up_to r o.place)
  pub weight : o.weight ≡ cond (begun_in (entries_up_to r o.place)) (peak_of D es) 0

-- by the records before its place
abbrev pub AsMachine : Domain → List ℕ → Outcome → Type 0
AsMachine D r o = EndsBehind D r (entries_before r o.place) o

-- of every well-formed domain file and every run file; the answer, work memory and part of a call are made of this outcome by `outcome_call`
abbrev pub PlayedAsMachine : Type 0
PlayedAsMachine = (d : List ℕ) (D : Domain) → decode d ≡ domain D → (r : List ℕ) → AsMachine D r (play_run D r)

-- of a call on a well-formed domain file with enough work memory, by what it answers and leaves: the record at fault starts at the place
-- answered,
-- and with 2, where none is, at the end of the run file
abbrev pub PlaysAsMachine : List ℕ → List ℕ → List ℕ → ℕ → ℕ → ℕ → ℕ → List ℕ → Type 0
PlaysAsMachine d r w number place steps weight memory =
    (D : Domain) → decode d ≡ domain D → work_bytes ≤ length w
    → let at = cond (eqb number 2) (length r) place in
    let s = final_of D (entries_before r at) in
    AsMachine D r
    (record {
      number = number;
      place = at;
      steps = steps;
      weight = weight;
      facts = s.facts;
      running = s.running;
      begun = begun_in (entries_up_to r at);
    })
    × (memory ≡ over (held_bytes s.facts) w)

-- a step is allowed exactly where none of 57, 55 and 56 comes
abbrev pub AllowedIsNotForbidden : Type 0
AllowedIsNotForbidden =
    (D : Domain) (objs : List Object) (s : State) (es : List Event) → allowed D objs s es ≡ eqb (forbidden D objs s es) 0

-- of a step whose ends are open the player need ask an event's own conditions alone: an end's over-all ones are asked of everything open
abbrev pub ForbiddenByOwn : Type 0
ForbiddenByOwn =
    (D : Domain) (objs : List Object) (s : State) (es : List Event)
    → forbidden D objs s es
    ≡ cond (not (all (is_open s.running) es)) 57
    (cond (not (all (own_hold D objs s.facts) es && all (over_all_hold D objs s.facts) s.running)) 55
    (cond (not (independent D objs es)) 56 0))

-- ---- what demand 3 says of the player

-- what a run file plays: the records before the place where playing ends
abbrev pub played_entries : Domain → List ℕ → List Entry
played_entries D r = entries_before r (play_run D r).place

-- for an accepted template, whatever run file is played on it: where no instance weighs more than 1 at the start, none does in any state
-- reached
abbrev pub NeverAboveOne : Type 0
NeverAboveOne =
    (d : List ℕ) (D : Domain) → decode d ≡ domain D → Accepted (decided_file d) → (r : List ℕ)
    → top_weight D (start_of (played_entries D r)).facts ≤ 1
    → (s : State) → In s (states_of D (played_entries D r)) → top_weight D s.facts ≤ 1

-- so the weight that a call answers is then at most 1
abbrev pub StaysLow : List ℕ → List ℕ → ℕ → Type 0
StaysLow d r weight =
    (D : Domain) → decode d ≡ domain D → Accepted (decided_file d) → top_weight D (start_of (played_entries D r)).facts ≤ 1 → weight ≤ 1

abbrev pub WeightStaysLow : Type 0
WeightStaysLow = (d r w : List ℕ) → StaysLow d r (played d r w).weight

-- ---- playing with an instance

-- the first record of a run file passes exactly where it gives an object count: so the record of kind 16 is the first
abbrev pub ObjectsFirst : Type 0
ObjectsFirst = (D : Domain) (r : List ℕ) → eqb (objects_given r) 0 ≡ not (eqb (end_number D r [] 0) 0)

-- where the instance stops nothing, all that a call answers and leaves beside the total is as without one
abbrev pub AsPlayed : List ℕ → List ℕ → List ℕ → List ℕ → Type 0
AsPlayed d y r w = (D : Domain) → decode d ≡ domain D → instance_stop D y r ≡ 0 → (tracked d y r w).call ≡ call d r w

-- the total answered is that of the state after the last step made, and 0 while the start does not count
abbrev pub TotalOfRun : List ℕ → List ℕ → List ℕ → List ℕ → ℕ → Type 0
TotalOfRun d y r w answered =
    (D : Domain) → decode d ≡ domain D → work_bytes ≤ length w → instance_stop D y r ≡ 0
    → answered ≡ cond (begun_in (entries_up_to r (play_run D r).place)) (total D (instance_of y) (final_of D (played_entries D r))) 0

-- "the instance's weight plus the number of open journeys belonging to it never rises from one state to the next": over the whole run, so
-- what is answered is at most the total at the start
pub record NeverRising (D : Domain) (y : List ℕ) (es : List Entry) (answered : ℕ) : Type 0 where
  pub states : never_rising (map (total D (instance_of y)) (states_of D es)) ≡ true
  pub at_most : answered ≤ total D (instance_of y) (start_of es)

-- for a template with verdict 1, an instance of n of the run's objects and a run that starts at weight at most one
abbrev pub NothingGained : List ℕ → List ℕ → List ℕ → ℕ → Type 0
NothingGained d y r answered =
    (D : Domain) → decode d ≡ domain D → (decided_file d).number ≡ 1 → is_instance D (objects_of (played_entries D r)) (instance_of y) ≡ true
    → weight D (instance_of y) (start_of (played_entries D r)).facts ≤ 1 → NeverRising D y (played_entries D r) answered
