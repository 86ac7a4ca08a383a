-- Playing a run: the run file record by record, the answer, the work memory afterwards, and the part that comes back. Assumes nothing.
use Rattle.std.specs.Prelude.{Bool, true, false, ◌&&◌, ◌||◌, not, cond, List, [], ◌∷◌, ◌++◌, ℕ, zero, suc, ◌+◌, ◌*◌, ◌-◌, max, eqb, ltb, length, drop, replicate}
use Rattle.records.specs.Lists.{all, elem}
use Rattle.records.specs.Memory.{over}
use Rattle.records.specs.declared.Record.{Record}
use Rattle.records.specs.declared.Record.TheVariants.{Whole, Cut, End}
use Rattle.records.specs.Record.{record_at, payload}
use Rattle.literals.specs.declared.Object.{Object}
use Rattle.literals.specs.Domain.{Fact, same_fact, Domain}
use Rattle.literals.specs.Decode.{Refusal, Decoded, refused, domain, decode, byte}
use Rattle.verdict.specs.Binding.{objects_from}
use Rattle.verdict.specs.Judged.{fact_bytes}
use Rattle.verdict.specs.Machine.{GroundAction, Event, State, start_state, is_open, conditions_hold, over_all_hold, interfere, independent}
use Rattle.verdict.specs.Machine.{next, top_weight}
use Rattle.run_semantics.specs.RunFile.{RunKind, objects_record, fact_record, event_record, step_record, end_record, other_record}
use Rattle.run_semantics.specs.RunFile.{run_kind_of, fact_of, event_of, max_facts, max_running, objects_stop, fact_stop, event_stop, step_stop}
use Rattle.run_semantics.specs.RunFile.{end_stop}

-- "the first 8,192 bytes"
abbrev pub work_bytes : ℕ
work_bytes = 8 * max_facts

-- ---- where playing stands

-- what is counted
pub record Tally : Type 0 where
  -- a record of kind 18 to 20 is met, so that the start counts
  pub begun : Bool
  pub steps : ℕ
  -- the highest weight of any instance in any state reached
  pub weight : ℕ

pub record Playing : Type 0 where
  -- the next record's offset
  pub at : ℕ
  -- the run's close is read
  pub closed : Bool
  -- the object count, 0 before its record
  pub objects : ℕ
  -- the machine's state
  pub state : State
  -- the events of the step that is read
  pub waiting : List Event
  pub tally : Tally

-- at this offset, closed or not, with this object count, state, events and tally
abbrev pub standing : ℕ → Bool → ℕ → State → List Event → Tally → Playing
standing at closed n s es t = record { at = at; closed = closed; objects = n; state = s; waiting = es; tally = t }

abbrev pub before_run : Playing
before_run = standing 0 false 0 (start_state []) [] (record { begun = false; steps = 0; weight = 0 })

-- the same, going on behind the record with this state, these events and this tally
abbrev pub onward : Playing → ℕ → State → List Event → Tally → Playing
onward p behind s es t = standing behind false p.objects s es t

-- how playing ends: "number (2 when played), steps made, highest weight", the offset of the record at fault, the facts kept, what is
-- open then, and whether the start counts
pub record Outcome : Type 0 where
  pub number : ℕ
  pub place : ℕ
  pub steps : ℕ
  pub weight : ℕ
  pub facts : List Fact
  pub running : List GroundAction
  pub begun : Bool

-- what one record leads to
pub data PlayTurn : Type 0 where
  go_on : Playing → PlayTurn
  finish : Outcome → PlayTurn

abbrev pub outcome_at : ℕ → ℕ → State → Tally → Outcome
outcome_at n at s t =
    record {
      number = n;
      place = at;
      steps = t.steps;
      weight = t.weight;
      facts = s.facts;
      running = s.running;
      begun = t.begun;
    }

-- "50 to 57 leave the state before the step at fault, or the start facts read so far"
abbrev pub stop_at : ℕ → Playing → PlayTurn
stop_at n p = finish (outcome_at n p.at p.state p.tally)

-- "start included once the first uncut record of kind 18 to 20 is met; steps and weight are 0 before"
abbrev pub start_tally : Tally → ℕ → Tally
start_tally t top = cond t.begun t (record { begun = true; steps = 0; weight = top })

unfoldable pub begin : Domain → Playing → Playing
unfolding top_weight
begin D p = standing p.at p.closed p.objects p.state p.waiting (start_tally p.tally (top_weight D p.state.facts))

-- ---- where playing stands behind a record of each kind

abbrev pub with_objects : Playing → ℕ → ℕ → Playing
with_objects p n behind = standing behind false n p.state p.waiting p.tally

-- "repeats held once"
abbrev pub joined : Fact → List Fact → List Fact
joined f fs = cond (elem same_fact f fs) fs (fs ++ (f ∷ []))

abbrev pub with_fact : Playing → Fact → ℕ → Playing
with_fact p f behind =
    onward p behind (record { facts = joined f p.state.facts; running = p.state.running }) p.waiting p.tally

abbrev pub with_event : Playing → Event → ℕ → Playing
with_event p e behind = onward p behind p.state (p.waiting ++ (e ∷ [])) p.tally

-- ---- the step's close

-- the objects of the run
abbrev pub run_objects : Playing → List Object
run_objects p = objects_from 0 p.objects

-- "57 end not open; 55 condition fails; 56 interference", or 0
unfoldable pub forbidden : Domain → List Object → State → List Event → ℕ
unfolding conditions_hold over_all_hold interfere
forbidden D objs s es =
    cond (not (all (is_open s.running) es)) 57
    (cond (not (all (conditions_hold D objs s.facts) es && all (over_all_hold D objs s.facts) s.running)) 55
    (cond (not (independent D objs es)) 56 0))

-- "52 over 1,024 facts or 32 open"
abbrev pub too_large : State → Bool
too_large s = ltb max_facts (length s.facts) || ltb max_running (length s.running)

-- one step more, and the highest weight after it
abbrev pub tallied : Tally → ℕ → Tally
tallied t top = record { begun = t.begun; steps = suc t.steps; weight = max t.weight top }

-- the step is made
abbrev pub after_step : Playing → State → ℕ → ℕ → PlayTurn
after_step p s top behind = go_on (onward p behind s [] (tallied p.tally top))

-- "Each step hands the machine's state on and yields the state after it": taken where nothing forbids it and what follows isn't too large
unfoldable pub close_step : Domain → Playing → ℕ → PlayTurn
unfolding next top_weight forbidden
close_step D p behind =
    cond (eqb (forbidden D (run_objects p) p.state p.waiting) 0)
    (let after = next D (run_objects p) p.state p.waiting in
    cond (too_large after) (stop_at 52 p) (after_step p after (top_weight D after.facts) behind))
    (stop_at (forbidden D (run_objects p) p.state p.waiting) p)

abbrev pub with_close : Playing → ℕ → Playing
with_close p behind = standing behind true p.objects p.state p.waiting p.tally

-- ---- one record

abbrev pub unless : ℕ → Playing → PlayTurn → PlayTurn
unless n p t = cond (eqb n 0) t (stop_at n p)

-- a whole record of this kind with payload b, and the offset behind it
unfoldable pub play_record : Domain → Playing → RunKind → List ℕ → ℕ → PlayTurn
unfolding objects_stop fact_stop begin event_stop step_stop close_step end_stop
play_record D p objects_record b behind = unless (objects_stop p.objects b) p (go_on (with_objects p (byte b 0) behind))
play_record D p fact_record b behind = unless (fact_stop D p.objects p.tally.begun p.state.facts b) p
    (go_on (with_fact p (fact_of b) behind))
play_record D p event_record b behind = let q = begin D p in unless (event_stop D p.objects p.waiting b) q
    (go_on (with_event q (event_of b) behind))
play_record D p step_record b behind = let q = begin D p in unless (step_stop p.objects b) q (close_step D q behind)
play_record D p end_record b behind = let q = begin D p in unless (end_stop p.objects p.waiting b) q (go_on (with_close q behind))
play_record D p other_record b behind = stop_at 50 p

unfoldable pub play_found : Domain → List ℕ → Playing → Record → PlayTurn
unfolding play_record payload
play_found D r p (Whole k start len) = play_record D p (run_kind_of k) (payload r start len) (start + len)
play_found D r p Cut = stop_at 50 p
play_found D r p End = stop_at 50 p

-- "bytes behind it are 50 from the first of them"; played: 2, "the empty end of the run file if there is none"
unfoldable pub play_step : Domain → List ℕ → Playing → PlayTurn
unfolding play_found record_at
play_step D r p =
    cond p.closed (cond (ltb p.at (length r)) (stop_at 50 p) (stop_at 2 p)) (play_found D r p (record_at r p.at))

-- the records in file order. More fuel than the file's length changes nothing: `more_fuel` of proofs/Loop
unfoldable pub play_from : ℕ → Domain → List ℕ → Playing → Outcome
unfolding play_step
play_from zero D r p = outcome_at 50 p.at p.state p.tally
play_from (suc fuel) D r p = elim (play_step D r p) [ go_on q ↦ play_from fuel D r q | finish o ↦ o ]

unfoldable pub play_run : Domain → List ℕ → Outcome
unfolding play_from
play_run D r = play_from (suc (length r)) D r before_run

-- ---- the call: a domain file, a run file and the work memory

-- "number (2 when played), steps made, highest weight", with the first place; the others are always 0
pub record Played : Type 0 where
  pub number : ℕ
  pub first : ℕ
  pub steps : ℕ
  pub weight : ℕ

-- "a part of the domain file or of the run file, from that record to the end": which file, and its offset
pub data Returned : Type 0 where
  of_domain : ℕ → Returned
  of_run : ℕ → Returned

-- all that a call leaves
pub record Call : Type 0 where
  pub answer : Played
  pub memory : List ℕ
  pub part : Returned

-- "unused places are 0"
abbrev pub played_at : ℕ → ℕ → ℕ → ℕ → Played
played_at n at s w = record { number = n; first = at; steps = s; weight = w }

-- "any later number for a record, give the record's offset as first place"
abbrev pub place_of : Outcome → ℕ
place_of o = cond (eqb o.number 2) 0 o.place

-- "the first 8,192 bytes hold the facts, 8 bytes each in the witness's form, .. zeros after"
unfoldable pub held_bytes : List Fact → List ℕ
unfolding fact_bytes
held_bytes fs = let b = fact_bytes fs in b ++ replicate (work_bytes - length b) 0

unfoldable pub outcome_call : Outcome → List ℕ → Call
unfolding held_bytes over
outcome_call o w =
    record {
      answer = played_at o.number (place_of o) o.steps o.weight;
      memory = over (held_bytes o.facts) w;
      part = of_run o.place;
    }

-- "9 to 31 and 58 leave lent memory untouched"; "for 9 the whole domain file"
abbrev pub refused_call : Refusal → List ℕ → Call
refused_call f w = record { answer = played_at f.number f.place 0 0; memory = w; part = of_domain f.start }

-- "run, after 9 to 23: 58 work memory under 8,192"; "the empty end of the run file if there is none"
unfoldable pub call_by : Decoded → List ℕ → List ℕ → Call
unfolding outcome_call play_run
call_by (refused f) r w = refused_call f w
call_by (domain D) r w =
    elim (ltb (length w) work_bytes) [
      | true ↦ record {
        answer = played_at 58 0 0 0;
        memory = w;
        part = of_run
            (length r);
      }
      | false ↦ outcome_call (play_run D r) w
    ]

unfoldable pub call : List ℕ → List ℕ → List ℕ → Call
unfolding decode call_by
call d r w = call_by (decode d) r w

-- the answer
unfoldable pub played : List ℕ → List ℕ → List ℕ → Played
unfolding call
played d r w = (call d r w).answer

-- the work memory afterwards
unfoldable pub work_after : List ℕ → List ℕ → List ℕ → List ℕ
unfolding call
work_after d r w = (call d r w).memory

-- the part that comes back
unfoldable pub returned : List ℕ → List ℕ → List ℕ → Returned
unfolding call
returned d r w = (call d r w).part

-- its bytes
unfoldable pub returned_bytes : List ℕ → List ℕ → Returned → List ℕ
returned_bytes d r (of_domain at) = drop at d
returned_bytes d r (of_run at) = drop at r
