-- What a run file holds, told without a machine: its records, objects, start facts and steps, and what stops a record. Assumes nothing.
use Rattle.std.specs.Prelude.{Bool, ◌&&◌, ◌||◌, not, cond, List, [], ◌∷◌, ◌++◌, map, ℕ, zero, suc, ◌+◌, eqb, ltb, leb, length, drop}
use Rattle.records.specs.Lists.{any, empty, elem, dedup, filter_by}
use Rattle.records.specs.declared.Record.TheVariants.{Whole, Cut, End}
use Rattle.records.specs.Record.{record_at, payload}
use Rattle.literals.specs.Domain.{object, Fact, same_fact, Domain, arity, action}
use Rattle.literals.specs.Decode.{byte}
use Rattle.literals.specs.declared.Moment.{Moment}
use Rattle.literals.specs.declared.Moment.TheVariants.{Start, End as Ending}
use Rattle.verdict.specs.Machine.{Event, same_event, injective}

-- ---- the player's own limits: "The machine has no size limits; those in 52 are the player's."

abbrev pub max_objects : ℕ
max_objects = 64

abbrev pub max_facts : ℕ
max_facts = 1024

abbrev pub max_running : ℕ
max_running = 32

abbrev pub max_events : ℕ
max_events = 16

-- ---- the kinds of record

-- "kind 16, object count ..; kind 17, start fact ..; kind 18, event ..; kind 19, close the step; kind 20, close the run"
pub data RunKind : Type 0 where
  objects_record fact_record event_record step_record end_record other_record : RunKind

abbrev pub run_kind_of : ℕ → RunKind
run_kind_of k =
    cond (eqb k 16) objects_record
    (cond (eqb k 17) fact_record
    (cond (eqb k 18) event_record
    (cond (eqb k 19) step_record
    (cond (eqb k 20) end_record other_record))))

-- its number again, 0 for every other
abbrev pub run_number : RunKind → ℕ
run_number objects_record = 16
run_number fact_record = 17
run_number event_record = 18
run_number step_record = 19
run_number end_record = 20
run_number other_record = 0

-- kind 17: "relation, objects"
abbrev pub fact_of : List ℕ → Fact
fact_of b = record { rel = byte b 0; args = map object (drop 1 b) }

-- "moment 1 is an end"
abbrev pub moment_of : ℕ → Moment
moment_of b = cond (eqb b 1) Ending Start

-- kind 18: "moment, action, objects"
abbrev pub event_of : List ℕ → Event
event_of b = record { moment = moment_of (byte b 0); act = record { action = byte b 1; binding = map object (drop 2 b) } }

-- ---- the records of a file

-- a whole record: its offset, kind and payload
pub record Entry : Type 0 where
  pub at : ℕ
  pub kind : RunKind
  pub bytes : List ℕ

-- the whole records from an offset on, up to the first that is cut short or the end
unfoldable pub entries_from : ℕ → List ℕ → ℕ → List Entry
unfolding record_at payload
entries_from zero r at = []
entries_from (suc fuel) r at =
    elim (record_at r at) [
      | Whole k start len ↦ record { at = at; kind = run_kind_of k; bytes = payload r start len } ∷ entries_from fuel r (start + len)
      | Cut ↦ []
      | End ↦ []
    ]

unfoldable pub entries : List ℕ → List Entry
unfolding entries_from
entries r = entries_from (suc (length r)) r 0

-- those before an offset, and those up to the one at it
unfoldable pub entries_before : List ℕ → ℕ → List Entry
unfolding entries
entries_before r place = filter_by (λ (e : Entry). ltb e.at place) (entries r)

unfoldable pub entries_up_to : List ℕ → ℕ → List Entry
unfolding entries
entries_up_to r place = filter_by (λ (e : Entry). leb e.at place) (entries r)

-- ---- what the records say

-- where the records end: behind the payload of the last
abbrev pub behind_from : ℕ → List Entry → ℕ
behind_from at [] = at
behind_from at (e ∷ es) = behind_from (e.at + 4 + length e.bytes) es

abbrev pub behind_in : List Entry → ℕ
behind_in es = behind_from 0 es

-- the object count behind a record, where it is n before it
abbrev pub objects_by : RunKind → List ℕ → ℕ → ℕ
objects_by k b n = cond (eqb (run_number k) 16) (byte b 0) n

abbrev pub count_from : ℕ → List Entry → ℕ
count_from n [] = n
count_from n (e ∷ es) = count_from (objects_by e.kind e.bytes n) es

-- the object count, 0 before its record
abbrev pub objects_in : List Entry → ℕ
objects_in es = count_from 0 es

abbrev pub facts_by : RunKind → List ℕ → List Fact → List Fact
facts_by k b fs = cond (eqb (run_number k) 17) (fact_of b ∷ fs) fs

-- the start facts, in file order
abbrev pub start_facts_in : List Entry → List Fact
start_facts_in [] = []
start_facts_in (e ∷ es) = facts_by e.kind e.bytes (start_facts_in es)

-- the events that wait behind a record, where these wait before it
abbrev pub waiting_by : RunKind → List ℕ → List Event → List Event
waiting_by k b ws = cond (eqb (run_number k) 18) (ws ++ (event_of b ∷ [])) (cond (eqb (run_number k) 19) [] ws)

abbrev pub waiting_from : List Event → List Entry → List Event
waiting_from ws [] = ws
waiting_from ws (e ∷ es) = waiting_from (waiting_by e.kind e.bytes ws) es

-- the events of the step that is not closed yet
abbrev pub waiting_in : List Entry → List Event
waiting_in es = waiting_from [] es

-- a step that a record closes, in front of the later ones
abbrev pub closed_by : RunKind → List Event → List (List Event) → List (List Event)
closed_by k ws ess = cond (eqb (run_number k) 19) (ws ∷ ess) ess

abbrev pub steps_from : List Event → List Entry → List (List Event)
steps_from ws [] = []
steps_from ws (e ∷ es) = closed_by e.kind ws (steps_from (waiting_by e.kind e.bytes ws) es)

-- the steps, in file order
abbrev pub steps_in : List Entry → List (List Event)
steps_in es = steps_from [] es

abbrev pub begins : RunKind → Bool
begins k = leb 18 (run_number k)

-- "once the first uncut record of kind 18 to 20 is met"
abbrev pub begun_in : List Entry → Bool
begun_in es = any (λ (e : Entry). begins e.kind) es

abbrev pub is_end : RunKind → Bool
is_end k = eqb (run_number k) 20

-- the run's close is read
abbrev pub closed_in : List Entry → Bool
closed_in es = any (λ (e : Entry). is_end e.kind) es

-- ---- what stops a record: its number, or 0

-- an object number that the run does not have
abbrev pub outside : ℕ → List ℕ → Bool
outside objects os = any (leb objects) os

-- "one 16", "object count 1 to 64"
unfoldable pub objects_stop : ℕ → List ℕ → ℕ
objects_stop objects b =
    cond (not (eqb objects 0)) 50 (cond (not (eqb (length b) 1)) 50 (cond (eqb (byte b 0) 0 || ltb max_objects (byte b 0)) 51 0))

-- "any number of 17": behind the 16, and before 18 to 20; "52 .. the 1,025th different start fact"
unfoldable pub fact_stop : Domain → ℕ → Bool → List Fact → List ℕ → ℕ
fact_stop D objects begun held b =
    cond (eqb objects 0 || begun) 50
    (cond (ltb (length b) 1) 50
    (cond (leb (length D.arities) (byte b 0)) 51
    (cond (not (eqb (length b) (1 + arity D (byte b 0)))) 50
    (cond (outside objects (drop 1 b)) 51
    (cond (not (elem same_fact (fact_of b) held) && leb max_facts (length held)) 52 0)))))

-- "51 number out of range, or moment 1 of an action at once; 53 one object bound twice; 54 event repeated in its step; 52 a step's 17th
-- event"
unfoldable pub event_stop : Domain → ℕ → List Event → List ℕ → ℕ
unfolding action
event_stop D objects waiting b =
    let a = action D (byte b 1) in
    cond (eqb objects 0) 50
    (cond (ltb (length b) 2) 50
    (cond (ltb 1 (byte b 0)) 51
    (cond (leb (length D.actions) (byte b 1)) 51
    (cond (not (eqb (length b) (2 + a.vars))) 50
    (cond (eqb (byte b 0) 1 && not a.lasting) 51
    (cond (outside objects (drop 2 b)) 51
    (cond (not (injective (event_of b))) 53
    (cond (elem same_event (event_of b) waiting) 54
    (cond (leb max_events (length waiting)) 52 0)))))))))

unfoldable pub step_stop : ℕ → List ℕ → ℕ
step_stop objects b = cond (eqb objects 0) 50 (cond (not (eqb (length b) 0)) 50 0)

-- "close the run, with no event waiting (else 50 at that record)"
unfoldable pub end_stop : ℕ → List Event → List ℕ → ℕ
end_stop objects waiting b = cond (eqb objects 0) 50 (cond (not (eqb (length b) 0)) 50 (cond (empty waiting) 0 50))

-- a whole record, told by the records before it; "repeats held once"
unfoldable pub record_stop : Domain → List Entry → RunKind → List ℕ → ℕ
unfolding objects_stop fact_stop event_stop step_stop end_stop
record_stop D es objects_record b = objects_stop (objects_in es) b
record_stop D es fact_record b = fact_stop D (objects_in es) (begun_in es) (dedup same_fact (start_facts_in es)) b
record_stop D es event_record b = event_stop D (objects_in es) (waiting_in es) b
record_stop D es step_record b = step_stop (objects_in es) b
record_stop D es end_record b = end_stop (objects_in es) (waiting_in es) b
record_stop D es other_record b = 50
