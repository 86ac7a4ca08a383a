-- The step's close, as the code holds it. Assumes nothing.
use Rattle.std.specs.Prelude.{◌≡◌, true, cond, List, [], map, ℕ, ◌≤◌, max, eqb, length, get_or, Result, Ok, Err}
use Rattle.records.specs.Lists.{In, all, distinct}
use Rattle.records.specs.Memory.{over}
use Rattle.literals.specs.declared.Object.{Object}
use Rattle.literals.specs.Domain.{Fact, same_fact, Domain}
use Rattle.literals.specs.Held.{rows_in, Held}
use Rattle.verdict.specs.Machine.{Event, State, next, top_weight, over_all_hold}
use Rattle.verdict.specs.Held.{fact_row}
use Rattle.store.specs.Held.{note_at, Indexed, FactFits}
use Rattle.machine.specs.declared.State.{State as Counts}
use Rattle.machine.specs.declared.step.Closed.{Closed}
use Rattle.run_semantics.specs.declared.Stop.{Stop}
use Rattle.run_semantics.specs.RunFile.{max_facts, max_running, max_events}
use Rattle.run_semantics.specs.Play.{work_bytes, forbidden, too_large, held_bytes}
use Rattle.events.specs.Held.{Open, Waiting, open_of, waiting_of, agenda_open, agenda_waiting, GroundsFit, EventsFit, OverObjects}
use Rattle.effects.specs.Held.{Once}

-- ---- what the code holds

-- a state and the events that wait: how many facts are held, and the rows of what is open and of what waits
pub record StateRows : Type 0 where
  pub facts : ℕ
  pub running : Open
  pub waiting : Waiting

abbrev pub state_of : State → List Event → StateRows
state_of s es = record { facts = length s.facts; running = open_of s.running; waiting = waiting_of es }

-- what the state's counts and an agenda hold
abbrev pub state_in : Counts → List ℕ → StateRows
state_in counts agenda =
    record { facts = counts.facts; running = agenda_open counts.opened agenda; waiting = agenda_waiting counts.waits agenda }

-- facts, entries and events of the domain over the chosen objects, within the player's limits, and no fact twice
pub record Kept (D : Domain) (objs : List Object) (s : State) (es : List Event) : Type 0 where
  pub facts : (f : Fact) → In f s.facts → FactFits D f
  pub facts_few : length s.facts ≤ max_facts
  pub facts_once : distinct same_fact s.facts ≡ true
  pub running : GroundsFit D s.running
  pub running_few : length s.running ≤ max_running
  pub waiting : EventsFit D es
  pub waiting_few : length es ≤ max_events
  pub chosen : OverObjects D objs s.facts s.running
  pub waiting_over : (e : Event) → In e es → (o : Object) → In o e.act.binding → In o objs

-- what the memories hold when a step is closed: a domain, a state over chosen objects, of which there is one, and the events that wait,
-- in work memory that was `old` before the run
pub record StepHeld (D : Domain) (objs : List Object) (s : State) (es : List Event) (head table : List ℕ) (state : StateRows)
    (work old : List ℕ) : Type 0 where
  pub domain : Held D head table
  pub some : (o : Object) × In o objs
  pub kept : Kept D objs s es
  pub state_is : state ≡ state_of s es
  pub facts_are : work ≡ over (held_bytes s.facts) old

-- the index of the facts, whose last number is 1 only where the over-all conditions of every open entry are known to hold
pub record Noted (D : Domain) (objs : List Object) (head index : List ℕ) (s : State) : Type 0 where
  pub indexed : Indexed head index (map fact_row s.facts)
  pub settled : get_or index note_at 0 ≡ 1 → all (over_all_hold D objs s.facts) s.running ≡ true

-- ---- what the code relies on

-- to close a step where so many facts are held, whatever they are
pub record Closable (facts : ℕ) (work : List ℕ) : Type 0 where
  pub facts_few : facts ≤ max_facts
  pub facts_once : Once (rows_in facts work)
  pub room : work_bytes ≤ length work

-- ---- the step's close

-- the number that forbids a step, or that it is too large, or 0
unfoldable pub close_stop : Domain → List Object → State → List Event → ℕ
unfolding forbidden next
close_stop D objs s es = cond (eqb (forbidden D objs s es) 0) (cond (too_large (next D objs s es)) 52 0) (forbidden D objs s es)

-- the state afterwards, and the events that then wait
unfoldable pub close_state : Domain → List Object → State → List Event → State
unfolding close_stop next
close_state D objs s es = cond (eqb (close_stop D objs s es) 0) (next D objs s es) s

unfoldable pub close_waiting : Domain → List Object → State → List Event → List Event
unfolding close_stop
close_waiting D objs s es = cond (eqb (close_stop D objs s es) 0) [] es

-- the highest weight then
unfoldable pub close_weight : Domain → List Object → State → List Event → ℕ → ℕ
unfolding close_stop next top_weight
close_weight D objs s es w = cond (eqb (close_stop D objs s es) 0) (max w (top_weight D (next D objs s es).facts)) w

-- the counts and the highest weight that an answer leaves: as they were where something stops the close
abbrev pub state_left : Counts → Result Closed Stop → Counts
state_left state (Ok closed) = closed.state
state_left state (Err stop) = state

abbrev pub weight_left : ℕ → Result Closed Stop → ℕ
weight_left weight (Ok closed) = closed.weight
weight_left weight (Err stop) = weight

-- all that a close leaves, of the highest weight w before it and of work memory that was `old` before the run
pub record Leaves (D : Domain) (objs : List Object) (s : State) (es : List Event) (old : List ℕ) (w : ℕ) (number : ℕ)
    (state : StateRows) (weight : ℕ) (work : List ℕ) : Type 0 where
  pub number_is : number ≡ close_stop D objs s es
  pub state_is : state ≡ state_of (close_state D objs s es) (close_waiting D objs s es)
  pub weight_is : weight ≡ close_weight D objs s es w
  pub work_is : work ≡ over (held_bytes (close_state D objs s es).facts) old
