-- Where the player stands, as the code holds it, and what a record leads to. Assumes nothing.
use Prim.{Unit}
use Rattle.std.specs.Prelude.{◌≡◌, Bool, true, false, cond, List, [], ℕ, ◌≤◌, length, drop, Result, Ok, Err}
use Rattle.records.specs.Memory.{over}
use Rattle.literals.specs.Domain.{Domain}
use Rattle.literals.specs.Held.{HeadOf}
use Rattle.verdict.specs.Machine.{top_weight}
use Rattle.run_semantics.specs.RunFile.{max_objects}
use Rattle.run_semantics.specs.Play.{work_bytes, Tally, Playing, PlayTurn, go_on, finish, Outcome, run_objects, held_bytes, place_of}
use Rattle.run_semantics.specs.Numbers.{stop_number}
use Rattle.run_semantics.specs.Play.{Returned, of_domain, of_run, Call, call}
use Rattle.run_semantics.specs.Track.{Tracked as TrackedCall, tracked}
use Rattle.events.specs.Held.{agenda_bytes, open_of, waiting_of}
use Rattle.effects.specs.Held.{scratch_bytes}
use Rattle.machine.specs.Held.{StateRows, state_of, state_in, Kept, Noted}
use Rattle.run_fields.specs.Held.{objects_or_0}
use Rattle.player.specs.declared.Player.{Player}
use Rattle.player.specs.declared.Ending.{Ending}
use Rattle.player.specs.declared.Ending.TheVariants.{Played, Stopped}
use Rattle.player.specs.declared.Over.{Over}
use Rattle.player.specs.declared.run.Ended.{Ended}
use Rattle.player.specs.declared.play.Fault.{Fault}
use Rattle.player.specs.declared.play.Fault.TheVariants.{Domain as InDomain, Run as InRun}
use Rattle.player.specs.declared.play.PlayAnswer.{PlayAnswer}
use Rattle.player.specs.declared.play.Tracked.{Tracked}

-- ---- what the code holds

-- the player with the machine's state, whose agenda is in a memory of its own
pub record Whole : Type 0 where
  pub at : ℕ
  pub closed : Bool
  pub objects : ℕ
  pub state : StateRows
  pub tally : Tally

abbrev pub whole_in : Player → List ℕ → Whole
whole_in player agenda =
    record {
      at = player.at;
      closed = player.closed;
      objects = objects_or_0 player.objects;
      state = state_in player.state agenda;
      tally = record { begun = player.begun; steps = player.tally.steps; weight = player.tally.weight };
    }

-- "number (2 when played)"
abbrev pub ending_number : Ending → ℕ
ending_number Played = 2
ending_number (Stopped stop) = stop_number stop

-- and with the number that ends playing, or 0
pub record WholeTurn : Type 0 where
  pub number : ℕ
  pub player : Whole

abbrev pub turn_in : Result Player Over → List ℕ → WholeTurn
turn_in (Ok player) agenda = record { number = 0; player = whole_in player agenda }
turn_in (Err over) agenda = record { number = ending_number over.ending; player = whole_in over.player agenda }

-- where playing stands
unfoldable pub player_of : Playing → Whole
unfolding open_of waiting_of
player_of p =
    record {
      at = p.at;
      closed = p.closed;
      objects = p.objects;
      state = state_of p.state p.waiting;
      tally = p.tally;
    }

-- ---- what holds wherever playing stands

pub record Sound (D : Domain) (p : Playing) : Type 0 where
  pub kept : Kept D (run_objects p) p.state p.waiting
  pub objects : p.objects ≤ max_objects
  -- nothing is open before there are objects
  pub idle : p.objects ≡ 0 → p.state.running ≡ []
  -- each step has its record
  pub steps : p.tally.steps ≤ p.at
  pub early : p.tally.begun ≡ false → (p.tally.steps ≡ 0) × (p.tally.weight ≡ 0)
  -- no instance weighs more than the highest weight
  pub weight : p.tally.begun ≡ true → top_weight D p.state.facts ≤ p.tally.weight

-- the player and its work memory stand where playing stands
pub record Stands (D : Domain) (p : Playing) (player : Whole) (work old : List ℕ) : Type 0 where
  pub is : player ≡ player_of p
  pub memory : work ≡ over (held_bytes p.state.facts) old
  pub sound : Sound D p

-- ---- what a record leads to

-- playing goes on
pub record GoesOn (q : Playing) (t : WholeTurn) (work old : List ℕ) : Type 0 where
  pub number : t.number ≡ 0
  pub is : t.player ≡ player_of q
  pub memory : work ≡ over (held_bytes q.state.facts) old

-- playing ends
pub record Ends (o : Outcome) (t : WholeTurn) (work old : List ℕ) : Type 0 where
  pub number : t.number ≡ o.number
  pub some : o.number ≡ 0 → ⊥
  pub place : t.player.at ≡ o.place
  pub tally : t.player.tally ≡ record { begun = o.begun; steps = o.steps; weight = o.weight }
  pub facts : t.player.state.facts ≡ length o.facts
  pub running : t.player.state.running ≡ open_of o.running
  pub memory : work ≡ over (held_bytes o.facts) old

abbrev pub PlayLeadsTo : PlayTurn → WholeTurn → List ℕ → List ℕ → Type 0
PlayLeadsTo (go_on q) t work old = GoesOn q t work old
PlayLeadsTo (finish o) t work old = Ends o t work old

-- the index of the facts afterwards, where playing goes on
abbrev pub NotedAfter : Domain → List ℕ → List ℕ → PlayTurn → Type 0
NotedAfter D head index (go_on q) = Noted D (run_objects q) head index q.state
NotedAfter D head index (finish o) = Unit {0}

-- ---- what the code relies on

-- the memories of a run have their lengths
pub record RunMemory (agenda scratch : List ℕ) : Type 0 where
  pub agenda_length : length agenda ≡ agenda_bytes
  pub scratch_length : length scratch ≡ scratch_bytes

-- to play a record: the head says a domain, and the player stands somewhere in its run
pub record Playable (head : List ℕ) (player : Whole) (work index : List ℕ) : Type 0 where
  pub said : Domain
  pub reached : Playing
  pub old : List ℕ
  pub says : HeadOf said head
  pub stands : Stands said reached player work old
  pub room : work_bytes ≤ length old
  pub noted : Noted said (run_objects reached) head index reached.state

-- ---- how a run ends

abbrev pub ended_of : Outcome → Ended
ended_of o =
    record {
      number = o.number;
      place = o.place;
      begun = o.begun;
      tally = record { steps = o.steps; weight = o.weight };
      facts = length o.facts;
      opened = length o.running;
    }

-- ---- the answer of a call

-- the part of a file that comes back
abbrev pub as_fault : Returned → Fault
as_fault (of_domain at) = InDomain at
as_fault (of_run at) = InRun at

-- of which file it is, 0 the domain file and 1 the run file, and its offset there
abbrev pub fault_file : Fault → ℕ
fault_file (InDomain at) = 0
fault_file (InRun at) = 1

abbrev pub fault_offset : Fault → ℕ
fault_offset (InDomain at) = at
fault_offset (InRun at) = at

-- its bytes
abbrev pub part_at : List ℕ → List ℕ → Fault → List ℕ
part_at d r (InDomain at) = drop at d
part_at d r (InRun at) = drop at r

abbrev pub answer_of : Call → PlayAnswer
answer_of c =
    record {
      number = c.answer.number;
      place = c.answer.first;
      steps = c.answer.steps;
      weight = c.answer.weight;
      fault = as_fault c.part;
    }

-- of a run that was played to its end or to its fault
abbrev pub answer_by : Outcome → PlayAnswer
answer_by o = record { number = o.number; place = place_of o; steps = o.steps; weight = o.weight; fault = InRun o.place }

-- of a call that plays nothing, 9 to 27 and 58
abbrev pub answer_unplayed : ℕ → ℕ → Fault → PlayAnswer
answer_unplayed number place fault = record { number = number; place = place; steps = 0; weight = 0; fault = fault }

-- with an instance, or without one and its total
unfoldable pub tracked_if : Bool → List ℕ → List ℕ → List ℕ → List ℕ → TrackedCall
unfolding tracked call
tracked_if given d y r w = cond given (tracked d y r w) (record { call = call d r w; total = 0 })

abbrev pub tracked_of : TrackedCall → Tracked
tracked_of t = record { played = answer_of t.call; total = t.total }
