-- Playing a run with an instance: "The player takes an instance of n objects (a wrong count or object gives 51, last at kind 16) and
-- reports this total after the last step made". Assumes nothing.
use Rattle.std.specs.Prelude.{Bool, true, false, ◌&&◌, ◌||◌, not, cond, List, map, ℕ, eqb, ltb, length}
use Rattle.records.specs.declared.Record.{Record}
use Rattle.records.specs.declared.Record.TheVariants.{Whole, Cut, End}
use Rattle.records.specs.Record.{record_at, payload}
use Rattle.literals.specs.declared.Object.{Object}
use Rattle.literals.specs.Domain.{object, keys_of, Domain}
use Rattle.literals.specs.Decode.{Decoded, refused, domain, decode, byte}
use Rattle.verdict.specs.Claims.{total}
use Rattle.run_semantics.specs.RunFile.{outside, objects_stop}
use Rattle.run_semantics.specs.Play.{work_bytes, before_run, Outcome, outcome_at, play_run}
use Rattle.run_semantics.specs.Play.{of_run, Call, played_at, outcome_call, refused_call}

-- an instance is a byte for each of its objects
abbrev pub instance_of : List ℕ → List Object
instance_of y = map object y

-- "a wrong count or object": of a run with so many objects
abbrev pub no_instance : Domain → List ℕ → ℕ → Bool
no_instance D y objects = not (eqb (length y) (keys_of D.template)) || outside objects y

-- ---- "51, last at kind 16"

-- the object count that a record of this kind and payload gives, 0 where it is none of kind 16 or is stopped
unfoldable pub count_of : ℕ → List ℕ → ℕ
unfolding objects_stop
count_of k b = cond (eqb k 16 && eqb (objects_stop 0 b) 0) (byte b 0) 0

abbrev pub count_given : List ℕ → Record → ℕ
count_given r (Whole k start len) = count_of k (payload r start len)
count_given r Cut = 0
count_given r End = 0

-- that of a run: only its first record can give one, as none passes before it (`objects_first` of proofs/Tracked)
unfoldable pub objects_given : List ℕ → ℕ
unfolding count_of record_at
objects_given r = count_given r (record_at r 0)

-- the number of that record by the instance, where nothing else stops it, or 0
unfoldable pub instance_stop : Domain → List ℕ → List ℕ → ℕ
unfolding objects_given
instance_stop D y r = let n = objects_given r in cond (not (eqb n 0) && no_instance D y n) 51 0

-- playing with an instance
unfoldable pub track_run : Domain → List ℕ → List ℕ → Outcome
unfolding instance_stop play_run
track_run D y r =
    let n = instance_stop D y r in
    cond (eqb n 0) (play_run D r) (outcome_at n 0 before_run.state before_run.tally)

-- ---- the total

-- "this total after the last step made (0 while the start state doesn't count yet), each open entry counted once for every journey whose
-- bound key tuple is the instance"
unfoldable pub reported_total : Domain → List ℕ → Outcome → ℕ
unfolding total
reported_total D y o = cond o.begun (total D (instance_of y) (record { facts = o.facts; running = o.running })) 0

-- ---- the call: a domain file, an instance, a run file and the work memory

-- all that a call leaves, and the total
pub record Tracked : Type 0 where
  pub call : Call
  pub total : ℕ

unfoldable pub track_by : Decoded → List ℕ → List ℕ → List ℕ → Tracked
unfolding outcome_call track_run reported_total
track_by (refused f) y r w = record { call = refused_call f w; total = 0 }
track_by (domain D) y r w =
    elim (ltb (length w) work_bytes) [
      | true ↦ record { call = record { answer = played_at 58 0 0 0; memory = w; part = of_run (length r) }; total = 0 }
      | false ↦ record { call = outcome_call (track_run D y r) w; total = reported_total D y (track_run D y r) }
    ]

unfoldable pub tracked : List ℕ → List ℕ → List ℕ → List ℕ → Tracked
unfolding decode track_by
tracked d y r w = track_by (decode d) y r w
