-- Playing, beside M12: what it and the theorems leave open, each case with what it pins. Assumes nothing.
use Rattle.std.specs.Prelude.{◌≡◌, refl, true, false, List, [], ◌∷◌, ◌++◌, ℕ, replicate}
use Rattle.literals.specs.Domain.{object, Domain}
use Rattle.verdict.specs.Judged.{decided_file}
use Rattle.verdict.specs.Machine.{State}
use Rattle.run_semantics.specs.RunFile.{fact_stop}
use Rattle.run_semantics.specs.Play.{too_large, of_domain, of_run, played, work_after, returned, returned_bytes}
use Rattle.cases.specs.Written.{FF, rec, each, relation, at_once, lasting, component, closing, objects, fact, event, close_step}
use Rattle.cases.specs.Written.{close_run, holds, lacks, adds, deletes, holds_over_all, lacks_over_all, holds_at_end, lacks_at_end, adds_at_end}
use Rattle.cases.specs.Written.{deletes_at_end, lent, zeroed, held, playing, play, reply, plays, stops}
use Rattle.cases.specs.Samples.{at, out, m1, m3}

-- ---- the domain of most cases: lit/1, labelled 0, so that an instance is an object and weighs at most 1; its template is accepted, 0

abbrev lit : ℕ → List ℕ
lit x = 0 ∷ x ∷ []

-- with the actions 0 to 7
abbrev lamps : List ℕ
lamps =
    relation 1
    ++ (at_once 1 ++ adds (lit 0))
    ++ (at_once 1 ++ deletes (lit 0))
    ++ (at_once 1 ++ holds (lit 0))
    ++ (at_once 1 ++ lacks (lit 0))
    ++ (at_once 1 ++ deletes (lit 0) ++ adds (lit 0))
    ++ (at_once 2 ++ adds (lit 1) ++ adds (lit 0))
    ++ (lasting 1 ++ holds_over_all (lit 0))
    ++ (lasting 1 ++ lacks_over_all (lit 0))
    ++ component (lit 0)
    ++ closing

-- their events, 7 bytes each; a start fact has 6 bytes, the object count 5, a close 4

-- adds lit(x)
abbrev light : ℕ → List ℕ
light x = event 0 0 (x ∷ [])

-- deletes it
abbrev snuff : ℕ → List ℕ
snuff x = event 0 1 (x ∷ [])

-- has it as true condition
abbrev see : ℕ → List ℕ
see x = event 0 2 (x ∷ [])

-- as false condition
abbrev hide : ℕ → List ℕ
hide x = event 0 3 (x ∷ [])

-- deletes and adds it
abbrev renew : ℕ → List ℕ
renew x = event 0 4 (x ∷ [])

-- adds lit(y), then lit(x): 8 bytes
abbrev both : ℕ → ℕ → List ℕ
both x y = event 0 5 (x ∷ y ∷ [])

-- lasts, with lit(x) true over all
abbrev watch : ℕ → List ℕ
watch x = event 0 6 (x ∷ [])

abbrev watched : ℕ → List ℕ
watched x = event 1 6 (x ∷ [])

-- lasts, with lit(x) false over all
abbrev sleep : ℕ → List ℕ
sleep x = event 0 7 (x ∷ [])

abbrev slept : ℕ → List ℕ
slept x = event 1 7 (x ∷ [])

-- a lasting job of two variables that has lit(x) true over all and deletes it at its end; its events have 8 bytes
abbrev jobs : List ℕ
jobs = relation 1 ++ (lasting 2 ++ holds_over_all (lit 0) ++ deletes_at_end (lit 0)) ++ component (lit 0) ++ closing

-- a held move: a volume is at(x,from) over all, which the end deletes, adding at(x,to); its events have 9 bytes
abbrev moves : List ℕ
moves = relation 2 ++ (lasting 3 ++ holds_over_all (at 0 1) ++ deletes_at_end (at 0 1) ++ adds_at_end (at 0 2)) ++ component (at 0 FF) ++ closing

abbrev carry : ℕ → ℕ → ℕ → ℕ → List ℕ
carry m x from to = event m 0 (x ∷ from ∷ to ∷ [])

-- lit[FF]: a lasting action lacks lit(x) over all and adds it at its end
abbrev counted : List ℕ
counted = relation 1 ++ (lasting 1 ++ lacks_over_all (lit 0) ++ adds_at_end (lit 0)) ++ component (lit FF) ++ closing

-- full[0], empty[0]: filling lacks empty(x) over all and adds full(x) at its end, emptying the other way round
abbrev fillings : List ℕ
fillings =
    relation 1
    ++ relation 1
    ++ (lasting 1 ++ lacks_over_all (1 ∷ 0 ∷ []) ++ adds_at_end (0 ∷ 0 ∷ []))
    ++ (lasting 1 ++ lacks_over_all (0 ∷ 0 ∷ []) ++ adds_at_end (1 ∷ 0 ∷ []))
    ++ component (0 ∷ 0 ∷ [])
    ++ component (1 ∷ 0 ∷ [])
    ++ closing

abbrev work : ℕ → ℕ → ℕ → List ℕ
work m x worker = event m 0 (x ∷ worker ∷ [])

-- one step of these events, from these start facts, with three objects
abbrev step : List ℕ → List ℕ → List ℕ
step facts events = objects 3 ++ facts ++ events ++ close_step ++ close_run

-- what follows a step's close that is at fault, where the run closes next
abbrev rest : List ℕ
rest = close_step ++ close_run

-- four relations of one argument, gate labelled 0: a lasting action that adds bell at its start, and at its end asks for gate and no door,
-- deletes bell and adds hush;
-- two that delete gate, one that adds door
abbrev gate : ℕ → List ℕ
gate x = 0 ∷ x ∷ []

abbrev door : ℕ → List ℕ
door x = 1 ∷ x ∷ []

abbrev bell : ℕ → List ℕ
bell x = 2 ∷ x ∷ []

abbrev hush : ℕ → List ℕ
hush x = 3 ∷ x ∷ []

abbrev gates : List ℕ
gates =
    each 4 (λ i. relation 1)
    ++ (lasting 1 ++ adds (bell 0) ++ holds_at_end (gate 0) ++ lacks_at_end (door 0) ++ deletes_at_end (bell 0) ++ adds_at_end (hush 0))
    ++ (at_once 1 ++ deletes (gate 0))
    ++ (at_once 1 ++ deletes (gate 0))
    ++ (at_once 1 ++ adds (door 0))
    ++ component (gate 0)
    ++ closing

-- the start or the end of the first, by its moment; then the others
abbrev enter : ℕ → ℕ → List ℕ
enter m x = event m 0 (x ∷ [])

abbrev shut : ℕ → List ℕ
shut x = event 0 1 (x ∷ [])

abbrev slam : ℕ → List ℕ
slam x = event 0 2 (x ∷ [])

abbrev unlock : ℕ → List ℕ
unlock x = event 0 3 (x ∷ [])

-- actions without variables: a lasting one, one that adds the fact, one that deletes it, one that asks for it, and another lasting one
abbrev crowd : List ℕ
crowd =
    relation 0 ++ lasting 0 ++ (at_once 0 ++ adds (0 ∷ [])) ++ (at_once 0 ++ deletes (0 ∷ [])) ++ (at_once 0 ++ holds (0 ∷ [])) ++ lasting 0
    ++ component (0 ∷ []) ++ closing

abbrev linger : List ℕ
linger = event 0 0 []

-- ---- steps: what is allowed, and the state afterwards

pub record Steps : Type 0 where
  pub lamps_accepted : decided_file lamps ≡ record { number = 0; first = 0; second = 0; third = 0 }
  -- 56: a true condition of one is a delete of the other, either way round
  pub true_deleted : play lamps (step (fact (lit 0)) (see 0 ++ snuff 0)) ≡ stops 56 25 0 1 (held (lit 0)) rest
  pub deleted_true : play lamps (step (fact (lit 0)) (snuff 0 ++ see 0)) ≡ stops 56 25 0 1 (held (lit 0)) rest
  -- a true condition is an add
  pub true_added : play lamps (step (fact (lit 0)) (see 0 ++ light 0)) ≡ stops 56 25 0 1 (held (lit 0)) rest
  pub added_true : play lamps (step (fact (lit 0)) (light 0 ++ see 0)) ≡ stops 56 25 0 1 (held (lit 0)) rest
  -- a false condition is a delete
  pub false_deleted : play lamps (step [] (hide 0 ++ snuff 0)) ≡ stops 56 19 0 0 [] rest
  pub deleted_false : play lamps (step [] (snuff 0 ++ hide 0)) ≡ stops 56 19 0 0 [] rest
  -- a false condition is an add
  pub false_added : play lamps (step [] (hide 0 ++ light 0)) ≡ stops 56 19 0 0 [] rest
  pub added_false : play lamps (step [] (light 0 ++ hide 0)) ≡ stops 56 19 0 0 [] rest
  -- an add of one is a delete of the other
  pub added_deleted : play lamps (step [] (light 0 ++ snuff 0)) ≡ stops 56 19 0 0 [] rest
  pub deleted_added : play lamps (step [] (snuff 0 ++ light 0)) ≡ stops 56 19 0 0 [] rest
  -- no interference: other objects; two conditions, one true and one false; two adds of one fact, which is held once
  pub other_objects : play lamps (step (fact (lit 1)) (light 0 ++ snuff 1)) ≡ plays 1 1 (held (lit 0)) 33
  pub conditions_alone : play lamps (step (fact (lit 1)) (hide 0 ++ see 1)) ≡ plays 1 1 (held (lit 1)) 33
  pub added_twice : play lamps (step [] (both 0 1 ++ light 0)) ≡ plays 1 1 (held (lit 1) ++ held (lit 0)) 28
  -- an end's over-all conditions don't interfere: they must hold before the step; a start's don't either, nor need they hold
  pub end_over_all_free : play lamps (objects 3 ++ fact (lit 0) ++ watch 0 ++ close_step ++ watched 0 ++ snuff 0 ++ close_step ++ close_run)
      ≡ plays 2 1 [] 44
  pub end_over_all_added : play lamps (objects 3 ++ sleep 0 ++ close_step ++ slept 0 ++ light 0 ++ close_step ++ close_run)
      ≡ plays 2 1 (held (lit 0)) 38
  -- 55 where they don't, at the end's own step
  pub end_over_all_fails : play lamps
      (objects 3 ++ fact (lit 0) ++ watch 0 ++ close_step ++ snuff 0 ++ close_step ++ watched 0 ++ close_step ++ close_run)
      ≡ stops 55 40 2 1 [] rest
  -- two jobs that need an entry throughout, and strike it at their ends, may end together
  pub jobs_accepted : decided_file jobs ≡ record { number = 0; first = 0; second = 0; third = 0 }
  pub ends_together : play jobs
      (objects 3 ++ fact (lit 0) ++ work 0 0 1 ++ work 0 0 2 ++ close_step ++ work 1 0 1 ++ work 1 0 2 ++ close_step ++ close_run)
      ≡ plays 2 1 [] 55
  -- but not one after the other
  pub ends_apart : play jobs
      (objects 3 ++ fact (lit 0) ++ work 0 0 1 ++ work 0 0 2 ++ close_step ++ work 1 0 1 ++ close_step ++ work 1 0 2 ++ close_step ++ close_run)
      ≡ stops 55 51 2 1 [] rest
  -- an over-all condition balances no end and covers nothing: two ends together would break such templates
  pub moves_refused : decided_file moves ≡ record { number = 42; first = 0; second = 0; third = 1 }
  pub moved_together : play moves
      (objects 4 ++ fact (at 0 1) ++ carry 0 0 1 2 ++ carry 0 0 1 3 ++ close_step ++ carry 1 0 1 2 ++ carry 1 0 1 3 ++ close_step ++ close_run)
      ≡ plays 2 2 (held (at 0 2) ++ held (at 0 3)) 60
  pub fillings_refused : decided_file fillings ≡ record { number = 42; first = 0; second = 0; third = 1 }
  pub filled_and_emptied : play fillings
      (objects 1 ++ event 0 0 (0 ∷ []) ++ event 0 1 (0 ∷ []) ++ close_step ++ event 1 0 (0 ∷ []) ++ event 1 1 (0 ∷ []) ++ close_step
      ++ close_run)
      ≡ plays 2 2 (held (0 ∷ 0 ∷ []) ++ held (1 ∷ 0 ∷ [])) 45
  pub counted_refused : decided_file counted ≡ record { number = 42; first = 0; second = 0; third = 1 }
  pub counted_together : play counted
      (objects 2 ++ event 0 0 (0 ∷ []) ++ event 0 0 (1 ∷ []) ++ close_step ++ event 1 0 (0 ∷ []) ++ event 1 0 (1 ∷ []) ++ close_step
      ++ close_run)
      ≡ plays 2 2 (held (lit 0) ++ held (lit 1)) 45
  pub start_free : play lamps (step [] (watch 0 ++ light 0)) ≡ plays 1 1 (held (lit 0)) 27
  -- 55: a true condition, a false condition
  pub true_fails : play lamps (step [] (see 0)) ≡ stops 55 12 0 0 [] rest
  pub false_fails : play lamps (step (fact (lit 0)) (hide 0)) ≡ stops 55 18 0 1 (held (lit 0)) rest
  -- 55: the over-all condition of an open entry, in a step without events; the step before, which breaks it, is allowed
  pub over_all_true_fails : play lamps (objects 3 ++ fact (lit 0) ++ watch 0 ++ close_step ++ snuff 0 ++ close_step ++ close_step ++ close_run)
      ≡ stops 55 33 2 1 [] rest
  pub over_all_false_fails : play lamps (objects 3 ++ sleep 0 ++ close_step ++ light 0 ++ close_step ++ close_step ++ close_run)
      ≡ stops 55 27 2 1 (held (lit 0)) rest
  -- that of an entry that has ended is no matter
  pub ended : play lamps
      (objects 3 ++ fact (lit 0) ++ watch 0 ++ close_step ++ watched 0 ++ close_step ++ snuff 0 ++ close_step ++ close_step ++ close_run)
      ≡ plays 4 1 [] 52
  -- 57 before 55, 55 before 56
  pub open_before_condition : play lamps (step [] (see 0 ++ watched 0)) ≡ stops 57 19 0 0 [] rest
  pub condition_before_interference : play lamps (step [] (see 0 ++ light 0)) ≡ stops 55 19 0 0 [] rest
  -- two equal entries are open: one end takes one, a second the other, and the third finds none
  pub open_twice : play lamps
      (objects 3 ++ fact (lit 0) ++ each 2 (λ i. watch 0 ++ close_step) ++ each 3 (λ i. watched 0 ++ close_step) ++ close_run)
      ≡ stops 57 62 4 1 (held (lit 0)) rest
  -- start and end of one entry in a step: the end is of an entry open before, and the start's stays open
  pub restarted : play lamps
      (objects 3 ++ fact (lit 0) ++ watch 0 ++ close_step ++ watch 0 ++ watched 0 ++ close_step ++ watched 0 ++ close_step ++ close_run)
      ≡ plays 3 1 (held (lit 0)) 55
  pub not_yet_open : play lamps (step (fact (lit 0)) (watch 0 ++ watched 0)) ≡ stops 57 25 0 1 (held (lit 0)) rest
  -- an end of the same action with another object is not open
  pub other_entry : play lamps (objects 3 ++ fact (lit 0) ++ watch 0 ++ close_step ++ watched 1 ++ close_step ++ close_run)
      ≡ stops 57 29 1 1 (held (lit 0)) rest
  -- repeats among start facts are held once; a fact deleted and added again is new; new facts stand by event
  pub order_of_facts : play lamps (step (fact (lit 0) ++ fact (lit 1) ++ fact (lit 0)) (renew 0 ++ light 2))
      ≡ plays 1 1 (held (lit 1) ++ held (lit 0) ++ held (lit 2)) 45
  pub order_of_events : play lamps (step (fact (lit 0) ++ fact (lit 1)) (light 2 ++ renew 0))
      ≡ plays 1 1 (held (lit 1) ++ held (lit 2) ++ held (lit 0)) 39
  -- a fact that is held and added keeps its place
  pub added_again : play lamps (step (fact (lit 0) ++ fact (lit 1)) (light 0)) ≡ plays 1 1 (held (lit 0) ++ held (lit 1)) 32
  -- the weight of an instance: facts of all components, of one object under the key
  pub weight_of_two : play m1 (objects 3 ++ fact (at 1 0) ++ fact (out 0 0) ++ fact (at 0 1) ++ close_run)
      ≡ plays 0 2 (held (at 1 0) ++ held (out 0 0) ++ held (at 0 1)) 30
  -- the highest, not the last: 2 at the start, 1 after lend's start
  pub weight_highest : play m1 (objects 4 ++ fact (at 0 1) ++ fact (at 0 2) ++ event 0 1 (0 ∷ 1 ∷ 3 ∷ []) ++ close_step ++ close_run)
      ≡ plays 1 2 (held (at 0 2)) 36
  -- a start weight above 1, though the template is accepted
  pub start_above_one : play m1 (objects 4 ++ fact (at 0 1) ++ fact (at 0 2) ++ event 0 0 (0 ∷ 1 ∷ 3 ∷ []) ++ close_step ++ close_run)
      ≡ plays 1 2 (held (at 0 2) ++ held (at 0 3)) 36
  -- nor where the template is refused: it is played too
  pub refused_template : play m3 (objects 3 ++ fact (at 0 1) ++ event 0 0 (0 ∷ 1 ∷ 2 ∷ []) ++ close_step ++ close_run)
      ≡ plays 1 2 (held (at 0 1) ++ held (at 0 2)) 29
  -- an empty step is a step
  pub empty_step : play lamps (objects 1 ++ close_step ++ close_run) ≡ plays 1 0 [] 13
  -- 56: events that are not neighbours
  pub third_event_interferes : play lamps (step [] (light 0 ++ light 1 ++ snuff 0)) ≡ stops 56 26 0 0 [] rest
  -- new facts by event first, then by literal
  pub order_of_literals : play lamps (step [] (both 0 1 ++ light 2)) ≡ plays 1 1 (held (lit 1) ++ held (lit 0) ++ held (lit 2)) 28
  -- a fact that two events add stands at its first place
  pub added_twice_first : play lamps (step [] (light 0 ++ both 0 1)) ≡ plays 1 1 (held (lit 0) ++ held (lit 1)) 28
  -- a repeated start fact keeps its first place
  pub repeat_keeps_place : play lamps (objects 3 ++ fact (lit 0) ++ fact (lit 1) ++ fact (lit 0) ++ close_run)
      ≡ plays 0 1 (held (lit 0) ++ held (lit 1)) 27
  -- an end is played with the effects of the end alone
  pub end_adds : play m1
      (objects 4 ++ fact (at 0 1) ++ event 0 1 (0 ∷ 1 ∷ 2 ∷ []) ++ close_step ++ event 1 1 (0 ∷ 1 ∷ 2 ∷ []) ++ close_step ++ close_run)
      ≡ plays 2 1 (held (out 0 2)) 42
  -- the highest weight is that of an instance in the middle
  pub middle_weight : play m1 (objects 3 ++ fact (at 1 0) ++ fact (out 0 0) ++ fact (at 0 1) ++ fact (at 2 0) ++ close_run)
      ≡ plays 0 2 (held (at 1 0) ++ held (out 0 0) ++ held (at 0 1) ++ held (at 2 0)) 37
  -- 55: of a later event, of either open entry
  pub second_condition_fails : play lamps (step (fact (lit 0)) (see 0 ++ see 1)) ≡ stops 55 25 0 1 (held (lit 0)) rest
  pub both_open_asked : play lamps (objects 3 ++ fact (lit 0) ++ watch 0 ++ watch 1 ++ close_step ++ close_step ++ close_run)
      ≡ stops 55 29 1 1 (held (lit 0)) rest
  pub first_open_asked : play lamps (objects 3 ++ fact (lit 1) ++ watch 0 ++ watch 1 ++ close_step ++ close_step ++ close_run)
      ≡ stops 55 29 1 1 (held (lit 1)) rest
  -- 55: an end's own conditions, which its start isn't asked for
  pub end_true_fails : play gates (objects 1 ++ enter 0 0 ++ close_step ++ enter 1 0 ++ close_step ++ close_run)
      ≡ stops 55 23 1 0 (held (bell 0)) rest
  pub end_false_fails : play gates
      (objects 1 ++ fact (gate 0) ++ fact (door 0) ++ enter 0 0 ++ close_step ++ enter 1 0 ++ close_step ++ close_run)
      ≡ stops 55 35 1 1 (held (gate 0) ++ held (door 0) ++ held (bell 0)) rest
  -- an end deletes and adds; the start's add is not done again
  pub end_effects : play gates (objects 1 ++ fact (gate 0) ++ enter 0 0 ++ close_step ++ enter 1 0 ++ close_step ++ close_run)
      ≡ plays 2 1 (held (gate 0) ++ held (hush 0)) 37
  -- 56: an end's own conditions
  pub end_true_interferes : play gates
      (objects 1 ++ fact (gate 0) ++ enter 0 0 ++ close_step ++ enter 1 0 ++ shut 0 ++ close_step ++ close_run)
      ≡ stops 56 36 1 1 (held (gate 0) ++ held (bell 0)) rest
  pub end_false_interferes : play gates
      (objects 1 ++ fact (gate 0) ++ enter 0 0 ++ close_step ++ enter 1 0 ++ unlock 0 ++ close_step ++ close_run)
      ≡ stops 56 36 1 1 (held (gate 0) ++ held (bell 0)) rest
  -- no interference: two deletes of one fact
  pub deleted_twice : play gates (objects 1 ++ fact (gate 0) ++ shut 0 ++ slam 0 ++ close_step ++ close_run) ≡ plays 1 1 [] 33
  -- 57: of an earlier end
  pub first_end_asked : play lamps (objects 3 ++ fact (lit 0) ++ watch 0 ++ close_step ++ watched 1 ++ watched 0 ++ close_step ++ close_run)
      ≡ stops 57 36 1 1 (held (lit 0)) rest

pub steps : Steps
unfolding decided_file played work_after returned returned_bytes
steps =
    record {
      lamps_accepted = refl;
      true_deleted = refl;
      deleted_true = refl;
      true_added = refl;
      added_true = refl;
      false_deleted = refl;
      deleted_false = refl;
      false_added = refl;
      added_false = refl;
      added_deleted = refl;
      deleted_added = refl;
      other_objects = refl;
      conditions_alone = refl;
      added_twice = refl;
      end_over_all_free = refl;
      end_over_all_added = refl;
      end_over_all_fails = refl;
      jobs_accepted = refl;
      ends_together = refl;
      ends_apart = refl;
      moves_refused = refl;
      moved_together = refl;
      fillings_refused = refl;
      filled_and_emptied = refl;
      counted_refused = refl;
      counted_together = refl;
      start_free = refl;
      true_fails = refl;
      false_fails = refl;
      over_all_true_fails = refl;
      over_all_false_fails = refl;
      ended = refl;
      open_before_condition = refl;
      condition_before_interference = refl;
      open_twice = refl;
      restarted = refl;
      not_yet_open = refl;
      other_entry = refl;
      order_of_facts = refl;
      order_of_events = refl;
      added_again = refl;
      weight_of_two = refl;
      weight_highest = refl;
      start_above_one = refl;
      refused_template = refl;
      empty_step = refl;
      third_event_interferes = refl;
      order_of_literals = refl;
      added_twice_first = refl;
      repeat_keeps_place = refl;
      end_adds = refl;
      middle_weight = refl;
      second_condition_fails = refl;
      both_open_asked = refl;
      first_open_asked = refl;
      end_true_fails = refl;
      end_false_fails = refl;
      end_effects = refl;
      end_true_interferes = refl;
      end_false_interferes = refl;
      deleted_twice = refl;
      first_end_asked = refl;
    }

-- ---- limits of the player, and which record is at fault: 50 to 54

-- an action of one variable at once and a lasting one without variables, neither with a literal, and one at once that adds a fact without
-- arguments
abbrev calm : List ℕ
calm = relation 0 ++ at_once 1 ++ lasting 0 ++ (at_once 0 ++ adds (0 ∷ [])) ++ component (0 ∷ []) ++ closing

-- 7 bytes
abbrev nod : ℕ → List ℕ
nod x = event 0 0 (x ∷ [])

-- 6 bytes
abbrev wait : List ℕ
wait = event 0 1 []

abbrev mark : List ℕ
mark = event 0 2 []

-- three objects, and the start fact lit(0): 11 bytes
abbrev begun : List ℕ
begun = objects 3 ++ fact (lit 0)

pub record RunFiles : Type 0 where
  -- 52: 32 equal entries are open, a 33rd is too many, and nothing of its step is done
  pub open_32 : play calm (objects 1 ++ each 32 (λ i. wait ++ close_step) ++ close_run) ≡ plays 32 0 [] 329
  pub open_33 : play calm (objects 1 ++ each 32 (λ i. wait ++ close_step) ++ mark ++ wait ++ close_step ++ close_run)
      ≡ stops 52 337 32 0 [] rest
  -- events at once open nothing
  pub at_once_33 : play calm (objects 1 ++ each 33 (λ i. nod 0 ++ close_step) ++ close_run) ≡ plays 33 0 [] 372
  -- 52: 16 events make a step, a 17th is too many; 54 comes first
  pub event_16 : play calm (objects 17 ++ each 16 nod ++ close_step ++ close_run) ≡ plays 1 0 [] 125
  pub event_17 : play calm (objects 17 ++ each 17 nod ++ close_step ++ close_run) ≡ stops 52 117 0 0 [] (nod 16 ++ rest)
  pub event_17_repeated : play calm (objects 17 ++ each 16 nod ++ nod 0 ++ close_step ++ close_run) ≡ stops 54 117 0 0 [] (nod 0 ++ rest)
  -- 54: in its step, not in the next
  pub event_repeated : play calm (objects 1 ++ nod 0 ++ nod 0 ++ close_step ++ close_run) ≡ stops 54 12 0 0 [] (nod 0 ++ rest)
  pub event_in_two_steps : play calm (objects 1 ++ nod 0 ++ close_step ++ nod 0 ++ close_step ++ close_run) ≡ plays 2 0 [] 31
  -- 50: nothing stands before the record of kind 16, which stands once; no start fact stands behind an event or a step's close
  pub empty_run : play lamps [] ≡ stops 50 0 0 0 [] []
  pub fact_early : play lamps (fact (lit 0)) ≡ stops 50 0 0 0 [] (fact (lit 0))
  pub event_early : play lamps (light 0) ≡ stops 50 0 0 0 [] (light 0)
  pub step_early : play lamps close_step ≡ stops 50 0 0 0 [] close_step
  pub close_early : play lamps close_run ≡ stops 50 0 0 0 [] close_run
  pub objects_twice : play lamps (objects 3 ++ objects 3) ≡ stops 50 5 0 0 [] (objects 3)
  pub fact_late : play lamps (begun ++ light 1 ++ fact (lit 2)) ≡ stops 50 18 0 1 (held (lit 0)) (fact (lit 2))
  pub fact_after_step : play lamps (begun ++ close_step ++ fact (lit 2)) ≡ stops 50 15 1 1 (held (lit 0)) (fact (lit 2))
  -- 51: 1 to 64 objects
  pub objects_0 : play lamps (objects 0) ≡ stops 51 0 0 0 [] (objects 0)
  pub objects_65 : play lamps (objects 65) ≡ stops 51 0 0 0 [] (objects 65)
  pub objects_64 : play lamps (objects 64 ++ fact (lit 63) ++ close_run) ≡ plays 0 1 (held (lit 63)) 15
  -- a start fact: too short 50; relation 51; the length that it tells 50, before objects; objects 51
  pub fact_empty : play lamps (objects 3 ++ fact []) ≡ stops 50 5 0 0 [] (fact [])
  pub fact_relation : play lamps (objects 3 ++ fact (1 ∷ [])) ≡ stops 51 5 0 0 [] (fact (1 ∷ []))
  pub fact_length : play lamps (objects 3 ++ fact (0 ∷ 9 ∷ 9 ∷ [])) ≡ stops 50 5 0 0 [] (fact (0 ∷ 9 ∷ 9 ∷ []))
  pub fact_object : play lamps (begun ++ fact (lit 3)) ≡ stops 51 11 0 0 (held (lit 0)) (fact (lit 3))
  -- an event: too short 50; moment and action 51; that length 50, before an end of an action at once and objects, 51
  pub event_short : play lamps (begun ++ rec 18 (9 ∷ [])) ≡ stops 50 11 0 1 (held (lit 0)) (rec 18 (9 ∷ []))
  pub event_moment : play lamps (begun ++ event 2 0 []) ≡ stops 51 11 0 1 (held (lit 0)) (event 2 0 [])
  pub event_action : play lamps (begun ++ event 0 8 []) ≡ stops 51 11 0 1 (held (lit 0)) (event 0 8 [])
  pub event_length : play lamps (begun ++ event 1 0 (9 ∷ 9 ∷ [])) ≡ stops 50 11 0 1 (held (lit 0)) (event 1 0 (9 ∷ 9 ∷ []))
  pub end_at_once : play lamps (begun ++ event 1 0 (0 ∷ [])) ≡ stops 51 11 0 1 (held (lit 0)) (event 1 0 (0 ∷ []))
  pub event_object : play lamps (begun ++ light 3) ≡ stops 51 11 0 1 (held (lit 0)) (light 3)
  -- 53: behind 51
  pub bound_twice : play lamps (begun ++ both 1 1) ≡ stops 53 11 0 1 (held (lit 0)) (both 1 1)
  pub object_before_twice : play lamps (begun ++ both 3 3) ≡ stops 51 11 0 1 (held (lit 0)) (both 3 3)
  -- a close with a payload; an event that waits at the run's close
  pub step_long : play lamps (begun ++ rec 19 (0 ∷ [])) ≡ stops 50 11 0 1 (held (lit 0)) (rec 19 (0 ∷ []))
  pub close_long : play lamps (begun ++ rec 20 (0 ∷ [])) ≡ stops 50 11 0 1 (held (lit 0)) (rec 20 (0 ∷ []))
  pub event_waits : play lamps (begun ++ light 1 ++ close_run) ≡ stops 50 18 0 1 (held (lit 0)) close_run
  -- the start counts from the first uncut record of kind 18 to 20 on, refused (above) or not; before it the weight is 0
  pub kind_15 : play lamps (begun ++ rec 15 []) ≡ stops 50 11 0 0 (held (lit 0)) (rec 15 [])
  pub kind_21 : play lamps (begun ++ rec 21 []) ≡ stops 50 11 0 0 (held (lit 0)) (rec 21 [])
  pub kind_275 : play lamps (begun ++ (0 ∷ 0 ∷ 19 ∷ 1 ∷ [])) ≡ stops 50 11 0 0 (held (lit 0)) (0 ∷ 0 ∷ 19 ∷ 1 ∷ [])
  pub event_cut : play lamps (begun ++ (3 ∷ 0 ∷ 18 ∷ 0 ∷ 0 ∷ 0 ∷ [])) ≡ stops 50 11 0 0 (held (lit 0)) (3 ∷ 0 ∷ 18 ∷ 0 ∷ 0 ∷ 0 ∷ [])
  pub start_alone : play lamps (begun ++ close_run) ≡ plays 0 1 (held (lit 0)) 15
  -- a run that is not closed, at its length; bytes behind its close, from the first of them
  pub not_closed : play lamps (begun ++ close_step) ≡ stops 50 15 1 1 (held (lit 0)) []
  pub bytes_behind : play lamps (begun ++ close_run ++ (0 ∷ 0 ∷ [])) ≡ stops 50 15 0 1 (held (lit 0)) (0 ∷ 0 ∷ [])
  pub close_behind : play lamps (begun ++ close_run ++ close_run) ≡ stops 50 15 0 1 (held (lit 0)) close_run
  -- 50: the length of the object count, before its range; a second count, before its range
  pub objects_long : play lamps (rec 16 (65 ∷ 0 ∷ [])) ≡ stops 50 0 0 0 [] (rec 16 (65 ∷ 0 ∷ []))
  pub objects_empty : play lamps (rec 16 []) ≡ stops 50 0 0 0 [] (rec 16 [])
  pub objects_twice_65 : play lamps (objects 3 ++ objects 65) ≡ stops 50 5 0 0 [] (objects 65)
  -- 51 of the relation before its length; a start fact too short
  pub fact_relation_long : play lamps (objects 3 ++ fact (1 ∷ 0 ∷ [])) ≡ stops 51 5 0 0 [] (fact (1 ∷ 0 ∷ []))
  pub fact_short : play lamps (objects 3 ++ fact (0 ∷ [])) ≡ stops 50 5 0 0 [] (fact (0 ∷ []))
  -- 51 of the action before its length; an event too short for its action
  pub event_action_long : play lamps (begun ++ event 0 8 (0 ∷ [])) ≡ stops 51 11 0 1 (held (lit 0)) (event 0 8 (0 ∷ []))
  pub event_lacks_object : play lamps (begun ++ event 0 0 []) ≡ stops 50 11 0 1 (held (lit 0)) (event 0 0 [])
  -- 52 counts what is open after the ends have left
  pub open_exchanged : play calm (objects 1 ++ each 32 (λ i. wait ++ close_step) ++ event 1 1 [] ++ wait ++ close_step ++ close_run)
      ≡ plays 33 0 [] 345
  -- 57, 55 and 56 before 52
  pub open_33_not_open : play crowd (objects 1 ++ each 32 (λ i. linger ++ close_step) ++ linger ++ event 1 4 [] ++ close_step ++ close_run)
      ≡ stops 57 337 32 0 [] rest
  pub open_33_condition : play crowd (objects 1 ++ each 32 (λ i. linger ++ close_step) ++ linger ++ event 0 3 [] ++ close_step ++ close_run)
      ≡ stops 55 337 32 0 [] rest
  pub open_33_interferes : play crowd
      (objects 1 ++ each 32 (λ i. linger ++ close_step) ++ linger ++ event 0 1 [] ++ event 0 2 [] ++ close_step ++ close_run)
      ≡ stops 56 343 32 0 [] rest
  -- a run file of more than 65,535 bytes is read: 51 of its second record
  pub run_longer : play lamps (objects 1 ++ (255 ∷ 255 ∷ 17 ∷ 0 ∷ lent 65535)) ≡ stops 51 5 0 0 [] (255 ∷ 255 ∷ 17 ∷ 0 ∷ lent 65535)

pub run_files : RunFiles
unfolding played work_after returned returned_bytes
run_files =
    record {
      open_32 = refl;
      open_33 = refl;
      at_once_33 = refl;
      event_16 = refl;
      event_17 = refl;
      event_17_repeated = refl;
      event_repeated = refl;
      event_in_two_steps = refl;
      empty_run = refl;
      fact_early = refl;
      event_early = refl;
      step_early = refl;
      close_early = refl;
      objects_twice = refl;
      fact_late = refl;
      fact_after_step = refl;
      objects_0 = refl;
      objects_65 = refl;
      objects_64 = refl;
      fact_empty = refl;
      fact_relation = refl;
      fact_length = refl;
      fact_object = refl;
      event_short = refl;
      event_moment = refl;
      event_action = refl;
      event_length = refl;
      end_at_once = refl;
      event_object = refl;
      bound_twice = refl;
      object_before_twice = refl;
      step_long = refl;
      close_long = refl;
      event_waits = refl;
      kind_15 = refl;
      kind_21 = refl;
      kind_275 = refl;
      event_cut = refl;
      start_alone = refl;
      not_closed = refl;
      bytes_behind = refl;
      close_behind = refl;
      objects_long = refl;
      objects_empty = refl;
      objects_twice_65 = refl;
      fact_relation_long = refl;
      fact_short = refl;
      event_action_long = refl;
      event_lacks_object = refl;
      open_exchanged = refl;
      open_33_not_open = refl;
      open_33_condition = refl;
      open_33_interferes = refl;
      run_longer = refl;
    }

-- ---- the part that comes back, and 58

-- a domain file with a fault at 5
abbrev faulty : List ℕ
faulty = relation 1 ++ relation 7 ++ closing

pub record Parts : Type 0 where
  -- a fault of the domain file: the rest of that file, and the work memory is untouched; the run file is not looked at
  pub domain_fault : playing faulty (step [] (light 0)) (lent 8200)
      ≡ record { answer = reply 15 5 0 0; memory = lent 8200; part = of_domain 5; bytes = relation 7 ++ closing }
  -- it comes before 58
  pub domain_fault_short : playing faulty [] (lent 8191)
      ≡ record { answer = reply 15 5 0 0; memory = lent 8191; part = of_domain 5; bytes = relation 7 ++ closing }
  -- a label at fault: its own offset, and the rest from the record on
  pub label_fault_lem : playing (relation 2 ++ component (0 ∷ 0 ∷ 0 ∷ []) ++ closing) [] (lent 8200)
      ≡ record { answer = reply 24 11 0 0; memory = lent 8200; part = of_domain 5; bytes = component (0 ∷ 0 ∷ 0 ∷ []) ++ closing }
  -- no closing record: the domain file's empty end
  pub domain_not_closed : playing (relation 1) [] (lent 8200)
      ≡ record { answer = reply 10 5 0 0; memory = lent 8200; part = of_domain 5; bytes = [] }
  -- 58: one byte too few; it comes before 50 of the first record, and the run file's empty end comes back
  pub memory_short : playing lamps (light 0) (lent 8191)
      ≡ record { answer = reply 58 0 0 0; memory = lent 8191; part = of_run 7; bytes = [] }
  -- 8,192 bytes are enough; the fact's bytes written out
  pub memory_enough : playing lamps (begun ++ close_run) (lent 8192)
      ≡ record { answer = reply 2 0 0 1; memory = zeroed 8192 (0 ∷ 1 ∷ 0 ∷ FF ∷ FF ∷ FF ∷ FF ∷ FF ∷ []); part = of_run 15; bytes = [] }
  -- 9: the whole domain file
  pub too_long : playing (lent 65536) [] [] ≡ record { answer = reply 9 0 0 0; memory = []; part = of_domain 0; bytes = lent 65536 }

pub parts : Parts
unfolding played work_after returned returned_bytes
parts =
    record {
      domain_fault = refl;
      domain_fault_short = refl;
      label_fault_lem = refl;
      domain_not_closed = refl;
      memory_short = refl;
      memory_enough = refl;
      too_long = refl;
    }

-- ---- the limit of 1,024 facts, told of the definitions: a run file with so many facts takes too long to compute

-- a state that holds a fact n times over, and playing before the first event with it
abbrev crowded : ℕ → State
crowded n = record { facts = replicate n (record { rel = 0; args = object 0 ∷ [] }); running = [] }

abbrev one : Domain
one = record { arities = 1 ∷ []; actions = []; template = [] }

pub record Limits : Type 0 where
  -- "over 1,024 facts"
  pub facts_1024 : too_large (crowded 1024) ≡ false
  pub facts_1025 : too_large (crowded 1025) ≡ true
  -- "the 1,025th different start fact": another one beside 1,023 and beside 1,024, and one that is held already
  pub start_1024 : fact_stop one 2 false (crowded 1023).facts (0 ∷ 1 ∷ []) ≡ 0
  pub start_1025 : fact_stop one 2 false (crowded 1024).facts (0 ∷ 1 ∷ []) ≡ 52
  pub start_repeated : fact_stop one 2 false (crowded 1024).facts (0 ∷ 0 ∷ []) ≡ 0
  -- 51 before 52: there are two objects
  pub start_outside : fact_stop one 2 false (crowded 1024).facts (0 ∷ 2 ∷ []) ≡ 51

pub limits : Limits
unfolding fact_stop
limits = record { facts_1024 = refl; facts_1025 = refl; start_1024 = refl; start_1025 = refl; start_repeated = refl; start_outside = refl }
