-- Clearing literals: FF in a false condition or a delete. Each case with what it pins. Assumes nothing.
use Rattle.std.specs.Prelude.{◌≡◌, refl, true, false, List, [], ◌∷◌, ◌++◌, ℕ}
use Rattle.literals.specs.Domain.{object, role_of, Domain}
use Rattle.literals.specs.Decode.{literal_of}
use Rattle.literals.specs.declared.Moment.TheVariants.{Start}
use Rattle.verdict.specs.Judged.{judged, report_after, witness_after}
use Rattle.verdict.specs.Machine.{Event, event_facts, interfere}
use Rattle.run_semantics.specs.Play.{played, work_after, returned, returned_bytes}
use Rattle.literals.specs.declared.Usage.TheVariants.{Delete}
use Rattle.cases.specs.Written.{FF, relation, at_once, lasting, literal, component, closing, objects, fact, event, close_step, close_run}
use Rattle.cases.specs.Written.{holds, lacks, adds, deletes, holds_over_all, lacks_over_all, holds_at_end, lacks_at_end, adds_at_end}
use Rattle.cases.specs.Written.{deletes_at_end, row, irrelevant, heavy, balanced, unbalanced, bounded, unbounded, held, judge, answers}
use Rattle.cases.specs.Written.{refuses, play, plays, stops}
use Rattle.cases.specs.Samples.{at, out, relations, template}

-- ---- vocabulary

-- the domains of at/2, out/2 and near/2, with M1's template and these actions; the first record of the first action is at 15, its first
-- literal at 21, the next at 29, 37 ..
abbrev library : List ℕ → List ℕ
library actions = relations ++ relation 2 ++ actions ++ template ++ closing

-- without a component
abbrev near : ℕ → ℕ → List ℕ
near x y = 2 ∷ x ∷ y ∷ []

-- the same relations with these components
abbrev labelled : List ℕ → List ℕ → List ℕ
labelled actions components = relations ++ relation 2 ++ actions ++ components ++ closing

-- ---- names, journeys and witnesses

pub record Names : Type 0 where
  -- every place of the volume is struck, then one is entered: each component with FF is covered
  pub struck_and_entered : judge (library (at_once 2 ++ deletes (at 0 FF) ++ deletes (out 0 FF) ++ adds (at 0 1)))
      ≡ answers 0 0 0 0 (row 0 0 0 bounded) []
  -- a false condition covers as a delete does
  pub none_and_entered : judge (library (at_once 2 ++ lacks (at 0 FF) ++ deletes (out 0 FF) ++ adds (at 0 1)))
      ≡ answers 0 0 0 0 (row 0 0 0 bounded) []
  -- each component is asked for: the first that is not covered, with the spare object
  pub out_open : judge (library (at_once 2 ++ deletes (at 0 FF) ++ adds (at 0 1))) ≡ answers 42 0 0 0 (row 0 0 0 unbounded) (held (out 0 2))
  pub at_open : judge (library (at_once 2 ++ deletes (out 0 FF) ++ adds (at 0 1))) ≡ answers 42 0 0 0 (row 0 0 0 unbounded) (held (at 0 2))
  -- a delete or a false condition of one place does not cover a component with FF
  pub one_place : judge (library (at_once 2 ++ deletes (at 0 1) ++ lacks (out 0 1) ++ adds (at 0 1)))
      ≡ answers 42 0 0 0 (row 0 0 0 unbounded) (held (at 0 2))
  -- nor does a clearing literal of another class
  pub other_volume : judge (library (at_once 3 ++ deletes (at 1 FF) ++ deletes (out 1 FF) ++ adds (at 0 2)))
      ≡ answers 42 0 1 0 (row 0 0 0 irrelevant ++ row 0 1 0 unbounded) (held (at 0 3))
  -- nor one of the other moment
  pub other_moment : judge (library (lasting 2 ++ deletes (at 0 FF) ++ deletes (out 0 FF) ++ adds_at_end (at 0 1)))
      ≡ answers 42 0 0 1 (row 0 0 0 irrelevant ++ row 0 0 1 unbounded) (held (at 0 2))
  -- at an end the over-all false conditions cover nothing, and such an end has no witness; its own do
  pub over_all_lem : judge (library (lasting 2 ++ lacks_over_all (at 0 FF) ++ deletes_at_end (out 0 FF) ++ adds_at_end (at 0 1)))
      ≡ answers 42 0 0 1 (row 0 0 0 irrelevant ++ row 0 0 1 unbounded) []
  pub own_at_end : judge (library (lasting 2 ++ lacks_at_end (at 0 FF) ++ deletes_at_end (out 0 FF) ++ adds_at_end (at 0 1)))
      ≡ answers 0 0 0 0 (row 0 0 0 irrelevant ++ row 0 0 1 bounded) []
  -- the true condition is deleted by a delete that covers it
  pub balanced_by : judge (library (at_once 3 ++ holds (at 0 1) ++ deletes (at 0 FF) ++ adds (out 0 2)))
      ≡ answers 0 0 0 0 (row 0 0 0 balanced) []
  -- a clearing false condition of the other relation deletes nothing
  pub not_balanced_by : judge (library (at_once 3 ++ holds (at 0 1) ++ lacks (out 0 FF) ++ adds (out 0 2)))
      ≡ answers 41 0 0 0 (row 0 0 0 unbalanced) (held (at 0 1))
  -- a journey's start may clear
  pub journey_by : judge (library (lasting 3 ++ holds (at 0 1) ++ deletes (at 0 FF) ++ adds_at_end (out 0 2)))
      ≡ answers 1 0 0 0 (row 0 0 0 irrelevant ++ row 0 0 1 unbounded) []
  -- 43: bounded by clearing literals beside an unbounded journey's end
  pub beside_journey : judge
      (library (at_once 2 ++ deletes (at 0 FF) ++ deletes (out 0 FF) ++ adds (at 0 1) ++ lasting 3 ++ holds (at 0 1) ++ deletes (at 0 FF)
      ++ adds_at_end (out 0 2)))
      ≡ answers 43 0 0 0 (row 0 0 0 bounded ++ row 1 0 0 irrelevant ++ row 1 0 1 unbounded) []
  -- two adds stay heavy, whatever is cleared
  pub still_heavy : judge (library (at_once 3 ++ deletes (at 0 FF) ++ adds (at 0 1) ++ adds (at 0 2)))
      ≡ answers 40 0 0 0 (row 0 0 0 heavy) []
  -- n = 0: the class of all matching literals
  pub no_keys : judge (relation 1 ++ at_once 1 ++ deletes (0 ∷ FF ∷ []) ++ adds (0 ∷ 0 ∷ []) ++ component (0 ∷ FF ∷ []) ++ closing)
      ≡ answers 0 0 0 0 (row 0 0 0 bounded) []

pub names : Names
unfolding judged report_after witness_after
names = record {
  struck_and_entered = refl;
  none_and_entered = refl;
  out_open = refl;
  at_open = refl;
  one_place = refl;
  other_volume = refl;
  other_moment = refl;
  over_all_lem = refl;
  own_at_end = refl;
  balanced_by = refl;
  not_balanced_by = refl;
  journey_by = refl;
  beside_journey = refl;
  still_heavy = refl;
  no_keys = refl;
}

-- ---- reading: 26, 20 and 27

pub record Refused : Type 0 where
  -- 26: in a true condition and an add, of every time
  pub true_cleared : judge (library (at_once 2 ++ holds (at 0 FF))) ≡ refuses 26 21
  pub add_cleared : judge (library (at_once 2 ++ adds (at 0 FF))) ≡ refuses 26 21
  pub over_all_cleared : judge (library (lasting 2 ++ holds_over_all (at 0 FF))) ≡ refuses 26 21
  pub end_cleared : judge (library (lasting 2 ++ holds_at_end (at 0 FF))) ≡ refuses 26 21
  pub end_add_cleared : judge (library (lasting 2 ++ adds_at_end (at 0 FF))) ≡ refuses 26 21
  -- twice
  pub cleared_twice_lem : judge (library (at_once 2 ++ deletes (at FF FF))) ≡ refuses 26 21
  -- before 18, over the whole literal: a variable that is none stands in front of it
  pub before_variable : judge (library (at_once 2 ++ holds (at 9 FF))) ≡ refuses 26 21
  pub variable_after : judge (library (at_once 2 ++ deletes (near FF 9))) ≡ refuses 18 21
  -- after 16, 17 and 12
  pub role_first : judge (library (at_once 2 ++ literal 4 (at 0 FF))) ≡ refuses 16 21
  pub relation_first : judge (library (at_once 2 ++ holds (3 ∷ 0 ∷ FF ∷ []))) ≡ refuses 17 21
  pub length_first : judge (library (at_once 2 ++ holds (0 ∷ 0 ∷ FF ∷ FF ∷ []))) ≡ refuses 12 21
  -- 19 is by equality
  pub same_twice : judge (library (at_once 2 ++ deletes (at 0 FF) ++ deletes (at 0 FF))) ≡ refuses 19 29
  pub covered_too : judge (library (at_once 2 ++ lacks (at 0 FF) ++ lacks (at 0 1) ++ deletes (near 0 FF) ++ deletes (near FF 1)))
      ≡ answers 0 0 0 0 (row 0 0 0 irrelevant) []
  -- 20 is by covering, whichever comes first
  pub true_then_none : judge (library (at_once 2 ++ holds (at 0 1) ++ lacks (at 0 FF))) ≡ refuses 20 29
  pub none_then_true : judge (library (at_once 2 ++ lacks (at 0 FF) ++ holds (at 0 1))) ≡ refuses 20 29
  pub first_place_lem : judge (library (at_once 2 ++ lacks (near FF 1) ++ holds (near 0 1))) ≡ refuses 20 29
  -- within the groups of roles
  pub over_all_and_end : judge (library (lasting 2 ++ lacks_over_all (at 0 FF) ++ holds_at_end (at 0 1))) ≡ refuses 20 29
  pub end_and_over_all : judge (library (lasting 2 ++ holds_over_all (at 0 1) ++ lacks_at_end (at 0 FF))) ≡ refuses 20 29
  pub start_and_over_all : judge (library (lasting 2 ++ holds (at 0 1) ++ lacks_over_all (at 0 FF)))
      ≡ answers 0 0 0 0 (row 0 0 0 irrelevant ++ row 0 0 1 irrelevant) []
  -- other variables do not contradict, and a delete never does
  pub other_variable : judge (library (at_once 2 ++ holds (at 0 1) ++ lacks (at 1 FF)))
      ≡ answers 0 0 0 0 (row 0 0 0 irrelevant ++ row 0 1 0 irrelevant) []
  pub delete_agrees : judge (library (at_once 2 ++ holds (at 0 1) ++ deletes (at 0 FF))) ≡ answers 0 0 0 0 (row 0 0 0 irrelevant) []
  -- 27: a key where a literal of the relation has FF, of any action; the component's offset
  pub key_cleared : judge (labelled (at_once 2 ++ deletes (at 0 FF)) (component (at FF 0))) ≡ refuses 27 29
  pub two_keys : judge (labelled (at_once 2 ++ deletes (at 0 FF)) (component (at 0 1))) ≡ refuses 27 29
  pub later_action : judge (labelled (at_once 2 ++ holds (at 0 1) ++ at_once 1 ++ lacks (at 0 FF)) (component (at FF 0))) ≡ refuses 27 43
  pub later_component : judge (labelled (at_once 2 ++ deletes (out FF 0)) (component (at 0 FF) ++ component (out 0 FF))) ≡ refuses 27 36
  -- after 22, 25, 24 and 21; a relation without component is free
  pub used_first : judge (labelled (at_once 2 ++ deletes (at 0 FF)) (component (at 0 FF) ++ component (at FF 0))) ≡ refuses 22 36
  pub counted_first : judge (labelled (at_once 2 ++ deletes (near FF 0)) (component (near FF FF))) ≡ refuses 25 35
  pub repeated_first : judge (labelled (at_once 2 ++ deletes (at 0 FF)) (component (at 0 0))) ≡ refuses 24 35
  pub labels_first : judge (labelled (at_once 2 ++ deletes (at 0 FF)) (component (at FF 1))) ≡ refuses 21 35
  pub free : judge (library (at_once 2 ++ deletes (near FF 0) ++ deletes (at 0 FF))) ≡ answers 0 0 0 0 (row 0 0 0 irrelevant) []

pub refused : Refused
unfolding judged report_after witness_after
refused = record {
  true_cleared = refl;
  add_cleared = refl;
  over_all_cleared = refl;
  end_cleared = refl;
  end_add_cleared = refl;
  cleared_twice_lem = refl;
  before_variable = refl;
  variable_after = refl;
  role_first = refl;
  relation_first = refl;
  length_first = refl;
  same_twice = refl;
  covered_too = refl;
  true_then_none = refl;
  none_then_true = refl;
  first_place_lem = refl;
  over_all_and_end = refl;
  end_and_over_all = refl;
  start_and_over_all = refl;
  other_variable = refl;
  delete_agrees = refl;
  key_cleared = refl;
  two_keys = refl;
  later_action = refl;
  later_component = refl;
  used_first = refl;
  counted_first = refl;
  repeated_first = refl;
  labels_first = refl;
  free = refl;
}

-- ---- playing

-- actions 0 to 8
abbrev shelves : List ℕ
shelves =
    library
    ((at_once 1 ++ deletes (at 0 FF))
    ++ (at_once 1 ++ lacks (at 0 FF))
    ++ (at_once 2 ++ holds (at 0 1))
    ++ (at_once 2 ++ deletes (at 0 1))
    ++ (at_once 2 ++ deletes (at 0 FF) ++ deletes (out 0 FF) ++ adds (at 0 1))
    ++ (at_once 1 ++ deletes (near 0 FF))
    ++ (at_once 1 ++ lacks (near FF 0))
    ++ (lasting 1 ++ lacks_over_all (at 0 FF))
    ++ (at_once 2 ++ lacks (at 0 FF) ++ adds (at 0 1)))

-- their events: 7 bytes of one object, 8 of two; a start fact has 7 bytes, the object count 5, a close 4
abbrev clear : ℕ → List ℕ
clear x = event 0 0 (x ∷ [])

abbrev none : ℕ → List ℕ
none x = event 0 1 (x ∷ [])

abbrev see : ℕ → ℕ → List ℕ
see x y = event 0 2 (x ∷ y ∷ [])

abbrev strike : ℕ → ℕ → List ℕ
strike x y = event 0 3 (x ∷ y ∷ [])

abbrev put : ℕ → ℕ → List ℕ
put x y = event 0 4 (x ∷ y ∷ [])

abbrev part : ℕ → List ℕ
part x = event 0 5 (x ∷ [])

abbrev alone : ℕ → List ℕ
alone x = event 0 6 (x ∷ [])

abbrev wait : ℕ → List ℕ
wait x = event 0 7 (x ∷ [])

abbrev enter : ℕ → ℕ → List ℕ
enter x y = event 0 8 (x ∷ y ∷ [])

-- one step from these start facts
abbrev step : List ℕ → List ℕ → List ℕ
step facts events = objects 4 ++ facts ++ events ++ close_step ++ close_run

-- the run file from that step's close on
abbrev rest : List ℕ
rest = close_step ++ close_run

pub record Steps : Type 0 where
  -- every place of the volume is struck, and no other's
  pub cleared : play shelves (step (fact (at 0 1) ++ fact (at 1 2) ++ fact (at 0 2)) (clear 0)) ≡ plays 1 2 (held (at 1 2)) 41
  -- a false condition with FF asks for none
  pub some_there : play shelves (step (fact (at 0 3)) (none 0)) ≡ stops 55 19 0 1 (held (at 0 3)) rest
  pub none_there : play shelves (step (fact (at 1 3)) (none 0)) ≡ plays 1 1 (held (at 1 3)) 27
  -- 56: a delete with FF of a true condition, of an add; either way round
  pub true_cleared : play shelves (step (fact (at 0 1)) (clear 0 ++ see 0 1)) ≡ stops 56 27 0 1 (held (at 0 1)) rest
  pub cleared_true : play shelves (step (fact (at 0 1)) (see 0 1 ++ clear 0)) ≡ stops 56 27 0 1 (held (at 0 1)) rest
  pub added_cleared : play shelves (step [] (put 0 1 ++ clear 0)) ≡ stops 56 20 0 0 [] rest
  -- a false condition with FF of an add; of a delete; of a delete with FF
  pub false_added : play shelves (step [] (none 0 ++ put 0 1)) ≡ stops 56 20 0 0 [] rest
  pub false_deleted : play shelves (step [] (strike 0 1 ++ none 0)) ≡ stops 56 20 0 0 [] rest
  pub false_cleared : play shelves (step [] (none 0 ++ clear 0)) ≡ stops 56 19 0 0 [] rest
  -- one action bound twice: what one adds the other must lack; alone it may be
  pub entered : play shelves (step [] (enter 0 1)) ≡ plays 1 1 (held (at 0 1)) 21
  pub entered_twice : play shelves (step [] (enter 0 1 ++ enter 0 2)) ≡ stops 56 21 0 0 [] rest
  -- delete near(0,FF) and false near(FF,1) have near(0,1) in common; so have they where the object is one
  pub crossed : play shelves (step [] (part 0 ++ alone 1)) ≡ stops 56 19 0 0 [] rest
  pub crossed_back : play shelves (step [] (alone 1 ++ part 0)) ≡ stops 56 19 0 0 [] rest
  pub crossed_alike : play shelves (step [] (part 2 ++ alone 2)) ≡ stops 56 19 0 0 [] rest
  -- no interference: two deletes, another volume
  pub deleted_twice : play shelves (step (fact (at 0 1)) (clear 0 ++ strike 0 1)) ≡ plays 1 1 [] 35
  pub other_volume : play shelves (step (fact (at 0 1)) (clear 0 ++ put 1 2)) ≡ plays 1 1 (held (at 1 2)) 35
  -- what an event clears and adds is added, and is new
  pub put_again : play shelves (step (fact (at 0 1) ++ fact (at 1 3)) (put 0 1)) ≡ plays 1 1 (held (at 1 3) ++ held (at 0 1)) 35
  pub moved : play shelves (step (fact (out 0 1)) (put 0 2)) ≡ plays 1 1 (held (at 0 2)) 28
  -- an over-all one of an open entry
  pub over_all_fails : play shelves (objects 4 ++ wait 0 ++ close_step ++ put 0 1 ++ close_step ++ close_step ++ close_run)
      ≡ stops 55 28 2 1 (held (at 0 1)) rest

pub steps : Steps
unfolding played work_after returned returned_bytes
steps = record {
  cleared = refl;
  some_there = refl;
  none_there = refl;
  true_cleared = refl;
  cleared_true = refl;
  added_cleared = refl;
  false_added = refl;
  false_deleted = refl;
  false_cleared = refl;
  entered = refl;
  entered_twice = refl;
  crossed = refl;
  crossed_back = refl;
  crossed_alike = refl;
  deleted_twice = refl;
  other_volume = refl;
  put_again = refl;
  moved = refl;
  over_all_fails = refl;
}

-- ---- no objects: a clearing literal then stands for no fact. The player has at least one object

-- actions without variables: delete r(FF), false r(FF)
abbrev bare : Domain
bare =
    record {
      arities = 1 ∷ [];
      actions =
          record { vars = 0; lasting = false; lits = literal_of (3 ∷ 0 ∷ FF ∷ []) ∷ [] }
          ∷ record { vars = 0; lasting = false; lits = literal_of (1 ∷ 0 ∷ FF ∷ []) ∷ [] }
          ∷ [];
      template = [];
    }

abbrev sole : ℕ → Event
sole i = record { moment = Start; act = record { action = i; binding = [] } }

pub record Objects : Type 0 where
  pub one_each : event_facts bare (object 3 ∷ object 5 ∷ []) (sole 0) Delete
      ≡ record { rel = 0; args = object 3 ∷ [] } ∷ record { rel = 0; args = object 5 ∷ [] } ∷ []
  pub no_object : event_facts bare [] (sole 0) Delete ≡ []
  -- so that over no objects nothing interferes
  pub apart : interfere bare [] (sole 0) (sole 1) ≡ false
  pub together : interfere bare (object 7 ∷ []) (sole 0) (sole 1) ≡ true

pub objects_chosen : Objects
unfolding event_facts interfere role_of
objects_chosen = record { one_each = refl; no_object = refl; apart = refl; together = refl }
