-- The machine: states, events, interference, allowed steps, the next state, runs, instances and their weight. What a literal with FF stands
-- for depends on the objects that are chosen, so these (objs) are given to the machine. Assumes nothing.
use Rattle.std.specs.Prelude.{Bool, true, false, ◌&&◌, ◌||◌, not, cond, ℕ, max, eqb, ltb, length}
use mathlib.Core.List.{List, [], ◌∷◌, ◌++◌, map, flat_map, foldr}
use Rattle.records.specs.Lists.{keep_if, filter_by, count_by, all, any, pairwise, same_list, elem, distinct, dedup}
use Rattle.literals.specs.declared.Object.{Object}
use Rattle.literals.specs.declared.Usage.{Usage}
use Rattle.literals.specs.declared.Usage.TheVariants.{Positive, Negative, Add, Delete}
use Rattle.literals.specs.Domain.{same_object, Fact, same_fact, Action, Domain, action}
use Rattle.literals.specs.declared.Moment.{Moment}
use Rattle.literals.specs.declared.Moment.TheVariants.{Start, End}
use Rattle.literals.specs.Matching.{moment_number, literals_at, required, over_all_literals, tuples_of, has_tuple, matches}
use Rattle.verdict.specs.Binding.{Binding, facts_of}

-- ---- states and events

-- an action with objects for its variables
pub record GroundAction : Type 0 where
  pub action : ℕ
  pub binding : Binding

-- "An event is an action at once, a start, or an end, with a binding of its variables"
pub record Event : Type 0 where
  pub moment : Moment
  pub act : GroundAction

-- "State: a set of facts and a list of open lasting actions with bindings, where one entry may occur twice."
pub record State : Type 0 where
  pub facts : List Fact
  pub running : List GroundAction

abbrev pub same_ground : GroundAction → GroundAction → Bool
same_ground g h = eqb g.action h.action && same_list same_object g.binding h.binding

abbrev pub same_moment : Moment → Moment → Bool
same_moment m n = eqb (moment_number m) (moment_number n)

abbrev pub same_event : Event → Event → Bool
same_event e f = same_moment e.moment f.moment && same_ground e.act f.act

-- the facts that an event's own literals of one usage stand for
unfoldable pub event_facts : Domain → List Object → Event → Usage → List Fact
unfolding literals_at action facts_of flat_map
event_facts D objs e c = flat_map (facts_of objs e.act.binding) (literals_at (action D e.act.action) e.moment c)

-- the facts that an event's conditions require or forbid in the state that the step is taken from: an end's own and over-all ones
unfoldable pub required_facts : Domain → List Object → Event → Usage → List Fact
unfolding required action facts_of flat_map
required_facts D objs e c = flat_map (facts_of objs e.act.binding) (required (action D e.act.action) e.moment c)

-- the facts of its conditions that count for interference: "An end's conditions for interference become its own only"
abbrev pub guarded_facts : Domain → List Object → Event → Usage → List Fact
guarded_facts = event_facts

-- the facts that it adds, and those that it strikes
abbrev pub added_facts : Domain → List Object → Event → List Fact
added_facts D objs e = event_facts D objs e Add

abbrev pub struck_facts : Domain → List Object → Event → List Fact
struck_facts D objs e = event_facts D objs e Delete

-- the facts of the over-all conditions of an open action
unfoldable pub over_all_facts : Domain → List Object → GroundAction → Usage → List Fact
unfolding action facts_of flat_map
over_all_facts D objs g c = flat_map (facts_of objs g.binding) (over_all_literals (action D g.action) c)

-- ---- what an event and a step are

-- an end is the end of a lasting action
abbrev pub has_moment : Action → Moment → Bool
has_moment a Start = true
has_moment a End = a.lasting

-- an event of the domain: a moment of one of its actions, with an object for each variable
unfoldable pub legal : Domain → Event → Bool
unfolding action
legal D e =
    ltb e.act.action (length D.actions) && has_moment (action D e.act.action) e.moment
    && eqb (length e.act.binding) (action D e.act.action).vars

-- "A step is a list of different events, perhaps empty."
unfoldable pub legal_step : Domain → List Event → Bool
unfolding legal
legal_step D es = all (legal D) es && distinct same_event es

-- "a binding of its variables to different objects"
abbrev pub injective : Event → Bool
injective e = distinct same_object e.act.binding

-- ---- allowed steps

-- "every end is open"
abbrev pub is_open_at : Moment → List GroundAction → GroundAction → Bool
is_open_at Start gs g = true
is_open_at End gs g = elem same_ground g gs

abbrev pub is_open : List GroundAction → Event → Bool
is_open gs e = is_open_at e.moment gs e.act

-- "every event's conditions hold"; "Its over-all conditions must still hold in the state the step is taken from"
unfoldable pub conditions_hold : Domain → List Object → List Fact → Event → Bool
unfolding required_facts
conditions_hold D objs s e =
    all (λ f. elem same_fact f s) (required_facts D objs e Positive) && all (λ f. not (elem same_fact f s)) (required_facts D objs e Negative)

-- its own hold. In a step whose ends are open and with the over-all conditions of everything open this is the same (Claims, `OwnIsEnough`)
unfoldable pub own_hold : Domain → List Object → List Fact → Event → Bool
unfolding event_facts
own_hold D objs s e =
    all (λ f. elem same_fact f s) (event_facts D objs e Positive) && all (λ f. not (elem same_fact f s)) (event_facts D objs e Negative)

-- "the over-all conditions of everything open hold"
unfoldable pub over_all_hold : Domain → List Object → List Fact → GroundAction → Bool
unfolding over_all_facts
over_all_hold D objs s g =
    all (λ f. elem same_fact f s) (over_all_facts D objs g Positive) && all (λ f. not (elem same_fact f s)) (over_all_facts D objs g Negative)

-- two lists of facts have one in common
abbrev pub meet : List Fact → List Fact → Bool
meet fs gs = any (λ f. elem same_fact f gs) fs

-- "a condition of one, true or false, is an add or delete of the other, or an add of one is a delete of the other", one way round: they
-- stand for a fact in common
unfoldable pub disturbs : Domain → List Object → Event → Event → Bool
unfolding event_facts
disturbs D objs e f =
    meet (guarded_facts D objs e Positive ++ guarded_facts D objs e Negative) (added_facts D objs f ++ struck_facts D objs f)
    || meet (added_facts D objs e) (struck_facts D objs f)

-- "Two events interfere if .."
unfoldable pub interfere : Domain → List Object → Event → Event → Bool
unfolding disturbs
interfere D objs e f = disturbs D objs e f || disturbs D objs f e

-- "no two of its events interfere"
abbrev pub independent : Domain → List Object → List Event → Bool
independent D objs es = pairwise (λ e f. not (interfere D objs e f)) es

-- "It is allowed if every end is open; every event's conditions hold; the over-all conditions of everything open hold; and no two of its
-- events interfere."
unfoldable pub allowed : Domain → List Object → State → List Event → Bool
unfolding conditions_hold over_all_hold interfere
allowed D objs s es =
    all (is_open s.running) es && all (conditions_hold D objs s.facts) es && all (over_all_hold D objs s.facts) s.running
    && independent D objs es

-- ---- the next state

-- what the events of a step add or strike, by event and literal
unfoldable pub step_facts : Domain → List Object → List Event → Usage → List Fact
unfolding event_facts flat_map
step_facts D objs es c = flat_map (λ e. event_facts D objs e c) es

-- "all deletes out, then all adds in"; "kept ones in order, new ones by event and literal (a fact deleted and added again is new)"
unfoldable pub facts_after : Domain → List Object → List Fact → List Event → List Fact
unfolding step_facts
facts_after D objs s es =
    let kept = filter_by (λ f. not (elem same_fact f (step_facts D objs es Delete))) s in
    kept ++ filter_by (λ f. not (elem same_fact f kept)) (dedup same_fact (step_facts D objs es Add))

-- "ends leave the list (one entry each)": the first equal entry
abbrev pub close_one : GroundAction → List GroundAction → List GroundAction
close_one g [] = []
close_one g (h ∷ hs) = cond (same_ground g h) hs (h ∷ close_one g hs)

abbrev pub close_at : Moment → GroundAction → List GroundAction → List GroundAction
close_at Start g gs = gs
close_at End g gs = close_one g gs

abbrev pub close_all : List Event → List GroundAction → List GroundAction
close_all [] gs = gs
close_all (e ∷ es) gs = close_all es (close_at e.moment e.act gs)

-- "starts join it": those of lasting actions
abbrev pub opens : Moment → Action → Bool
opens Start a = a.lasting
opens End a = false

abbrev pub opened_by : Domain → List Event → List GroundAction
opened_by D [] = []
opened_by D (e ∷ es) = keep_if (opens e.moment (action D e.act.action)) e.act (opened_by D es)

-- "Afterwards: .."
unfoldable pub next : Domain → List Object → State → List Event → State
unfolding facts_after action
next D objs s es = record { facts = facts_after D objs s.facts es; running = close_all es s.running ++ opened_by D es }

-- ---- runs

-- "starts from chosen facts with nothing open": any list of facts, each held once
abbrev pub start_state : List Fact → State
start_state fs = record { facts = dedup same_fact fs; running = [] }

-- the states reached: "the start and the one after each step taken"; "The first step that isn't allowed changes nothing and ends the run."
unfoldable pub run : Domain → List Object → State → List (List Event) → List State
unfolding allowed next
run D objs s [] = s ∷ []
run D objs s (es ∷ rest) = s ∷ cond (allowed D objs s es) (run D objs (next D objs s es) rest) []

-- the last of the states, or s where there is none
abbrev pub last_state : State → List State → State
last_state s [] = s
last_state s (t ∷ ts) = last_state t ts

-- ---- instances and weights

-- "its weight is the number of facts it matches"
unfoldable pub weight : Domain → List Object → List Fact → ℕ
unfolding has_tuple
weight D y s = count_by (matches D y) s

-- the instances that match a fact of the list
unfoldable pub instances_in : Domain → List Fact → List (List Object)
unfolding tuples_of flat_map
instances_in D s = flat_map (tuples_of D) s

abbrev pub largest : List ℕ → ℕ
largest ns = foldr max 0 ns

-- "highest weight of any instance": an instance that matches no fact weighs 0
unfoldable pub top_weight : Domain → List Fact → ℕ
unfolding instances_in weight
top_weight D s = largest (map (λ y. weight D y s) (instances_in D s))
