-- Demand 3, and what judging answers: the claims, each proved in proofs/ (docs/PROOFS.md names the theorems). Assumes nothing.
use Rattle.std.specs.Prelude.{◌≡◌, Bool, true, false, not, ◌&&◌, ◌||◌, ◌⊎◌, ◌↔◌, ℕ, zero, suc, ◌+◌, ◌*◌, ◌≤◌, ◌<◌, eqb, ltb, leb, length, take, drop}
use mathlib.Core.List.{List, [], ◌∷◌, ◌++◌, map, foldr}
use Rattle.records.specs.Lists.{In, all, count_by, pairwise, same_list, elem, distinct}
use Rattle.literals.specs.declared.Object.{Object}
use Rattle.literals.specs.declared.Usage.TheVariants.{Positive, Negative}
use Rattle.literals.specs.Domain.{object, same_object, variable_below, Fact, Literal, clears_once, Action, Component, keeps_keys, keys_of}
use Rattle.literals.specs.Domain.{labels_fit, Domain, arity, action}
use Rattle.literals.specs.Decode.{byte, repeats, contradicts, domain, decode}
use Rattle.literals.specs.declared.Moment.TheVariants.{Start}
use Rattle.classes.specs.Classes.{classes, name_of, journey}
use Rattle.verdict.specs.Binding.{bind_tuple, objects_from, same_numbers}
use Rattle.verdict.specs.Decision.{fault_by, class_at, witness_at, witness}
use Rattle.verdict.specs.Judged.{Answer, answer_at, decided, decided_file, judged}
use Rattle.verdict.specs.Machine.{GroundAction, Event, State, legal, legal_step, injective, required_facts, added_facts, struck_facts}
use Rattle.verdict.specs.Machine.{meet, is_open, conditions_hold, own_hold, over_all_hold, allowed, next, start_state, run, weight}

-- ---- what reading a file ensures of its domain

-- a relation of the domain, with as many arguments as its arity
abbrev pub has_arity : {A : Type 0} → Domain → ℕ → List A → Bool
has_arity D r vs = ltb r (length D.arities) && eqb (length vs) (arity D r)

-- a literal of an action with n variables: a relation with its arity, variables below the count, at most one FF and only where it may
-- stand, and no component with a key there
abbrev pub literal_fits : Domain → ℕ → Literal → Bool
literal_fits D n l =
    has_arity D l.atom.rel l.atom.args && all (variable_below n) l.atom.args && clears_once l
    && all (λ c. keeps_keys c l.atom) D.template

-- literals that fit, none repeated in its role, none both true and false
unfoldable pub well_formed_action : Domain → Action → Bool
well_formed_action D a = all (literal_fits D a.vars) a.lits && pairwise (λ l m. not (repeats l m) && not (contradicts l m)) a.lits

-- relations with their arities, each once, with the keys 0 to n-1 once each and at most one FF
unfoldable pub well_formed_template : Domain → Bool
unfolding labels_fit
well_formed_template D =
    distinct (λ (c d : Component). eqb c.rel d.rel) D.template
    && all (λ (c : Component). has_arity D c.rel c.labels && labels_fit (keys_of D.template) c.labels) D.template

unfoldable pub well_formed : Domain → Bool
unfolding well_formed_action well_formed_template
well_formed D = all (well_formed_action D) D.actions && well_formed_template D

-- "A file is well-formed if nothing in the table above the row "room" stops it": it then has a domain, and the domain is
abbrev pub DecodedIsWellFormed : Type 0
DecodedIsWellFormed = (f : List ℕ) (D : Domain) → decode f ≡ domain D → well_formed D ≡ true

-- ---- what somebody chooses: a finite set of objects, facts, an instance and steps over them

abbrev pub among : List Object → List Object → Bool
among objs os = all (λ o. elem same_object o objs) os

-- "An instance gives each key an object"
abbrev pub is_instance : Domain → List Object → List Object → Bool
is_instance D objs y = eqb (length y) (keys_of D.template) && among objs y

-- an event of the domain over the objects, "with different objects for different variables"
abbrev pub is_event : Domain → List Object → Event → Bool
is_event D objs e = legal D e && injective e && among objs e.act.binding

pub record Chosen (D : Domain) (objs : List Object) (fs : List Fact) (y : List Object) (steps : List (List Event)) : Type 0 where
  pub facts_over : all (λ (f : Fact). among objs f.args) fs ≡ true
  pub instance : is_instance D objs y ≡ true
  pub steps_legal : all (legal_step D) steps ≡ true
  pub events : all (all (is_event D objs)) steps ≡ true

-- ---- what an end asks

-- the over-all conditions of an end are among those of everything open: where they hold, and every end is open, an event's own conditions
-- are left to ask
abbrev pub OwnIsEnough : Type 0
OwnIsEnough =
    (D : Domain) (objs : List Object) (s : State) (es : List Event) → all (is_open s.running) es ≡ true
    → all (over_all_hold D objs s.facts) s.running ≡ true
    → all (conditions_hold D objs s.facts) es ≡ all (own_hold D objs s.facts) es

-- interference, where all that an end asks counts for it, over all too
abbrev pub disturbs_with_over_all : Domain → List Object → Event → Event → Bool
disturbs_with_over_all D objs e f =
    meet (required_facts D objs e Positive ++ required_facts D objs e Negative) (added_facts D objs f ++ struck_facts D objs f)
    || meet (added_facts D objs e) (struck_facts D objs f)

abbrev pub interfere_with_over_all : Domain → List Object → Event → Event → Bool
interfere_with_over_all D objs e f = disturbs_with_over_all D objs e f || disturbs_with_over_all D objs f e

-- "so both may end together": every step that is allowed by that interference is allowed. (That more is, a case shows: crates/cases,
-- `ends_together`)
abbrev pub Wider : Type 0
Wider =
    (D : Domain) (objs : List Object) (s : State) (es : List Event)
    → all (is_open s.running) es && all (conditions_hold D objs s.facts) es && all (over_all_hold D objs s.facts) s.running
    && pairwise (λ e f. not (interfere_with_over_all D objs e f)) es ≡ true
    → allowed D objs s es ≡ true

-- ---- safety of an accepted template

-- "whatever finite set of objects, start facts with nothing open, instance that weighs at most one, and list of steps .. somebody chooses,
-- in no state reached does the instance weigh two or more"
abbrev pub Safe : Domain → Type 0
Safe D =
    (objs : List Object) (fs : List Fact) (y : List Object) (steps : List (List Event)) → Chosen D objs fs y steps
    → weight D y (start_state fs).facts ≤ 1
    → (s : State) → In s (run D objs (start_state fs) steps) → weight D y s.facts ≤ 1

-- "accepted (0, 1)"
abbrev pub Accepted : Answer → Type 0
Accepted a = (a.number ≡ 0) ⊎ (a.number ≡ 1)

abbrev pub Safety : Type 0
Safety = (D : Domain) → well_formed D ≡ true → Accepted (decided D) → Safe D

abbrev pub SafetyOfFile : Type 0
SafetyOfFile = (f : List ℕ) (D : Domain) → decode f ≡ domain D → Accepted (decided_file f) → Safe D

-- ---- refusals where no action lasts

-- a fact of the domain over the objects
abbrev pub is_fact : Domain → List Object → Fact → Bool
is_fact D objs f = has_arity D f.rel f.args && among objs f.args

-- "some facts give some instance a weight of at most one and a single allowed event leaves it at two or more"
pub record Harm (D : Domain) (objs : List Object) (fs : List Fact) (y : List Object) (e : Event) : Type 0 where
  pub facts_over : all (is_fact D objs) fs ≡ true
  pub instance : is_instance D objs y ≡ true
  pub event : is_event D objs e ≡ true
  pub before : weight D y (start_state fs).facts ≤ 1
  pub can : allowed D objs (start_state fs) (e ∷ []) ≡ true
  pub after : 2 ≤ weight D y (next D objs (start_state fs) (e ∷ [])).facts

abbrev pub Harmful : Domain → Type 0
Harmful D = (objs : List Object) × (fs : List Fact) × (y : List Object) × (e : Event) × Harm D objs fs y e

-- "Where no action lasts"
unfoldable pub none_lasts : Domain → Bool
none_lasts D = all (λ (a : Action). not a.lasting) D.actions

-- "refused for a class (40 to 43)"
abbrev pub refused_for_class : Answer → Bool
refused_for_class a = leb 40 a.number && leb a.number 43

-- "a template is refused exactly when .."
abbrev pub Exact : Domain → Answer → Type 0
Exact D a = (refused_for_class a ≡ true) ↔ Harmful D

abbrev pub Exactness : Type 0
Exactness = (D : Domain) → well_formed D ≡ true → none_lasts D ≡ true → Exact D (decided D)

abbrev pub ExactnessOfFile : Type 0
ExactnessOfFile = (f : List ℕ) (D : Domain) → decode f ≡ domain D → none_lasts D ≡ true → Exact D (decided_file f)

-- the start of an action, or the action at once, "take the objects 0 to the variable count and bind variable i to object i"
abbrev pub plain_event : Domain → ℕ → Event
plain_event D i = record { moment = Start; act = record { action = i; binding = same_numbers (action D i) } }

-- its objects: one for each variable, and the spare one
abbrev pub plain_objects : Domain → ℕ → List Object
plain_objects D i = objects_from 0 (suc (action D i).vars)

-- the instance of the class j: "the bound key tuple of the named class"
abbrev pub plain_instance : Domain → ℕ → ℕ → List Object
plain_instance D i j = bind_tuple (same_numbers (action D i)) (class_at D i j)

-- "With the witness's facts and nothing open, the named action alone is an allowed step, and the bound key tuple of the named class is an
-- instance that weighs at most one before it and two or more after it."
pub record Shown (D : Domain) (a : Answer) : Type 0 where
  pub numbered : (40 ≤ a.number) × (a.number ≤ 42)
  pub action_listed : a.first < length D.actions
  pub class_listed : a.second < length (classes D (action D a.first))
  pub at_start_lem : a.third ≡ 0
  pub harm : Harm D (plain_objects D a.first) (witness D) (plain_instance D a.first a.second) (plain_event D a.first)

abbrev pub WitnessShows : Type 0
WitnessShows = (D : Domain) → well_formed D ≡ true → none_lasts D ≡ true → refused_for_class (decided D) ≡ true → Shown D (decided D)

abbrev pub WitnessOfFile : Type 0
WitnessOfFile = (f : List ℕ) (D : Domain) → decode f ≡ domain D → none_lasts D ≡ true → refused_for_class (decided_file f) ≡ true
    → Shown D (decided_file f)

-- ---- the same per action and class, whatever lasts elsewhere

-- a class of an action at once is heavy, unbalanced or unbounded
abbrev pub FaultyClass : Domain → ℕ → ℕ → Type 0
FaultyClass D i j = fault_by (name_of D (action D i) (class_at D i j) Start) false ≡ 0 → ⊥

-- the number of a class of an action at once
pub record ClassAtOnce (D : Domain) (i j : ℕ) : Type 0 where
  pub listed : i < length D.actions
  pub at_once_lem : (action D i).lasting ≡ false
  pub numbered : j < length (classes D (action D i))

-- a class is faulty exactly where its own witness does harm: the action's true conditions and at most one further fact of the instance
abbrev pub ClassExactness : Type 0
ClassExactness =
    (D : Domain) → well_formed D ≡ true → (i j : ℕ) → ClassAtOnce D i j
    → FaultyClass D i j ↔ Harm D (plain_objects D i) (witness_at D (action D i) (class_at D i j) Start) (plain_instance D i j) (plain_event D i)

-- and whatever harm an action at once does, it does to the instance of a faulty class of its
abbrev pub HarmIsOfFaultyClass : Type 0
HarmIsOfFaultyClass =
    (D : Domain) → well_formed D ≡ true → (objs : List Object) (fs : List Fact) (y : List Object) (e : Event) → Harm D objs fs y e
    → (action D e.act.action).lasting ≡ false
    → (j : ℕ) × ClassAtOnce D e.act.action j × (bind_tuple e.act.binding (class_at D e.act.action j) ≡ y)
    × FaultyClass D e.act.action j

-- ---- verdict 1: weight and open journeys

-- how many journeys of an open entry have the instance y as their bound key tuple
unfoldable pub journeys_for : Domain → List Object → GroundAction → ℕ
unfolding classes action journey
journeys_for D y g =
    count_by (λ x. journey D (action D g.action) x && same_list same_object (bind_tuple g.binding x) y) (classes D (action D g.action))

-- the instance's weight plus the number of open journeys belonging to it
unfoldable pub total : Domain → List Object → State → ℕ
unfolding weight journeys_for
total D y s = weight D y s.facts + foldr (λ g n. journeys_for D y g + n) 0 s.running

-- no number is above the one before it
abbrev pub never_rising : List ℕ → Bool
never_rising [] = true
never_rising (m ∷ []) = true
never_rising (m ∷ n ∷ ns) = leb n m && never_rising (n ∷ ns)

-- the total never rises from one state of a run to the next
abbrev pub TotalNeverRises : Domain → Type 0
TotalNeverRises D =
    (objs : List Object) (fs : List Fact) (y : List Object) (steps : List (List Event)) → Chosen D objs fs y steps
    → weight D y (start_state fs).facts ≤ 1
    → never_rising (map (total D y) (run D objs (start_state fs) steps)) ≡ true

abbrev pub NeverRises : Type 0
NeverRises = (D : Domain) → well_formed D ≡ true → (decided D).number ≡ 1 → TotalNeverRises D

abbrev pub NeverRisesOfFile : Type 0
NeverRisesOfFile = (f : List ℕ) (D : Domain) → decode f ≡ domain D → (decided_file f).number ≡ 1 → TotalNeverRises D

-- ---- judging

-- "judging answers this decision unless 30 or 31 comes in its place": of an answer to the file f, whatever memory was lent
abbrev pub DecidesFile : List ℕ → ℕ → ℕ → ℕ → ℕ → Type 0
DecidesFile f number first second third =
    let a : Answer = record { number = number; first = first; second = second; third = third } in
    (a ≡ decided_file f) ⊎ ((a ≡ answer_at 30 0) ⊎ (a ≡ answer_at 31 0))

abbrev pub JudgingDecides : Type 0
JudgingDecides =
    (f report wit : List ℕ) → let a = judged f report wit in DecidesFile f a.number a.first a.second a.third

-- the facts in a witness's bytes, k of them: "8 bytes a fact (relation, arity, arguments, FF to fill)"
unfoldable pub read_facts : ℕ → List ℕ → List Fact
read_facts zero b = []
read_facts (suc k) b = record { rel = byte b 0; args = map object (take (byte b 1) (drop 2 b)) } ∷ read_facts k (drop 8 b)

-- demand 3 of an answer to the file f: the number n with its places, and the bytes w of the witness afterwards

-- an accepted template is safe
abbrev pub AcceptedSafe : List ℕ → ℕ → Type 0
AcceptedSafe f n = (D : Domain) → decode f ≡ domain D → (n ≡ 0) ⊎ (n ≡ 1) → Safe D

-- where no action lasts, a template is refused for a class exactly when some event does harm, "unless 30 or 31 comes in its place"
abbrev pub RefusedHarmful : List ℕ → ℕ → Type 0
RefusedHarmful f n =
    (D : Domain) → decode f ≡ domain D → none_lasts D ≡ true → (n ≡ 30 → ⊥) → (n ≡ 31 → ⊥)
    → (leb 40 n && leb n 43 ≡ true) ↔ Harmful D

-- what `Shown` says of a decision, of the number n and the places i, j and m that were answered, with the facts that stand in the bytes w
pub record ShownBy (D : Domain) (n : ℕ) (w : List ℕ) (i j m : ℕ) : Type 0 where
  pub numbered : (40 ≤ n) × (n ≤ 42)
  pub action_listed : i < length D.actions
  pub class_listed : j < length (classes D (action D i))
  pub at_start_lem : m ≡ 0
  pub room : 8 * length (witness D) ≤ length w
  pub harm : Harm D (plain_objects D i) (read_facts (length (witness D)) w) (plain_instance D i j) (plain_event D i)

abbrev pub WitnessHarms : List ℕ → ℕ → List ℕ → ℕ → ℕ → ℕ → Type 0
WitnessHarms f n w i j m = (D : Domain) → decode f ≡ domain D → none_lasts D ≡ true → leb 40 n && leb n 43 ≡ true → ShownBy D n w i j m
