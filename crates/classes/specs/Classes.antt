-- Classes of an action: their moments, the seven names, journeys. Assumes nothing.
use Rattle.std.specs.Prelude.{Bool, ◌&&◌, ◌||◌, cond, ℕ, eqb, leb, length}
use mathlib.Core.List.{List, [], ◌∷◌, ◌++◌, map, flat_map}
use Rattle.records.specs.Lists.{filter_by, all, any, same_list, elem, dedup}
use Rattle.literals.specs.declared.Variable.{Variable}
use Rattle.literals.specs.declared.Argument.{Argument}
use Rattle.literals.specs.declared.Time.TheVariants.{OverAll}
use Rattle.literals.specs.declared.Usage.{Usage}
use Rattle.literals.specs.declared.Usage.TheVariants.{Positive, Negative, Add, Delete}
use Rattle.literals.specs.Domain.{same_variable, variables_of, Atom, same_literal, meets, same_time, Literal, Action, Component}
use Rattle.literals.specs.Domain.{counted_cleared, Domain}
use Rattle.literals.specs.Matching.{tuples_of, literals_at, required}
use Rattle.literals.specs.declared.Moment.{Moment}
use Rattle.literals.specs.declared.Moment.TheVariants.{Start, End}
use Rattle.classes.specs.declared.Name.{Name}
use Rattle.classes.specs.declared.Name.TheVariants.{Unreachable, Irrelevant, Heavy, Balanced, Unbalanced, Bounded, Unbounded}

-- ---- moments, and the literals that count there

-- "Each class has one moment (0), or for a lasting action start (0) and end (1)."
abbrev pub moments_of : Action → List Moment
moments_of a = cond a.lasting (Start ∷ End ∷ []) (Start ∷ [])

-- the true conditions that count towards unreachable: "they count towards unreachable and towards nothing else"
abbrev pub counted_for_reach : Action → Moment → List (Atom Argument)
counted_for_reach a m = required a m Positive

-- the literals that count towards every other name, and for journeys: the moment's own
abbrev pub counted_for_name : Action → Moment → Usage → List (Atom Argument)
counted_for_name = literals_at

-- ---- classes: each is its key tuple

-- "Its key tuple is the variables under keys 0, 1, .. n-1.": no key stands at FF (27)
unfoldable pub literal_tuples : Domain → Atom Argument → List (List Variable)
unfolding tuples_of
literal_tuples D p = map variables_of (tuples_of D p)

-- "Literals of one action with equal tuples form a class; with n = 0 all matching literals form one. Classes are numbered by first literal
-- in the file."
unfoldable pub classes : Domain → Action → List (List Variable)
unfolding literal_tuples flat_map
classes D a = dedup (same_list same_variable) (flat_map (λ (l : Literal). literal_tuples D l.atom) a.lits)

-- the literal belongs to the class of the key tuple x
abbrev pub belongs : Domain → List Variable → Atom Argument → Bool
belongs D x p = any (λ t. same_list same_variable t x) (literal_tuples D p)

-- "Only the class's literals of that moment count"
unfoldable pub in_class : Domain → Action → List Variable → Moment → Usage → List (Atom Argument)
unfolding literal_tuples literals_at
in_class D a x m c = filter_by (belongs D x) (counted_for_name a m c)

-- the class's true conditions towards unreachable
unfoldable pub reach_in : Domain → Action → List Variable → Moment → List (Atom Argument)
unfolding literal_tuples required
reach_in D a x m = filter_by (belongs D x) (counted_for_reach a m)

-- the class has an over-all literal
unfoldable pub lasts_in : Domain → Action → List Variable → Bool
unfolding literal_tuples
lasts_in D a x = any (λ (l : Literal). same_time OverAll l.role.time && belongs D x l.atom) a.lits

-- ---- the seven names

abbrev pub name_number : Name → ℕ
name_number Unreachable = 1
name_number Irrelevant = 2
name_number Heavy = 3
name_number Balanced = 4
name_number Unbalanced = 5
name_number Bounded = 6
name_number Unbounded = 7

-- "the first line that fits names it": of the true conditions towards unreachable, the true conditions and adds towards the rest, whether
-- the true condition is also an add or a delete, and whether each component is covered
unfoldable pub name_by : ℕ → ℕ → ℕ → Bool → Bool → Name
name_by reach conditions adds changed covered =
    cond (leb 2 reach) Unreachable
    (cond (eqb adds 0) Irrelevant
    (cond (leb 2 adds) Heavy
    (cond (eqb conditions 1) (cond changed Balanced Unbalanced)
    (cond covered Bounded Unbounded))))

-- a literal is deleted by one of these deletes: "a delete of at(0,FF) deletes at(0,1) for balanced, for journeys .."
abbrev pub deleted_by : List (Atom Argument) → Atom Argument → Bool
deleted_by dels p = any (λ q. meets q p) dels

-- "one true condition, also an add or a delete"
abbrev pub changed_by : List (Atom Argument) → List (Atom Argument) → Atom Argument → Bool
changed_by adds dels p = elem same_literal p adds || deleted_by dels p

-- "covered, that is, has no FF and its relation occurs among them"; "A component with FF becomes covered when the class has such a
-- literal with FF in that same place"
abbrev pub covered : List (Atom Argument) → Component → Bool
covered ps c = any (λ (p : Atom Argument). eqb c.rel p.rel && counted_cleared c.labels p.args) ps

-- "among them as false condition, add or delete"
unfoldable pub excluding : Domain → Action → List Variable → Moment → List (Atom Argument)
unfolding in_class
excluding D a x m = in_class D a x m Negative ++ (in_class D a x m Add ++ in_class D a x m Delete)

-- the name of the class x at a moment
unfoldable pub name_of : Domain → Action → List Variable → Moment → Name
unfolding in_class reach_in excluding name_by
name_of D a x m =
    name_by (length (reach_in D a x m)) (length (in_class D a x m Positive)) (length (in_class D a x m Add))
    (all (changed_by (in_class D a x m Add) (in_class D a x m Delete)) (in_class D a x m Positive))
    (all (covered (excluding D a x m)) D.template)

-- the paper's own term: "A journey is a class of a lasting action whose start has no add and exactly one true condition, which the start
-- deletes, and whose end has no true condition and one add."
unfoldable pub journey : Domain → Action → List Variable → Bool
unfolding in_class
journey D a x =
    a.lasting
    && eqb (length (in_class D a x Start Add)) 0
    && eqb (length (in_class D a x Start Positive)) 1
    && all (deleted_by (in_class D a x Start Delete)) (in_class D a x Start Positive)
    && eqb (length (in_class D a x End Positive)) 0
    && eqb (length (in_class D a x End Add)) 1
