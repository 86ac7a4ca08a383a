-- The report's rows, the decision with its place, and the witness. Assumes nothing.
use Rattle.std.specs.Prelude.{Bool, true, false, ◌&&◌, not, cond, ℕ, suc, eqb, get_or}
use mathlib.Core.List.{List, [], ◌∷◌, ◌++◌, map, head?}
use Rattle.std.proofs.Math.Option.{Option, none, some}
use Rattle.records.specs.Lists.{any, filter_by}
use Rattle.literals.specs.declared.Variable.{Variable}
use Rattle.literals.specs.declared.Object.{Object}
use Rattle.literals.specs.declared.Argument.{Argument}
use Rattle.literals.specs.declared.Label.{Label}
use Rattle.literals.specs.declared.Label.TheVariants.{Key as keyed, Counted}
use Rattle.literals.specs.declared.Usage.TheVariants.{Positive}
use Rattle.literals.specs.Domain.{object, Atom, Fact, Action, Component, Domain, action}
use Rattle.literals.specs.declared.Moment.{Moment}
use Rattle.literals.specs.declared.Moment.TheVariants.{Start, End}
use Rattle.classes.specs.declared.Name.{Name}
use Rattle.classes.specs.declared.Name.TheVariants.{Unreachable, Irrelevant, Heavy, Balanced, Unbalanced, Bounded, Unbounded}
use Rattle.literals.specs.Matching.{required}
use Rattle.classes.specs.Classes.{moments_of, name_number, classes, lasts_in, excluding, covered, name_of, journey}
use Rattle.verdict.specs.Binding.{bind, bind_tuple, same_numbers, spare}

-- ---- the report

-- "per moment .. (action, class, moment, name number 1 to 7)"; and whether it is a journey's end
pub record Row : Type 0 where
  pub action : ℕ
  pub class : ℕ
  pub moment : Moment
  pub name : Name
  pub journey_end : Bool

abbrev pub journey_end_at : Domain → Action → List Variable → Moment → Bool
journey_end_at D a x Start = false
journey_end_at D a x End = journey D a x

-- the row of the class j, with the key tuple x, of the action i
abbrev pub row_at : Domain → Action → ℕ → ℕ → List Variable → Moment → Row
row_at D a i j x m = record { action = i; class = j; moment = m; name = name_of D a x m; journey_end = journey_end_at D a x m }

abbrev pub rows_of_classes : Domain → Action → ℕ → ℕ → List (List Variable) → List Row
rows_of_classes D a i j [] = []
rows_of_classes D a i j (x ∷ xs) = map (row_at D a i j x) (moments_of a) ++ rows_of_classes D a i (suc j) xs

abbrev pub rows_from : Domain → ℕ → List Action → List Row
rows_from D i [] = []
rows_from D i (a ∷ as') = rows_of_classes D a i 0 (classes D a) ++ rows_from D (suc i) as'

-- "in that order of sorting"
unfoldable pub rows : Domain → List Row
unfolding name_of journey classes
rows D = rows_from D 0 D.actions

-- ---- the decision

abbrev pub is_unbounded : Name → Bool
is_unbounded n = eqb (name_number n) 7

abbrev pub is_bounded : Name → Bool
is_bounded n = eqb (name_number n) 6

-- "heavy, unbalanced, or unbounded outside a journey's end: 40, 41, 42", or 0
abbrev pub fault_by : Name → Bool → ℕ
fault_by Unreachable e = 0
fault_by Irrelevant e = 0
fault_by Heavy e = 40
fault_by Balanced e = 0
fault_by Unbalanced e = 41
fault_by Bounded e = 0
fault_by Unbounded e = cond e 0 42

abbrev pub fault_of : Row → ℕ
fault_of r = fault_by r.name r.journey_end

abbrev pub is_faulty : Row → Bool
is_faulty r = not (eqb (fault_of r) 0)

-- "bounded one that isn't a journey's end"
abbrev pub is_bounded_outside : Row → Bool
is_bounded_outside r = is_bounded r.name && not r.journey_end

abbrev pub first_row : (Row → Bool) → List Row → Option Row
first_row p rs = head? (filter_by p rs)

-- a row that is refused by this number
abbrev pub has_fault : ℕ → Row → Bool
has_fault n r = eqb (fault_of r) n

-- the one, or where there is none the other
abbrev pub or_else : Option Row → Option Row → Option Row
or_else none q = q
or_else (some r) q = some r

-- "40 is named before 41 and 41 before 42. Within one number the earliest action, class and moment wins"
abbrev pub worst_row : List Row → Option Row
worst_row rs = or_else (first_row (has_fault 40) rs) (or_else (first_row (has_fault 41) rs) (first_row (has_fault 42) rs))

-- a number, and the row that it names
pub record Decision : Type 0 where
  pub number : ℕ
  pub place : Option Row

abbrev pub accept : ℕ → Decision
accept n = record { number = n; place = none }

abbrev pub refuse_row : ℕ → Row → Decision
refuse_row n r = record { number = n; place = some r }

-- "if some moment is unbounded, the first bounded one that isn't a journey's end: 43. Else accepted: 1"
abbrev pub decide_bounded : Option Row → Decision
decide_bounded (some r) = refuse_row 43 r
decide_bounded none = accept 1

-- by the worst row: its number. "43 is still looked for only when none of these exists"; "Else accepted: .. 0 if none."
abbrev pub decide_by : Option Row → List Row → Decision
decide_by (some r) rs = refuse_row (fault_of r) r
decide_by none rs = cond (any (λ (r : Row). is_unbounded r.name) rs) (decide_bounded (first_row is_bounded_outside rs)) (accept 0)

unfoldable pub decide_rows : List Row → Decision
decide_rows rs = decide_by (worst_row rs) rs

-- of a domain: its arities, actions and template
unfoldable pub decision : Domain → Decision
unfolding rows decide_rows
decision D = decide_rows (rows D)

-- ---- the witness

-- the object of an instance y under a label: "the spare object in its FF place"
abbrev pub object_under : Object → List Object → Label → Object
object_under s y (keyed k) = get_or y k.0 (object 0)
object_under s y Counted = s

-- "the instance fact" of a component
abbrev pub instance_fact : Object → List Object → Component → Fact
instance_fact s y c = record { rel = c.rel; args = map (object_under s y) c.labels }

-- "the first uncovered component", or none
abbrev pub first_uncovered : List (Atom Argument) → List Component → List Component
first_uncovered ps [] = []
first_uncovered ps (c ∷ cs) = cond (covered ps c) (first_uncovered ps cs) (c ∷ [])

-- the witness of a moment with this name: its conditions, "then for 42 the instance fact of the first uncovered component"
abbrev pub witness_by : Name → List Fact → List Fact → List Fact
witness_by Unreachable cs fs = []
witness_by Irrelevant cs fs = []
witness_by Heavy cs fs = cs
witness_by Balanced cs fs = []
witness_by Unbalanced cs fs = cs
witness_by Bounded cs fs = []
witness_by Unbounded cs fs = cs ++ fs

-- "the facts are all true conditions of the action at that moment, matching or not, in file order, once each" (none has FF), of the class
-- x, with "variable i is object i"
unfoldable pub witness_at : Domain → Action → List Variable → Moment → List Fact
unfolding name_of excluding required
witness_at D a x m =
    let b = same_numbers a in
    witness_by (name_of D a x m) (map (bind b) (required a m Positive))
    (map (instance_fact (spare a) (bind_tuple b x)) (first_uncovered (excluding D a x m) D.template))

-- the key tuple of a class by its number
unfoldable pub class_at : Domain → ℕ → ℕ → List Variable
unfolding classes action
class_at D i j = get_or (classes D (action D i)) j []

abbrev pub witness_of : Domain → Option Row → List Fact
witness_of D none = []
witness_of D (some r) = witness_at D (action D r.action) (class_at D r.action r.class) r.moment

-- of the place that the decision names
unfoldable pub witness : Domain → List Fact
unfolding witness_at decision action class_at
witness D = witness_of D (decision D).place

-- ---- whether it is written

-- "No witness is written .. for an end whose class has an over-all literal"
abbrev pub shown_at : Domain → Action → List Variable → Moment → Bool
shown_at D a x Start = true
shown_at D a x End = not (lasts_in D a x)

abbrev pub shown_of : Domain → Option Row → Bool
shown_of D none = true
shown_of D (some r) = shown_at D (action D r.action) (class_at D r.action r.class) r.moment

-- of the place that the decision names
unfoldable pub is_shown : Domain → Bool
unfolding lasts_in decision action class_at
is_shown D = shown_of D (decision D).place
