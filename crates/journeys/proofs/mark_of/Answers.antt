-- `mark_of` meets its contract. Assumes nothing.
use native.Mathlib.Omega.{arith}
use mathlib.Core.Bool.{false}
use mathlib.Core.Path.{refl, sym, ap, ◌∙◌}
use Rattle.classes.proofs.Decides.{other_conditions, not_one_condition}
use Rattle.classes.proofs.Soles.{count_one}
use Rattle.classes.specs.declared.Sole.{Sole}
use Rattle.classes.specs.Held.{sole_at}
use Rattle.journeys.proofs.Belonging.{mark_yes, mark_no}
use Rattle.journeys.proofs.mark_of.Goals as goal

pub sole_in-start-requires : goal.sole_in-start-requires
sole_in-start-requires c = let p = c.requires.class in record { section = omega arith; class = p }

pub sole_in-end-requires : goal.sole_in-end-requires
sole_in-end-requires c = let p = c.requires.class in record { section = omega arith; class = p }

pub overflow_cast-class : goal.overflow_cast-class
overflow_cast-class c = let p = c.requires.class in omega arith

pub is_journey-requires : goal.is_journey-requires
is_journey-requires c = let p = c.requires in record { sides = p.sides; counted = c.sole_in-start.ensures ∙ p.counted }

pub returns-in_default : goal.returns-in_default
returns-in_default c D a head M lasting ends h =
    mark_no D a c.args.class false refl
    (not_one_condition D a _ (other_conditions M h (c.sole_in-start.ensures ∙ c.requires.counted) c.in_default.not-One))

pub returns-then-is_journey : goal.returns-then-is_journey
returns-then-is_journey c D a head M lasting ends h =
    let x = c.args in
    let j = c.is_journey in
    let e = count_one (sole_at x.numbers.now x.usages.now x.class 1) (sym (ap (λ (s : Sole). s.conditions) (c.sole_in-start.ensures ∙ c.requires.counted)) ∙ c.in-One.is) in
    let n = e.0 in
    let m = e.2 in
    mark_yes D a x.class j.result x.numbers.now x.usages.now _ c.if-is_journey.true
    (j.ensures D a head M lasting (c.sole_in-end.ensures ∙ ends) h) M.numbers_are M.usages_are (omega arith)

pub returns : goal.returns
returns c D a head M lasting ends h =
    let j = c.is_journey in
    mark_no D a c.args.class j.result c.if-is_journey.false
    (j.ensures D a head M lasting (c.sole_in-end.ensures ∙ ends) h)
