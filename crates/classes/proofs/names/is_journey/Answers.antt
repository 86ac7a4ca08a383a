-- `is_journey` meets its contract, count by count. Assumes nothing.
use mathlib.Core.Path.{ap, ◌∙◌}
use Rattle.literals.specs.declared.Moment.TheVariants.{End}
use Rattle.classes.specs.Held.{deleted_in}
use Rattle.classes.proofs.Decides.{moment_of_lem, no_conditions, one_condition, some_conditions, other_conditions, no_adds, one_add, some_adds, other_adds, deleted_held, sole_inside, adds_at_start, not_one_condition, condition_at_end, not_one_add, journey_deletes}
use Rattle.classes.proofs.names.is_journey.Goals as goal

pub deletes-requires : goal.deletes-requires
deletes-requires c =
    let a = c.args in
    let p = c.requires in
    rw c.from.ensures (sole_inside a.numbers.now a.usages.now a.class p.sides.few p.counted c.in-One-Zero-Zero-One.is-0)

pub returns-in-One-Zero-Zero-One : goal.returns-in-One-Zero-Zero-One
returns-in-One-Zero-Zero-One c D a head M l z h =
    let w = c.in-One-Zero-Zero-One in
    let s = c.requires.counted in
    let x = c.args in
    journey_deletes D a _ l (no_adds M h s w.is-1) (one_condition M h s w.is-0) (no_conditions (moment_of_lem M End) h z w.is-2)
    (one_add (moment_of_lem M End) h z w.is-3) c.deletes.result
    (c.deletes.ensures ∙ ap (deleted_in x.rows.now x.numbers.now x.usages.now x.class) c.from.ensures ∙ deleted_held M h s w.is-0)

pub returns-in_default : goal.returns-in_default
returns-in_default c D a head M l z h = not_one_add D a _ (other_adds (moment_of_lem M End) h z c.in_default.not-One-3)

pub returns-in_default-2 : goal.returns-in_default-2
returns-in_default-2 c D a head M l z h = condition_at_end D a _ (some_conditions (moment_of_lem M End) h z c.in_default.not-Zero-2)

pub returns-in_default-3 : goal.returns-in_default-3
returns-in_default-3 c D a head M l z h = adds_at_start D a _ (some_adds M h c.requires.counted c.in_default.not-Zero-1)

pub returns-in_default-4 : goal.returns-in_default-4
returns-in_default-4 c D a head M l z h = not_one_condition D a _ (other_conditions M h c.requires.counted c.in_default.not-One-0)
