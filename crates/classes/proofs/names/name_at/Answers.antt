-- `name_at` meets its contract: the first line that fits, test by test. Assumes nothing.
use mathlib.Core.Path.{◌≡◌, sym, ap, ◌∙◌}
use mathlib.Core.Bool.{true, false}
use Rattle.std.proofs.Common.{rules}
use Rattle.classes.specs.declared.Count.TheVariants.{More}
use Rattle.classes.specs.Held.{changed_at}
use Rattle.classes.proofs.Decides.{sole_inside, unreachable_named, own_unreachable_named, irrelevant_named, heavy_named, changed_named, bounded_named, unbounded_named}
use Rattle.classes.proofs.names.name_at.Goals as goal

pub returns-then-eq : goal.returns-then-eq
returns-then-eq c D a m M h r = let e : c.args.reach ≡ More = search rules in unreachable_named M h c.requires.counted r e

pub returns-in-More-default : goal.returns-in-More-default
returns-in-More-default c D a m M h r = own_unreachable_named M h c.requires.counted r c.in-More-default.is-0

pub returns-in_default-Zero : goal.returns-in_default-Zero
returns-in_default-Zero c D a m M h r = let e : c.args.reach ≡ More → ⊥ = search rules in irrelevant_named M h c.requires.counted r e c.in_default-Zero.is-1

pub returns-in_default-Zero-2 : goal.returns-in_default-Zero-2
returns-in_default-Zero-2 c D a m M h r = let e : c.args.reach ≡ More → ⊥ = search rules in irrelevant_named M h c.requires.counted r e c.in_default-Zero.is-1

pub returns-in_default-More : goal.returns-in_default-More
returns-in_default-More c D a m M h r = let e : c.args.reach ≡ More → ⊥ = search rules in heavy_named M h c.requires.counted r e c.in_default-More.is-1

pub returns-in_default-More-2 : goal.returns-in_default-More-2
returns-in_default-More-2 c D a m M h r = let e : c.args.reach ≡ More → ⊥ = search rules in heavy_named M h c.requires.counted r e c.in_default-More.is-1

pub returns-in-Some : goal.returns-in-Some
returns-in-Some c D a m M h r =
    let e : c.args.reach ≡ More → ⊥ = search rules in
    let w = c.in-Zero-One in
    unbounded_named M h c.requires.counted r e w.is-1 w.is-0 (sym (c.first_uncovered.ensures D a m M h) ∙ c.in-Some.is)

pub returns-in-None : goal.returns-in-None
returns-in-None c D a m M h r =
    let e : c.args.reach ≡ More → ⊥ = search rules in
    let w = c.in-Zero-One in
    bounded_named M h c.requires.counted r e w.is-1 w.is-0 (sym (c.first_uncovered.ensures D a m M h) ∙ c.in-None.is)

pub changes-requires : goal.changes-requires
changes-requires c =
    let a = c.args in
    let p = c.requires in
    rw c.from.ensures (sole_inside a.numbers.now a.usages.now a.class p.sides.few p.counted c.in-One-One.is-0)

pub returns-then-changes : goal.returns-then-changes
returns-then-changes c D a m M h r =
    let e : c.args.reach ≡ More → ⊥ = search rules in
    let w = c.in-One-One in
    let x = c.args in
    changed_named M h c.requires.counted r e w.is-1 w.is-0 true
    (ap (changed_at x.rows.now x.numbers.now x.usages.now x.class) (sym c.from.ensures) ∙ sym c.changes.ensures ∙ c.if-changes.true)

pub returns-else-changes : goal.returns-else-changes
returns-else-changes c D a m M h r =
    let e : c.args.reach ≡ More → ⊥ = search rules in
    let w = c.in-One-One in
    let x = c.args in
    changed_named M h c.requires.counted r e w.is-1 w.is-0 false
    (ap (changed_at x.rows.now x.numbers.now x.usages.now x.class) (sym c.from.ensures) ∙ sym c.changes.ensures ∙ c.if-changes.false)
