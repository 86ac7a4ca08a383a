-- `name_class` meets its contract: the names at both moments, and whether it is a journey. Assumes nothing.
use native.Mathlib.Omega.{arith}
use mathlib.Core.Path.{ap, ◌∙◌, ap₂}
use mathlib.Core.List.{List}
use Prim.Native.Nat.{ℕ, ◌<◌}
use Rattle.literals.specs.declared.Moment.TheVariants.{Start, End}
use Rattle.classes.specs.Held.{count_of, sole_of}
use Rattle.classes.proofs.Decides.{asked_at_start}
use Rattle.naming.proofs.name_class.Goals as goal

pub name_at-start-requires : goal.name_at-start-requires
name_at-start-requires c =
    let k = c.args.class in
    let h : k < 64 = omega arith in
    let p = c.requires in
    record { sides = p.sides; counted = c.sole_in-first.ensures ∙ p.first k h }

pub returns-then-not-lasting : goal.returns-then-not-lasting
returns-then-not-lasting c D a M t E f =
    let k = c.args.class in
    let h : k < 64 = omega arith in
    let first = c.sole_in-first.ensures ∙ c.requires.first k h in
    simp (t, c.if-not-lasting.true, c.name_at-start.ensures D a Start M f (asked_at_start M k first))

pub name_at-requires : goal.name_at-requires
name_at-requires c =
    let k = c.args.class in
    let h : k < 64 = omega arith in
    let p = c.requires in
    record { sides = p.sides; counted = c.sole_in-last.ensures ∙ p.last c.if-not-lasting.false k h }

pub is_journey-requires : goal.is_journey-requires
is_journey-requires c =
    let k = c.args.class in
    let h : k < 64 = omega arith in
    let p = c.requires in
    record { sides = p.sides; counted = c.sole_in-first.ensures ∙ p.first k h }

pub returns : goal.returns
returns c D a M t E f =
    let k = c.args.class in
    let h : k < 64 = omega arith in
    let p = c.requires in
    let first = c.sole_in-first.ensures ∙ p.first k h in
    let l = c.if-not-lasting.false in
    let G = E l in
    simp (
      t,
      l,
      c.name_at-start.ensures D a Start M f (asked_at_start M k first),
      c.name_at.ensures D a End G.own f (c.from-asked.ensures ∙ ap count_of (G.reaches k h)),
      c.is_journey.ensures D a _ M (t ∙ l)
          (c.sole_in-last.ensures ∙ p.last l k h ∙ ap₂ (λ (o d : List ℕ). sole_of o d k) G.own.numbers_are G.own.usages_are) f,
    )
