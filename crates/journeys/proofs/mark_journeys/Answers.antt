use mathlib.Core.Path.{refl, ap, ap₂, ◌∙◌}
use mathlib.Core.Bool.{false}
use mathlib.Core.List.{List}
use Prim.Native.Nat.{ℕ, ◌<◌}
use native.Mathlib.Omega.{arith}
use Rattle.literals.specs.declared.Moment.TheVariants.{End}
use Rattle.literals.specs.Held.{pad}
use Rattle.classes.specs.Held.{sole_of}
use Rattle.classes.proofs.Soles.{start_soles, end_soles}
use Rattle.classes.proofs.Usages.{usages_held}
use Rattle.journeys.proofs.Belonging.{marked_none, marked_more}
use Rattle.journeys.proofs.mark_journeys.Goals as goal

pub loop-class-init : goal.loop-class-init
loop-class-init c =
    let p = c.requires in
    let l = p.literals in
    let n = p.few in
    (omega arith, omega arith, λ D a head A lasting o n z. marked_none D a _ z)

pub mark_of-requires : goal.mark_of-requires
mark_of-requires c =
    let back8 = c in
    let x = back8.args in
    let p = back8.requires in
    let r = p.rowed in
    let l = c.loop-class in
    let n = l.invariant.1 in
    let t = c.loop-class-test.true in
    let h : l.class < 64 = omega arith in record {
      sides = record { rowed = omega arith; few = p.literals };
      class = h;
      counted = start_soles x.rows.now x.numbers.now _ _
          (c.note_soles.ensures refl)
          (c.usages_at.ensures.bytes refl) l.class h;
    }

pub bounds-marks-class : goal.bounds-marks-class
bounds-marks-class c =
    let l = c.loop-class.invariant in
    let n = l.1 in
    let t = c.loop-class-test.true in
    omega arith

pub overflow_step-class : goal.overflow_step-class
overflow_step-class c =
    let l = c.loop-class.invariant in
    let n = l.1 in
    let t = c.loop-class-test.true in
    omega arith

pub loop-class-preserved : goal.loop-class-preserved
loop-class-preserved c =
    let back8 = c in
    let x = back8.args in
    let p = back8.requires in
    let l = c.loop-class in
    let n = l.invariant.1 in
    let t = c.loop-class-test.true in
    let k = l.class in
    let h : k < 64 = omega arith in (
      omega arith,
      n,
      λ D a head A lasting o m z.
          let used = usages_held false End x.rows.now _ A.says.bounded A.listed A.apart A.literals p.rowed in
          let ends = end_soles x.rows.now x.numbers.now _ _ (back8.note_soles.ensures refl) refl k h
          ∙ ap₂ (λ (o d : List ℕ). sole_of o d k) o (ap (pad 64) used) in
          marked_more D a l.marks k _ (l.invariant.2 D a head A lasting o m z) h
          (c.mark_of.ensures D a head
          (record {
            whole = A;
            numbers_are = o;
            usages_are = c.usages_at.ensures.usages D a head A
                refl;
          }) lasting ends (omega arith)),
    )

pub returns : goal.returns
returns c D a head A lasting o n z k h =
    let l = c.loop-class in
    let t = c.loop-class-test.false in
    (l.invariant.2 D a head A lasting o n z).done k (omega arith)
