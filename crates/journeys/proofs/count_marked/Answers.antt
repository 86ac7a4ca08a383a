use mathlib.Core.Path.{sym, ◌∙◌}
use mathlib.Core.List.{[]}
use native.Mathlib.Nat.{zero-add}
use native.Mathlib.Omega.{arith}
use lib.Seq.{get_or-take}
use Rattle.literals.specs.Domain.{action}
use Rattle.classes.specs.Classes.{classes}
use Rattle.journeys.proofs.Belonging.{journey_for, journeys_are, one_more, none_more}
use Rattle.journeys.proofs.count_marked.Goals as goal

pub loop-mark-init : goal.loop-mark-init
loop-mark-init c =
    (omega arith, omega arith, λ D g y A G ge sized re n m. zero-add _ ∙ sym (journeys_are D y g))

pub loop-mark-preserved : goal.loop-mark-preserved
loop-mark-preserved c =
    let l = c.loop-mark in
    let i = l.mark-index in
    let b = c.belongs_by-found in
    let few = b.ensures.few in
    let t = c.loop-mark-test.true in (
      omega arith,
      omega arith,
      λ D g y A G ge sized re n m.
          one_more (journey_for D y g) (classes D (action D g.action)) i [] l.found b.result (omega arith)
          (b.ensures.counts D g y i A G ge sized re (omega arith) (get_or-take c.args.count c.args.marks.now i 0 (omega arith) ∙ m i (omega arith)))
          ∙ l.invariant.2 D g y A G ge sized re n m,
    )

pub returns : goal.returns
returns c =
    let l = c.loop-mark in
    let t = c.loop-mark-test.false in
    record {
      few = omega arith;
      counts = λ D g y A G ge sized re n m.
          sym (none_more (journey_for D y g) (classes D (action D g.action)) l.mark-index l.found (omega arith))
          ∙ l.invariant.2 D g y A G ge sized re n m;
    }
