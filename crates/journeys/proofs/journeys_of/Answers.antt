-- `journeys_of` meets its contract: the classes are numbered, marked and counted. Assumes nothing.
use mathlib.Core.Path.{refl, sym, ◌∙◌}
use native.Mathlib.Nat.{sub-zero}
use native.Mathlib.Omega.{arith}
use Rattle.verdict.proofs.ReadActions.{same_head}
use Rattle.journeys.proofs.Belonging.{part_within, part_again}
use Rattle.journeys.proofs.journeys_of.Goals as goal

pub slice_bounds-mark_journeys-end : goal.slice_bounds-mark_journeys-end
slice_bounds-mark_journeys-end c =
    let f = c.number_classes-count.auto.numbers ∙ sym c.numbers-1.given.1
    ∙ sub-zero _ in
    part_within c.number_classes-count.new.numbers _ _ f

pub returns : goal.returns
returns c =
    let back8 = c in
    let back16 = back8 in
    let number-classes = back8.number_classes-count in
    let p = back16.requires in
    let few = p.literals in
    let f = number-classes.auto.numbers ∙ sym back8.numbers-1.given.1 ∙ sub-zero _ in
    let n = number-classes.ensures in
    let k = n.few in
    let m = c.count_marked in
    let small = m.ensures.few in record {
      few = omega arith;
      counts = λ D g y A lasting G ge sized re.
          let t = n.classes D _ (same_head back16.of-places.ensures A) in
          m.ensures.counts D g y A G ge sized re t.0
          (c.mark_journeys.ensures D _ _ A lasting (part_again number-classes.new.numbers _ _ f ∙ t.1)
          t.0 refl);
    }
