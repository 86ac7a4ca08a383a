-- `name_action` meets its contract: the classes are numbered, and then named. Assumes nothing.
use mathlib.Core.Path.{sym, ap, ◌∙◌}
use Prim.Native.Nat.{ℕ, ◌*◌}
use native.Mathlib.Omega.{arith}
use Rattle.verdict.proofs.Summed.{any_number}
use Rattle.naming.proofs.name_action.Goals as goal

pub name_classes-naming-requires : goal.name_classes-naming-requires
name_classes-naming-requires c =
    let back8 = c in
    let number-classes = c.number_classes-classes in
    let p = back8.requires in
    let f = number-classes.auto.numbers in
    let k = number-classes.ensures.few in
    record { rowed = p.rowed ∙ ap (λ (n : ℕ). 8 * n) (sym f); literals = omega arith; few = omega arith; room = omega arith }

pub returns : goal.returns
returns c =
    let back8 = c in
    let number-classes = back8.number_classes-classes in
    let k = number-classes.ensures.few in
    let t = number-classes.ensures.classes in
    let w = c.name_classes-naming.ensures in record {
      rows = omega arith;
      classes = omega arith;
      numbers = λ D x A. (t D x A).1;
      named = λ D x A l before old i L.
          let N = w.named before old D x i L A l (t D x A).1 (t D x A).0 in
          ((t D x A).0, N.summed ∙ any_number D x i, N.listed);
    }
