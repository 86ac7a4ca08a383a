-- The tests of equality on variables, objects, literals, facts and ground actions decide equality. Assumes nothing.
use mathlib.Core.Path.{◌≡◌}
use mathlib.Core.Bool.{true}
use lib.Dec.{eqb}
use borrow.Author.Tests.{eqb-true}
use Rattle.records.proofs.Lists.{and_l, and_r}
pub use Rattle.literals.proofs.Equality.{variable_eq, variable_self, argument_eq, argument_self, object_eq, object_self, atom_of_lem, atom_eq}
pub use Rattle.literals.proofs.Equality.{atom_self, literal_eq, literal_self, fact_eq, fact_self, variables_eq, variables_self, objects_eq}
pub use Rattle.literals.proofs.Equality.{objects_self}
use Rattle.verdict.specs.Machine.{GroundAction, same_ground}

pub ground_eq : (g h : GroundAction) → same_ground g h ≡ true → g ≡ h
ground_eq g h t =
    let r : g.action ≡ h.action = eqb-true _ _ (and_l _ _ t) in
    let b : g.binding ≡ h.binding = objects_eq _ _ (and_r (eqb g.action h.action) _ t) in
    λ i. record { action = r i; binding = b i }
