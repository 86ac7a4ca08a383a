-- The tests of equality on variables, objects, literals and facts decide equality. Assumes nothing.
use mathlib.Core.Path.{◌≡◌, refl, ap, ap₂}
use mathlib.Core.Bool.{Bool, true, ◌&&◌, false≢true}
use mathlib.Core.List.{List}
use lib.Dec.{eqb}
use borrow.Author.Tests.{eqb-true}
use Rattle.records.specs.Lists.{same_list}
use Rattle.records.proofs.Lists.{and_l, and_r, and_i, eqb_same, eqb_comm, same_list_eq, same_list_self, same_list_comm}
use Rattle.literals.specs.declared.Variable.{Variable}
use Rattle.literals.specs.declared.Object.{Object}
use Rattle.literals.specs.declared.Argument.{Argument}
use Rattle.literals.specs.declared.Argument.TheVariants.{Variable as bound, Every}
use Rattle.literals.specs.Domain.{variable, object, same_variable, same_object, same_argument, Atom, Fact, same_atom, same_literal}
use Rattle.literals.specs.Domain.{same_fact}

pub variable_eq : (v w : Variable) → same_variable v w ≡ true → v ≡ w
variable_eq v w t = ap variable (eqb-true v.0 w.0 t)

pub variable_self : (v : Variable) → same_variable v v ≡ true
variable_self v = eqb_same v.0

pub object_eq : (o p : Object) → same_object o p ≡ true → o ≡ p
object_eq o p t = ap object (eqb-true o.0 p.0 t)

pub object_self : (o : Object) → same_object o o ≡ true
object_self o = eqb_same o.0

pub argument_eq : (v w : Argument) → same_argument v w ≡ true → v ≡ w
argument_eq (bound v) (bound w) t = ap bound (variable_eq v w t)
argument_eq (bound v) Every t = absurd (false≢true t)
argument_eq Every (bound w) t = absurd (false≢true t)
argument_eq Every Every t = refl

pub argument_self : (v : Argument) → same_argument v v ≡ true
argument_self (bound v) = variable_self v
argument_self Every = refl

argument_comm : (v w : Argument) → same_argument v w ≡ same_argument w v
argument_comm (bound v) (bound w) = eqb_comm v.0 w.0
argument_comm (bound v) Every = refl
argument_comm Every (bound w) = refl
argument_comm Every Every = refl

module _ {A : Type 0} where
  pub atom_of_lem : {f g : Atom A} → f.rel ≡ g.rel → f.args ≡ g.args → f ≡ g
  atom_of_lem r a = λ i. record { rel = r i; args = a i }

  pub atom_eq : (eq : A → A → Bool) → ((a b : A) → eq a b ≡ true → a ≡ b) → (f g : Atom A) → same_atom eq f g ≡ true → f ≡ g
  atom_eq eq sound f g t = atom_of_lem (eqb-true _ _ (and_l _ _ t)) (same_list_eq eq sound f.args g.args (and_r (eqb f.rel g.rel) _ t))

  pub atom_self : (eq : A → A → Bool) → ((a : A) → eq a a ≡ true) → (f : Atom A) → same_atom eq f f ≡ true
  atom_self eq self f = and_i (eqb_same f.rel) (same_list_self eq self f.args)

pub literal_eq : (p q : Atom Argument) → same_literal p q ≡ true → p ≡ q
literal_eq = atom_eq same_argument argument_eq

pub literal_self : (p : Atom Argument) → same_literal p p ≡ true
literal_self = atom_self same_argument argument_self

pub literal_comm : (p q : Atom Argument) → same_literal p q ≡ same_literal q p
literal_comm p q = ap₂ ◌&&◌ (eqb_comm p.rel q.rel) (same_list_comm same_argument argument_comm p.args q.args)

pub fact_eq : (f g : Fact) → same_fact f g ≡ true → f ≡ g
fact_eq = atom_eq same_object object_eq

pub fact_self : (f : Fact) → same_fact f f ≡ true
fact_self = atom_self same_object object_self

-- key tuples of variables, and of objects
pub variables_eq : (x y : List Variable) → same_list same_variable x y ≡ true → x ≡ y
variables_eq = same_list_eq same_variable variable_eq

pub variables_self : (x : List Variable) → same_list same_variable x x ≡ true
variables_self = same_list_self same_variable variable_self

pub objects_eq : (x y : List Object) → same_list same_object x y ≡ true → x ≡ y
objects_eq = same_list_eq same_object object_eq

pub objects_self : (x : List Object) → same_list same_object x x ≡ true
objects_self = same_list_self same_object object_self
