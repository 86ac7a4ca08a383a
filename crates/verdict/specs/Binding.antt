-- Bindings of an action's variables to objects, and the facts that a literal, so bound, is about. Assumes nothing.
use mathlib.Core.List.{List, [], ◌∷◌, map, flat_map}
use Rattle.std.specs.Prelude.{ℕ, zero, suc, get_or}
use Rattle.literals.specs.declared.Variable.{Variable}
use Rattle.literals.specs.declared.Object.{Object}
use Rattle.literals.specs.declared.Argument.{Argument}
use Rattle.literals.specs.declared.Argument.TheVariants.{Variable as bound, Every}
use Rattle.literals.specs.Domain.{object, variables_of, Atom, Fact, Action}

-- a binding lists the objects of the variables 0, 1, ..
abbrev pub Binding : Type 0
Binding = List Object

-- the object that a variable is bound to
abbrev pub value_of : Binding → Variable → Object
value_of b v = get_or b v.0 (object 0)

-- "the bound key tuple"
abbrev pub bind_tuple : Binding → List Variable → List Object
bind_tuple b x = map (value_of b) x

-- ---- the facts of a literal, over chosen objects

-- the objects that an argument stands for: "FF .. is to mean every object"
abbrev pub values_of : List Object → Binding → Argument → List Object
values_of objs b (bound v) = value_of b v ∷ []
values_of objs b Every = objs

-- each way to take one of its objects for each argument
unfoldable pub argument_rows : List Object → Binding → List Argument → List (List Object)
unfolding flat_map
argument_rows objs b [] = [] ∷ []
argument_rows objs b (v ∷ vs) = flat_map (λ o. map (λ (os : List Object). o ∷ os) (argument_rows objs b vs)) (values_of objs b v)

-- "Each clearing literal stands for one fact per object in the machine, whose facts and bindings use no objects but those chosen": the
-- facts that a literal, so bound, is about. Holding, adding, striking and interference all go by these. One where it has no FF, none where
-- it has one and no object is chosen
unfoldable pub facts_of : List Object → Binding → Atom Argument → List Fact
unfolding argument_rows
facts_of objs b p = map (λ (os : List Object). record { rel = p.rel; args = os }) (argument_rows objs b p.args)

-- the fact of a literal without FF
abbrev pub bind : Binding → Atom Argument → Fact
bind b p = record { rel = p.rel; args = bind_tuple b (variables_of p.args) }

-- n objects, from the object k on
abbrev pub objects_from : ℕ → ℕ → List Object
objects_from k zero = []
objects_from k (suc n) = object k ∷ objects_from (suc k) n

-- "variable i is object i"
abbrev pub same_numbers : Action → Binding
same_numbers a = objects_from 0 a.vars

-- "the spare object is the variable count"
abbrev pub spare : Action → Object
spare a = object a.vars
