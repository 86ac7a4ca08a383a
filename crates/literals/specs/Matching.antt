-- Matching, key tuples, and the literals of a moment, for classes and for the machine alike. Assumes nothing.
use Rattle.std.specs.Prelude.{Bool, ◌&&◌, ◌||◌, List, [], ◌∷◌, ◌++◌, ℕ, zero, suc, eqb, length}
use Rattle.records.specs.Lists.{keep_if, any, same_list, dedup}
use Rattle.literals.specs.declared.Argument.{Argument}
use Rattle.literals.specs.declared.Object.{Object}
use Rattle.literals.specs.declared.Key.{Key}
use Rattle.literals.specs.declared.Label.{Label}
use Rattle.literals.specs.declared.Time.{Time}
use Rattle.literals.specs.declared.Time.TheVariants.{AtStart, OverAll, AtEnd}
use Rattle.literals.specs.declared.Usage.{Usage}
use Rattle.literals.specs.declared.Role.{Role}
use Rattle.literals.specs.declared.Moment.{Moment}
use Rattle.literals.specs.declared.Moment.TheVariants.{Start, End}
use Rattle.literals.specs.Domain.{key, same_object, Atom, Fact, same_literal, same_time, same_usage, Literal, Action, Component, is_key}
use Rattle.literals.specs.Domain.{keys_of, Domain}

-- ---- matching and key tuples, of literals and of facts alike

module _ {A : Type 0} where
  -- the arguments under a key
  abbrev pub under : Key → List Label → List A → List A
  under k [] vs = []
  under k (l ∷ ls) [] = []
  under k (l ∷ ls) (v ∷ vs) = keep_if (is_key k l) v (under k ls vs)

  -- "Its key tuple is the variables under keys 0, 1, .. n-1."
  abbrev pub key_tuple : ℕ → List Label → List A → List A
  key_tuple zero ls vs = []
  key_tuple (suc n) ls vs = key_tuple n ls vs ++ under (key n) ls vs

  -- c is the component of f's relation. It has a label for each argument of every literal and fact of a domain; a list of facts in
  -- general need not be of the domain, so this is tested here
  abbrev pub is_of : Component → Atom A → Bool
  is_of c f = eqb c.rel f.rel && eqb (length c.labels) (length f.args)

  -- "A literal matches if its relation has a component." The key tuples of an atom: one where it matches, else none
  abbrev pub tuples_by : ℕ → List Component → Atom A → List (List A)
  tuples_by n [] f = []
  tuples_by n (c ∷ cs) f = keep_if (is_of c f) (key_tuple n c.labels f.args) (tuples_by n cs f)

  unfoldable pub tuples_of : Domain → Atom A → List (List A)
  tuples_of D f = tuples_by (keys_of D.template) D.template f

  -- the atom matches, and its key tuple is x
  unfoldable pub has_tuple : (A → A → Bool) → Domain → List A → Atom A → Bool
  unfolding tuples_of
  has_tuple eq D x f = any (λ t. same_list eq t x) (tuples_of D f)

-- "An instance gives each key an object": the instance y matches the fact
abbrev pub matches : Domain → List Object → Fact → Bool
matches D y f = has_tuple same_object D y f

-- ---- moments, and the literals that count there

-- "(0), or for a lasting action start (0) and end (1)"
abbrev pub moment_number : Moment → ℕ
moment_number Start = 0
moment_number End = 1

-- the time of a moment's own literals
abbrev pub own_time : Moment → Time
own_time Start = AtStart
own_time End = AtEnd

-- a role of a moment's own
abbrev pub own : Moment → Usage → Role → Bool
own m c r = same_time (own_time m) r.time && same_usage c r.usage

-- an over-all role
abbrev pub over_all : Usage → Role → Bool
over_all c r = same_time OverAll r.time && same_usage c r.usage

-- a role that is asked at a moment: "An end's conditions are its own and the over-all ones"
abbrev pub asked : Moment → Usage → Role → Bool
asked Start c r = own Start c r
asked End c r = own End c r || over_all c r

-- the atoms of the literals whose role passes a test, in file order
abbrev pub with_role : (Role → Bool) → List Literal → List (Atom Argument)
with_role p [] = []
with_role p (l ∷ ls) = keep_if (p l.role) l.atom (with_role p ls)

-- the action's own literals of one usage at one moment, in file order
unfoldable pub literals_at : Action → Moment → Usage → List (Atom Argument)
literals_at a m c = dedup same_literal (with_role (own m c) a.lits)

-- what is asked at a moment, in file order, "a literal in both counting once": what must hold in the state that the step is taken from,
-- and what a witness lists. Adds and deletes have no over-all role
unfoldable pub required : Action → Moment → Usage → List (Atom Argument)
required a m c = dedup same_literal (with_role (asked m c) a.lits)

-- the action's over-all conditions
abbrev pub over_all_literals : Action → Usage → List (Atom Argument)
over_all_literals a c = with_role (over_all c) a.lits
