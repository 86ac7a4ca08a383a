-- A domain without its bytes: relations, actions with their literals, and the template. Assumes nothing.
use Rattle.std.specs.Prelude.{Bool, true, false, ◌&&◌, ◌||◌, not, cond, List, [], ◌∷◌, ℕ, zero, suc, ◌+◌, ◌-◌, eqb, ltb, leb, get_or}
use Rattle.records.specs.Lists.{all, count_by, same_list, side_by_side}
use Rattle.literals.specs.declared.Variable.{Variable}
use Rattle.literals.specs.declared.Object.{Object}
use Rattle.literals.specs.declared.Key.{Key}
use Rattle.literals.specs.declared.Argument.{Argument}
use Rattle.literals.specs.declared.Argument.TheVariants.{Variable as bound, Every}
use Rattle.literals.specs.declared.Label.{Label}
use Rattle.literals.specs.declared.Label.TheVariants.{Key as keyed, Counted}
use Rattle.literals.specs.declared.Time.{Time}
use Rattle.literals.specs.declared.Time.TheVariants.{AtStart, OverAll, AtEnd}
use Rattle.literals.specs.declared.Usage.{Usage}
use Rattle.literals.specs.declared.Usage.TheVariants.{Positive, Negative, Add, Delete}
use Rattle.literals.specs.declared.Role.{Role}

-- ---- "Variables, objects and keys are three separate numberings, each from 0; a number of one is never read as another."

abbrev pub variable : ℕ → Variable
variable n = record { 0 = n }

abbrev pub object : ℕ → Object
object n = record { 0 = n }

abbrev pub key : ℕ → Key
key n = record { 0 = n }

abbrev pub same_variable : Variable → Variable → Bool
same_variable v w = eqb v.0 w.0

abbrev pub same_object : Object → Object → Bool
same_object o p = eqb o.0 p.0

abbrev pub same_key : Key → Key → Bool
same_key k l = eqb k.0 l.0

-- ---- arguments of a literal: "An argument FF in a false condition or a delete is to mean every object"

abbrev pub same_argument : Argument → Argument → Bool
same_argument (bound v) (bound w) = same_variable v w
same_argument (bound v) Every = false
same_argument Every (bound w) = false
same_argument Every Every = true

-- two arguments stand for an object in common: they are the same, or one of them is FF
abbrev pub meet_argument : Argument → Argument → Bool
meet_argument (bound v) (bound w) = same_variable v w
meet_argument (bound v) Every = true
meet_argument Every w = true

abbrev pub is_every : Argument → Bool
is_every (bound v) = false
is_every Every = true

abbrev pub variable_below : ℕ → Argument → Bool
variable_below n (bound v) = ltb v.0 n
variable_below n Every = true

-- the variables among some arguments, in order
abbrev pub variables_of : List Argument → List Variable
variables_of [] = []
variables_of (bound v ∷ as') = v ∷ variables_of as'
variables_of (Every ∷ as') = variables_of as'

-- ---- atoms: a relation with one argument per place, variables or FF in a literal and objects in a fact

pub record Atom (A : Type 0) : Type 0 where
  pub rel : ℕ
  pub args : List A

-- a ground atom
abbrev pub Fact : Type 0
Fact = Atom Object

abbrev pub same_atom : {A : Type 0} → (A → A → Bool) → Atom A → Atom A → Bool
same_atom eq f g = eqb f.rel g.rel && same_list eq f.args g.args

-- the same relation with the same arguments
abbrev pub same_literal : Atom Argument → Atom Argument → Bool
same_literal = same_atom same_argument

-- two literals stand for a fact in common: the same relation, and at each place the same argument, or FF in one of them. "A literal
-- then covers others": true conditions and adds have no FF, and a literal covers one without FF exactly where the two meet
abbrev pub meets : Atom Argument → Atom Argument → Bool
meets = same_atom meet_argument

abbrev pub same_fact : Fact → Fact → Bool
same_fact = same_atom same_object

-- ---- roles

-- "0 true condition, 1 false condition, 2 add, 3 delete"
abbrev pub usage_of : ℕ → Usage
usage_of n = cond (eqb n 0) Positive (cond (eqb n 1) Negative (cond (eqb n 2) Add Delete))

-- "(at once, or at the start); 4 and 5 true and false over all; 6 to 9 the same as 0 to 3, at the end": of a role up to 9
unfoldable pub role_of : ℕ → Role
role_of r =
    cond (ltb r 4) (record { time = AtStart; usage = usage_of r })
    (cond (ltb r 6) (record { time = OverAll; usage = usage_of (r - 4) }) (record { time = AtEnd; usage = usage_of (r - 6) }))

abbrev pub usage_number : Usage → ℕ
usage_number Positive = 0
usage_number Negative = 1
usage_number Add = 2
usage_number Delete = 3

-- the first role of each time
abbrev pub first_role : Time → ℕ
first_role AtStart = 0
first_role OverAll = 4
first_role AtEnd = 6

-- a role's byte
abbrev pub role_number : Role → ℕ
role_number r = first_role r.time + usage_number r.usage

abbrev pub same_time : Time → Time → Bool
same_time t u = eqb (first_role t) (first_role u)

abbrev pub same_usage : Usage → Usage → Bool
same_usage c d = eqb (usage_number c) (usage_number d)

abbrev pub same_role : Role → Role → Bool
same_role r s = same_time r.time s.time && same_usage r.usage s.usage

-- ---- actions

-- "role, relation, one variable per argument", or FF
pub record Literal : Type 0 where
  pub role : Role
  pub atom : Atom Argument

-- the usages that may have FF: "in a false condition or a delete"
abbrev pub may_clear : Usage → Bool
may_clear c = same_usage c Negative || same_usage c Delete

-- FF "in a false condition or a delete .., at most one in a literal"
abbrev pub clears_once : Literal → Bool
clears_once l = leb (count_by is_every l.atom.args) (cond (may_clear l.role.usage) 1 0)

-- an action schema: "variable count ..; sort, 0 at once, 1 lasting", and its literals
pub record Action : Type 0 where
  pub vars : ℕ
  pub lasting : Bool
  pub lits : List Literal

-- ---- the template

-- "relation, one label per argument"; "A label is a key number, or FF for counted."
pub record Component : Type 0 where
  pub rel : ℕ
  pub labels : List Label

abbrev pub Template : Type 0
Template = List Component

abbrev pub is_key : Key → Label → Bool
is_key k (keyed l) = same_key k l
is_key k Counted = false

abbrev pub is_counted : Label → Bool
is_counted (keyed k) = false
is_counted Counted = true

-- the byte of a label: its key, or FF
abbrev pub label_number : Label → ℕ
label_number (keyed k) = k.0
label_number Counted = 255

abbrev pub key_below : ℕ → Label → Bool
key_below n (keyed k) = ltb k.0 n
key_below n Counted = true

-- of the labels of a component and the arguments of a literal of its relation: no key stands where the literal has FF
abbrev pub keys_bound : List Label → List Argument → Bool
keys_bound ls vs = side_by_side (λ l v. is_counted l || not (is_every v)) ls vs

-- the literal has FF in the component's counted place, if there is one
abbrev pub counted_cleared : List Label → List Argument → Bool
counted_cleared ls vs = side_by_side (λ l v. not (is_counted l) || is_every v) ls vs

-- of a component and a literal: it is not "a component that puts a key where one of its relation's literals has FF"
abbrev pub keeps_keys : Component → Atom Argument → Bool
keeps_keys c p = not (eqb c.rel p.rel) || keys_bound c.labels p.args

-- "The first component's labels other than FF number n"
abbrev pub keys_of : Template → ℕ
keys_of [] = zero
keys_of (c ∷ cs) = count_by (λ l. not (is_counted l)) c.labels

-- each of the keys 0 to n-1 stands once
abbrev pub each_key_once : ℕ → List Label → Bool
each_key_once zero ls = true
each_key_once (suc n) ls = each_key_once n ls && eqb (count_by (is_key (key n)) ls) 1

-- "each component has the keys 0 to n-1 once each and at most one FF"
unfoldable pub labels_fit : ℕ → List Label → Bool
labels_fit n ls = all (key_below n) ls && each_key_once n ls && leb (count_by is_counted ls) 1

-- ---- the domain

-- the arities of the relations, the actions, and the template
pub record Domain : Type 0 where
  pub arities : List ℕ
  pub actions : List Action
  pub template : Template

abbrev pub arity : Domain → ℕ → ℕ
arity D r = get_or D.arities r 0

abbrev pub no_action : Action
no_action = record { vars = 0; lasting = false; lits = [] }

-- the action of a number
unfoldable pub action : Domain → ℕ → Action
action D i = get_or D.actions i no_action

-- the domain without its template, as before the first component is read
abbrev pub bare : Domain → Domain
bare D = record { arities = D.arities; actions = D.actions; template = [] }
