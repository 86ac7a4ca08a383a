-- How the code tries a class: one step from the true conditions, and what a further fact changes of it. Assumes nothing.
use Rattle.std.specs.Prelude.{◌≡◌, Bool, true, ◌&&◌, ◌||◌, not, cond, List, [], ◌∷◌, map, ℕ, ◌+◌, ◌≤◌, ◌<◌, eqb, leb, length, take}
use Rattle.records.specs.Lists.{any, below}
use Rattle.records.specs.Memory.{over}
use Rattle.literals.specs.Domain.{Domain, action}
use Rattle.literals.specs.Decode.{max_variables, max_literals}
use Rattle.literals.specs.Held.{rows_in, components_in, keys_in, component_rows_in, Held}
use Rattle.classes.specs.Classes.{classes}
use Rattle.classes.specs.Held.{ActionOf, class_numbers}
use Rattle.verdict.specs.Binding.{objects_from}
use Rattle.verdict.specs.Machine.{GroundAction, allowed, next, start_state}
use Rattle.verdict.specs.Held.{patterns_meet, fact_row}
use Rattle.verdict.specs.Claims.{well_formed, plain_objects, plain_event}
use Rattle.run_semantics.specs.RunFile.{max_facts}
use Rattle.store.specs.Held.{row_weight, instance_bytes_in}
use Rattle.events.specs.Held.{GroundLiteral, ground_in, Grounded}
use Rattle.effects.specs.Held.{literals_in, effects_in}
use Rattle.trying.specs.Trying.{held_facts, tries, tried_from}
use Rattle.trying.specs.declared.alone.Base.{Base}
use Rattle.trying.specs.declared.alone.Alone.{Alone}

-- ---- the event

-- "bind variable i to object i": of the action i, which has n variables
abbrev pub plain_ground : ℕ → ℕ → GroundAction
plain_ground i n = record { action = i; binding = objects_from 0 n }

-- head and table hold a well-formed domain with an action i
abbrev pub ActionHeld : List ℕ → List ℕ → ℕ → Type 0
ActionHeld head table i = (D : Domain) × Held D head table × (well_formed D ≡ true) × (i < length D.actions)

-- ---- one step from the true conditions alone

-- the memory holds the ground literals, and behind them the true conditions
pub record BaseOf (D : Domain) (i : ℕ) (head : List ℕ) (r : Base) (base : List ℕ) : Type 0 where
  pub variables : r.variables ≡ (action D i).vars
  pub grounded : Grounded D head (plain_event D i ∷ []) (literals_in base) r.literals
  pub held : rows_in r.held (effects_in base) ≡ map fact_row (held_facts D i)

-- a second one, in front, the facts that the step leaves
pub record AloneOf (D : Domain) (i : ℕ) (head : List ℕ) (r : Alone) (base after : List ℕ) : Type 0 where
  pub conditions : BaseOf D i head r.counts base
  pub allowed : r.allowed ≡ allowed D (plain_objects D i) (start_state (held_facts D i)) (plain_event D i ∷ [])
  pub left : rows_in r.left after ≡ map fact_row (next D (plain_objects D i) (start_state (held_facts D i)) (plain_event D i ∷ [])).facts

-- no more than there is room for
pub record FewOf (r : Alone) : Type 0 where
  pub variables : r.counts.variables ≤ max_variables
  pub literals : r.counts.literals ≤ max_literals
  pub held : r.counts.held ≤ max_literals
  pub left : r.left ≤ max_facts + 1

-- ---- further facts, by rows

-- one of these ground literals is about the fact of a row
abbrev pub is_about : List GroundLiteral → List ℕ → Bool
is_about ls fact = any (λ (l : GroundLiteral). patterns_meet l.row fact) ls

-- the component c of a head has a fact of the instance, with one of n objects in its counted place, that none of them is about
abbrev pub component_free : List ℕ → List ℕ → ℕ → List GroundLiteral → ℕ → Bool
component_free head instance n ls c = any (λ o. not (is_about ls (instance_bytes_in head c o instance))) (below n)

-- a component has one
unfoldable pub any_free : List ℕ → List ℕ → ℕ → List GroundLiteral → Bool
unfolding components_in
any_free head instance n ls = any (component_free head instance n ls) (below (components_in head))

-- ---- the answer for a class

-- by what its instance weighs in the true conditions (before) and in what the step from them leaves (after), by whether that step is
-- allowed, and by whether there is a further fact that no literal of the event is about
abbrev pub tries_by : ℕ → Bool → ℕ → Bool → Bool
tries_by before can after free = leb before 1 && can && (leb 2 after || (eqb before 0 && eqb after 1 && free))

-- the same by rows
unfoldable pub tries_by_rows : List ℕ → Alone → List ℕ → List ℕ → List ℕ → Bool
unfolding keys_in component_rows_in row_weight any_free
tries_by_rows head r base after instance =
    tries_by (row_weight (keys_in head) (component_rows_in head) (rows_in r.counts.held (effects_in base)) instance) r.allowed
    (row_weight (keys_in head) (component_rows_in head) (rows_in r.left after) instance)
    (any_free head instance (r.counts.variables + 1) (ground_in r.counts.literals (literals_in base)))

-- what is held of an action at once and its classes: the rows of its literals, their class numbers, and what the step from its true
-- conditions comes to
pub record ClassesOf (D : Domain) (i : ℕ) (head : List ℕ) (r : Alone) (base after rows numbers : List ℕ) : Type 0 where
  pub whole : ActionOf D (action D i) head rows
  pub numbers_are : numbers ≡ class_numbers D (action D i)
  pub formed : well_formed D ≡ true
  pub listed : i < length D.actions
  pub alone : AloneOf D i head r base after

-- a byte for each of them
abbrev pub answers_of : Domain → ℕ → List ℕ
answers_of D i = map (λ x. cond (tries D i x) 1 0) (classes D (action D i))

-- ---- where writing stands

-- the bytes of the first n actions stand in the memory, up to an offset
pub record Making (D : Domain) (n at : ℕ) (made old : List ℕ) : Type 0 where
  pub written : at ≡ length (tried_from D 0 (take n D.actions))
  pub bytes : made ≡ over (tried_from D 0 (take n D.actions)) old
