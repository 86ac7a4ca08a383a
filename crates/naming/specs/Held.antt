-- How the code holds the names of all moments, and where naming stands. Assumes nothing.
use Rattle.std.specs.Prelude.{◌≡◌, cond, None, Some, List, map, ◌++◌, ℕ, ◌+◌, ◌*◌, ◌≤◌, ◌<◌, length, get_or}
use Rattle.records.specs.Memory.{over}
use Rattle.literals.specs.Decode.{max_literals}
use Rattle.literals.specs.Domain.{Action, Domain}
use Rattle.literals.specs.declared.Variable.{Variable}
use Rattle.literals.specs.declared.Moment.TheVariants.{Start, End}
use Rattle.classes.specs.Classes.{name_number, classes, name_of, journey}
use Rattle.classes.specs.Held.{MomentOf, sole_of, sole_in, reach_at}
use Rattle.naming.specs.declared.ClassNames.{ClassNames}
use Rattle.naming.specs.declared.Naming.{Naming}
use Rattle.naming.specs.declared.NamedDomain.{NamedDomain}
use Rattle.verdict.specs.Decision.{Row, rows}
use Rattle.verdict.specs.Summaries.{summary_rows, summaries, notes_of}

-- a byte a row: the name's number
abbrev pub name_bytes : List Row → List ℕ
name_bytes rs = map (λ (r : Row). name_number r.name) rs

-- how many classes each action has
abbrev pub class_counts : Domain → List Action → List ℕ
class_counts D as' = map (λ (a : Action). length (classes D a)) as'

-- the names of the class with the key tuple x: at its start, and at its end where the action lasts
abbrev pub class_names : Domain → Action → List Variable → ClassNames
class_names D a x =
    record {
      start = name_of D a x Start;
      end = cond a.lasting (Some (record { name = name_of D a x End; journey = journey D a x })) None;
    }

-- the true conditions and the adds of each class, by the usages at a moment: s is the section of its true conditions
abbrev pub SolesIn : List ℕ → List ℕ → List ℕ → ℕ → Type 0
SolesIn numbers usages soles s = (k : ℕ) → k < max_literals → sole_in soles s k ≡ sole_of numbers usages k

-- an end of an action: the usages of its own literals there, and which literal of each class is asked as a true condition
pub record EndOf (D : Domain) (a : Action) (head rows numbers usages soles : List ℕ) : Type 0 where
  pub own : MomentOf D a End head rows numbers usages
  pub reaches : (k : ℕ) → k < max_literals → get_or soles (max_literals * 4 + k) 0 ≡ reach_at D a End k

-- rs are the rows named so far, n of them, their names in a memory that has room for them
pub record Listed (rs : List Row) (n : ℕ) (names old : List ℕ) : Type 0 where
  pub room : length rs ≤ length old
  pub counted : n ≡ length rs
  pub bytes : names ≡ over (name_bytes rs) old

-- where naming an action stands: rs are its own rows, behind those before
pub record Named (before rs : List Row) (naming : Naming) (names old : List ℕ) : Type 0 where
  pub listed : Listed (before ++ rs) naming.rows names old
  pub summed : naming.summary ≡ summary_rows rs

-- what naming all actions leads to
unfoldable pub naming_of : Domain → NamedDomain
unfolding rows notes_of summaries
naming_of D = record { rows = length (rows D); notes = notes_of (summaries D) }
