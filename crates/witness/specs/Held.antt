-- The bytes of a witness: the witness of a place, where it fits, and the rows that it is taken from. Assumes nothing.
use Rattle.std.specs.Prelude.{◌≡◌, Bool, cond, ℕ, ◌*◌, ◌<◌, eqb, leb, length, get_or, drop}
use mathlib.Core.List.{List, [], ◌∷◌, map, flat_map}
use Rattle.records.specs.Lists.{keep_if}
use Rattle.records.specs.Memory.{over}
use Rattle.literals.specs.declared.Usage.TheVariants.{Positive}
use Rattle.literals.specs.Domain.{Fact, Action, Domain}
use Rattle.literals.specs.Held.{bytes_from, arity_in}
use Rattle.literals.specs.declared.Moment.{Moment}
use Rattle.literals.specs.Matching.{required}
use Rattle.classes.specs.Classes.{classes, name_of}
use Rattle.verdict.specs.Binding.{bind, same_numbers}
use Rattle.verdict.specs.Decision.{fault_by, witness_at}
use Rattle.verdict.specs.Judged.{fact_bytes}

-- ---- the witness of a place, where it fits

-- "all true conditions of the action at that moment", bound
abbrev pub condition_facts : Action → Moment → List Fact
condition_facts a m = map (bind (same_numbers a)) (required a m Positive)

abbrev pub fits_in : List Fact → List ℕ → Bool
fits_in fs out = leb (8 * length fs) (length out)

abbrev pub shown_in : List Fact → List ℕ → List ℕ
shown_in fs out = cond (fits_in fs out) (over (fact_bytes fs) out) out

-- a moment of the class j of an action is refused by this number
pub record RefusedAt (D : Domain) (a : Action) (j : ℕ) (m : Moment) (number : ℕ) : Type 0 where
  pub listed : j < length (classes D a)
  pub journey_end : Bool
  pub fault : number ≡ fault_by (name_of D a (get_or (classes D a) j []) m) journey_end
  pub refused : number ≡ 0 → ⊥

-- its witness stands in the memory where it fits, which r says, and else the memory is as it was
pub record ShownAt (D : Domain) (a : Action) (j : ℕ) (m : Moment) (old new : List ℕ) (r : Bool) : Type 0 where
  pub fits : r ≡ fits_in (witness_at D a (get_or (classes D a) j []) m) old
  pub bytes : new ≡ shown_in (witness_at D a (get_or (classes D a) j []) m) old

-- ---- the bytes of a witness, by the rows that they are taken from

-- what the first n literals are at a moment
abbrev pub first_usages : ℕ → List ℕ → List ℕ
first_usages n usages = bytes_from usages 0 n

-- the elements whose numbers, in the first list, pass
abbrev pub select_by : {A B : Type 0} → (A → Bool) → List A → List B → List B
select_by p [] ys = []
select_by p (x ∷ xs) [] = []
select_by p (x ∷ xs) (y ∷ ys) = keep_if (p x) y (select_by p xs ys)

-- what a literal is at a moment: a true condition
abbrev pub is_condition : ℕ → Bool
is_condition k = eqb k 1

-- the fact of a literal's row: relation, arity, arguments
abbrev pub condition_bytes : ℕ → List ℕ → List ℕ
condition_bytes arity row = get_or row 1 0 ∷ arity ∷ drop 2 row

-- the same, by the head of a domain
abbrev pub condition_of : List ℕ → List ℕ → List ℕ
condition_of head row = condition_bytes (arity_in head (get_or row 1 0)) row

-- that fact, where the literal is a true condition
abbrev pub condition_if : List ℕ → ℕ → List ℕ → List ℕ
condition_if head k row = cond (is_condition k) (condition_of head row) []

-- those of all true conditions, by what each literal is and its row
unfoldable pub conditions_of : List ℕ → List ℕ → List (List ℕ) → List ℕ
unfolding flat_map
conditions_of head ks rows = flat_map (condition_of head) (select_by is_condition ks rows)
