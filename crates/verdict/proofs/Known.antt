-- The numbers that a file can meet. Assumes nothing.
use mathlib.Core.Path.{◌≡◌, refl}
use mathlib.Core.Bool.{Bool, true, false, cond}
use mathlib.Core.Logic.{◌⊎◌, inl, inr}
use mathlib.Core.Option.{Option, none, some}
use mathlib.Core.List.{List}
use Prim.Native.Nat.{ℕ, ◌≤◌, ◌<◌}
use native.Mathlib.Omega.{arith}
use Rattle.records.specs.Lists.{any}
use Rattle.literals.specs.Domain.{Domain}
use Rattle.literals.specs.Decode.{Decoded, refused, domain, decode}
use Rattle.literals.proofs.Refusals.{refusal_number}
use Rattle.classes.specs.declared.Name.{Name}
use Rattle.classes.specs.declared.Name.TheVariants.{Unreachable, Irrelevant, Heavy, Balanced, Unbalanced, Bounded, Unbounded}
use Rattle.classes.specs.Classes.{name_number}
use Rattle.verdict.specs.Decision.{Row, rows, is_unbounded, fault_by, is_bounded_outside, first_row, worst_row, accept, decide_bounded, decide_by, decide_rows, decision}
use Rattle.verdict.specs.Judged.{answer_row, decided, decided_by, decided_file}
use Rattle.verdict.proofs.Rows.{by_fault}

-- an accepted template, one refused for a class, or a file that does not read
abbrev pub Known : ℕ → Type 0
Known n = (n ≤ 27) ⊎ ((40 ≤ n) × (n ≤ 43))

-- of a domain
abbrev pub Decides : ℕ → Type 0
Decides n = (n ≤ 1) ⊎ ((40 ≤ n) × (n ≤ 43))

known_fault : (n : Name) (e : Bool) → Decides (fault_by n e)
known_fault =
    by_fault Decides (inl (omega arith)) (inr (omega arith, omega arith)) (inr (omega arith, omega arith)) (inr (omega arith, omega arith))

known_bounded : (o : Option Row) → Decides (decide_bounded o).number
known_bounded none = inl (omega arith)
known_bounded (some r) = inr (omega arith, omega arith)

known_rows : (o : Option Row) (rs : List Row) → Decides (decide_by o rs).number
known_rows (some r) rs = known_fault r.name r.journey_end
known_rows none rs = go (any (λ (r : Row). is_unbounded r.name) rs)
  where
    go : (b : Bool) → Decides (cond b (decide_bounded (first_row is_bounded_outside rs)) (accept 0)).number
    go true = known_bounded (first_row is_bounded_outside rs)
    go false = inl (omega arith)

row_number : (n : ℕ) (o : Option Row) → (answer_row n o).number ≡ n
row_number n none = refl
row_number n (some r) = refl

pub decided_range : (D : Domain) → Decides (decided D).number
unfolding decided decision decide_rows
decided_range D = rw (row_number (decision D).number (decision D).place) (known_rows (worst_row (rows D)) (rows D))

pub known_domain : (D : Domain) → Known (decided D).number
known_domain D = go (decided_range D)
  where
    go : Decides (decided D).number → Known (decided D).number
    go (inl h) = inl (omega arith)
    go (inr h) = inr h

pub known_file : (f : List ℕ) → Known (decided_file f).number
unfolding decided_file
known_file f = go (decode f) refl
  where
    go : (d : Decoded) → decode f ≡ d → Known (decided_by d).number
    go (refused r) e = inl (refusal_number f r e).1
    go (domain D) e = known_domain D

pub file_range : (f : List ℕ) → (0 ≤ (decided_file f).number) × ((decided_file f).number < 64)
file_range f = go (known_file f)
  where
    go : Known (decided_file f).number → (0 ≤ (decided_file f).number) × ((decided_file f).number < 64)
    go (inl h) = (omega arith, omega arith)
    go (inr (l, h)) = (omega arith, omega arith)

pub name_range : (n : Name) → (1 ≤ name_number n) × (name_number n < 8)
name_range Unreachable = (omega arith, omega arith)
name_range Irrelevant = (omega arith, omega arith)
name_range Heavy = (omega arith, omega arith)
name_range Balanced = (omega arith, omega arith)
name_range Unbalanced = (omega arith, omega arith)
name_range Bounded = (omega arith, omega arith)
name_range Unbounded = (omega arith, omega arith)
