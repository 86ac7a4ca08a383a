-- `put_answers` meets its contract: after j turns the first j answers are written. Assumes nothing.
use mathlib.Core.Path.{◌≡◌}
use mathlib.Core.List.{List}
use Prim.Native.Nat.{ℕ, ◌≤◌}
use lib.ListN.{length}
use lib.Seq.{paste}
use Rattle.literals.specs.Domain.{Domain, action}
use Rattle.classes.specs.Classes.{classes}
use Rattle.trying.specs.declared.alone.Alone.{Alone}
use Rattle.trying.specs.Held.{ClassesOf, answers_of}
use Rattle.trying.proofs.answers.put_answers.Given as goal

-- the answers so far
abbrev pub Answered : List ℕ → Alone → List ℕ → List ℕ → List ℕ → List ℕ → List ℕ → List ℕ → ℕ → Type 0
Answered head alone base after rows numbers made₀ made j =
    (D : Domain) (i : ℕ) → ClassesOf D i head alone base after rows numbers → length made₀ ≡ length (classes D (action D i))
    → made ≡ paste made₀ 0 (answers_of D i) j

abbrev pub invariant-loop-j : goal.invariant-loop-j
invariant-loop-j l =
    (l.j-end ≡ length l.initial.made) × (l.j ≤ l.j-end) × (length l.made ≡ length l.initial.made) × Answered l.head l.alone l.base l.after l.rows l.numbers l.initial.made l.made l.j
