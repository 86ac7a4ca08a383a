-- `mark_journeys` meets its contract: the marks of the classes before this one are made. Assumes nothing.
use mathlib.Core.Path.{◌≡◌}
use mathlib.Core.Bool.{true}
use mathlib.Core.List.{List, []}
use Prim.Native.Nat.{ℕ, ◌≤◌}
use lib.ListN.{length}
use Rattle.literals.specs.Domain.{Domain, Action}
use Rattle.literals.specs.Decode.{max_literals}
use Rattle.literals.specs.Held.{pad}
use Rattle.classes.specs.Classes.{classes}
use Rattle.classes.specs.Held.{ActionOf, class_numbers}
use Rattle.journeys.proofs.Belonging.{FirstMarked}
use Rattle.journeys.proofs.mark_journeys.Given as goal

abbrev pub invariant-loop-class : goal.invariant-loop-class
invariant-loop-class l =
    (l.class ≤ l.count) × (l.count ≤ max_literals) × ((D : Domain) (a : Action) (head : List ℕ) → ActionOf D a head l.rows → a.lasting ≡ true
    → l.numbers ≡ class_numbers D a → l.count ≡ length (classes D a) → l.initial.marks ≡ pad max_literals [] → FirstMarked D a l.marks l.class)
