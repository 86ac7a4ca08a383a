-- `marked_by` meets its contract: what stands at the relation, or what is looked for. Assumes nothing.
use mathlib.Core.Path.{◌≡◌, ap, ◌∙◌}
use Prim.Native.Nat.{ℕ, ◌-◌, ◌≤◌}
use lib.ListN.{get_or}
use native.Mathlib.Omega.{arith}
use Rattle.std.specs.Prelude.{Option, Some, None}
use Rattle.std.specs.Option.{SomeIff}
use Rattle.literals.specs.Held.{mark_of}
use Rattle.literals.proofs.Places.{marks_found}
use Rattle.literals.proofs.key_places.Places.marked_by.Goals as goal

one_less : (o : Option ℕ) (n : ℕ) → SomeIff o (1 ≤ n) (n - 1) → mark_of o ≡ n
one_less None n h = omega arith
one_less (Some c) n (h, e) = omega arith

pub returns-then-at-lt-MAX_RELATIONS : goal.returns-then-at-lt-MAX_RELATIONS
returns-then-at-lt-MAX_RELATIONS c =
    let a = c.args in
    let w = c.from-at.ensures in
    let l = c.if-at-lt-MAX_RELATIONS.true in
    one_less c.checked_sub.result _ c.checked_sub.ensures
    ∙ c.from.ensures
    ∙ ap (λ (i : ℕ). get_or a.self.now.bytes i 0) w
    ∙ a.self.now.worked_out.components a.relation (omega arith)

pub returns : goal.returns
returns c = marks_found c.component_of.result _ _ c.component_of.ensures
