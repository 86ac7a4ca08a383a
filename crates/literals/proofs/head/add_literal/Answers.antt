-- `add_literal` meets its contract. Assumes nothing.
use mathlib.Core.Path.{sym, ap, ◌∙◌}
use mathlib.Core.Bool.{Bool, cond}
use Prim.Native.Nat.{ℕ}
use lib.ListN.{get_or}
use Rattle.literals.specs.Held.{at_clears}
use Rattle.literals.proofs.Fills.{fills_literal, fills_plain}
use Rattle.literals.proofs.head.add_literal.Goals as goal

pub returns-then-clears : goal.returns-then-clears
returns-then-clears c p t D F e = let r = c.requires in fills_literal F p _ _ r.latest r.size t 1 (sym (ap (λ (b : Bool). cond {A = ℕ} b 1 (get_or c.args.head.now at_clears 0)) (c.if-clears.true))) e

pub returns-else-clears : goal.returns-else-clears
returns-else-clears c p t D F e = let r = c.requires in fills_plain F p _ _ r.latest r.size r.actions (sym (c.if-clears.false) ∙ t) e
