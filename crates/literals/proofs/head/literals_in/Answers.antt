-- `literals_in` meets its contract: the latest action's literals are the last ones. Assumes nothing.
use native.Mathlib.Omega.{arith}
use mathlib.Core.Path.{sym, ap₂, ◌∙◌}
use Prim.Native.Nat.{◌+◌, ◌-◌}
use Rattle.literals.proofs.Fills.{literals_are, literals_most, literals_none}
use Rattle.literals.proofs.head.literals_in.Goals as goal

pub returns-then-n-eq0-clause-number : goal.returns-then-n-eq0-clause-number
returns-then-n-eq0-clause-number c = λ D H. literals_none H (sym c.actions_in-n.ensures.number ∙ c.if-n-eq0.true)

pub returns-then-to-clause-number : goal.returns-then-to-clause-number
returns-then-to-clause-number c = λ D H. ap₂ ◌+◌ c.first_of.ensures.row (c.from.ensures ∙ c.size_of.ensures.number) ∙ literals_are H _ (let n = c.actions_in-n.ensures.number in omega arith)

pub returns-else-to-clause-number : goal.returns-else-to-clause-number
returns-else-to-clause-number c = λ D H. let e = ap₂ ◌+◌ c.first_of.ensures.row (c.from.ensures ∙ c.size_of.ensures.number) in let t = literals_are H (c.actions_in-n.result - 1) (let n = c.actions_in-n.ensures.number in omega arith) in let m = literals_most H in absurd (omega arith)
