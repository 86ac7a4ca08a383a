-- `span_of` meets its contract. Assumes nothing.
use mathlib.Core.Path.{refl, ap, ◌∙◌}
use Prim.Native.Nat.{ℕ, ◌+◌}
use native.Mathlib.Omega.{arith}
use Rattle.literals.proofs.Heads.{span_held}
use Rattle.literals.proofs.head.span_of.Goals as goal

pub returns : goal.returns
returns c =
    let f = c.first_of-from in
    let n = c.size_of in
    let w = c.from in
    let l = n.ensures.most in
    let size = w.ensures ∙ n.ensures.number in record { few = (omega arith, omega arith, f.ensures.low); rows = λ D table H h. span_held H _ h _ _ _ f.ensures.row size refl; size = ap (λ (k : ℕ). f.result + k) size }
