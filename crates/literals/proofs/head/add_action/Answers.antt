-- `add_action` meets its contract. Assumes nothing.
use mathlib.Core.Path.{◌≡◌, ap, ◌∙◌}
use mathlib.Core.List.{List, [], ◌∷◌}
use Prim.Native.Nat.{ℕ, ◌/◌, ◌%◌}
use native.Mathlib.Omega.{arith}
use Rattle.literals.proofs.Fills.{fills_action}
use Rattle.literals.proofs.head.add_action.Goals as goal

pub returns : goal.returns
returns c D F e =
    let n = c.literals_in.result in
    let m = c.literals_in.ensures.most in
    let high : n / 256 % 256 ≡ n / 256 = omega arith in
    let both : c.to_le_bytes.result ≡ n % 256 ∷ n / 256 ∷ [] = c.to_le_bytes.ensures ∙ ap {B = List ℕ} (λ (h : ℕ). n % 256 ∷ h ∷ []) high in
    rw both (fills_action F _ _ _ c.actions_in-n.ensures.number (c.literals_in.ensures.number D F.says) e)
