-- `put_witness` meets its contract. Assumes nothing.
use mathlib.Core.Path.{◌≡◌, subst}
use native.Mathlib.Omega.{arith}
use Rattle.witness.specs.Held.{RefusedAt}
use Rattle.witness.proofs.put_witness.Goals as goal

pub returns-then-number-eq42 : goal.returns-then-number-eq42
returns-then-number-eq42 c D a A f v R =
    let back8 = c in
    let s = back8.args in
    let q : s.number ≡ 42 = omega arith in
    c.put_open.ensures D a A f v (subst (RefusedAt D a s.j s.m) q R)

pub returns : goal.returns
returns c D a A f v R =
    let back8 = c in
    let s = back8.args in
    c.put_plain.ensures D a s.j s.number A R (λ q. omega arith)
