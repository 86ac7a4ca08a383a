-- `clears_key` meets its contract. Assumes nothing.
use mathlib.Core.Path.{◌≡◌, refl, sym, ap, ap₂, ◌∙◌}
use mathlib.Core.Bool.{Bool, true, false, ◌&&◌, not}
use Prim.Native.Nat.{ℕ, ◌+◌, ◌-◌}
use native.Mathlib.Omega.{arith}
use lib.Dec.{eqb}
use lib.ListN.{length, get_or, take, drop, length-drop}
use lib.Seq.{take_all}
use mathlib.Core.List.{List}
use Rattle.std.proofs.Common.{rules}
use Rattle.std.specs.List.{zip}
use Rattle.records.specs.Lists.{all}
use Rattle.literals.specs.Held.{may_stand}
use Rattle.literals.proofs.Bytes.{cleared_told}
use Rattle.literals.proofs.fields.clears_key.Goals as goal

pub returns-then-p-table : goal.returns-then-p-table
returns-then-p-table c =
    let p = c.args.p.now in
    let t = c.args.table.now in
    let at = c.args.at in
    let rest : take (length p - 1) (drop 1 p) ≡ drop 1 p = take_all (length p - 1) (drop 1 p) (omega (arith, length-drop 1 p)) in
    let six : at + 8 - (at + 2) ≡ 6 = omega arith in
    let same : eqb (get_or p 0 0) (get_or t (at + 1) 0) ≡ true = search rules in
    ap (λ (b : Bool). b && not c.keys_beside.result) (sym same)
    ∙ cleared_told p t at (omega arith)
    (c.keys_beside.ensures ∙ ap₂ (λ (bs : List ℕ) (n : ℕ). all may_stand (zip bs (take n (drop (at + 2) t)))) rest six)

pub returns-else-p-table : goal.returns-else-p-table
returns-else-p-table c =
    let p = c.args.p.now in
    let t = c.args.table.now in
    let at = c.args.at in
    let other : eqb (get_or p 0 0) (get_or t (at + 1) 0) ≡ false = search rules in
    let beside = all may_stand (zip (drop 1 p) (take 6 (drop (at + 2) t))) in
    other ∙ ap (λ (b : Bool). b && not beside) (sym other) ∙ cleared_told p t at (omega arith) refl
