-- `boxes::open_box` meets its contract: files are passed while one stands whole in front. Assumes nothing.
use mathlib.Core.Path.{◌≡◌, ap, sym, ◌∙◌}
use Prim.Native.Nat.{ℕ, ◌-◌}
use native.Mathlib.Omega.{arith}
use lib.ListN.{length}
use borrow.Author.Tests.{eqb-true, eqb-false}
use Rattle.std.specs.Prelude.{Err}
use Rattle.totals.specs.declared.Uncounted.TheVariants.{Cut}
use Rattle.totals.specs.Held.{opening_of}
use Rattle.totals.proofs.Loops.{left_all, left_length, left_cut, left_end, left_more, behind_length}
use Rattle.totals.proofs.boxes.open_box.Goals as goal

pub loop-behind-init : goal.loop-behind-init
loop-behind-init c = left_all c.args.packed.now

pub loop-behind-smaller : goal.loop-behind-smaller
loop-behind-smaller c =
    let s = c.in-Some.ensures in
    let l = behind_length c.loop-behind.rest.now s.0 in
    let e = ap length s.2 in omega arith

pub loop-behind-preserved : goal.loop-behind-preserved
loop-behind-preserved c = let s = c.in-Some.ensures in left_more c.loop-behind.invariant s.0 s.2

pub returns-then-is_empty : goal.returns-then-is_empty
returns-then-is_empty c =
    let none = eqb-true (length c.loop-behind.rest.now) 0 (sym c.is_empty.ensures ∙ c.if-is_empty.true) in
    ap opening_of (sym (left_end c.loop-behind.invariant none))

pub returns-else-is_empty : goal.returns-else-is_empty
returns-else-is_empty c =
    let l = c.loop-behind.invariant in
    let some = eqb-false (length c.loop-behind.rest.now) 0 (sym c.is_empty.ensures ∙ c.if-is_empty.false) in
    let z : length c.args.packed.now - length c.loop-behind.rest.now ≡ l.at = (let e = left_length l in omega arith) in
    ap (λ (n : ℕ). Err (Cut n)) z ∙ ap opening_of (sym (left_cut l (omega arith) c.in_default.ensures))
