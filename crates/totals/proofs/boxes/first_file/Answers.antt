-- `boxes::first_file` meets its contract: four bytes say how long the file behind them is. Assumes nothing.
use mathlib.Core.Path.{ap, ◌∙◌}
use native.Mathlib.Omega.{arith}
use Rattle.std.specs.Int.{w32, from_le_bytes}
use Rattle.totals.proofs.Loops.{none_left, long_is, split_is}
use Rattle.totals.proofs.boxes.first_file.Goals as goal

pub returns-in_err-length : goal.returns-in_err-length
returns-in_err-length c = rw c.from_residual.ensures (none_left c.args.packed.now c.in_err-length.ensures.cases)

pub returns : goal.returns
returns c =
    let b = c.args.packed.now in
    let s = c.in_ok-length.ensures.cases in
    split_is b (omega arith) _ (c.from_le_bytes.ensures ∙ ap (from_le_bytes w32) s.0 ∙ long_is b) _ (rw (← s.1) c.split_at_checked.ensures.cases)
