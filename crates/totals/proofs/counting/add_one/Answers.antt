-- `counting::add_one` meets its contract: there is room for one more. Assumes nothing.
use native.Mathlib.Omega.{arith}
use Rattle.totals.proofs.counting.add_one.Goals as goal

pub overflow_add-counts : goal.overflow_add-counts
overflow_add-counts c = let h = c.requires.room c.args.at in omega arith
