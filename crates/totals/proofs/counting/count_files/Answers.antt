-- `counting::count_files` meets its contract: the memories are enough, and clear. Assumes nothing.
use native.Mathlib.Omega.{arith}
use Rattle.totals.proofs.Walks.{all_clear}
use Rattle.totals.proofs.counting.count_files.Goals as goal

pub count_all-requires : goal.count_all-requires
count_all-requires c = record { whole = c.requires.whole; rows = omega arith; facts = omega arith; cleared = all_clear 32768; none = c.requires.none }

pub returns : goal.returns
returns c = c.count_all.ensures
