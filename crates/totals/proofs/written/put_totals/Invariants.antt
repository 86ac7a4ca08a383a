-- `written::put_totals` meets its contract. The loop's invariant: the totals passed stand. Assumes nothing.
use mathlib.Core.Path.{◌≡◌}
use lib.ListN.{take}
use Rattle.records.specs.Memory.{over}
use Rattle.totals.specs.Totals.{total_bytes}
use Rattle.totals.proofs.written.put_totals.Given as goal

abbrev pub invariant-loop-n : goal.invariant-loop-n
invariant-loop-n l = l.out ≡ over (total_bytes (take l.n l.totals)) l.initial.out
