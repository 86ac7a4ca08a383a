-- `put_rows` meets its contract: what is printed and what the rows to come will add are the lines. Assumes nothing.
use Rattle.std.proofs.Common.{◌≡◌}
use Rattle.std.specs.Slice.Iter.{chunks_exact_rest, chunks_exact_size}
use Rattle.print_verdict.specs.Lines.{row_lines}
use Rattle.print_verdict.proofs.Rows.{Printed}
use Rattle.print_verdict.proofs.put_rows.Given as goal

abbrev pub invariant-loop-row : goal.invariant-loop-row
invariant-loop-row g l =
    (goal.iterator-loop-row g).can_next l.row-iterator
    × (goal.iterator-loop-row g).is_finite l.row-iterator
    × (chunks_exact_size l.row-iterator ≡ 4)
    × Printed (g.W.Write.contents l.initial.out) (g.W.Write.contents l.out) (row_lines (chunks_exact_rest l.row-iterator)) (row_lines l.report)
