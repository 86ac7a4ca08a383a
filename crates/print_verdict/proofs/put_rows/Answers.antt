use native.Mathlib.Omega.{arith}
use Rattle.std.proofs.Common.{◌∙◌}
use Rattle.std.specs.Slice.Iter.{chunks_exact_rest}
use Rattle.print_verdict.proofs.Rows.{printed_more}
use Rattle.print_verdict.proofs.put_rows.Goals as goal

pub loop-row-preserved : goal.loop-row-preserved
loop-row-preserved g c =
    let K = c.loop-row.invariant in
    let size = K.2 in
    let step = c.in-Some.ensures.steps in
    let same = step.0 in (
      omega arith,
      tt,
      same ∙ size,
      printed_more _ _ _ _ (chunks_exact_rest c.loop-row.row-iterator) c.in-Some.row.now (chunks_exact_rest c.next.new.self) K.3 step.1.0 (step.1.1 ∙ size) c.if-row.false
          c.in_ok-put_row.ensures,
    )
