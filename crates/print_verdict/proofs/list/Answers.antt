-- `list` meets its contract: the verdict line, and behind it the rows. Assumes nothing.
use Rattle.std.proofs.Common.{replicate}
use Rattle.print_verdict.specs.Lines.{listing}
use Rattle.print_verdict.proofs.Rows.{rows_behind, listed}
use Rattle.print_verdict.proofs.list.Goals as goal

pub returns : goal.returns
unfolding listing
returns g c =
    let v = c.judge-v in
    rows_behind c.put_rows.result _ _ _ _ _ _ c.in_ok-put_verdict.ensures c.put_rows.ensures
    (listed c.args.file.now (replicate 32768 255) (replicate 520 255) v.new.report v.result v.ensures.answer v.ensures.reported)
