-- `report::put_moment` meets its contract: four bytes at the seam, for which there is room. Assumes nothing.
use mathlib.Core.Path.{refl, ap, ◌∙◌}
use native.Mathlib.Omega.{arith}
use Rattle.std.proofs.lemmas.Slice.{put_mid-paste}
use Rattle.literals.specs.Matching.{moment_number}
use Rattle.judging.proofs.Reported.{report_room, names_room, reporting_more}
use Rattle.judging.proofs.report.put_moment.Goals as goal
use Rattle.judging.proofs.report.put_moment.Goals.{else-at-names-via-then-at-names+else-at-report, else-at-names-via-else-at-names}

pub returns-then-at-report : goal.returns-then-at-report
returns-then-at-report c rs rest r old given R a b m =
    reporting_more R a b (c.from.ensures ∙ ap moment_number m) (put_mid-paste _ _ _ _ _ 4 c.copy_from_slice.ensures.after (omega arith) refl)

pub returns-else-at-names : goal.returns-else-at-names
returns-else-at-names c rs rest r old given R a b m =
    let k = report_room R in
    let l = names_room R in
    elim c.else-at-names.branch [
      | else-at-names-via-then-at-names+else-at-report w ↦ absurd (omega arith)
      | else-at-names-via-else-at-names w ↦ absurd (omega arith)
    ]
