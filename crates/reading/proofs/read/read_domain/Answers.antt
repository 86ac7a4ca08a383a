use mathlib.Core.Path.{◌≡◌}
use Rattle.std.specs.Prelude.{Err}
use Rattle.std.proofs.Common.{rules}
use Rattle.reading.proofs.Turns.{told_whole, begins, too_long, loop_on, loop_falls, loop_done, loop_refused}
use Rattle.reading.proofs.read.read_domain.Goals as goal

pub returns-then-s-gt-MAX_FILE : goal.returns-then-s-gt-MAX_FILE
returns-then-s-gt-MAX_FILE c =
    let all = too_long _ _ _ c.if-s-gt-MAX_FILE.true _ (told_whole _ _ _ c.of_record.ensures _ c.from.ensures) in
    record { answer = all.0; table = all.1 }

pub loop-next-init : goal.loop-next-init
loop-next-init c = begins _ _ _ _ c.new-progress.ensures c.requires.cleared c.if-s-gt-MAX_FILE.false

pub loop-next-smaller : goal.loop-next-smaller
loop-next-smaller c = loop_falls _ _ _ _ _ c.loop-next.invariant _ _ _ (rw c.in-Some.is at c.in_ok-next.ensures)

pub loop-next-preserved : goal.loop-next-preserved
loop-next-preserved c = loop_on _ _ _ _ _ c.loop-next.invariant _ _ _ (rw c.in-Some.is at c.in_ok-next.ensures)

pub returns-in_err-next : goal.returns-in_err-next
returns-in_err-next c =
    let told : c.from_residual.result ≡ Err c.in_err-next.field-0.0 = search rules in
    let all = loop_refused _ _ _ _ _ c.loop-next.invariant _ _ _ c.in_err-next.ensures in
    rw told (record { answer = all.0; table = all.1 })

pub returns : goal.returns
returns c =
    let all = loop_done _ _ _ _ _ c.loop-next.invariant _ _ (rw c.in_default.is at c.in_ok-next.ensures) in
    record { answer = all.0; table = all.1 }
