-- `take_record` meets its contract: an unknown kind adds nothing. Assumes nothing.
use mathlib.Core.Path.{◌≡◌}
use Rattle.std.specs.Prelude.{Err}
use Rattle.std.proofs.Common.{rules}
use Rattle.literals.specs.Faults.{at_start_of}
use Rattle.reading.proofs.Written.{unknown_taken, unknown_place}
use Rattle.reading.proofs.take.take_record.Goals as goal

pub returns-in_err-try_from-clause-number : goal.returns-in_err-try_from-clause-number
returns-in_err-try_from-clause-number c D old K =
    let e = c.in_err-try_from.ensures in
    let told : c.from_residual.result ≡ Err (at_start_of c.in_err-try_from.field-0.0) = search rules in
    rw told (unknown_taken D c.args.p.now c.args.kind e.1 K _ e.0)

pub returns-in_err-try_from-clause-place : goal.returns-in_err-try_from-clause-place
returns-in_err-try_from-clause-place c D H =
    let e = c.in_err-try_from.ensures in
    let told : c.from_residual.result ≡ Err (at_start_of c.in_err-try_from.field-0.0) = search rules in
    rw told (unknown_place D c.args.p.now c.args.kind e.1)
