-- `judging::judge_in` meets its contract. Assumes nothing.
use native.Mathlib.Omega.{arith}
use Rattle.reading.proofs.Domains.{opened, refusal_is}
use Rattle.verdict.proofs.Decodes.{decoded_well_formed}
use Rattle.judging.proofs.FileCalls.{leaves_refused, leaves_read}
use Rattle.judging.proofs.judge_in.Goals as goal

pub returns-in-Err : goal.returns-in-Err
returns-in-Err c = leaves_refused _ (refusal_is c.args.file.now _ _ _ c.in-Err.ensures.answer) (rw c.number.ensures at c.at.ensures)

pub judge_with-requires : goal.judge_with-requires
judge_with-requires c =
    let pre = c.requires in
    let o = opened c.args.file.now _ _ c.in_default.ensures.answer in
    let same = c.read_domain.auto.table in
    let first = pre.numbers in
    let room = pre.room in
    record { read = (o.said, o.held); numbers = omega arith; room = omega arith }

pub returns : goal.returns
returns c =
    let file = c.args.file.now in
    let o = opened file _ _ c.in_default.ensures.answer in
    leaves_read o.said o.decoded (c.judge_with.ensures o.said o.held (decoded_well_formed file o.said o.decoded))
