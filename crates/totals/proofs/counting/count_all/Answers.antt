-- `counting::count_all` meets its contract: each file is counted, until none is in front. Assumes nothing.
use mathlib.Core.Path.{ap}
use native.Mathlib.Omega.{arith}
use lib.ListN.{length}
use Rattle.totals.proofs.Loops.{behind_length}
use Rattle.totals.proofs.Files.{walked_none, walked_end, file_room, walked_more}
use Rattle.totals.proofs.counting.count_all.Goals as goal

pub loop-file-init : goal.loop-file-init
loop-file-init c = walked_none c.args.packed.now c.args.report.now c.args.witness.now c.args.counts.now c.requires.none c.requires.cleared

pub count_file-requires : goal.count_file-requires
count_file-requires c =
    let p = c.requires in
    let l = c.loop-file.invariant in
    let s = c.in-Some.ensures in
    let r = l.rows in
    let f = l.facts in
    record { room = file_room l s.0 s.1 (omega arith); rows = (let h = p.rows in omega arith); facts = (let h = p.facts in omega arith); cleared = l.clear }

pub loop-file-smaller : goal.loop-file-smaller
loop-file-smaller c =
    let s = c.in-Some.ensures in
    let l = behind_length c.loop-file.rest.now s.0 in
    let e = ap length s.2 in omega arith

pub loop-file-preserved : goal.loop-file-preserved
loop-file-preserved c =
    let s = c.in-Some.ensures in
    let called = c.count_file in
    walked_more c.loop-file.invariant s.0 s.1 s.2 called.ensures.counted called.ensures.cleared called.auto.report called.auto.witness

pub returns : goal.returns
returns c = walked_end c.loop-file.invariant c.requires.whole c.in_default.ensures
