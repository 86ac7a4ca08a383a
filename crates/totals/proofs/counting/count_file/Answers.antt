-- `counting::count_file` meets its contract: with memory enough judging answers the file's decision and writes its rows. Assumes nothing.
use mathlib.Core.Path.{sym}
use Prim.Native.Nat.{◌+◌}
use native.Mathlib.Omega.{arith}
use lib.ListN.{length}
use lib.Seq.{length-take-le}
use Rattle.totals.proofs.Tallied.{room_less}
use Rattle.totals.proofs.Files.{number_below, names_known, names_room, end_within, filled, marks_counted}
use Rattle.totals.proofs.counting.count_file.Goals as goal

pub add_one-requires : goal.add_one-requires
add_one-requires c =
    let a = c.args in
    let asked = c.requires in
    let b = number_below a.file.now a.report.now a.witness.now asked.rows asked.facts asked.cleared c.judge-answer.ensures.answer in
    record { within = omega arith; room = room_less a.counts.now (1 + length a.file.now) 1 (omega arith) asked.room }

pub count_names-end-requires : goal.count_names-end-requires
count_names-end-requires c =
    let a = c.args in
    let asked = c.requires in
    let told = c.judge-answer.ensures in record {
      names = names_known a.file.now a.report.now a.witness.now asked.rows asked.facts asked.cleared told.reported;
      room = names_room a.file.now a.report.now a.witness.now asked.rows asked.facts asked.cleared
          told.reported told.answer a.counts.now (omega arith) c.add_one.ensures asked.room;
    }

pub slice_bounds-fill-end : goal.slice_bounds-fill-end
slice_bounds-fill-end c =
    let a = c.args in
    let asked = c.requires in
    let l = c.judge-answer.auto.report in
    let w = end_within a.file.now a.report.now a.witness.now asked.rows asked.facts asked.cleared c.judge-answer.ensures.reported
    c.count_names-end.ensures.rows in omega arith

pub slice_bounds-fill-end-2 : goal.slice_bounds-fill-end-2
slice_bounds-fill-end-2 c =
    let a = c.args in
    let asked = c.requires in
    let l = c.judge-answer.auto.report in
    let w = end_within a.file.now a.report.now a.witness.now asked.rows asked.facts asked.cleared c.judge-answer.ensures.reported
    c.count_names-end.ensures.rows in sym (length-take-le c.count_names-end.result c.judge-answer.new.report (omega arith))

pub returns : goal.returns
returns c =
    let a = c.args in
    let asked = c.requires in
    let told = c.judge-answer.ensures in
    let names = c.count_names-end.ensures in record {
      counted = marks_counted a.file.now a.report.now a.witness.now asked.rows asked.facts asked.cleared
          told.reported told.answer _ _ _ c.add_one.ensures names.counted;
      cleared = filled a.file.now a.report.now a.witness.now asked.rows asked.facts asked.cleared told.reported names.rows c.judge-answer.auto.report
          (c.fill.ensures.after (λ y e. e));
    }
