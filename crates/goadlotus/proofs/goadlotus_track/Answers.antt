-- `goadlotus_track` meets its contract: what `player::track::track_files` promises, with the answer's parts each in its place. Assumes
-- nothing.
use mathlib.Core.Path.{◌∙◌}
use Rattle.run_semantics.proofs.Tracked.{as_played, total_of_run, nothing_gained}
use Rattle.player.proofs.TrackCalls.{told_number, told_place, told_steps, told_weight, told_total, told_file, told_offset}
use Rattle.goadlotus.proofs.goadlotus_track.Goals as goal

pub returns : goal.returns
returns c =
    let back8 = c in
    let a = back8.args in
    let d = a.domain.now in
    let y = a.instance.now in
    let r = a.run.now in
    let w = a.work.now in
    let f = c.track_files-told in
    let t = f.result in
    let e = f.ensures.answer in
    let total = told_total d y r w t e in record { number = told_number d y r w t e; place = told_place d y r w t e; steps = told_steps d y r w t e; weight = told_weight d y r w t e; total = total; work = f.ensures.work; file = c.file_of.ensures ∙ told_file d y r w t e; offset = c.offset_of.ensures ∙ told_offset d y r w t e; same = as_played d y r w; last = total_of_run d y r w _ total; gained = nothing_gained d y r w _ total }
