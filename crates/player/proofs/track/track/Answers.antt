-- `track` meets its contract. Assumes nothing.
use mathlib.Core.Path.{◌∙◌}
use Rattle.run_semantics.proofs.Tracked.{as_played, total_of_run, nothing_gained}
use Rattle.player.proofs.TrackCalls.{told_number, told_place, told_steps, told_weight, told_total, told_file, told_offset, told_part}
use Rattle.player.proofs.track.track.Goals as goal

pub returns : goal.returns
returns c =
    let args = c.args in
    let d = args.domain.now in
    let y = args.instance.now in
    let r = args.run.now in
    let w = args.work.now in
    let f = c.track_files-told in
    let t = f.result in
    let e = f.ensures.answer in
    let total = told_total d y r w t e in record { number = told_number d y r w t e; place = told_place d y r w t e; steps = told_steps d y r w t e; weight = told_weight d y r w t e; total = total; file = c.file_of-file.ensures ∙ told_file d y r w t e; offset = c.offset_of-at.ensures ∙ told_offset d y r w t e; part = told_part d y r w t e _ c.part.ensures; work = f.ensures.work; same = as_played d y r w; last = total_of_run d y r w _ total; gained = nothing_gained d y r w _ total }
