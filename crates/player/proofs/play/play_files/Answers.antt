-- `play_files` meets its contract. Assumes nothing.
use Rattle.player.proofs.TrackCalls.{without_is}
use Rattle.player.proofs.play.play_files.Goals as goal

pub returns : goal.returns
returns c =
    let a = c.args in
    let p = c.play_with-tracked in
    let all = without_is a.domain.now _ a.run.now a.work.now p.result _ (p.ensures.answer, p.ensures.work) in record { answer = all.0; work = all.1 }
