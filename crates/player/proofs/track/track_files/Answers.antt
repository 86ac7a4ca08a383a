-- `track_files` meets its contract. Assumes nothing.
use Rattle.player.proofs.TrackCalls.{with_is}
use Rattle.player.proofs.track.track_files.Goals as goal

pub returns : goal.returns
returns c =
    let play-with = c.play_with in
    let a = c.args in
    let all = with_is a.domain.now a.instance.now a.run.now a.work.now play-with.result _ (play-with.ensures.answer, play-with.ensures.work) in record { answer = all.0; work = all.1 }
