-- `play_in` meets its contract. Assumes nothing.
use mathlib.Core.Path.{refl, ◌∙◌}
use Rattle.reading.proofs.Domains.{opened, refusal_is}
use Rattle.verdict.proofs.Decodes.{decoded_well_formed}
use Rattle.run_semantics.specs.Play.{play_run}
use Rattle.player.proofs.TrackCalls.{with_refused, with_small, with_none, with_one}
use Rattle.player.proofs.play.play_in.Goals as goal

pub read_domain-requires : goal.read_domain-requires
read_domain-requires g c = record { cleared = refl; enough = c.requires.enough }

pub returns-in-Err : goal.returns-in-Err
returns-in-Err g c =
    let a = c.args in
    let u = rw c.number.ensures at c.unplayed.ensures in
    let e = with_refused a.domain.now a.instance.now a.run.now a.work.now a.given _ (refusal_is a.domain.now _ _ _ c.in-Err.ensures.answer) in
    record { answer = (λ i. record { played = u i; total = 0 }) ∙ e.0; work = e.1 }

pub returns-then-room-lt-WORK : goal.returns-then-room-lt-WORK
returns-then-room-lt-WORK g c =
    let a = c.args in
    let o = opened a.domain.now _ _ c.in_default.ensures.answer in
    let e = with_small a.domain.now a.instance.now a.run.now a.work.now o.said o.decoded a.given
    c.if-room-lt-WORK.true in
    record { answer = (λ i. record { played = c.unplayed-then-room-lt-WORK.ensures i; total = 0 }) ∙ e.0; work = e.1 }

pub track_run-requires : goal.track_run-requires
track_run-requires g c =
    let o = opened c.args.domain.now _ _ c.in_default.ensures.answer in
    record { domain = (o.said, o.held); room = c.if-room-lt-WORK.false }

pub returns-then-given : goal.returns-then-given
returns-then-given g c =
    let track-run = c.track_run in
    let a = c.args in
    let o = opened a.domain.now _ _ c.in_default.ensures.answer in
    let e = track-run.ensures o.said o.held (decoded_well_formed a.domain.now o.said o.decoded) in
    let all = with_one a.domain.now a.instance.now a.run.now a.work.now o.said o.decoded
    c.if-room-lt-WORK.false a.given
    c.if-given.true
    track-run.result e.0 _ e.1 in record { answer = all.0; work = all.1 }

pub play_run-ended-requires : goal.play_run-ended-requires
play_run-ended-requires g c =
    let o = opened c.args.domain.now _ _ c.in_default.ensures.answer in
    record { domain = (o.said, o.held); room = c.if-room-lt-WORK.false; agenda = refl }

pub returns : goal.returns
returns g c =
    let a = c.args in
    let o = opened a.domain.now _ _ c.in_default.ensures.answer in
    let e = c.play_run-ended.ensures o.said o.held in
    let b = c.answer_by in
    let all = with_none a.domain.now a.instance.now a.run.now a.work.now o.said o.decoded c.if-room-lt-WORK.false
    a.given c.if-given.false
    b.result (b.ensures (play_run o.said a.run.now) e.0) _ e.1 in record { answer = all.0; work = all.1 }
