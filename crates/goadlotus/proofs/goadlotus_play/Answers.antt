-- `goadlotus_play` meets its contract: what `player::play::play_files` promises, with the answer's parts each in its place. Assumes nothing.
use mathlib.Core.Path.{◌∙◌}
use Rattle.player.proofs.PlayCalls.{number_is, place_is, steps_is, weight_is, file_is, offset_is, as_machine, stays_low}
use Rattle.goadlotus.proofs.goadlotus_play.Goals as goal

pub returns : goal.returns
returns c =
    let back8 = c in
    let a = back8.args in
    let d = a.domain.now in
    let r = a.run.now in
    let w = a.work.now in
    let f = c.play_files-answer in
    let e = f.ensures.answer in
    let n = number_is d r w f.result e in
    let s = steps_is d r w f.result e in
    let h = weight_is d r w f.result e in record { number = n; place = place_is d r w f.result e; steps = s; weight = h; work = f.ensures.work; file = c.file_of.ensures ∙ file_is d r w f.result e; offset = c.offset_of.ensures ∙ offset_is d r w f.result e; machine = as_machine d r w _ _ _ _ _ n (place_is d r w f.result e) s h f.ensures.work; low = stays_low d r w _ h }
