-- `play` meets its contract. Assumes nothing.
use mathlib.Core.Path.{◌∙◌}
use Rattle.player.proofs.PlayCalls.{number_is, place_is, steps_is, weight_is, file_is, offset_is, part_is, as_machine, stays_low}
use Rattle.player.proofs.play.play.Goals as goal

pub returns : goal.returns
returns c =
    let args = c.args in
    let d = args.domain.now in
    let r = args.run.now in
    let w = args.work.now in
    let f = c.play_files-told in
    let e = f.ensures.answer in
    let number = number_is d r w f.result e in
    let place = place_is d r w f.result e in
    let steps = steps_is d r w f.result e in
    let weight = weight_is d r w f.result e in record { number = number; place = place; steps = steps; weight = weight; file = c.file_of-file.ensures ∙ file_is d r w f.result e; offset = c.offset_of-at.ensures ∙ offset_is d r w f.result e; part = part_is d r w f.result e _ c.part.ensures; work = f.ensures.work; machine = as_machine d r w _ _ _ _ _ number place steps weight f.ensures.work; low = stays_low d r w _ weight }
