-- `track_run` meets its contract: stopped by the instance, before the start counts, or with the total. Assumes nothing.
use Rattle.records.proofs.Lists.{not_false, not_true}
use mathlib.Core.Path.{refl, sym, ap, ◌∙◌}
use Prim.Native.Nat.{ℕ}
use native.Mathlib.Omega.{arith}
use lib.ListN.{length-replicate}
use Rattle.events.specs.Held.{agenda_bytes}
use Rattle.run_semantics.specs.Play.{play_run}
use Rattle.run_semantics.proofs.Numbers.{numbered_stop}
use Rattle.player.specs.declared.run.Ended.{Ended}
use Rattle.player.proofs.Sound.{kept_run}
use Rattle.player.proofs.PlayLoop.{cleared}
use Rattle.player.proofs.TrackCalls.{stopped_answer, early_answer, total_answer, end_rows}
use Rattle.player.proofs.track.track_run.Goals as goal

pub put_zeros-requires : goal.put_zeros-requires
put_zeros-requires c = let r = c.requires.room in omega arith

pub returns-in-Err : goal.returns-in-Err
returns-in-Err c D H wf =
    let a = c.args in
    let e = c.in-Err in
    let n = c.number in
    stopped_answer D a.instance.now a.run.now n.result (n.ensures ∙ e.ensures D H.says) (λ z. numbered_stop e.stop (sym n.ensures ∙ z)) _
    a.work.now (cleared a.work.now _ c.put_zeros.ensures)

pub play_run-ended-requires : goal.play_run-ended-requires
play_run-ended-requires c =
    let p = c.requires in record { domain = p.domain; room = p.room; agenda = refl }

pub returns-then-not-ended : goal.returns-then-not-ended
returns-then-not-ended c D H wf =
    let play-run = c.play_run-ended in
    let a = c.args in
    let e = play-run.ensures D H in
    let z = sym (c.in_default.ensures D H.says) in
    early_answer D a.instance.now a.run.now z play-run.result e.0
    (not_true _ c.if-not-ended.true) c.answer_by.result
    (c.answer_by.ensures (play_run D a.run.now) e.0) _ a.work.now e.1

pub total_of-total-requires : goal.total_of-total-requires
total_of-total-requires c =
    let play-run = c.play_run-ended in
    let a = c.args in
    let p = c.requires in
    let D = p.domain.0 in
    let H = p.domain.1 in
    let e = play-run.ensures D H in
    let n = ap (λ (x : Ended). x.facts) e.0 in
    let k = (kept_run D H.says.bounded a.run.now).1.facts_few in
    let room = p.room in
    let l = play-run.auto.work in record {
      few = omega arith;
      facts = omega arith;
      agenda = play-run.auto.agenda ∙
          length-replicate {A = ℕ} agenda_bytes 0;
    }

pub returns : goal.returns
returns c D H wf =
    let play-run = c.play_run-ended in
    let total_of = c.total_of-total in
    let a = c.args in
    let e = play-run.ensures D H in
    let o = play_run D a.run.now in
    let z = sym (c.in_default.ensures D H.says) in
    let k = (kept_run D H.says.bounded a.run.now).1 in
    let n = ap (λ (x : Ended). x.facts) e.0 in
    total_answer D a.instance.now a.run.now z play-run.result e.0 (not_false _ c.if-not-ended.false)
    c.answer_by-2.result
    (c.answer_by-2.ensures o e.0) total_of.result
    (total_of.ensures D (record { facts = o.facts; running = o.running }) H wf
    (end_rows D H.says.bounded o.facts k.facts k.facts_few _ n _ a.work.now e.1) k.facts e.2 k.running k.running_few)
    _ a.work.now e.1
