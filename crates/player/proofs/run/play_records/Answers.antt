use mathlib.Core.Path.{refl, ap, ◌∙◌}
use Prim.Native.Nat.{ℕ}
use lib.ListN.{length, length-replicate}
use Rattle.std.specs.Prelude.{Ok, Err}
use Rattle.events.specs.Held.{agenda_bytes, agenda_open}
use Rattle.player.specs.declared.run.Ended.{Ended}
use Rattle.player.specs.Held.{whole_in, turn_in}
use Rattle.player.proofs.PlayTurns.{ending_some}
use Rattle.player.proofs.PlayLoop.{begins, playable, loop_on, loop_falls, loop_ends}
use Rattle.player.proofs.run.play_records.Goals as goal

pub loop-next-init : goal.loop-next-init
loop-next-init c =
    let a = c.args in (
      refl,
      refl,
      refl,
      λ D old H clear zeros e.
          begins D a.head.now a.run.now old a.work.now a.index.now (whole_in c.new-player.result a.agenda.now)
          (rw e c.new-player.ensures) clear zeros,
    )

pub step-requires : goal.step-requires
step-requires c =
    let p = c.requires in
    let a = c.args in
    let l = c.loop-next in record {
      playable = playable p.domain p.room a.run.now (whole_in l.player l.agenda) l.work l.index
          (l.invariant.3 p.domain.0 a.work.now p.domain.1 p.no_fact p.index p.agenda);
      memory = record {
        agenda_length = l.invariant.1 ∙ ap length p.agenda ∙ length-replicate {A = ℕ} agenda_bytes 0;
        scratch_length = l.invariant.2 ∙ p.scratch;
      };
    }

pub loop-next-smaller : goal.loop-next-smaller
loop-next-smaller c =
    let p = c.requires in
    let a = c.args in
    let l = c.loop-next in
    let s = c.step in
    loop_falls p.domain.0 p.domain.1.says.bounded a.run.now a.work.now (whole_in l.player l.agenda) l.work
    (l.invariant.3 p.domain.0 a.work.now p.domain.1 p.no_fact p.index p.agenda)
    (turn_in (Ok c.in-Ok.next) s.new.agenda) _ _ (λ q o st noted. c.in-Ok.ensures.leads p.domain.0 q o p.domain.1 st noted)
    (λ q o st noted. c.in-Ok.ensures.noted p.domain.0 q o p.domain.1 st noted) refl

pub loop-next-preserved : goal.loop-next-preserved
loop-next-preserved c =
    let a = c.args in
    let l = c.loop-next in
    let s = c.step in (
      s.auto.work ∙ l.invariant.0,
      s.auto.agenda ∙ l.invariant.1,
      s.auto.scratch ∙ l.invariant.2,
      λ D old H clear zeros e.
          loop_on D H.says.bounded a.run.now old (whole_in l.player l.agenda) l.work
          (l.invariant.3 D old H clear zeros e) (turn_in (Ok c.in-Ok.next) s.new.agenda) _ _
          (λ q o st noted. c.in-Ok.ensures.leads D q o H st noted) (λ q o st noted. c.in-Ok.ensures.noted D q o H st noted) refl,
    )

pub returns-in-Err : goal.returns-in-Err
returns-in-Err c D old H clear =
    let p = c.requires in
    let a = c.args in
    let l = c.loop-next in
    let s = c.step in
    let x = c.in-Err in
    let b = c.ended_by in
    let e = loop_ends D H.says.bounded a.run.now old (whole_in l.player l.agenda) l.work
    (l.invariant.3 D old H clear p.index p.agenda) (turn_in (Err x.over) s.new.agenda) _ _
    (λ q o st noted. x.ensures.leads D q o H st noted) (λ q o st noted. x.ensures.noted D q o H st noted) (ending_some _)
    b.result b.ensures in
    (e.0, e.1, ap (λ (x : Ended). agenda_open x.opened s.new.agenda) b.ensures ∙ e.2)
