-- `play_run` meets its contract. Assumes nothing.
use mathlib.Core.Path.{refl}
use Prim.Native.Nat.{ℕ}
use native.Mathlib.Omega.{arith}
use lib.ListN.{length-replicate}
use Rattle.effects.specs.Held.{scratch_bytes}
use Rattle.player.proofs.PlayLoop.{cleared, cleared_again}
use Rattle.player.proofs.run.play_run.Goals as goal

pub play_records-requires : goal.play_records-requires
play_records-requires c =
    let old = c.args.work.now in
    let p = c.requires in
    let put = c.put_bytes in
    let long = put.auto.out in
    let room = p.room in
    record { domain = p.domain; room = omega arith; no_fact = cleared_again old _ (cleared old _ put.ensures); index = refl; agenda = p.agenda; scratch = length-replicate {A = ℕ} scratch_bytes 0 }

pub returns : goal.returns
returns c D H =
    let old = c.args.work.now in
    c.play_records.ensures D old H
    (cleared old _ c.put_bytes.ensures)
