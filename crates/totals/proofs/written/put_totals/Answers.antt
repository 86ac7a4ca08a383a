-- `written::put_totals` meets its contract: one total after the other. Assumes nothing.
use mathlib.Core.Path.{refl, ap, ◌∙◌}
use mathlib.Core.List.{List}
use Prim.Native.Nat.{ℕ, ◌*◌}
use native.Mathlib.Omega.{arith}
use lib.ListN.{get_or}
use lib.Seq.{take_all}
use Rattle.std.specs.Int.{w64, to_le_bytes}
use Rattle.std.proofs.lemmas.Slice.{put_mid-paste}
use Rattle.records.specs.Memory.{over}
use Rattle.totals.specs.Totals.{total_bytes}
use Rattle.totals.proofs.Walks.{none_written, one_written}
use Rattle.totals.proofs.written.put_totals.Goals as goal

pub loop-n-init : goal.loop-n-init
loop-n-init c = none_written c.args.totals.now c.args.out.now

pub loop-n-preserved : goal.loop-n-preserved
loop-n-preserved c =
    let n = c.loop-n.n in
    let ts = c.args.totals.now in
    put_mid-paste (8 * n) _ c.loop-n.out c.copy_from_slice.new.self (to_le_bytes w64 (get_or ts n 0)) 8
    (c.copy_from_slice.ensures.after ∙ c.to_le_bytes.ensures) (omega arith) refl
    ∙ one_written ts c.args.out.now c.loop-n.out n (omega arith) c.loop-n.invariant

pub returns : goal.returns
returns c = c.loop-n.invariant ∙ ap (λ (l : List ℕ). over (total_bytes l) c.args.out.now) (take_all c.loop-n.n c.args.totals.now (omega arith))
