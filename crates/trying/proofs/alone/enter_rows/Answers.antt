use mathlib.Core.Path.{◌≡◌}
use native.Mathlib.Omega.{arith}
use Rattle.trying.proofs.Loops.{enter_more}
use Rattle.trying.proofs.alone.enter_rows.Goals as goal

pub loop-i-init : goal.loop-i-init
loop-i-init c = (omega arith, λ z S. z)

pub loop-i-preserved : goal.loop-i-preserved
loop-i-preserved c =
    let a = c.args in
    let l = c.loop-i in (
      omega arith,
      enter_more a.head.now a.rows.now a.index.now l.index c.enter.new.index l.i l.invariant.1 c.enter.ensures.indexed,
    )

pub returns : goal.returns
returns c =
    let l = c.loop-i in
    let e : l.i ≡ c.args.n = omega arith in
    rw e at l.invariant.1
