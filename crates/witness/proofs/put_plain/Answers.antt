-- `put_plain` meets its contract. Assumes nothing.
use native.Mathlib.Omega.{arith}
use Rattle.witness.proofs.Shown.{plain_short, plain_shown, given}
use Rattle.witness.proofs.put_plain.Goals as goal

pub returns-then-out-k : goal.returns-then-out-k
returns-then-out-k c D a j number A R t =
    let s = c in
    let k = c.count_conditions-k in
    plain_short (given s.args.m A s.requires.rowed c.usages_at.ensures.usages) R k.result k.ensures.number
    s.args.out.now t (omega arith)

pub returns : goal.returns
returns c D a j number A R t =
    let back8 = c in
    let s = back8 in
    let k = c.count_conditions-k in
    let w = c.put_conditions in
    plain_shown (given s.args.m A s.requires.rowed back8.usages_at.ensures.usages) R k.result k.ensures.number s.args.out.now t
    (omega arith) w.new.out w.ensures
