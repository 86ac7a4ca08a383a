-- `belongs_by` meets its contract: no journey, or the fact of its true condition. Assumes nothing.
use mathlib.Core.Path.{◌≡◌, sym, ap, ◌∙◌}
use Prim.Native.Nat.{ℕ, ◌-◌, ◌*◌}
use native.Mathlib.Omega.{arith}
use lib.ListN.{take, drop}
use Rattle.literals.specs.Domain.{action}
use Rattle.events.specs.Held.{bound_row}
use Rattle.journeys.specs.Held.{journey_mark}
use Rattle.journeys.proofs.Belonging.{mark_none, mark_inside, belongs_is, belongs_none, rows_length}
use Rattle.journeys.proofs.belongs_by.Goals as goal

pub returns-in_default-clause-counts : goal.returns-in_default-clause-counts
returns-in_default-clause-counts c D g y class A G ge sized re h m =
    let k = c.from.ensures in
    let none = c.in_default.ensures in
    let z : c.args.mark ≡ 0 = omega arith in
    belongs_none _ _ (mark_none D _ A class h (sym m ∙ z))

pub returns-then-rows-literal-clause-counts : goal.returns-then-rows-literal-clause-counts
returns-then-rows-literal-clause-counts c D g y class A G ge sized re h m =
    let k = c.from.ensures in
    let some = c.in-Some.ensures in
    let l = mark_inside D _ A class h (λ z. let e = m ∙ z in omega arith) in
    let n = rows_length A in
    let t = c.if-rows-literal.true in
    absurd (omega arith)

pub returns-clause-counts : goal.returns-clause-counts
returns-clause-counts c D g y class A G ge sized re h m =
    let x = c.args in
    let k = c.from.ensures in
    let some = c.in-Some.ensures in
    let e : c.in-Some.literal ≡ journey_mark D (action D g.action) class - 1 = some.1 ∙ ap (λ (k : ℕ). k - 1) (k ∙ m) in
    belongs_is g A G y sized class h (λ z. let e = m ∙ z in omega arith) x.act.now _ c.bound_row-fact.result c.weight_at.result ge re
    (c.bound_row-fact.ensures ∙ ap (λ (j : ℕ). bound_row x.head.now x.act.now (take 8 (drop (8 * j) x.rows.now))) e)
    c.weight_at.ensures
