use mathlib.Core.Path.{◌≡◌, ap, ◌∙◌}
use native.Mathlib.Omega.{arith}
use Rattle.templates.specs.Held.{rows_of_relation}
use Rattle.templates.proofs.Narrowed.{keeping_none, keeping_length, keeping_all, keeping_more}
use Rattle.templates.proofs.deciding.rows_of_relation.Goals as goal

pub loop-j-init : goal.loop-j-init
loop-j-init c = let a = c.args in (omega arith, keeping_none a.rows.now a.relation a.kept.now)

pub keep_row-k-requires : goal.keep_row-k-requires
keep_row-k-requires c =
    let l = c.loop-j in
    let p = c.requires in
    let f = l.invariant.1.few in
    let q = keeping_length l.invariant.1 (omega arith) in
    record { row = omega arith; room = omega arith }

pub loop-j-preserved : goal.loop-j-preserved
loop-j-preserved c =
    let back8 = c in
    let k = c.keep_row-k.ensures in
    let p = back8.requires in
    (omega arith, keeping_more c.loop-j.invariant.1 (omega arith) k.count k.rows)

pub shape_of-kept : goal.shape_of-kept
shape_of-kept c =
    let l = c.loop-j in
    let p = c.requires in
    let f = l.invariant.1.few in
    let h = l.invariant.0 in
    keeping_length l.invariant.1 (omega arith)

pub returns : goal.returns
returns c =
    let a = c.args in
    let l = c.loop-j in
    let f = l.invariant.1.few in
    let h = l.invariant.0 in
    let e : l.j ≡ a.n = omega arith in
    record { few = omega arith; rows = keeping_all l.invariant.1 ∙ ap (rows_of_relation a.rows.now a.relation) e }
