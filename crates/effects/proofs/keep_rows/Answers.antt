use mathlib.Core.Path.{◌≡◌, refl, sym, ap, ◌∙◌, subst}
use mathlib.Core.List.{List}
use Prim.Native.Nat.{ℕ, ◌-◌, ◌*◌, ◌≤◌}
use native.Mathlib.Omega.{arith}
use lib.ListN.{length, drop, length-drop}
use lib.Seq.{length-take-le}
use Rattle.records.specs.Lists.{any}
use Rattle.literals.specs.Held.{rows_in}
use Rattle.events.specs.Held.{is_pattern}
use Rattle.run_semantics.specs.RunFile.{max_facts}
use Rattle.effects.specs.Held.{effects_in, scratch_bytes, Marked, struck_of, FirstStruck}
use Rattle.effects.proofs.FilledRows.{filled_length}
use Rattle.effects.proofs.IndexedRows.{keeping_effects, keeping_begin, keeping_count, keeping_rows, keeping_indexed}
use Rattle.effects.proofs.KeptRuns.{gone_count, keeping_run, keeping_struck}
use Rattle.effects.proofs.keep_rows.Goals as goal

room_of : (scratch : List ℕ) (n : ℕ) → n ≤ max_facts → length scratch ≡ scratch_bytes → 8 * n ≤ length scratch
room_of scratch n few room = omega arith

pub loop-next-init : goal.loop-next-init
loop-next-init c =
    let a = c.args in
    keeping_begin (rows_in a.m (effects_in a.scratch.now)) a.work.now a.n a.head.now a.scratch.now a.index.now

pub slice_bounds-struck_from-end : goal.slice_bounds-struck_from-end
slice_bounds-struck_from-end c =
    let l = filled_length c.loop-next.invariant.filled in
    let p = c.requires.scratch in
    omega arith

pub struck_from-requires-clause-marked : goal.struck_from-requires-clause-marked
struck_from-requires-clause-marked c =
    let t = keeping_effects c.loop-next.invariant c.requires.few in
    subst (λ (t : List ℕ). Marked c.put_marks.new.marks (rows_in c.args.m t)) (sym t) c.put_marks.ensures

pub struck_from-requires-clause-gone : goal.struck_from-requires-clause-gone
struck_from-requires-clause-gone c =
    let K = c.loop-next.invariant in
    gone_count K ∙ ap (λ (t : List ℕ). struck_of (rows_in c.args.m t) c.args.work.now c.loop-next.i) (sym (keeping_effects K c.requires.few))

pub struck_from-requires-clause-told : goal.struck_from-requires-clause-told
struck_from-requires-clause-told c =
    let t = keeping_effects c.loop-next.invariant c.requires.few in
    c.has_pattern-patterns.ensures ∙ ap (λ (t : List ℕ). any is_pattern (rows_in c.args.m t)) (sym t)

pub copy_bytes-requires : goal.copy_bytes-requires
copy_bytes-requires c =
    let work = c.args.work.now in
    let p = c.requires in
    let w = p.rows in
    let o = p.scratch in
    let n = p.few in
    let K = c.loop-next.invariant in
    let b = c.in-Some.ensures.first.behind in
    let e = c.in-Some.ensures.first.within in
    let f = K.few in
    let l = filled_length K.filled in
    let d = length-drop (8 * c.loop-next.i) work in
    let t = length-take-le (8 * c.in-Some.next - 8 * c.loop-next.i) (drop (8 * c.loop-next.i) work) (omega arith) in
    omega arith

pub leave-requires : goal.leave-requires
leave-requires c =
    let w = c.requires.rows in
    let i = c.in-Some.ensures.inside in
    omega arith

pub loop-next-smaller : goal.loop-next-smaller
loop-next-smaller c =
    let b = c.in-Some.ensures.first.behind in
    let i = c.in-Some.ensures.inside in
    omega arith

pub loop-next-preserved : goal.loop-next-preserved
loop-next-preserved c =
    let a = c.args in
    let p = c.requires in
    let K = c.loop-next.invariant in
    keeping_struck K c.in-Some.next
    (subst (λ (t : List ℕ). FirstStruck (rows_in a.m t) a.work.now a.n c.loop-next.i c.in-Some.next) (keeping_effects K p.few) c.in-Some.ensures.first)
    p.rows (room_of a.scratch.now a.n p.few p.scratch) refl c.copy_bytes.ensures c.in-Some.ensures.inside c.leave.ensures.indexed c.leave.ensures.beside

pub copy_bytes-requires-2 : goal.copy_bytes-requires-2
copy_bytes-requires-2 c =
    let work = c.args.work.now in
    let p = c.requires in
    let w = p.rows in
    let o = p.scratch in
    let n = p.few in
    let K = c.loop-next.invariant in
    let r = K.reach in
    let f = K.few in
    let l = filled_length K.filled in
    let d = length-drop (8 * c.loop-next.i) work in
    let t = length-take-le (8 * c.args.n - 8 * c.loop-next.i) (drop (8 * c.loop-next.i) work) (omega arith) in
    omega arith

pub shape_of-scratch : goal.shape_of-scratch
shape_of-scratch c = c.copy_bytes-2.auto.out ∙ filled_length c.loop-next.invariant.filled

-- behind the last row that is struck all stay
pub returns-clause-count : goal.returns-clause-count
returns-clause-count c =
    let a = c.args in
    let p = c.requires in
    let K = c.loop-next.invariant in
    keeping_count
    (keeping_run K a.n (subst (λ (t : List ℕ). FirstStruck (rows_in a.m t) a.work.now a.n c.loop-next.i a.n) (keeping_effects K p.few) c.in_default.ensures.first)
    p.rows (room_of a.scratch.now a.n p.few p.scratch) refl c.copy_bytes-2.ensures)
    refl

pub returns-clause-rows : goal.returns-clause-rows
returns-clause-rows c =
    let a = c.args in
    let p = c.requires in
    let K = c.loop-next.invariant in
    keeping_rows
    (keeping_run K a.n (subst (λ (t : List ℕ). FirstStruck (rows_in a.m t) a.work.now a.n c.loop-next.i a.n) (keeping_effects K p.few) c.in_default.ensures.first)
    p.rows (room_of a.scratch.now a.n p.few p.scratch) refl c.copy_bytes-2.ensures)
    refl

pub returns-clause-indexed : goal.returns-clause-indexed
returns-clause-indexed c =
    let a = c.args in
    let p = c.requires in
    let K = c.loop-next.invariant in
    keeping_indexed
    (keeping_run K a.n (subst (λ (t : List ℕ). FirstStruck (rows_in a.m t) a.work.now a.n c.loop-next.i a.n) (keeping_effects K p.few) c.in_default.ensures.first)
    p.rows (room_of a.scratch.now a.n p.few p.scratch) refl c.copy_bytes-2.ensures)
    refl
