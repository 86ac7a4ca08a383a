use mathlib.Core.Path.{◌≡◌, ap, ◌∙◌, subst}
use mathlib.Core.List.{List}
use Prim.Native.Nat.{ℕ, ◌+◌, ◌*◌, ◌≤◌}
use native.Mathlib.Omega.{arith}
use lib.ListN.{length, drop, length-drop}
use Rattle.std.proofs.Common.{rules}
use Rattle.literals.specs.Held.{rows_in}
use Rattle.run_semantics.specs.Play.{work_bytes}
use Rattle.run_semantics.specs.RunFile.{max_facts}
use Rattle.effects.specs.Held.{effects_in, scratch_bytes, count_of, HoldsJoined}
use Rattle.effects.proofs.FilledRows.{effects_length, told_few, joined_of}
use Rattle.effects.proofs.IndexedRows.{Joining, joined_turn, joining_begin, joining_stop, joining_more, joining_all}
use Rattle.effects.proofs.join_rows.Goals as goal

room_of : (scratch : List ℕ) → length scratch ≡ scratch_bytes → work_bytes ≤ length scratch
room_of scratch l = omega arith

adds_of : (scratch : List ℕ) (from m : ℕ) → from + m ≤ max_facts → length scratch ≡ scratch_bytes
    → 8 * m ≤ length (drop (8 * from) (effects_in scratch))
adds_of scratch from m few room =
    let l = effects_length scratch room in
    let d = length-drop (8 * from) (effects_in scratch) in
    omega arith

pub loop-j-init : goal.loop-j-init
loop-j-init c =
    let a = c.args in
    joining_begin (drop (8 * a.from) (effects_in a.scratch.now)) a.m a.count a.head.now a.scratch.now a.index.now
    c.requires.count (room_of a.scratch.now c.requires.scratch)

pub returns-in_err-n-clause-joined : goal.returns-in_err-n-clause-joined
returns-in_err-n-clause-joined c I S =
    let a = c.args in
    let p = c.requires in
    let l = c.loop-j in
    let K = l.invariant in
    let join = c.join_row in
    let r = join.ensures in
    let few = p.few in
    let t = c.loop-j-test.true in
    let J = joined_turn l.scratch a.scratch.now a.from l.j (K.room ∙ p.scratch) (omega arith) K.others
    (record { few = told_few l.n join.result K.most r.few; joined = r.joined; beside = r.beside; room = join.auto.scratch; others = r.others }) in
    let none : count_of join.result ≡ 1025 = ap count_of c.in_err-n.was in
    let same : count_of join.result ≡ count_of c.from_residual.result = search rules in
    subst (λ (n : ℕ). HoldsJoined a.head.now (joined_of (rows_in a.count a.scratch.now) (drop (8 * a.from) (effects_in a.scratch.now)) a.m) a.scratch.now n join.new.scratch join.new.index) same
    (joining_stop K t (adds_of a.scratch.now a.from a.m few p.scratch) (room_of a.scratch.now p.scratch) J I S (omega arith))

pub loop-j-preserved : goal.loop-j-preserved
loop-j-preserved c =
    let a = c.args in
    let p = c.requires in
    let l = c.loop-j in
    let K = l.invariant in
    let join = c.join_row in
    let r = join.ensures in
    let few = p.few in
    let t = c.loop-j-test.true in
    let J = joined_turn l.scratch a.scratch.now a.from l.j (K.room ∙ p.scratch) (omega arith) K.others
    (record { few = told_few l.n join.result K.most r.few; joined = r.joined; beside = r.beside; room = join.auto.scratch; others = r.others }) in
    let some : count_of join.result ≡ c.in_ok-n.n = ap count_of c.in_ok-n.was in
    let fits = c.in_ok-n.ensures.few.1 in
    subst (λ (n : ℕ). Joining (drop (8 * a.from) (effects_in a.scratch.now)) a.m a.count a.head.now a.scratch.now a.index.now join.new.scratch join.new.index n (l.j + 1)) some
    (joining_more K t (adds_of a.scratch.now a.from a.m few p.scratch) (room_of a.scratch.now p.scratch) J (omega arith))

pub returns-clause-joined : goal.returns-clause-joined
returns-clause-joined c =
    let K = c.loop-j.invariant in
    let r = K.reach in
    let t = c.loop-j-test.false in
    let e : c.loop-j.j ≡ c.args.m = omega arith in
    joining_all K e
