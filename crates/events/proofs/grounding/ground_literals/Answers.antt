use mathlib.Core.Path.{◌≡◌, refl, ap, ◌∙◌}
use mathlib.Core.List.{◌++◌}
use Prim.Native.Nat.{ℕ}
use native.Mathlib.Omega.{arith}
use Rattle.literals.specs.Held.{rows_in}
use Rattle.events.specs.Held.{row_literals, ground_in}
use Rattle.events.proofs.GroundLiterals.{rows_begin, rows_more, rows_few}
use Rattle.events.proofs.grounding.ground_literals.Goals as goal

pub loop-i-init : goal.loop-i-init
loop-i-init c =
    let a = c.args in
    let first = ground_in a.at a.memory.now in
    record {
      reach = omega arith;
      sized = refl;
      literals = rows_begin a.time a.head.now a.act.now first a.rows.now;
      counts = refl;
    }

pub ground_literal-n-requires : goal.ground_literal-n-requires
ground_literal-n-requires c =
    let a = c.args in
    let p = c.requires in
    let l = c.loop-i in
    let f = (rows_few a.time a.head.now a.act.now a.rows.now l.i a.at a.memory.now _ l.n
    l.invariant.literals).1 in
    let s = l.invariant.sized in
    record { memory = omega arith; room = omega arith; bound = p.bound; literal = omega arith }

pub loop-i-preserved : goal.loop-i-preserved
loop-i-preserved c =
    let back8 = c in
    let ground-literal = c.ground_literal-n in
    let a = back8.args in
    let l = c.loop-i in
    let first = ground_in a.at a.memory.now in
    let r = ground-literal.ensures in
    record {
      reach = omega arith;
      sized = ground-literal.auto.memory ∙ l.invariant.sized;
      literals = rows_more a.time a.head.now a.act.now first a.rows.now l.i l.invariant.literals r.literals;
      counts = r.counts ∙ l.invariant.counts;
    }

pub shape_of-memory : goal.shape_of-memory
shape_of-memory c = c.loop-i.invariant.sized

pub returns : goal.returns
returns c =
    let a = c.args in
    let l = c.loop-i in
    let g = l.invariant.reach in
    let e : l.i ≡ a.k = omega arith in
    let first = ground_in a.at a.memory.now in record { literals = l.invariant.literals ∙ ap (λ (i : ℕ). first ++ row_literals a.time a.head.now a.act.now (rows_in i a.rows.now)) e; counts = l.invariant.counts }
