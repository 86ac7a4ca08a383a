use mathlib.Core.Path.{◌≡◌, refl, sym, ap, ◌∙◌, subst}
use mathlib.Core.List.{List, [], ◌∷◌, ◌++◌}
use Prim.Native.Nat.{ℕ, ◌+◌, ◌≤◌}
use native.Mathlib.Omega.{arith}
use lib.ListN.{length}
use Rattle.records.specs.Memory.{over}
use Rattle.literals.specs.Held.{rows_in}
use Rattle.events.specs.Held.{max_ground, ground_at, ground_in}
use Rattle.effects.specs.Held.{effects_in, literals_in, rows_of_usage, flat}
use Rattle.effects.proofs.FilledRows.{effects_length, literals_length, filled_rows}
use Rattle.effects.proofs.EffectRows.{effects_begin, effects_room, effects_more, filled_count}
use Rattle.effects.proofs.step_effects.Goals as goal

pub loop-i-init : goal.loop-i-init
loop-i-init c =
    let a = c.args in
    let p = c.requires in
    let scratch = a.scratch.now in
    let size = effects_length scratch p.scratch in
    let room = p.room in
    let F = effects_begin a.usage (literals_in scratch) a.at (effects_in scratch) (omega arith) in
    record { reach = omega arith; count = filled_count a.at (effects_in scratch) _ F; sized = refl; filled = F; literals = refl }

pub put_effect-n-requires : goal.put_effect-n-requires
put_effect-n-requires c =
    let a = c.args in
    let p = c.requires in
    let l = c.loop-i in
    let v = l.invariant in
    let old = literals_in a.scratch.now in
    let reach = v.reach in
    let room = effects_room a.usage old (literals_length a.scratch.now p.scratch) [] a.at a.total l.i l.n (omega arith)
    p.room v.count in record {
      scratch = v.sized ∙ p.scratch;
      literal = omega arith;
      room = subst (λ (t : List ℕ). l.n + length (rows_of_usage a.usage (ground_at t l.i ∷ [])) ≤ max_ground) (sym
          v.literals) room;
    }

pub loop-i-preserved : goal.loop-i-preserved
loop-i-preserved c =
    let a = c.args in
    let p = c.requires in
    let l = c.loop-i in
    let v = l.invariant in
    let scratch = a.scratch.now in
    let lits = literals_in scratch in
    let out = effects_in l.scratch in
    let whole = literals_length scratch p.scratch in
    let r = c.put_effect-n.ensures in
    let count = r.count ∙ ap (λ (t : List ℕ). l.n + length (rows_of_usage a.usage (ground_at t l.i ∷ []))) v.literals in
    let rows = r.rows
    ∙ ap (λ (t : List ℕ). over (flat (rows_in l.n out ++ rows_of_usage a.usage (ground_at t l.i ∷ []))) out) v.literals in
    let room = effects_room a.usage lits whole [] a.at a.total l.i l.n (omega arith) p.room v.count in
    let size = effects_length scratch p.scratch in
    let F = effects_more a.usage lits whole (rows_in a.at (effects_in scratch)) l.i l.n (omega arith) (omega arith)
    v.filled count rows in
    record {
      reach = omega arith;
      count = filled_count a.at (effects_in scratch) _ F;
      sized = c.put_effect-n.auto.scratch ∙ v.sized;
      filled = F;
      literals = r.literals ∙ v.literals;
    }

pub shape_of-scratch : goal.shape_of-scratch
shape_of-scratch c = c.loop-i.invariant.sized

pub returns : goal.returns
returns c =
    let a = c.args in
    let l = c.loop-i in
    let v = l.invariant in
    let reach = v.reach in
    let lits = literals_in a.scratch.now in
    let e : l.i ≡ a.total = omega arith in record {
      count = v.count ∙ ap (λ (i : ℕ). a.at + length (rows_of_usage a.usage (ground_in i lits))) e;
      rows = filled_rows v.filled
          ∙ ap (λ (i : ℕ). rows_in a.at (effects_in a.scratch.now) ++ rows_of_usage a.usage (ground_in i lits)) e;
      literals = v.literals;
    }
