-- `ground_base` meets its contract: the true conditions are those of the ground literals. Assumes nothing.
use mathlib.Core.Path.{sym, subst, ◌∙◌}
use mathlib.Core.List.{List, [], ◌∷◌}
use Prim.Native.Nat.{ℕ}
use native.Mathlib.Omega.{arith}
use borrow.Rule.Slice.PartMut.{put_mid, same_len_mid}
use Rattle.verdict.specs.Claims.{plain_event}
use Rattle.events.specs.Held.{grounded_bytes, Grounded}
use Rattle.effects.proofs.FilledRows.{literals_length, literals_put}
use Rattle.trying.proofs.Conditions.{rows_room, rows_few, base_held}
use Rattle.trying.proofs.alone.ground_base.Goals as goal

pub step_effects-held-requires : goal.step_effects-held-requires
step_effects-held-requires c =
    let a = c.args in
    let g = c.ground_plain-literals in
    let few = g.ensures.few in record { scratch = same_len_mid 0 grounded_bytes a.base.now g.new.memory g.auto.memory ∙ c.requires.base; total = omega arith; room = rows_room 1 g.result _ few }

pub returns : goal.returns
returns c =
    let back8 = c in
    let a = back8.args in
    let g = c.ground_plain-literals in
    let e = c.step_effects-held in
    let v = c.variables_of in
    let part = g.new.memory in
    let put = literals_put part _ (g.auto.memory ∙ literals_length a.base.now back8.requires.base) in record {
      few = (v.ensures.few, g.ensures.few, rows_few 1 g.result e.result _ g.ensures.few e.ensures.count);
      base = λ D H wf h.
          base_held D wf a.i h (record { variables = v.result; literals = g.result; held = e.result }) (put_mid 0 grounded_bytes a.base.now part)
          e.new.scratch
          (v.ensures.number ∙ H.says.variables a.i h)
          (subst (λ (t : List ℕ). Grounded D a.head.now (plain_event D a.i ∷ []) t g.result) (sym put) (g.ensures.grounded D H h))
          e.ensures.rows e.ensures.literals;
    }
