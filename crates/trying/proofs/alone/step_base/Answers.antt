-- `step_base` meets its contract: the true conditions are the facts that the step is taken from. Assumes nothing.
use mathlib.Core.Path.{refl, sym, ap, subst, ◌∙◌}
use mathlib.Core.List.{List, [], ◌∷◌}
use Prim.Native.Nat.{ℕ, ◌≤◌}
use native.Mathlib.Omega.{arith}
use Rattle.store.specs.Held.{Indexed}
use Rattle.verdict.specs.Claims.{plain_objects, plain_event}
use Rattle.events.specs.Held.{Grounded}
use Rattle.effects.specs.Held.{literals_in}
use Rattle.effects.proofs.FilledRows.{literals_length, effects_length, told_few, told_or}
use Rattle.trying.specs.Trying.{held_facts}
use Rattle.trying.proofs.Loops.{index_none, copied}
use Rattle.trying.proofs.Conditions.{chosen, held_sized, allowed_is, left_rows}
use Rattle.trying.proofs.alone.step_base.Goals as goal

pub events_met-allowed-requires : goal.events_met-allowed-requires
events_met-allowed-requires c =
    let back8 = c in
    let a = back8.args in
    let p = back8.requires in
    let few = p.literals in
    let held = p.held in
    let l = effects_length a.base.now p.base in
    record { memory = literals_length a.base.now p.base; total = omega arith; few = omega arith; facts = omega arith }

pub facts_after-left-requires : goal.facts_after-left-requires
facts_after-left-requires c =
    let back8 = c in
    let a = back8.args in
    let p = back8.requires in
    let few = p.literals in
    let held = p.held in
    let l = effects_length a.base.now p.base in record { few = omega arith; rows = omega arith; scratch = back8.put_bytes.auto.out ∙ p.after; once = p.once; total = omega arith }

pub returns : goal.returns
returns c =
    let back8 = c in
    let back16 = back8 in
    let a = back16.args in
    let p = back16.requires in
    let x = c.facts_after-left in
    let copy = back8.put_bytes in
    let same = copied a.base.now a.after.now copy.new.out p.base p.after copy.ensures in
    let told = c.unwrap_or.ensures ∙ told_or x.result.facts in
    let held = p.held in
    let kept = x.ensures.few.0 in
    let most = told_few x.result.kept x.result.facts (omega arith) x.ensures.few.1 in
    let few : c.unwrap_or.result ≤ 1025 = omega arith in
    let long = x.auto.scratch ∙ copy.auto.out ∙ p.after in record {
      few = record { variables = p.variables; literals = p.literals; held = p.held; left = few };
      alone = λ D i wf h B.
          let objs = plain_objects D i in
          let H = B.grounded.says in
          let C = chosen D wf i h H.bounded in
          let I = subst (Indexed a.head.now _) B.held
          (c.enter_rows.ensures (index_none a.head.now _ refl) (held_sized D
          wf i h H _ B.held)) in
          let G = subst (λ (t : List ℕ). Grounded D a.head.now (plain_event D i ∷ []) t a.counts.literals) (ap literals_in (sym same))
          B.grounded in
          let A = x.ensures.after D objs (plain_event D i ∷ []) (held_facts D i) C G B.held I in
          record {
            conditions = B;
            allowed =
                c.events_met-allowed.ensures D a.head.now (plain_event D i ∷ []) (held_facts D i) B.grounded B.held I objs C
                ∙ allowed_is D wf i h H.bounded;
            left = left_rows D wf i h H.bounded x.new.scratch (omega arith) A.held c.unwrap_or.result (told ∙ A.facts);
          };
    }
