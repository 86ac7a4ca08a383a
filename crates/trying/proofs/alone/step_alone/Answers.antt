-- `step_alone` meets its contract: no true condition stands twice. Assumes nothing.
use mathlib.Core.Path.{sym, subst, ◌∙◌}
use Rattle.effects.specs.Held.{Once}
use Rattle.effects.proofs.StepFacts.{once_facts}
use Rattle.trying.specs.Trying.{held_facts}
use Rattle.trying.proofs.Conditions.{held_once}
use Rattle.trying.proofs.alone.step_alone.Goals as goal

pub step_base-requires : goal.step_base-requires
step_base-requires c =
    let back8 = c in
    let a = back8.args in
    let p = back8.requires in
    let g = c.ground_base-counts in
    let D = p.listed.0 in
    let B = g.ensures.base D p.listed.1 p.listed.2 p.listed.3 in record { variables = g.ensures.few.0; literals = g.ensures.few.1; held = g.ensures.few.2; base = g.auto.base ∙ p.base; after = p.after; once = subst Once (sym B.held) (once_facts (held_facts D a.i) (held_once D p.listed.2 a.i p.listed.3)) }

pub returns : goal.returns
returns c =
    let back8 = c in
    let a = back8.args in
    let s = c.step_base.ensures in
    record { few = s.few; alone = λ D H wf h. s.alone D a.i wf h (c.ground_base-counts.ensures.base D H wf h) }
