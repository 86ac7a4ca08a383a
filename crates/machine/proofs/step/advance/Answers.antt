-- `advance` meets its contract: too many facts, too many open, or the step is taken. Assumes nothing.
use Prim.{tt}
use mathlib.Core.Path.{refl, sym, ap, ◌∙◌}
use native.Mathlib.Omega.{arith}
use Rattle.std.specs.Prelude.{is_some}
use Rattle.events.specs.Held.{agenda_open, agenda_waiting}
use Rattle.effects.specs.Held.{count_of}
use Rattle.effects.proofs.FilledRows.{told_is}
use Rattle.machine.specs.Held.{StateRows, state_in}
use Rattle.machine.proofs.HeldBytes.{state_rows}
use Rattle.machine.proofs.NextKept.{events_chosen}
use Rattle.machine.proofs.Closing.{leaves_large, many_facts, many_open, after_few, after_fits}
use Rattle.machine.proofs.Closing.{taken_rows, rows_indexed, taken_indexed, leaves_taken}
use Rattle.machine.proofs.step.advance.Goals as goal

pub facts_after-after-requires : goal.facts_after-after-requires
facts_after-after-requires c =
    let p = c.requires in
    let q = p.closable in
    let r = q.room in
    let f = q.facts_few in
    record { few = f; rows = omega arith; scratch = p.scratch; once = q.facts_once; total = p.literals }

pub returns-in_default-clause-leaves : goal.returns-in_default-clause-leaves
returns-in_default-clause-leaves c D objs s es table old S G under free held =
    let a = c.args in
    let before = state_in a.state a.agenda.now in
    let kept = S.kept in
    let is = S.state_is in
    let rows = state_rows D S.domain.says.bounded s es kept before is a.work.now old S.facts_are in
    let e = c.facts_after-after.ensures.after D objs es s.facts (events_chosen kept) G rows held in
    leaves_large D objs s es old a.weight free (many_facts D objs s es 1025 (sym (ap count_of c.in_default.is) ∙ e.facts) (omega arith)) before is
    a.work.now S.facts_are

pub returns-in_default-agenda_after : goal.returns-in_default-agenda_after
returns-in_default-agenda_after c =
    let a = c.args in
    let o = c.agenda_after in
    let no = c.in_default-agenda_after.is in record {
      leaves = λ D objs s es table old S G under free held.
          let lent = S.domain in
          let kept = S.kept in
          let is = S.state_is in
          let w = ap (λ (h : StateRows). h.waiting) is in
          let f = o.ensures.joined D s.running es lent.says kept.running kept.waiting kept.running_few kept.waiting_few
          (ap (λ (h : StateRows). h.running) is) w in
          leaves_large D objs s es old a.weight free (many_open D objs s es (ap is_some (sym no) ∙ f.0))
          (state_in a.state o.new.agenda) (ap (state_in a.state) (o.ensures.refused no) ∙ is) a.work.now S.facts_are;
      indexed = λ D objs s es table old S G free held. tt;
      beside = c.facts_after-after.ensures.beside;
      refused = o.ensures.refused no;
    }

pub top_from-highest-requires : goal.top_from-highest-requires
top_from-highest-requires c =
    let r = c.requires.closable.room in
    let x = c.facts_after-after in
    let n = told_is x.result.kept c.in-Some.facts x.result.facts c.in-Some.is x.ensures.few.1 in
    let few = n.0 in
    let small = n.1 in
    record { few = omega arith; rows = omega arith }

pub returns : goal.returns
returns c =
    let a = c.args in
    let x = c.facts_after-after in
    let facts = c.in-Some.facts in
    let small = (told_is x.result.kept facts x.result.facts c.in-Some.is x.ensures.few.1).1 in
    let told = sym (ap count_of c.in-Some.is) in
    let o = c.agenda_after in
    let yes = c.in-Some-agenda_after.is in
    let opened = c.in-Some-agenda_after.opened in
    let t = c.settle in
    let m = c.top_from-highest in record {
      leaves = λ D objs s es table old S G under free held.
          let lent = S.domain in
          let kept = S.kept in
          let is = S.state_is in
          let w = ap (λ (h : StateRows). h.waiting) is in
          let B = lent.says.bounded in
          let before = state_in a.state a.agenda.now in
          let rows = state_rows D B s es kept before is a.work.now old S.facts_are in
          let e = x.ensures.after D objs es s.facts (events_chosen kept) G rows held in
          let f = o.ensures.joined D s.running es lent.says kept.running kept.waiting kept.running_few kept.waiting_few
          (ap (λ (h : StateRows). h.running) is) w in
          let few = after_few D B s es old a.weight kept free facts (told ∙ e.facts) small (ap is_some (sym yes) ∙ f.0) in
          leaves_taken D B s es old a.weight kept free facts (told ∙ e.facts) small (ap is_some (sym yes) ∙ f.0)
          a.work.now _ _ a.state.facts (ap (λ (h : StateRows). h.facts) is) S.facts_are (e.held few) t.ensures
          (agenda_open opened o.new.agenda) (f.1 opened yes) (agenda_waiting 0 o.new.agenda) (o.ensures.waits opened yes)
          m.result x.result.kept e.kept under
          (m.ensures.weights D _ lent.says
          (rows_indexed D B s es old a.weight kept free facts (told ∙ e.facts) small (ap is_some (sym yes) ∙ f.0)
          a.work.now _ _ a.state.facts (ap (λ (h : StateRows). h.facts) is) S.facts_are (e.held few) t.ensures
          a.head.now _ (e.indexed few))
          (taken_rows D B s es old a.weight kept free facts (told ∙ e.facts) small (ap is_some (sym yes) ∙ f.0)
          a.work.now _ _ a.state.facts (ap (λ (h : StateRows). h.facts) is) S.facts_are (e.held few) t.ensures)
          (after_fits D B s es old a.weight kept free facts (told ∙ e.facts) small (ap is_some (sym yes) ∙ f.0)));
      indexed = λ D objs s es table old S G free held.
          let lent = S.domain in
          let kept = S.kept in
          let is = S.state_is in
          let w = ap (λ (h : StateRows). h.waiting) is in
          let B = lent.says.bounded in
          let before = state_in a.state a.agenda.now in
          let rows = state_rows D B s es kept before is a.work.now old S.facts_are in
          let e = x.ensures.after D objs es s.facts (events_chosen kept) G rows held in
          let f = o.ensures.joined D s.running es lent.says kept.running kept.waiting kept.running_few kept.waiting_few
          (ap (λ (h : StateRows). h.running) is) w in
          let few = after_few D B s es old a.weight kept free facts (told ∙ e.facts) small (ap is_some (sym yes) ∙ f.0) in
          taken_indexed D B s es old a.weight kept free facts (told ∙ e.facts) small (ap is_some (sym yes) ∙ f.0)
          a.head.now _ (e.indexed few);
      beside = x.ensures.beside;
      refused = tt;
    }
