use mathlib.Core.Path.{refl, sym, ◌∙◌}
use native.Mathlib.Omega.{arith}
use Rattle.records.proofs.Lists.{all_hit, all_miss, all_end}
use Rattle.verdict.specs.Machine.{over_all_hold}
use Rattle.events.proofs.FactRows.{no_ground, open_count}
use Rattle.applicability.proofs.Asked.{entry_turn}
use Rattle.applicability.proofs.conditions.open_met.Goals as goal

pub returns-then-count-gt-MAX_RUNNING : goal.returns-then-count-gt-MAX_RUNNING
returns-then-count-gt-MAX_RUNNING c D gs fs L o F h f I objs C =
    let k = open_count gs _ o in
    let t = c.if-count-gt-MAX_RUNNING.true in
    absurd (omega arith)

pub loop-i-init : goal.loop-i-init
loop-i-init c = record { reach = omega arith; sized = refl; rest = λ D gs fs L o F f I objs C. refl }

pub entry_met-requires : goal.entry_met-requires
entry_met-requires c =
    let back8 = c in
    let p = back8.requires in
    let s = c.loop-i.invariant.sized in
    record { entries = p.entries; entry = omega arith; memory = omega arith }

pub shape_of-memory-then-not-entry_met : goal.shape_of-memory-then-not-entry_met
shape_of-memory-then-not-entry_met c = c.entry_met.auto.memory ∙ c.loop-i.invariant.sized

pub returns-then-not-entry_met : goal.returns-then-not-entry_met
returns-then-not-entry_met c D gs fs L o F h f I objs C =
    let back8 = c in
    let a = back8.args in
    let l = c.loop-i in
    let e = entry_turn _ a.work.now a.n l.i c.entry_met.ensures
    (omega arith) D gs fs L o F f I objs C in
    sym (all_miss gs l.i no_ground e.0 (over_all_hold D objs fs) (sym e.1 ∙ c.if-not-entry_met.true))
    ∙ l.invariant.rest D gs fs L o F f I objs C

pub loop-i-preserved : goal.loop-i-preserved
loop-i-preserved c =
    let back8 = c in
    let entry-met = c.entry_met in
    let a = back8.args in
    let l = c.loop-i in
    record {
      reach = omega arith;
      sized = entry-met.auto.memory ∙ l.invariant.sized;
      rest =
          λ D gs fs L o F f I objs C.
          let e = entry_turn _ a.work.now a.n l.i entry-met.ensures
          (omega arith) D gs fs L o F f I objs C in
          sym (all_hit gs l.i no_ground e.0 (over_all_hold D objs fs) (sym e.1 ∙ c.if-not-entry_met.false))
          ∙ l.invariant.rest D gs fs L o F f I objs C;
    }

pub shape_of-memory : goal.shape_of-memory
shape_of-memory c = c.loop-i.invariant.sized

pub returns : goal.returns
returns c D gs fs L o F h f I objs C =
    let l = c.loop-i in
    let k = open_count gs _ o in
    let g = l.invariant.reach in
    sym (all_end gs l.i no_ground (over_all_hold D objs fs) (omega arith)) ∙ l.invariant.rest D gs fs L o F f I objs C
