-- `facts_after` meets its contract: what is kept and then joined are the facts after the step. Assumes nothing.
use mathlib.Core.Path.{ap, ◌∙◌}
use mathlib.Core.List.{List}
use Prim.Native.Nat.{ℕ, ◌-◌, ◌*◌}
use native.Mathlib.Omega.{arith}
use lib.ListN.{length, drop, length-drop}
use Rattle.literals.specs.Held.{rows_in}
use Rattle.events.specs.Held.{ground_in}
use Rattle.events.proofs.GroundLiterals.{length_ground}
use Rattle.effects.specs.Held.{effects_in, literals_in, rows_of_usage}
use Rattle.effects.proofs.FilledRows.{effects_length, kept_few, kept_effects}
use Rattle.effects.proofs.EffectRows.{two_few, told, effects_of}
use Rattle.effects.proofs.StepFacts.{Done, after_few, holds_after}
use Rattle.effects.proofs.facts_after.Goals as goal

pub step_effects-m-requires : goal.step_effects-m-requires
step_effects-m-requires c =
    let a = c.args in
    let p = c.requires in
    let act = ground_in a.total (literals_in a.scratch.now) in
    let size = length_ground (literals_in a.scratch.now) a.total in
    let total = p.total in
    let t = two_few 4 3 (λ e. omega arith) act in
    record { scratch = p.scratch; total = total; room = omega arith }

pub step_effects-end-requires : goal.step_effects-end-requires
step_effects-end-requires c =
    let a = c.args in
    let p = c.requires in
    let act = ground_in a.total (literals_in a.scratch.now) in
    let size = length_ground (literals_in a.scratch.now) a.total in
    let total = p.total in
    let first = c.step_effects-m in
    let t = two_few 4 3 (λ e. omega arith) act in
    let m = first.ensures.count in
    let k = ap (λ (t : List ℕ). length (rows_of_usage 3 (ground_in a.total t))) first.ensures.literals in
    record { scratch = first.auto.scratch ∙ p.scratch; total = total; room = omega arith }

pub keep_rows-kept-requires : goal.keep_rows-kept-requires
keep_rows-kept-requires c =
    let back8 = c in
    let a = back8.args in
    let p = back8.requires in
    let act = ground_in a.total (literals_in a.scratch.now) in
    let size = length_ground (literals_in a.scratch.now) a.total in
    let total = p.total in
    let first = back8.step_effects-m in
    let then = c.step_effects-end in
    let T = told act (ground_in a.total (literals_in first.new.scratch)) first.result then.result (effects_in first.new.scratch)
    (effects_in then.new.scratch) (omega arith) (ap (ground_in a.total) first.ensures.literals) first.ensures.count first.ensures.rows
    then.ensures.count then.ensures.rows in
    let order = T.order in
    let few = T.few in
    record { few = p.few; rows = p.rows; struck = omega arith; scratch = then.auto.scratch ∙ first.auto.scratch ∙ p.scratch; once = p.once }

pub overflow_sub-end : goal.overflow_sub-end
overflow_sub-end c =
    let back8 = c in
    let back16 = back8 in
    let a = back16.args in
    let p = back16.requires in
    let act = ground_in a.total (literals_in a.scratch.now) in
    let size = length_ground (literals_in a.scratch.now) a.total in
    let total = p.total in
    let first = back8.step_effects-m in
    let then = back8.step_effects-end in
    let T = told act (ground_in a.total (literals_in first.new.scratch)) first.result then.result (effects_in first.new.scratch)
    (effects_in then.new.scratch) (omega arith) (ap (ground_in a.total) first.ensures.literals) first.ensures.count first.ensures.rows
    then.ensures.count then.ensures.rows in
    let order = T.order in
    let few = T.few in
    order

pub join_rows-facts-requires : goal.join_rows-facts-requires
join_rows-facts-requires c =
    let back8 = c in
    let back16 = back8 in
    let a = back16.args in
    let p = back16.requires in
    let act = ground_in a.total (literals_in a.scratch.now) in
    let size = length_ground (literals_in a.scratch.now) a.total in
    let total = p.total in
    let first = back8.step_effects-m in
    let then = back8.step_effects-end in
    let T = told act (ground_in a.total (literals_in first.new.scratch)) first.result then.result (effects_in first.new.scratch)
    (effects_in then.new.scratch) (omega arith) (ap (ground_in a.total) first.ensures.literals) first.ensures.count first.ensures.rows
    then.ensures.count then.ensures.rows in
    let order = T.order in
    let few = T.few in
    let keeps = c.keep_rows-kept in
    let q = kept_few (rows_in first.result (effects_in then.new.scratch)) a.work.now a.n in
    let e = keeps.ensures.count in
    let n = p.few in
    record { few = omega arith; count = omega arith; scratch = keeps.auto.scratch ∙ then.auto.scratch ∙ first.auto.scratch ∙ p.scratch }

pub returns : goal.returns
returns c =
    let back8 = c in
    let back16 = back8 in
    let a = back16.args in
    let p = back16.requires in
    let act = ground_in a.total (literals_in a.scratch.now) in
    let size = length_ground (literals_in a.scratch.now) a.total in
    let total = p.total in
    let first = back16.step_effects-m in
    let then = back8.step_effects-end in
    let T = told act (ground_in a.total (literals_in first.new.scratch)) first.result then.result (effects_in first.new.scratch)
    (effects_in then.new.scratch) (omega arith) (ap (ground_in a.total) first.ensures.literals) first.ensures.count first.ensures.rows
    then.ensures.count then.ensures.rows in
    let order = T.order in
    let few = T.few in
    let keeps = c.keep_rows-kept in
    let joins = c.join_rows-facts in
    let m = first.result in
    let kept = keeps.new.scratch in
    let struck = effects_in then.new.scratch in
    let adds = drop (8 * m) (effects_in kept) in
    let l2 = then.auto.scratch ∙ first.auto.scratch ∙ p.scratch in
    let l3 = effects_length kept (keeps.auto.scratch ∙ l2) in
    let d = length-drop (8 * m) (effects_in kept) in
    let X : Done a.head.now struck a.work.now adds m a.n (then.result - m) then.new.scratch kept joins.new.scratch
    a.index.now keeps.new.index joins.new.index keeps.result joins.result
    = record {
      small = p.few;
      within = p.rows;
      adds_within = omega arith;
      room = omega arith;
      kept_count = keeps.ensures.count;
      kept_bytes = keeps.ensures.rows;
      kept_indexed = keeps.ensures.indexed;
      joined = joins.ensures.joined;
    } in
    -- what is struck and added stays where it is
    let still = kept_effects (rows_in m struck) a.work.now a.n p.few p.rows then.new.scratch keeps.ensures.rows in
    record {
      few = (after_few X, joins.ensures.few);
      after = λ D objs es fs C G u I.
          holds_after X
          (effects_of G C T.struck (ap (λ (t : List ℕ). rows_in (then.result - m) (drop (8 * m) t)) still ∙ T.added)) u I;
      beside = joins.ensures.beside ∙ keeps.ensures.beside;
    }
