-- `put_effect` meets its contract: one section of the scratch memory is written, by what stands in the other. Assumes nothing.
use mathlib.Core.Path.{refl, sym, ◌∙◌}
use native.Mathlib.Omega.{arith}
use Rattle.events.specs.Held.{ground_at}
use Rattle.effects.specs.Held.{effects_in, literals_in}
use Rattle.effects.proofs.FilledRows.{effects_length, effects_put, literals_still}
use Rattle.effects.proofs.EffectRows.{usage_in_lem, row_in, none_count, none_rows, one_count, one_rows}
use Rattle.effects.proofs.put_effect.Goals as goal

pub append_row-requires : goal.append_row-requires
append_row-requires c =
    let a = c.args in
    let p = c.requires in
    let scratch = a.scratch.now in
    let l = ground_at (literals_in scratch) a.i in
    let e = sym (usage_in_lem scratch p.scratch a.i p.literal) ∙ c.if-scratch-i.true in
    let size = effects_length scratch p.scratch in
    let one = one_count a.usage l a.n (effects_in scratch) e in
    let room = p.room in
    omega arith

pub overflow_add-result : goal.overflow_add-result
overflow_add-result c =
    let back8 = c in
    let room = back8.requires.room in omega arith

pub returns-then-scratch-i : goal.returns-then-scratch-i
returns-then-scratch-i c =
    let back8 = c in
    let a = back8.args in
    let p = back8.requires in
    let scratch = a.scratch.now in
    let l = ground_at (literals_in scratch) a.i in
    let e = sym (usage_in_lem scratch p.scratch a.i p.literal) ∙ c.if-scratch-i.true in
    let row = c.row_at-row.ensures ∙ row_in scratch p.scratch a.i p.literal in
    let put = c.append_row in
    let whole = put.auto.out ∙ effects_length scratch p.scratch in record { count = one_count a.usage l a.n (effects_in scratch) e; rows = effects_put scratch put.new.out _ p.scratch whole ∙ one_rows a.usage l a.n (effects_in scratch) e row put.ensures; literals = literals_still scratch put.new.out _ p.scratch }

pub returns : goal.returns
returns c =
    let a = c.args in
    let p = c.requires in
    let scratch = a.scratch.now in
    let l = ground_at (literals_in scratch) a.i in
    let size = effects_length scratch p.scratch in
    let room = p.room in
    let e = usage_in_lem scratch p.scratch a.i p.literal in record { count = none_count a.usage l a.n (effects_in scratch) (λ f. c.if-scratch-i.false (e ∙ f)); rows = none_rows a.usage l a.n (effects_in scratch) (λ f. c.if-scratch-i.false (e ∙ f)) (omega arith); literals = refl }
