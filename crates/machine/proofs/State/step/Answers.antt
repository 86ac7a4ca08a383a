-- `State::step` meets its contract: a step that is forbidden or too large, or the step. Assumes nothing.
use borrow.Author.Rules.{rules}
use mathlib.Core.Path.{◌≡◌, sym, subst, ◌∙◌}
use mathlib.Core.List.{List, map}
use Prim.Native.Nat.{ℕ}
use Rattle.std.proofs.lemmas.Result.{on_ok_weaker}
use Rattle.verdict.specs.Held.{fact_row}
use Rattle.events.specs.Held.{Grounded}
use Rattle.run_semantics.specs.Numbers.{stop_number, stopped_by}
use Rattle.effects.proofs.FilledRows.{literals_length, literals_put}
use Rattle.machine.specs.Held.{state_in, close_state}
use Rattle.machine.proofs.HeldBytes.{state_rows}
use Rattle.machine.proofs.Closing.{leaves_refused}
use Rattle.machine.proofs.Resting.{indexed_set, noted_anew, unset}
use Rattle.machine.proofs.State.step.Goals as goal

pub returns-in_err-literals-clause-leaves : goal.returns-in_err-literals-clause-leaves
returns-in_err-literals-clause-leaves c D objs s es old S under noted =
    let a = c.args in
    let r = c.from_residual in
    let is = S.state_is in
    let rows = state_rows D S.domain.says.bounded s es S.kept (state_in a.self a.agenda.now) is a.work.now old S.facts_are in
    let held = indexed_set a.head.now a.index.now _ (map fact_row s.facts) noted.indexed in
    let f = c.in_err-literals.ensures.asked D objs s es S.domain S.some S.kept is rows held in
    let n : stopped_by r.result ≡ stop_number c.in_err-literals.field-0.0 = search rules in
    leaves_refused D objs s es old a.weight a.self a.agenda.now r.result r.ensures.0 (n ∙ f.0) is a.work.now S.facts_are

pub returns-clause-leaves : goal.returns-clause-leaves
returns-clause-leaves c D objs s es old S under noted =
    let a = c.args in
    let asks = c.forbidden in
    let is = S.state_is in
    let rows = state_rows D S.domain.says.bounded s es S.kept (state_in a.self a.agenda.now) is a.work.now old S.facts_are in
    let held = indexed_set a.head.now a.index.now _ (map fact_row s.facts) noted.indexed in
    let f = c.in_ok-literals.ensures.asked D objs s es S.domain S.some S.kept is rows held in
    let put = literals_put asks.new.memory _ (asks.auto.memory ∙ literals_length a.scratch.now c.requires.scratch) in
    let G = subst (λ (t : List ℕ). Grounded D a.head.now es t c.in_ok-literals.literals) (sym put) f.1 in
    c.advance.ensures.leaves D objs s es a.table.now old S G under (sym f.0) held

pub returns-clause-noted : goal.returns-clause-noted
returns-clause-noted c D objs s es old S noted =
    let a = c.args in
    let asks = c.forbidden in
    let x = c.advance in
    let is = S.state_is in
    let rows = state_rows D S.domain.says.bounded s es S.kept (state_in a.self a.agenda.now) is a.work.now old S.facts_are in
    let held = indexed_set a.head.now a.index.now _ (map fact_row s.facts) noted.indexed in
    let f = c.in_ok-literals.ensures.asked D objs s es S.domain S.some S.kept is rows held in
    let put = literals_put asks.new.memory _ (asks.auto.memory ∙ literals_length a.scratch.now c.requires.scratch) in
    let G = subst (λ (t : List ℕ). Grounded D a.head.now es t c.in_ok-literals.literals) (sym put) f.1 in
    on_ok_weaker x.result (λ i. noted_anew a.head.now D _ (close_state D objs s es) i (x.ensures.beside ∙ unset a.index.now noted.indexed.numbers))
    (x.ensures.indexed D objs s es a.table.now old S G (sym f.0) held)
