-- `judging::judge_with` meets its contract. Assumes nothing.
use mathlib.Core.Path.{refl, sym, ap, ◌∙◌}
use native.Mathlib.Omega.{arith}
use Rattle.verdict.specs.Judged.{writes_witness}
use Rattle.judging.proofs.Calls.{rows_of, decision_of, number_of, showing_of, leaves_30, leaves_31, leaves_shown, leaves_plain}
use Rattle.judging.proofs.judge_with.Goals as goal
use Rattle.judging.proofs.judge_with.Goals.{else-has_witness-via-then-has_witness+else-not-show, else-has_witness-via-else-has_witness}

pub returns-then-report-naming : goal.returns-then-report-naming
returns-then-report-naming c D H wf =
    let back8 = c in
    let back16 = back8 in
    let start = back16.args in
    let named = c.name_all-naming.ensures.named D H wf refl in
    let n = rows_of D named.0 in
    let t = c.if-report-naming.true in
    leaves_30 D start.report.now start.witness.now (omega arith) c.at.ensures

pub has_witness-requires : goal.has_witness-requires
has_witness-requires c =
    let back8 = c in
    let back16 = back8 in
    let n = back8.name_all-naming.auto.numbers in let p = back16.requires.numbers in omega arith

pub show-requires : goal.show-requires
show-requires c = let n = c.name_all-naming.auto.numbers in let p = c.requires.numbers in omega arith

pub returns-then-not-show : goal.returns-then-not-show
returns-then-not-show c D H wf =
    let all = c.name_all-naming.ensures in
    let wit = c.args.witness.now in
    let named = all.named D H wf refl in
    let n = rows_of D named.0 in
    let is = decision_of D named.0 c.decide-decided.ensures in
    let has = sym (c.has_witness.ensures D _ H wf (all.numbers D H wf) is) ∙ c.if-has_witness.true in
    let number = ap (writes_witness D) (number_of D is) in
    let l = c.if-report-naming.false in
    let shown = showing_of D wit is has refl (c.show.ensures D _ H wf (all.numbers D H wf)) in
    leaves_31 D c.args.report.now wit (omega arith) (sym number ∙ has) (sym shown.0 ∙ c.if-not-show.true) shown.1
    c.at-then-not-show.ensures

pub returns : goal.returns
returns c D H wf =
    let all = c.name_all-naming.ensures in
    let report = c.args.report.now in
    let wit = c.args.witness.now in
    let named = all.named D H wf refl in
    let n = rows_of D named.0 in
    let is = decision_of D named.0 c.decide-decided.ensures in
    let has = sym (c.has_witness.ensures D _ H wf (all.numbers D H wf) is) in
    let number = ap (writes_witness D) (number_of D is) in
    let l = c.if-report-naming.false in
    let rows = c.put_report.ensures D _ H.says named.1 named.2 (omega arith) in
    elim c.else-has_witness.branch [
      | else-has_witness-via-then-has_witness+else-not-show w ↦
          let writes = has ∙ w.if-has_witness.true in
          let shown = showing_of D wit is writes refl (w.show.ensures D _ H wf (all.numbers D H wf)) in
          leaves_shown D report wit (omega arith) (sym number ∙ writes) (sym shown.0 ∙ w.if-not-show.false) (w.witness-is ∙ shown.1) is rows
      | else-has_witness-via-else-has_witness w ↦ rw w.witness-is (leaves_plain D report wit (omega arith) (sym number ∙ (has ∙ w.if-has_witness.false)) is rows)
    ]
