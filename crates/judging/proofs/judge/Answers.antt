-- `judging::judge` meets its contract. Assumes nothing.
use mathlib.Core.Path.{◌≡◌, sym, subst}
use mathlib.Core.List.{List}
use Prim.Native.Nat.{ℕ}
use Rattle.literals.specs.Decode.{decode}
use Rattle.verdict.specs.declared.Judgement.{Judgement}
use Rattle.verdict.specs.Judged.{judged, report_after, witness_after}
use Rattle.verdict.specs.Claims.{DecidesFile, AcceptedSafe, RefusedHarmful, WitnessHarms}
use Rattle.verdict.specs.Held.{judgement_of}
use Rattle.verdict.proofs.Answers.{judging_decides}
use Rattle.verdict.proofs.Judges.{judged_safe, judged_exact, judged_shown}
use Rattle.judging.specs.Held.{JudgedAs}
use Rattle.judging.proofs.FileCalls.{answer_is, report_is, witness_is}
use Rattle.judging.proofs.judge.Goals as goal

-- the seven promises of an answer j that leaves a report u and a witness x
promises : (f report wit : List ℕ) {j : Judgement} {u x : List ℕ} → JudgedAs (decode f) report wit j u x
    → (j ≡ judgement_of (judged f report wit)) × ((u ≡ report_after f report wit) × ((x ≡ witness_after f report wit)
    × (DecidesFile f j.number j.first j.second j.third
    × (AcceptedSafe f j.number × (RefusedHarmful f j.number × WitnessHarms f j.number x j.first j.second j.third)))))
promises f report wit {j} {u} {x} J =
    let is = answer_is f J in
    let shown = witness_is f J in (
      is,
      (
        report_is f J,
        (
          shown,
          (
            subst (λ (q : Judgement). DecidesFile f q.number q.first q.second q.third) (sym is) (judging_decides f report wit),
            (
              subst (λ (q : Judgement). AcceptedSafe f q.number) (sym is) (judged_safe f report wit),
              (
                subst (λ (q : Judgement). RefusedHarmful f q.number) (sym is) (judged_exact f report wit),
                subst (λ (q : Judgement). WitnessHarms f q.number x q.first q.second q.third) (sym is)
                    (subst (λ (y : List ℕ). WitnessHarms f (judged f report wit).number y (judged f report wit).first (judged f report wit).second (judged f report wit).third) (sym shown) (judged_shown f report wit)),
              ),
            ),
          ),
        ),
      ),
    )

pub returns : goal.returns
returns c =
    let back8 = c in
    let start = back8.args in
    let all = promises start.file.now start.report.now start.witness.now c.judge_file.ensures in record { answer = all.0; reported = all.1.0; witnessed = all.1.1.0; decides = all.1.1.1.0; safe = all.1.1.1.1.0; exact = all.1.1.1.1.1.0; shown = all.1.1.1.1.1.1 }
