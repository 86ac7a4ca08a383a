-- `goadlotus_judge` meets its contract: what `judging::judge` promises, with the answer's parts each in its place. Assumes nothing.
use mathlib.Core.Path.{ap}
use Rattle.verdict.specs.declared.Judgement.{Judgement}
use Rattle.goadlotus.proofs.goadlotus_judge.Goals as goal

pub returns : goal.returns
returns c =
    let e = c.judge-answer.ensures in
    record {
      number = ap (λ (j : Judgement). j.number) e.answer;
      first = ap (λ (j : Judgement). j.first) e.answer;
      second = ap (λ (j : Judgement). j.second) e.answer;
      third = ap (λ (j : Judgement). j.third) e.answer;
      report = e.reported;
      witness = e.witnessed;
      decides = e.decides;
      safe = e.safe;
      exact = e.exact;
      shown = e.shown;
    }
