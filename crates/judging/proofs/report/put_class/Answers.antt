-- `report::put_class` meets its contract: a row for each moment. Assumes nothing.
use mathlib.Core.Path.{◌∙◌, refl}
use mathlib.Core.List.{[], ◌∷◌, ◌++◌}
use native.Mathlib.Omega.{arith}
use Rattle.literals.specs.declared.Moment.TheVariants.{Start, End}
use Rattle.verdict.specs.Decision.{row_at}
use Rattle.judging.proofs.Reported.{once_first, once_all, lasting_first_lem, lasting_all}
use Rattle.judging.proofs.report.put_class.Goals as goal

pub returns-then-lasting : goal.returns-then-lasting
returns-then-lasting c =
    let back8 = c in
    let start = back8.args in record {
      few = omega arith;
      rows = λ D a x rs rest old given l R.
          let t = l ∙ c.if-lasting.true in
          let first = row_at D a start.action start.class x Start in
          let second = row_at D a start.action start.class x End in
          lasting_all D a start.action start.class x rs t (omega arith)
          (c.put_moment-then-lasting.ensures (rs ++ (first ∷ [])) rest second old given
          (c.put_moment.ensures rs (second ∷ rest) first old given
          (lasting_first_lem D a start.action start.class x rs t R) refl refl refl)
          refl refl refl);
    }

pub returns : goal.returns
returns c =
    let start = c.args in record {
      few = omega arith;
      rows = λ D a x rs rest old given l R.
          let t = l ∙ c.if-lasting.false in
          let first = row_at D a start.action start.class x Start in
          once_all D a start.action start.class x rs t
          (c.put_moment.ensures rs rest first old given (once_first D a start.action start.class x rs t R) refl refl refl);
    }
