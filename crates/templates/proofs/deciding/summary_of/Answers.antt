-- `summary_of` meets its contract. Assumes nothing.
use mathlib.Core.Path.{sym, ◌∙◌}
use Rattle.literals.specs.Domain.{action}
use Rattle.verdict.proofs.ReadActions.{action_held}
use Rattle.templates.proofs.deciding.summary_of.Goals as goal

pub returns : goal.returns
returns c D H wf h only =
    let i = c.args.i in
    let S = c.rows_of-span.ensures.rows D H h in
    let l = c.is_lasting.ensures ∙ H.says.lasting i h in
    c.summarize.ensures D (action D i) (action_held H wf i h S.literals) (sym l) only
