-- `label_fields` meets its contract: nothing is wrong with labels that fit. Assumes nothing.
use mathlib.Core.Path.{sym, ◌∙◌}
use mathlib.Core.List.{map}
use lib.ListN.{drop}
use Rattle.literals.specs.Decode.{label_of}
use Rattle.literals.proofs.Labels.{fit_passes}
use Rattle.literals.proofs.fields.label_fields.Goals as goal

pub returns-then-labels_fit : goal.returns-then-labels_fit
returns-then-labels_fit c =
    let start = c.args in
    sym (fit_passes start.n (map label_of (drop 1 start.p.now)) (sym c.labels_fit.ensures ∙ c.if-labels_fit.true))
