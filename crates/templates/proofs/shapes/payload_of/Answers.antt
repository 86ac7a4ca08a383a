-- `payload_of` meets its contract. Assumes nothing.
use mathlib.Core.List.{◌∷◌, []}
use Rattle.templates.proofs.shapes.payload_of.Goals as goal

pub returns : goal.returns
returns c =
    let d = c in
    λ i. d.args.relation ∷ d.label_at.ensures i ∷ d.label_at-2.ensures i
    ∷ d.label_at-3.ensures i ∷ c.label_at-4.ensures i ∷ c.label_at-5.ensures i ∷ c.label_at-6.ensures i ∷ []
