-- `put_places` meets its contract: the places of keys leave the components as they are. Assumes nothing.
use mathlib.Core.Path.{◌∙◌}
use Rattle.literals.proofs.key_places.put_places.Goals as goal

pub returns : goal.returns
returns c e =
    let k = c.put_key_places.ensures in
    record { components = λ r h. k.before r h ∙ c.put_components.ensures e r h; keys = k.keys }
