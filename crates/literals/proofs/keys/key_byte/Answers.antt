-- `key_byte` meets its contract: the byte at the key's place. Assumes nothing.
use mathlib.Core.Path.{ap, ◌∙◌}
use native.Mathlib.Omega.{arith}
use Rattle.literals.specs.Held.{component_row_in, argument_at}
use Rattle.literals.proofs.Heads.{part_length}
use Rattle.literals.proofs.KeyRows.{under_place}
use Rattle.literals.proofs.keys.key_byte.Goals as goal

pub returns : goal.returns
returns c =
    let a = c.args in
    let u = under_place (component_row_in a.head.now a.c) a.rows.now a.at a.k (omega arith) (part_length a.head.now a.c) (omega arith) in
    c.argument_byte.ensures ∙ ap (argument_at a.rows.now a.at) c.place_under-place.ensures ∙ u
