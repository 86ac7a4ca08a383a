-- `open_component` meets its contract. Assumes nothing.
use mathlib.Core.Path.{refl}
use native.Mathlib.Omega.{arith}
use Rattle.witness.proofs.open_component.Goals as goal

pub first_uncovered-requires : goal.first_uncovered-requires
first_uncovered-requires c = let p = c.requires in record { rowed = omega arith; few = p.few }

pub returns : goal.returns
returns c D a A e h = c.first_uncovered.ensures D a _
    (record { whole = A; numbers_are = e; usages_are = c.usages_at.ensures.usages D a _ A refl }) h
