-- `is_about` meets its contract: the ground literals by their numbers. Assumes nothing.
use mathlib.Core.Path.{refl, ◌∙◌}
use Prim.Native.Nat.{ℕ, ◌*◌}
use lib.ListN.{take, drop}
use native.Mathlib.Omega.{arith}
use Rattle.std.proofs.Common.{rules}
use Rattle.std.proofs.lemmas.Iterator.{YieldsList-from_range}
use Rattle.std.proofs.lemmas.Iterator.Search.{any_from_yields_List}
use Rattle.verdict.specs.Held.{patterns_meet}
use Rattle.trying.proofs.Loops.{about_below}
use Rattle.trying.proofs.free.is_about.Goals as goal

pub returns : goal.returns
returns c =
    let a = c.args in
    any_from_yields_List (λ (i : ℕ). patterns_meet (take 8 (drop (8 * i) a.memory.now)) (take 8 (drop 0 a.fact.now))) _ _ c.any.result c.any.ensures.ran
    (YieldsList-from_range 0 a.total a.total refl (omega arith)) (λ x b q k. search rules)
    ∙ about_below a.memory.now a.fact.now c.requires.fact a.total
