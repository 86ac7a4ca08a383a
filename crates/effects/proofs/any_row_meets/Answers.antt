-- `any_row_meets` meets its contract: the rows are asked by their numbers. Assumes nothing.
use mathlib.Core.Path.{◌≡◌, refl, ◌∙◌}
use mathlib.Core.Bool.{Bool, true, false}
use mathlib.Core.List.{List}
use Prim.Native.Nat.{ℕ, ◌*◌}
use native.Mathlib.Omega.{arith}
use lib.ListN.{take, drop}
use Rattle.std.proofs.Common.{rules}
use Rattle.std.proofs.lemmas.Iterator.{cases_from_any, YieldsList-from_range}
use Rattle.verdict.specs.Held.{patterns_meet}
use Rattle.effects.proofs.FilledRows.{any_told, any_rows}
use Rattle.effects.proofs.any_row_meets.Goals as goal

-- the test of a row, by its number
abbrev meets : List ℕ → List ℕ → ℕ → Bool
meets rows row j = patterns_meet (take 8 (drop (8 * j) rows)) row

pub returns : goal.returns
returns c =
    let a = c.args in
    let row : List ℕ = take 8 (drop a.at a.work.now) in
    any_told (meets a.rows.now row) a.m c.any.result
    (cases_from_any _ _ _ (λ (j : ℕ). meets a.rows.now row j ≡ true) (λ (j : ℕ). meets a.rows.now row j ≡ false) c.any.ensures.ran
    (YieldsList-from_range 0 a.m a.m refl (omega arith)) (λ x q k. search rules) (λ x q k. (search rules, search rules)))
    ∙ any_rows (λ p. patterns_meet p row) a.m a.rows.now
