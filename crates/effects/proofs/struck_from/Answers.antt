-- `struck_from` meets its contract: the rows are asked one by one, or all that are struck are gone. Assumes nothing.
use mathlib.Core.Path.{◌≡◌, sym, ◌∙◌}
use mathlib.Core.Bool.{true, false}
use mathlib.Core.List.{List}
use Prim.Native.Nat.{ℕ}
use native.Mathlib.Omega.{arith}
use Rattle.std.proofs.Common.{rules}
use Rattle.std.proofs.lemmas.Iterator.{first_from_Range}
use Rattle.literals.specs.Held.{rows_in, row_in}
use Rattle.literals.proofs.KeyRows.{length_rows}
use Rattle.effects.specs.Held.{is_struck}
use Rattle.effects.proofs.KeptRuns.{first_told, all_gone}
use Rattle.effects.proofs.struck_from.Goals as goal

pub returns-then-m-gone : goal.returns-then-m-gone
returns-then-m-gone c =
    let a = c.args in
    let p = c.requires in
    let g = p.gone in
    let t = c.if-m-gone.true in
    let l = length_rows 8 a.m a.struck.now in
    record {
      inside = tt;
      first = all_gone (rows_in a.m a.struck.now) a.work.now a.n a.from p.from p.once (sym p.told ∙ c.if-not-patterns.true) (omega arith);
    }

pub returns : goal.returns
returns c =
    let a = c.args in
    let struck : List (List ℕ) = rows_in a.m a.struck.now in
    let told = first_told struck a.work.now a.n a.from c.requires.from c.find.result
    (first_from_Range _ _ _ _ (λ (i : ℕ). is_struck struck (row_in a.work.now i) ≡ true) (λ (i : ℕ). is_struck struck (row_in a.work.now i) ≡ false)
    c.find.ensures.ran (λ x q k. search rules) (λ x q k. (search rules, search rules))) in
    record { inside = told.0; first = told.1 }
