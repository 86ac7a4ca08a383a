-- `number_row` meets its contract: from the last byte to the first. Assumes nothing.
use mathlib.Core.Path.{◌≡◌}
use native.Mathlib.Omega.{arith}
use Rattle.std.proofs.Common.{rules, reverse}
use Rattle.std.proofs.iter.runs.Made.{chains}
use Rattle.std.specs.List.{fold}
use Rattle.literals.proofs.Chains.{lower, row_lowered}
use Rattle.literals.proofs.row.number_row.Goals as goal

pub returns : goal.returns
returns c =
    let p = c.args.p.now in
    let e : c.fold.result ≡ fold lower 18446744073709551615 (reverse p) = search (rules, chains) in
    row_lowered p c.requires (λ k. omega (arith, c.type_inv.p k)) e
