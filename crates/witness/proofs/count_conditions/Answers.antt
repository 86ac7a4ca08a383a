-- `count_conditions` meets its contract: a chain over the first usages. Assumes nothing.
use mathlib.Core.Path.{◌≡◌, sym, ap, ◌∙◌}
use Rattle.std.proofs.Common.{rules}
use Rattle.std.proofs.iter.runs.Made.{chains}
use Rattle.std.specs.List.{count_by as library_count}
use native.Mathlib.Omega.{arith}
use lib.ListN.{take}
use Rattle.records.specs.Lists.{count_by}
use Rattle.records.proofs.Chains.{count_is}
use Rattle.witness.specs.Held.{is_condition}
use Rattle.witness.proofs.Facts.{first_taken}
use Rattle.witness.proofs.count_conditions.Goals as goal

pub returns-clause-number : goal.returns-clause-number
returns-clause-number c =
    let a = c.args in
    let e : c.count.result ≡ library_count is_condition (take a.n a.usages.now) = search (rules, chains) in
    e
    ∙ sym (count_is is_condition (take a.n a.usages.now))
    ∙ sym (ap (count_by is_condition) (first_taken a.n a.usages.now (omega arith)))
