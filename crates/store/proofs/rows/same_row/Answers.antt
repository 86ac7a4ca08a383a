-- `same_row` meets its contract: eight bytes are the same where the first four and the last four are. Assumes nothing.
use mathlib.Core.Path.{◌≡◌, sym, ap, ◌∙◌}
use mathlib.Core.Bool.{Bool, true, ◌&&◌}
use mathlib.Core.List.{List}
use Prim.Native.Nat.{ℕ, ◌+◌}
use native.Mathlib.Omega.{arith}
use lib.Dec.{eqb}
use lib.ListN.{take, drop}
use lib.Seq.{take_all}
use Rattle.records.specs.Lists.{same_list}
use Rattle.literals.proofs.Rows.{eight_by_four}
use Rattle.store.proofs.rows.same_row.Goals as goal

pub returns-then-same_four : goal.returns-then-same_four
returns-then-same_four c =
    let a = c.args in
    let t : same_list eqb (take 4 (drop 0 a.row)) (take 4 (drop a.at a.memory.now)) ≡ true = sym c.same_four.ensures ∙ c.if-same_four.true in
    let w : take 8 a.row ≡ a.row = take_all 8 a.row (omega arith) in
    c.same_four-then-same_four.ensures
    ∙ sym (ap (λ (l : List ℕ). same_list eqb l (take 8 (drop a.at a.memory.now))) (sym w)
    ∙ eight_by_four a.row a.memory.now 0 a.at (omega arith) (omega arith)
    ∙ ap (λ (b : Bool). b && same_list eqb (take 4 (drop 4 a.row)) (take 4 (drop (a.at + 4) a.memory.now))) t)
