-- `put_fact` meets its contract. Assumes nothing.
use borrow.Author.Rules.{rules}
use mathlib.Core.Path.{◌≡◌, ap, ◌∙◌}
use Prim.Native.Nat.{◌*◌}
use lib.ListN.{length}
use lib.Seq.{paste}
use Rattle.run_fields.proofs.put_fact.Goals as goal

pub returns : goal.returns
returns c =
    let a = c.args in
    let l : length c.args.row ≡ 8 = search rules in
    c.put_bytes.ensures ∙ ap (paste a.work.now (8 * a.n) a.row) l
