-- `add_component` meets its contract. Assumes nothing.
use Rattle.literals.proofs.Fills.{fills_component}
use Rattle.literals.specs.Held.{row_of}
use Rattle.literals.proofs.head.add_component.Goals as goal

pub returns : goal.returns
returns c D F e =
    let back8 = c in
    fills_component F _ _ _ c.components_in-n.ensures.number
    (c.keys_with-keys.ensures.number D F.says) e
    (c.put_word.ensures (row_of back8.args.p.now) c.row_word.ensures)
