-- `ground_row` meets its contract. Assumes nothing.
use Rattle.run_fields.proofs.PutRows.{ground_put}
use Rattle.run_fields.proofs.ground_row.Goals as goal

pub returns : goal.returns
returns c = ground_put c.args.p.now _ c.requires.action c.put_bytes.ensures
