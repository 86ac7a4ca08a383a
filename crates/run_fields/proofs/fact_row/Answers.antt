-- `fact_row` meets its contract. Assumes nothing.
use Rattle.run_fields.proofs.PutRows.{fact_put}
use Rattle.run_fields.proofs.fact_row.Goals as goal

pub returns : goal.returns
returns c = fact_put c.args.p.now _ c.requires.relation c.put_bytes.ensures
