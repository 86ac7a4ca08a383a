-- `key_tuple` meets its contract: it is the row of its number. Assumes nothing.
use Rattle.literals.proofs.keys.key_tuple.Goals as goal

pub returns : goal.returns
returns c = c.word_row.ensures _ c.key_number.ensures
