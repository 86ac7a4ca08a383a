-- `rows_of` meets its contract: a table that holds a domain has the rows. Assumes nothing.
use Rattle.literals.proofs.head.rows_of.Goals as goal

pub returns-then-span-table-clause-rows : goal.returns-then-span-table-clause-rows
returns-then-span-table-clause-rows c = λ D H h. (c.span_of-span.ensures.rows D _ H h).1
