-- `try_facts` meets its contract. Assumes nothing.
use Rattle.trying.proofs.Written.{agrees_with_names}
use Rattle.trying.proofs.try_facts.Goals as goal

pub returns : goal.returns
returns c =
    let f = c.args.file.now in
    let out = c.args.tried.now in
    let number = c.try_file.ensures.number in
    let first = c.try_file.ensures.first in
    let memory = c.try_file.ensures.tried in
    record { number = number; first = first; tried = memory; names = agrees_with_names f out _ _ _ number first memory }
