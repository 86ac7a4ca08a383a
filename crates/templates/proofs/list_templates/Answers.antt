-- `list_templates` meets its contract. Assumes nothing.
use Rattle.templates.proofs.Said.{entries_safe, nothing_missing}
use Rattle.templates.proofs.list_templates.Goals as goal

pub returns : goal.returns
returns c =
    let f = c.args.file.now in
    let out = c.args.list.now in
    let number = c.list_file.ensures.number in
    let first = c.list_file.ensures.first in
    let list = c.list_file.ensures.list in
    record { number = number; first = first; list = list; safe = entries_safe f out _ _ _ number first list; whole = nothing_missing f out _ _ _ number first list }
