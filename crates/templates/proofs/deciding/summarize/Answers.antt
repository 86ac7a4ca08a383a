-- `summarize` meets its contract: what is named are the literals of the relation. Assumes nothing.
use mathlib.Core.Path.{sym, ◌∙◌}
use mathlib.Core.List.{[]}
use lib.ListN.{replicate}
use Rattle.templates.proofs.Alone.{unmentioned, listed_empty}
use Rattle.templates.proofs.Narrowed.{narrowed, alone, summary_kept, narrowed_held}
use Rattle.templates.proofs.deciding.summarize.Goals as goal

pub returns-then-mentions : goal.returns-then-mentions
returns-then-mentions c D a A l only =
    let back8 = c in
    let back16 = back8 in
    let args = back16.args in
    let r = args.relation in
    let k = back8.rows_of_relation-count in
    let N = narrowed_held A r args.n back16.requires.rowed k.ensures.rows in
    (c.name_action-named.ensures.named (alone D r a) (narrowed r a) N l [] (replicate 128 0) 0
    (listed_empty (replicate 128 0))).1
    ∙ summary_kept D r only a

pub returns : goal.returns
returns c D a A l only =
    let none = sym c.mentions.ensures ∙ c.if-mentions.false in
    c.new.ensures
    ∙ unmentioned A c.args.relation c.args.n c.requires.rowed only none
