-- `enter` meets its contract: at three places the number is what the fact adds. Assumes nothing.
use mathlib.Core.Path.{ap, ◌∙◌}
use lib.ListN.{take, drop}
use Rattle.store.specs.Held.{word_of}
use Rattle.store.proofs.Totals.{entered}
use Rattle.store.proofs.index.enter.Goals as goal

pub returns-clause-indexed : goal.returns-clause-indexed
returns-clause-indexed c =
    let w = c.word_of-word in
    λ rows i z. entered i (take 8 (drop c.args.at c.args.memory.now)) z w.result (w.ensures.number ∙ ap word_of c.row_at.ensures) c.add_fact.new.index c.add_fact.ensures.fact
