-- `leave` meets its contract: at three places the number is what the fact takes. Assumes nothing.
use mathlib.Core.Path.{ap, ◌∙◌}
use lib.ListN.{take, drop}
use Rattle.store.specs.Held.{word_of}
use Rattle.store.proofs.Totals.{left}
use Rattle.store.proofs.index.leave.Goals as goal

pub returns-clause-indexed : goal.returns-clause-indexed
returns-clause-indexed c =
    let w = c.word_of-word in
    λ before after i. left before after (take 8 (drop c.args.at c.args.memory.now)) i w.result (w.ensures.number ∙ ap word_of c.row_at.ensures) w.ensures.low c.add_fact.new.index c.add_fact.ensures.fact
