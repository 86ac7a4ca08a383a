-- `answer_by` meets its contract. Assumes nothing.
use Rattle.player.proofs.PlayCalls.{answer_played, answer_stopped}
use Rattle.player.proofs.play.answer_by.Goals as goal

pub returns-then-ended-eq2 : goal.returns-then-ended-eq2
returns-then-ended-eq2 c o is = answer_played c.args.ended o is c.if-ended-eq2.true

pub returns : goal.returns
returns c o is = answer_stopped c.args.ended o is c.if-ended-eq2.false
