-- `try_file` meets its contract: the service is that of its definition. Assumes nothing.
use native.Mathlib.Omega.{arith}
use Rattle.trying.specs.Trying.{tried, tried_file, tried_after}
use Rattle.trying.proofs.Answering.{making_none, made_is}
use Rattle.trying.proofs.try_file.Goals as goal

pub serve-requires : goal.serve-requires
serve-requires c =
    record { memory = omega arith; callable = λ D head table made H wf l. ((D, H, wf), omega arith); few = λ head table made n after p. p.0 }

pub returns : goal.returns
unfolding tried_file tried_after
returns c =
    let s = c.serve.ensures tried (λ D head table made n after H wf p. made_is (p.1 D made.now H wf (making_none D made.now))) in
    record { number = s.numbered; first = s.placed; tried = s.memory }
