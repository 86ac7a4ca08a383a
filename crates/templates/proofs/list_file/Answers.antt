-- `list_file` meets its contract: the service is that of its definition. Assumes nothing.
use native.Mathlib.Omega.{arith}
use Rattle.templates.specs.Templates.{list_bytes, list_file, list_after}
use Rattle.templates.proofs.list_file.Goals as goal

pub serve-requires : goal.serve-requires
serve-requires c = record { memory = omega arith; callable = λ D head table made H wf l. ((D, H), l); few = λ head table made n after p. p.0 }

pub returns : goal.returns
unfolding list_file list_after
returns c =
    let s = c.serve.ensures list_bytes (λ D head table made n after H wf p. p.1 D H wf) in
    record { number = s.numbered; first = s.placed; list = s.memory }
