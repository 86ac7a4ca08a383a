-- `independent` meets its contract: the events are independent where no literal clashes with one of a later event. Assumes nothing.
use mathlib.Core.Path.{◌∙◌}
use mathlib.Core.List.{map}
use native.Mathlib.Omega.{arith}
use lib.ListN.{length-map}
use Rattle.events.specs.Held.{event_literals}
use Rattle.applicability.proofs.Words.{all_told}
use Rattle.applicability.proofs.Interferes.{few_independent, apart_independent}
use Rattle.applicability.proofs.interference.independent.Goals as goal

pub returns-then-count-gt-MAX_EVENTS : goal.returns-then-count-gt-MAX_EVENTS
returns-then-count-gt-MAX_EVENTS c D head es G k h objs some C = let t = c.if-count-gt-MAX_EVENTS.true in absurd (omega arith)

pub returns-then-count-lt2 : goal.returns-then-count-lt2
returns-then-count-lt2 c D head es G k h objs some C = let t = c.if-count-lt2.true in few_independent D objs es (omega arith)

pub has_pattern-requires : goal.has_pattern-requires
has_pattern-requires c = let p = c.requires in omega arith

pub all_apart-requires : goal.all_apart-requires
all_apart-requires c =
    let back8 = c in
    let p = back8.requires in
    let t = c.if-count-gt-MAX_EVENTS.false in
    record { count = omega arith; few = p.few; worded = c.put_words.ensures }

pub returns : goal.returns
returns c D head es G k h objs some C =
    c.all_apart.ensures (map (event_literals D) es) (length-map es (event_literals D) ∙ k) G.laid
    (all_told G c.has_pattern.result c.has_pattern.ensures)
    ∙ apart_independent G.says objs some C.low es G.fit C.bindings
