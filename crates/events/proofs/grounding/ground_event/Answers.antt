-- `ground_event` meets its contract. Assumes nothing.
use mathlib.Core.Path.{ap, ◌∙◌}
use mathlib.Core.List.{◌++◌}
use Rattle.literals.specs.declared.Time.{Time}
use Rattle.events.specs.Held.{ground_literals, ground_in}
use Rattle.events.proofs.FactRows.{time_back}
use Rattle.events.proofs.grounding.ground_event.Goals as goal

pub returns : goal.returns
returns c =
    let a = c.args in
    let t = c.time_at.ensures in
    let r = c.ground_action.ensures in record {
      few = r.few;
      literals = λ D e H F m f.
          r.literals D e.act H F (c.ground_at.ensures ∙ f)
          ∙ ap (λ (u : Time). ground_in a.n a.memory.now ++ ground_literals D u e.act) (time_back _ _ e.moment t m);
      counts = r.counts;
    }
