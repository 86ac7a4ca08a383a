-- The rows of waiting events and open entries of a domain, by index. Assumes nothing.
use mathlib.Core.Path.{◌≡◌}
use mathlib.Core.List.{List}
use Prim.Native.Nat.{ℕ, ◌*◌, ◌<◌}
use lib.ListN.{length, get_or, take, drop}
use Rattle.records.proofs.Lists.{get_d_in}
use Rattle.literals.specs.Domain.{Domain}
use Rattle.literals.specs.Held.{HeadOf}
use Rattle.verdict.specs.Machine.{GroundAction, Event}
use Rattle.events.specs.Held.{Open}
use Rattle.events.specs.Held.{Waiting}
use Rattle.events.specs.Held.{ground_row, open_of, waiting_of, GroundFits, GroundsFit, EventsFit}
use Rattle.events.proofs.FactRows.{few_objects, no_ground, no_event, open_row_at, waiting_row_at}

module _ {D : Domain} {head : List ℕ} (H : HeadOf D head) (i : ℕ) where
  module _ (es : List Event) (F : EventsFit D es) (b : i < length es) where
    pub event_fits : GroundFits D (get_or es i no_event).act
    event_fits = F (get_or es i no_event) (get_d_in es i no_event b)

    pub event_row_lem : (w : Waiting) → w ≡ waiting_of es → take 17 (drop (17 * i) w.rows) ≡ ground_row (get_or es i no_event).act
    event_row_lem w p = waiting_row_at es (λ e m. few_objects H.bounded e.act (F e m)) w p i b

  module _ (gs : List GroundAction) (F : GroundsFit D gs) (b : i < length gs) where
    pub entry_fits : GroundFits D (get_or gs i no_ground)
    entry_fits = F (get_or gs i no_ground) (get_d_in gs i no_ground b)

    pub entry_row : (o : Open) → o ≡ open_of gs → take 17 (drop (17 * i) o.rows) ≡ ground_row (get_or gs i no_ground)
    entry_row o p = open_row_at gs (λ g m. few_objects H.bounded g (F g m)) o p i b
