-- The events that wait, by their rows: whether an event is among them. Assumes nothing.
use mathlib.Core.Path.{◌≡◌, sym, ap, ap₂, ◌∙◌}
use mathlib.Core.Bool.{Bool, ◌&&◌}
use mathlib.Core.List.{List}
use Prim.Native.Nat.{ℕ, ◌<◌}
use lib.Dec.{eqb}
use lib.ListN.{length, get_or}
use Rattle.records.specs.Lists.{any, same_list, elem, below}
use Rattle.records.proofs.Lists.{get_d_in, any_map}
use Rattle.literals.specs.Domain.{Domain}
use Rattle.literals.specs.Held.{Bounded}
use Rattle.literals.specs.Matching.{moment_number}
use Rattle.literals.proofs.Indices.{any_below, at_all}
use Rattle.verdict.specs.Machine.{Event, same_event}
use Rattle.events.specs.Held.{Waiting, ground_row, waiting_of, GroundFits, EventsFit}
use Rattle.run_fields.specs.Held.{waits_at}
use Rattle.events.proofs.FactRows.{few_objects, no_event, waiting_row_at, waiting_moment_at, waiting_count}
use Rattle.events.proofs.OpenRows.{same_rows}

-- an event waits exactly where one of the rows is its row, with the byte of its moment
module _ {D : Domain} (B : Bounded D) (es : List Event) (F : EventsFit D es) (w : Waiting) (p : w ≡ waiting_of es) (e : Event) (h : GroundFits D e.act) (moment : ℕ)
    (act : List ℕ) (q : moment ≡ moment_number e.moment) (r : act ≡ ground_row e.act) where
  waits : (i : ℕ) → i < length es → waits_at w.moments w.rows moment act i ≡ same_event e (get_or es i no_event)
  unfolding waits_at
  waits i l =
      let f : Event = get_or es i no_event in
      ap₂ (λ (a b : Bool). a && b)
      (ap₂ eqb q (waiting_moment_at es w p i))
      (ap₂ (same_list eqb) r (waiting_row_at es (λ d m. few_objects B d.act (F d m)) w p i l) ∙ same_rows B e.act f.act h (F f (get_d_in es i no_event l)))

  pub waiting_elem : any (waits_at w.moments w.rows moment act) (below w.count) ≡ elem same_event e es
  waiting_elem =
      ap (λ (n : ℕ). any (waits_at w.moments w.rows moment act) (below n)) (waiting_count es w p)
      ∙ any_below (waits_at w.moments w.rows moment act) (λ i. same_event e (get_or es i no_event)) (length es) waits
      ∙ sym (any_map (λ i. get_or es i no_event) (same_event e) (below (length es)))
      ∙ ap (any (same_event e)) (at_all no_event es)
