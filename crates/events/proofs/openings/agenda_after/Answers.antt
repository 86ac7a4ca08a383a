-- `agenda_after` meets its contract: the entries change in a copy, which is put back where they fit, and the events are cleared. Assumes
-- nothing.
use mathlib.Core.Path.{refl, sym, ap, ◌∙◌}
use Prim.Native.Nat.{ℕ}
use Rattle.std.specs.Prelude.{is_some}
use Rattle.events.proofs.Agenda.{after_entries, after_waits}
use Rattle.events.proofs.openings.agenda_after.Goals as goal

pub returns-in_err-count : goal.returns-in_err-count
returns-in_err-count c =
    let a = c.args in
    let x = c.copy_from_slice in
    let none = c.from_residual.ensures in
    record {
      joined = λ D gs es h k l few small e f.
          let r = c.open_after.ensures D gs es h k l few small ((λ i. record { count = a.opened; rows = x.ensures.after i }) ∙ e) f in
          (ap is_some (none ∙ sym c.in_err-count.was) ∙ r.0, λ m t. absurd (cc));
      waits = λ m t. absurd (cc);
      refused = λ t. refl;
    }

pub returns : goal.returns
returns c =
    let a = c.args in
    let p = c.requires in
    let x = c.copy_from_slice in
    let o = c.open_after in
    let y = c.copy_from_slice-2 in
    let z = c.fill in
    let cleared = z.ensures.after (λ y e. e) in
    let n : ℕ = c.in_ok-count.count in
    record {
      joined = λ D gs es h k l few small e f.
          let r = o.ensures D gs es h k l few small ((λ i. record { count = a.opened; rows = x.ensures.after i }) ∙ e) f in (
            sym (ap is_some c.in_ok-count.was) ∙ r.0,
            λ m t. (λ i. record {
              count = m;
              rows = (after_entries a.agenda.now y.new.self z.new.self p y.ensures.len cleared ∙ y.ensures.after) i;
            }) ∙ r.1 m (c.in_ok-count.was ∙ t),
          );
      waits = λ m t. after_waits a.agenda.now y.new.self z.new.self p y.ensures.len cleared;
      refused = λ t. absurd (cc);
    }
