-- `entry_journeys` meets its contract: no action of the domain, one at once, or a lasting one. Assumes nothing.
use mathlib.Core.Path.{◌≡◌, sym, ap, ◌∙◌}
use mathlib.Core.List.{List, flat_map}
use Prim.Native.Nat.{ℕ, ◌<◌}
use native.Mathlib.Omega.{arith}
use lib.ListN.{length, get_or}
use Rattle.literals.specs.Domain.{action}
use Rattle.literals.specs.Held.{literal_row, lasting_in}
use Rattle.literals.proofs.Spans.{part_length}
use Rattle.verdict.proofs.ReadActions.{action_held}
use Rattle.events.proofs.FactRows.{ground_listed}
use Rattle.journeys.proofs.Belonging.{none_at_once}
use Rattle.journeys.proofs.entry_journeys.Goals as goal

pub returns-then-actions_in-action : goal.returns-then-actions_in-action
returns-then-actions_in-action c = record {
  few = omega arith;
  counts = λ D g y H wf G ge sized re.
      let t = c.if-actions_in-action.true in
      let n = c.actions_in.ensures.number in
      let w = c.from-action.ensures in
      absurd (ground_listed H g G _ ge (omega arith));
}

pub returns-then-not-is_lasting : goal.returns-then-not-is_lasting
returns-then-not-is_lasting c =
    let back8 = c in
    let wide = c.from-action in record {
      few = omega arith;
      counts = λ D g y H wf G ge sized re.
          let w : wide.result ≡ g.action = wide.ensures
          ∙ ap (λ (t : List ℕ). get_or t 0 0) ge in
          let l : g.action < length D.actions = G.listed in
          none_at_once D y g
          (sym (H.says.lasting g.action l)
          ∙ sym (c.is_lasting.ensures ∙ ap (λ (i : ℕ). lasting_in back8.args.head.now i) w) ∙ c.if-not-is_lasting.true);
    }

pub journeys_of-requires : goal.journeys_of-requires
journeys_of-requires c =
    let back8 = c in
    let F = c.rows_of-span.ensures.fits in
    let o = F.order in
    let few = F.few in record { rowed = part_length _ _ _ o F.room; literals = omega arith; act = back8.requires }

pub returns : goal.returns
returns c =
    let back8 = c in
    let wide = back8.from-action in
    let j = c.journeys_of in record {
      few = j.ensures.few;
      counts = λ D g y H wf G ge sized re.
          let w : wide.result ≡ g.action = wide.ensures ∙ ap (λ (t : List ℕ). get_or t 0 0) ge in
          let l : g.action < length D.actions = G.listed in
          let S = c.rows_of-span.ensures.rows D H (omega arith) in
          let A = action_held H wf g.action l (S.literals ∙ ap (λ (i : ℕ). flat_map literal_row (action D i).lits) w) in
          j.ensures.counts D g y A
          (sym (H.says.lasting g.action l) ∙ sym (c.is_lasting.ensures ∙ ap
          (λ (i : ℕ). lasting_in back8.args.head.now i) w)
          ∙ c.if-not-is_lasting.false)
          G ge sized re;
    }
