-- An action of a domain that was read, as the code holds it. Assumes nothing.
use mathlib.Core.Path.{◌≡◌, sym, subst}
use mathlib.Core.Bool.{true, not, ◌&&◌}
use mathlib.Core.List.{List, flat_map}
use Prim.Native.Nat.{ℕ, ◌<◌}
use lib.ListN.{length}
use Rattle.records.proofs.Lists.{and_l, pairwise_weaken}
use Rattle.literals.specs.Domain.{Domain, Action, action}
use Rattle.literals.specs.Decode.{repeats, contradicts}
use Rattle.literals.specs.Held.{literal_row, Held}
use Rattle.literals.proofs.Heads.{template_of, action_in}
use Rattle.classes.specs.Held.{ActionOf}
use Rattle.verdict.specs.Claims.{well_formed}
use Rattle.verdict.proofs.WellFormed.{literals_apart, action_well_formed}

pub action_held : {D : Domain} {head table : List ℕ} → Held D head table → well_formed D ≡ true → (i : ℕ) → i < length D.actions → {rows : List ℕ} → rows ≡ flat_map literal_row (action D i).lits
    → ActionOf D (action D i) head rows
action_held {D} H wf i h e =
    record {
      says = template_of H.says;
      listed = action_in H i h;
      apart = pairwise_weaken (λ l m. not (repeats l m) && not (contradicts l m)) (λ l m. not (repeats l m)) (action D i).lits (λ l m t. and_l _ _ t) (literals_apart D (action D i) (action_well_formed D wf i h));
      literals = e;
    }

-- what holds by a head holds by the same bytes elsewhere
pub same_held : {D : Domain} {table head copy : List ℕ} → copy ≡ head → Held D head table → Held D copy table
same_held {D} {table} e H = subst (λ (t : List ℕ). Held D t table) (sym e) H

pub same_head : {D : Domain} {a : Action} {rows head copy : List ℕ} → copy ≡ head → ActionOf D a head rows → ActionOf D a copy rows
same_head {D} {a} {rows} e A = subst (λ (t : List ℕ). ActionOf D a t rows) (sym e) A
