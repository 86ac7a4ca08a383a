-- The action at once as the only event of a step: its ground literals in a memory. Assumes nothing.
use mathlib.Core.Path.{◌≡◌, refl, sym, subst}
use mathlib.Core.List.Memᴰ
use mathlib.Core.List.{List, [], ◌∷◌, ◌++◌}
use Prim.Native.Nat.{ℕ, ◌+◌, ◌≤◌, ◌<◌}
use native.Mathlib.Nat.{sub-zero}
use native.Mathlib.Omega.{arith}
use lib.ListN.{length, set, drop}
use Rattle.literals.specs.declared.Time.TheVariants.{AtStart}
use Rattle.literals.specs.Domain.{Domain, action}
use Rattle.literals.specs.Decode.{max_literals}
use Rattle.literals.specs.Held.{Bounded, HeadOf}
use Rattle.verdict.specs.Machine.{Event}
use Rattle.verdict.specs.Claims.{plain_event}
use Rattle.verdict.proofs.WellFormed.{action_in}
use Rattle.verdict.proofs.Objects.{objects_length, objects_range}
use Rattle.events.specs.Held.{GroundFits, ground_literals, event_literals, counts_at, grounded_bytes, ground_in, Laid, Grounded}
use Rattle.events.proofs.GroundLiterals.{laid_none, laid_more}
use Rattle.trying.specs.Held.{plain_ground}

pub plain_fits : {D : Domain} → Bounded D → (i : ℕ) → i < length D.actions → GroundFits D (plain_ground i (action D i).vars)
plain_fits {D} B i h =
    let k = B.counts (action D i) (action_in D i h) in
    record {
      listed = h;
      bound = objects_length 0 (action D i).vars;
      objects = λ o m. let r = (objects_range 0 (action D i).vars o m).1 in omega arith;
    }

-- the ground literals of the action, and how many they are, as the code writes them
pub plain_grounded : {D : Domain} {head : List ℕ} → HeadOf D head → (i : ℕ) → i < length D.actions
    → (memory next : List ℕ) (n : ℕ) → length memory ≡ grounded_bytes → length next ≡ length memory → n ≤ 0 + max_literals
    → ground_in n next ≡ ground_in 0 memory ++ ground_literals D AtStart (plain_ground i (action D i).vars)
    → drop counts_at next ≡ drop counts_at memory
    → Grounded D head (plain_event D i ∷ []) (set next counts_at n) n
plain_grounded {D} H i h memory next n size same few e k =
    record {
      says = H;
      fit = λ f m. subst (λ (f : Event). GroundFits D f.act) (sym (Memᴰ.eq_of_singleton m)) (plain_fits H.bounded i h);
      laid = subst (λ (j : ℕ). Laid (event_literals D (plain_event D i) ∷ []) (set next counts_at j) n) (sub-zero n)
          (laid_more (laid_none memory) (event_literals D (plain_event D i)) 0 refl next n (omega arith) (omega arith) e k);
    }
