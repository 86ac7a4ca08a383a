-- A step without events changes nothing; what stands beside the facts, kept or made anew. Assumes nothing.
use mathlib.Core.Path.{◌≡◌, refl, sym, ap, ap₂, ◌∙◌}
use mathlib.Core.Bool.{Bool, true, false, not, cond}
use mathlib.Core.List.Memᴰ
use mathlib.Core.List.{List, [], ◌∷◌, ◌++◌, map, flat_map, append-nil}
use Prim.Native.Nat.{ℕ, ◌≤◌, max}
use native.Mathlib.Omega.{arith}
use lib.Dec.{eqb}
use lib.ListN.{length, get_or, set, length-set}
use lib.Seq.{get_or-set_same, get_or-set_other}
use borrow.Author.Tests.{le-ltb}
use Rattle.records.specs.Lists.{all, elem}
use Rattle.records.specs.Memory.{over}
use Rattle.records.proofs.Lists.{filter_all}
use Rattle.literals.specs.declared.Object.{Object}
use Rattle.literals.specs.Domain.{Fact, same_fact, Domain}
use Rattle.verdict.specs.Machine.{Event, State, over_all_hold, step_facts, facts_after, next, top_weight}
use Rattle.verdict.specs.Held.{fact_row}
use Rattle.store.specs.Held.{note_at, fact_index, Indexed}
use Rattle.run_semantics.specs.RunFile.{max_facts, max_running}
use Rattle.run_semantics.specs.Play.{too_large, held_bytes}
use Rattle.events.specs.Held.{waiting_of}
use Rattle.machine.specs.Held.{StateRows, state_of, Kept, Noted, close_stop, close_state, close_waiting, close_weight, Leaves}
use Rattle.machine.proofs.Closing.{not_kept, nothing_forbids}

none_struck : (fs : List Fact) → all (λ (f : Fact). not (elem same_fact f [])) fs ≡ true
none_struck [] = refl
none_struck (f ∷ fs) = none_struck fs

pub no_events : (s : State) (es : List Event) (holding : StateRows) → holding ≡ state_of s es → holding.waiting.count ≡ 0 → es ≡ []
unfolding waiting_of
no_events s es holding is z = go es (sym (ap (λ (x : StateRows). x.waiting.count) is) ∙ z)
  where
    go : (l : List Event) → length l ≡ 0 → l ≡ []
    go [] e = refl
    go (x ∷ l) e = absurd (omega arith)

pub kept_none : {D : Domain} {objs : List Object} {s : State} {es : List Event} → Kept D objs s es → Kept D objs s []
kept_none kept =
    record {
      facts = kept.facts;
      facts_few = kept.facts_few;
      facts_once = kept.facts_once;
      running = kept.running;
      running_few = kept.running_few;
      waiting = λ e m. absurd (Memᴰ.not-nil m);
      waiting_few = omega arith;
      chosen = kept.chosen;
      waiting_over = λ e m. absurd (Memᴰ.not-nil m);
    }

module _ (D : Domain) (objs : List Object) (s : State) where
  pub next_none : next D objs s [] ≡ s
  unfolding next facts_after step_facts flat_map
  next_none i =
      record {
        facts = (ap {B = List Fact} (λ (fs : List Fact). fs ++ []) (filter_all (λ (f : Fact). not (elem same_fact f [])) s.facts (none_struck s.facts)) ∙ append-nil s.facts) i;
        running = append-nil s.running i;
      }

  pub rest_state : close_state D objs s [] ≡ s
  unfolding close_state
  rest_state = go (eqb (close_stop D objs s []) 0)
    where
      go : (b : Bool) → cond b (next D objs s []) s ≡ s
      go true = next_none
      go false = refl

  -- an over-all condition fails
  pub unrest : all (over_all_hold D objs s.facts) s.running ≡ false → 55 ≡ close_stop D objs s []
  unfolding close_stop
  unrest h = rw (sym (not_kept D objs s [] refl h))

  -- all of them hold
  pub rests : Kept D objs s [] → all (over_all_hold D objs s.facts) s.running ≡ true → 0 ≡ close_stop D objs s []
  unfolding close_stop
  rests kept h =
      let small : too_large s ≡ false = rw (le-ltb max_facts (length s.facts) kept.facts_few, le-ltb max_running (length s.running) kept.running_few) in
      rw (sym (nothing_forbids D objs s [] refl refl h refl), ap too_large next_none ∙ small)

  -- either way all is left as it was
  pub rest_leaves : (old : List ℕ) (w : ℕ) → top_weight D s.facts ≤ w → (n : ℕ) → n ≡ close_stop D objs s [] → (state : StateRows) → state ≡ state_of s []
      → (work : List ℕ) → work ≡ over (held_bytes s.facts) old → Leaves D objs s [] old w n state w work
  unfolding close_waiting close_weight
  rest_leaves old w under n e state is work m =
      record {
        number_is = e;
        state_is = is ∙ sym (ap₂ state_of rest_state (none_wait (eqb (close_stop D objs s []) 0)));
        weight_is = as_before (eqb (close_stop D objs s []) 0);
        work_is = m ∙ sym (ap (λ (t : State). over (held_bytes t.facts) old) rest_state);
      }
    where
      none_wait : (b : Bool) → cond {A = List Event} b [] [] ≡ []
      none_wait true = refl
      none_wait false = refl

      as_before : (b : Bool) → w ≡ cond b (max w (top_weight D (next D objs s []).facts)) w
      as_before true = let top : w ≡ max w (top_weight D s.facts) = omega arith in top ∙ sym (ap (λ (t : State). max w (top_weight D t.facts)) next_none)
      as_before false = refl

-- ---- what stands beside the facts

module _ (head : List ℕ) where
  -- the index says nothing of the number behind it
  pub indexed_set : (index : List ℕ) (v : ℕ) (rows : List (List ℕ)) → Indexed head index rows → Indexed head (set index note_at v) rows
  indexed_set index v rows h =
      record {
        numbers = length-set index note_at v ∙ h.numbers;
        totals = λ place l. get_or-set_other index note_at place v 0 (λ e. omega arith) ∙ h.totals place l;
        sized = h.sized;
      }

  module _ (D : Domain) {objs : List Object} where
    pub noted_rest : (index : List ℕ) (s : State) → Noted D objs head index s → Noted D objs head index (close_state D objs s [])
    noted_rest index s h = rw (rest_state D objs s) h

    -- noted that the over-all conditions hold
    pub noted_set : (index : List ℕ) (s : State) → Noted D objs head index s → all (over_all_hold D objs s.facts) s.running ≡ true → Noted D objs head (set index note_at 1) (close_state D objs s [])
    noted_set index s n h = noted_rest (set index note_at 1) s (record { indexed = indexed_set index 1 (map fact_row s.facts) n.indexed; settled = λ e. h })

    -- nothing is noted yet
    pub noted_anew : (index : List ℕ) (s : State) → Indexed head index (map fact_row s.facts) → get_or index note_at 0 ≡ 0 → Noted D objs head index s
    noted_anew index s h z = record { indexed = h; settled = λ e. absurd (omega arith) }

pub unset : (index : List ℕ) → length index ≡ fact_index → get_or (set index note_at 0) note_at 0 ≡ 0
unset index l = get_or-set_same index note_at 0 0 (omega arith)
