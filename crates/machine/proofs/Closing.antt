-- The step's close: what forbids it, what is too large, and what it leaves. Assumes nothing.
use mathlib.Core.Path.{◌≡◌, refl, sym, ap, ap₂, ◌∙◌}
use mathlib.Core.Bool.{Bool, true, false, ◌&&◌, not, cond}
use mathlib.Core.List.{List, [], ◌++◌, map}
use Prim.Native.Nat.{ℕ, ◌-◌, ◌*◌, ◌≤◌, ◌<◌, max}
use native.Mathlib.Omega.{arith}
use lib.Dec.{eqb, ltb, leb}
use lib.ListN.{length, take, replicate}
use borrow.Author.Tests.{ne_eqb, lt-ltb, le-ltb, ltb-true, leb-true, leb-false}
use Rattle.std.specs.Prelude.{Result, Ok, Err, is_err}
use Rattle.records.specs.Lists.{In, filter_by, all, elem}
use Rattle.records.specs.Memory.{over}
use Rattle.records.proofs.Lists.{clash, or_l, or_r}
use Rattle.literals.specs.declared.Usage.TheVariants.{Delete}
use Rattle.literals.specs.declared.Object.{Object}
use Rattle.literals.specs.Domain.{Fact, same_fact, Domain}
use Rattle.literals.specs.Held.{rows_in, Bounded}
use Rattle.verdict.specs.Judged.{fact_bytes}
use Rattle.verdict.specs.Machine.{GroundAction, Event, State, is_open, own_hold, over_all_hold, independent, step_facts, facts_after, close_all}
use Rattle.verdict.specs.Machine.{opened_by, next, top_weight}
use Rattle.verdict.specs.Held.{fact_row}
use Rattle.store.specs.Held.{Indexed, top_from, FactFits}
use Rattle.events.specs.Held.{Open, Waiting, open_of, waiting_of}
use Rattle.run_semantics.specs.RunFile.{max_facts, max_running}
use Rattle.run_semantics.specs.Play.{forbidden, too_large, held_bytes}
use Rattle.run_semantics.specs.declared.Stop.{Stop}
use Rattle.run_semantics.specs.Numbers.{stop_number, stopped_by}
use Rattle.run_semantics.proofs.Allowed.{forbidden_by_own}
use Rattle.run_semantics.proofs.Numbers.{numbered_stop}
use Rattle.effects.specs.Held.{at_most}
use Rattle.machine.specs.declared.State.{State as Counts}
use Rattle.machine.specs.declared.step.Closed.{Closed}
use Rattle.machine.specs.Held.{StateRows, state_of, state_in, Kept, close_stop, close_state, close_waiting, close_weight, state_left, weight_left, Leaves}
use Rattle.machine.proofs.HeldBytes.{fits_few, held_settled, work_rows}
use Rattle.machine.proofs.TopWeights.{top_after}
use Rattle.machine.proofs.NextKept.{kept_next}

-- ---- what forbids a step

module _ (D : Domain) (objs : List Object) (s : State) (es : List Event) where
  -- by the tests in their order: an event's own conditions are asked, an end's over-all ones are among those of everything open
  tested : (a b c i : Bool) → all (is_open s.running) es ≡ a → all (own_hold D objs s.facts) es ≡ b → all (over_all_hold D objs s.facts) s.running ≡ c → independent D objs es ≡ i
      → cond (not a) 57 (cond (not (b && c)) 55 (cond (not i) 56 0)) ≡ forbidden D objs s es
  tested a b c i p q r t = rw (forbidden_by_own, p, q, r, t)

  pub not_open : all (is_open s.running) es ≡ false → 57 ≡ forbidden D objs s es
  not_open p = tested false _ _ _ p refl refl refl

  pub not_met : all (is_open s.running) es ≡ true → all (own_hold D objs s.facts) es ≡ false → 55 ≡ forbidden D objs s es
  not_met p q = tested true false _ _ p q refl refl

  pub not_kept : all (is_open s.running) es ≡ true → all (over_all_hold D objs s.facts) s.running ≡ false → 55 ≡ forbidden D objs s es
  not_kept p r = go (all (own_hold D objs s.facts) es) refl
    where
      go : (b : Bool) → all (own_hold D objs s.facts) es ≡ b → 55 ≡ forbidden D objs s es
      go true q = tested true true false _ p q r refl
      go false q = not_met p q

  pub not_apart : all (is_open s.running) es ≡ true → all (own_hold D objs s.facts) es ≡ true → all (over_all_hold D objs s.facts) s.running ≡ true → independent D objs es ≡ false → 56 ≡ forbidden D objs s es
  not_apart p q r t = tested true true true false p q r t

  pub nothing_forbids : all (is_open s.running) es ≡ true → all (own_hold D objs s.facts) es ≡ true → all (over_all_hold D objs s.facts) s.running ≡ true → independent D objs es ≡ true → 0 ≡ forbidden D objs s es
  nothing_forbids p q r t = tested true true true true p q r t

-- ---- what a close leaves

module _ (D : Domain) (objs : List Object) (s : State) (es : List Event) (old : List ℕ) (w : ℕ) where
  -- a step that is refused leaves all as it was
  refused_by : (n : ℕ) → close_stop D objs s es ≡ n → (n ≡ 0 → ⊥) → (state : StateRows) → state ≡ state_of s es → (work : List ℕ) → work ≡ over (held_bytes s.facts) old → Leaves D objs s es old w n state w work
  unfolding close_state close_waiting close_weight
  refused_by n e z state h work m =
      let f : eqb (close_stop D objs s es) 0 ≡ false = rw e (ne_eqb n 0 z) in
      record {
        number_is = sym e;
        state_is = rw f h;
        weight_is = rw f;
        work_is = rw f m;
      }

  pub leaves_forbidden : (n : ℕ) → n ≡ forbidden D objs s es → (n ≡ 0 → ⊥) → (state : StateRows) → state ≡ state_of s es → (work : List ℕ) → work ≡ over (held_bytes s.facts) old → Leaves D objs s es old w n state w work
  unfolding close_stop
  leaves_forbidden n e z state h work m = let f : eqb (forbidden D objs s es) 0 ≡ false = rw (sym e) (ne_eqb n 0 z) in refused_by n (rw f (sym e)) z state h work m

  -- an answer that stops it leaves counts, weight and agenda as they are
  pub leaves_refused : (counts : Counts) (agenda : List ℕ) (r : Result Closed Stop) → is_err r ≡ true → stopped_by r ≡ forbidden D objs s es → state_in counts agenda ≡ state_of s es
      → (work : List ℕ) → work ≡ over (held_bytes s.facts) old → Leaves D objs s es old w (stopped_by r) (state_in (state_left counts r) agenda) (weight_left w r) work
  leaves_refused counts agenda (Ok closed) t e h work m = absurd (clash t refl)
  leaves_refused counts agenda (Err stop) t e h work m = leaves_forbidden (stop_number stop) e (numbered_stop stop) _ h work m

  module _ (free : forbidden D objs s es ≡ 0) where
    stop_large : (b : Bool) → too_large (next D objs s es) ≡ b → close_stop D objs s es ≡ cond b 52 0
    unfolding close_stop
    stop_large b e = rw (free, e)

    pub leaves_large : too_large (next D objs s es) ≡ true → (state : StateRows) → state ≡ state_of s es → (work : List ℕ) → work ≡ over (held_bytes s.facts) old → Leaves D objs s es old w 52 state w work
    leaves_large e state h work m = refused_by 52 (stop_large true e) (λ z. omega arith) state h work m

    pub leaves_next : too_large (next D objs s es) ≡ false → (state : StateRows) → state ≡ state_of (next D objs s es) [] → (weight : ℕ) → weight ≡ max w (top_weight D (next D objs s es).facts)
        → (work : List ℕ) → work ≡ over (held_bytes (next D objs s es).facts) old → Leaves D objs s es old w 0 state weight work
    unfolding close_state close_waiting close_weight
    leaves_next e state h weight g work m =
        let f : eqb (close_stop D objs s es) 0 ≡ true = rw (stop_large false e) in
        record {
          number_is = sym (stop_large false e);
          state_is = rw f h;
          weight_is = rw f g;
          work_is = rw f m;
        }

-- ---- how large the next state is

module _ (D : Domain) (objs : List Object) (s : State) (es : List Event) where
  pub many_facts : (n : ℕ) → n ≡ at_most 1024 (length (facts_after D objs s.facts es)) → 1024 < n → too_large (next D objs s es) ≡ true
  unfolding next
  many_facts n e l = or_l _ (lt-ltb max_facts (length (facts_after D objs s.facts es)) (go (ltb 1024 (length (facts_after D objs s.facts es))) refl e))
    where
      go : (b : Bool) → ltb 1024 (length (facts_after D objs s.facts es)) ≡ b → n ≡ cond b 1025 (length (facts_after D objs s.facts es)) → 1024 < length (facts_after D objs s.facts es)
      go true q k = ltb-true 1024 _ q
      go false q k = omega arith

  pub few_facts : (n : ℕ) → n ≡ at_most 1024 (length (facts_after D objs s.facts es)) → n ≤ 1024 → n ≡ length (facts_after D objs s.facts es)
  few_facts n e l = go (ltb 1024 (length (facts_after D objs s.facts es))) e
    where
      go : (b : Bool) → n ≡ cond b 1025 (length (facts_after D objs s.facts es)) → n ≡ length (facts_after D objs s.facts es)
      go true k = absurd (omega arith)
      go false k = k

  pub many_open : false ≡ leb (length (close_all es s.running ++ opened_by D es)) 32 → too_large (next D objs s es) ≡ true
  unfolding next
  many_open e = let l = leb-false (length (close_all es s.running ++ opened_by D es)) 32 (sym e) in or_r (ltb max_facts (length (facts_after D objs s.facts es))) (lt-ltb max_running _ l)

  pub not_large : length (facts_after D objs s.facts es) ≤ 1024 → length (close_all es s.running ++ opened_by D es) ≤ 32 → too_large (next D objs s es) ≡ false
  unfolding next
  not_large l k = rw (le-ltb max_facts (length (facts_after D objs s.facts es)) l, le-ltb max_running (length (close_all es s.running ++ opened_by D es)) k)

-- ---- a step that is taken, from what the calls promise

module _ (D : Domain) (B : Bounded D) {objs : List Object} (s : State) (es : List Event) (old : List ℕ) (w : ℕ) (kept : Kept D objs s es) (free : forbidden D objs s es ≡ 0) where
  abbrev after : List Fact
  after = facts_after D objs s.facts es

  abbrev running : List GroundAction
  running = close_all es s.running ++ opened_by D es

  state_next : (n : ℕ) (o : Open) (v : Waiting) → n ≡ length after → o ≡ open_of running → v ≡ waiting_of []
      → record { facts = n; running = o; waiting = v } ≡ state_of (next D objs s es) []
  unfolding next
  state_next n o v e f g i = record { facts = e i; running = f i; waiting = g i }

  facts_next : (next D objs s es).facts ≡ after
  unfolding next
  facts_next = refl

  pub after_fit : length after ≤ 1024 → length running ≤ 32 → (f : Fact) → In f after → FactFits D f
  after_fit l k f m = (kept_next D B s es kept (not_large D objs s es l k)).facts f (rw facts_next m)

  module _ (n : ℕ) (c : n ≡ at_most 1024 (length after)) (l : n ≤ 1024) (fits : true ≡ leb (length running) 32) where
    pub size_is : n ≡ length after
    size_is = few_facts D objs s es n c l

    pub after_few : length after ≤ 1024
    after_few = let e = size_is in omega arith

    pub running_short : length running ≤ 32
    running_short = leb-true (length running) 32 (sym fits)

    pub after_fits : (f : Fact) → In f after → FactFits D f
    after_fits = after_fit after_few running_short

    facts_taken : (close_state D objs s es).facts ≡ after
    unfolding close_state
    facts_taken = let f : eqb (close_stop D objs s es) 0 ≡ true = rw (stop_large D objs s es old w free false (not_large D objs s es after_few running_short)) in rw f facts_next

    pub taken_indexed : (head index : List ℕ) → Indexed head index (map fact_row after) → Indexed head index (map fact_row (close_state D objs s es).facts)
    taken_indexed head index h = rw facts_taken h

    -- the rows that are put together beside the work memory, put there
    module _ (work work' memory : List ℕ) (held : ℕ) (he : held ≡ length s.facts) (b : work ≡ over (held_bytes s.facts) old) (m : take (8 * length after) memory ≡ fact_bytes after)
        (be : work' ≡ over (take (8 * n) memory ++ replicate (8 * held - 8 * n) 0) work) where
      pub work_taken : work' ≡ over (held_bytes after) old
      work_taken =
          be
          ∙ ap₂ (λ (k h : ℕ). over (take (8 * k) memory ++ replicate (8 * h - 8 * k) 0) work) size_is he
          ∙ ap₂ (λ (t x : List ℕ). over (t ++ replicate (8 * length s.facts - 8 * length after) 0) x) m b
          ∙ held_settled s.facts after (fits_few B s.facts kept.facts) (fits_few B after after_fits) kept.facts_few after_few old

      pub taken_rows : rows_in n work' ≡ map fact_row after
      taken_rows = ap₂ rows_in size_is work_taken ∙ work_rows after (fits_few B after after_fits) after_few old

      pub rows_indexed : (head index : List ℕ) → Indexed head index (map fact_row after) → Indexed head index (rows_in n work')
      rows_indexed head index h = rw taken_rows h

      pub leaves_taken : (o : Open) → o ≡ open_of running → (v : Waiting) → v ≡ waiting_of [] → (weight k : ℕ)
          → k ≡ length (filter_by (λ (f : Fact). not (elem same_fact f (step_facts D objs es Delete))) s.facts) → top_weight D s.facts ≤ w → weight ≡ max w (top_from D after k)
          → Leaves D objs s es old w 0 (record { facts = n; running = o; waiting = v }) weight work'
      leaves_taken o oe v ve weight k ke under we =
          leaves_next D objs s es old w free (not_large D objs s es after_few running_short)
          (record { facts = n; running = o; waiting = v })
          (state_next n o v size_is oe ve)
          weight
          (we ∙ ap (λ (j : ℕ). max w (top_from D after j)) ke ∙ sym (top_after D objs s.facts es w under) ∙ sym (ap (λ (fs : List Fact). max w (top_weight D fs)) facts_next))
          work'
          (work_taken ∙ sym (ap (λ (fs : List Fact). over (held_bytes fs) old) facts_next))
