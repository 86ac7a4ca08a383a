-- Every outcome of playing is the machine's. Assumes nothing.
use mathlib.Core.Path.{◌≡◌, refl, sym, ap, ◌∙◌}
use mathlib.Core.Bool.{Bool, true, false, ◌||◌, cond, false≢true}
use mathlib.Core.Logic.{◌⊎◌, inl, inr}
use mathlib.Core.List.Memᴰ
use mathlib.Core.List.{List, [], ◌∷◌, ◌++◌}
use Prim.Native.Nat.{ℕ, zero, suc, ◌+◌, ◌≤◌, ◌<◌}
use native.Mathlib.Omega.{arith}
use lib.Dec.{eqb, ltb}
use lib.ListN.{length, length-append}
use borrow.Author.Tests.{eq-eqb, ne_eqb, ltb-false}
use Rattle.records.specs.Lists.{In, all, dedup}
use Rattle.records.specs.declared.Record.{Record}
use Rattle.records.specs.declared.Record.TheVariants.{Whole, Cut, End}
use Rattle.records.specs.Record.{record_at, payload}
use Rattle.records.proofs.Lists.{and_l, or_r, clash, all_snoc, in_snoc}
use Rattle.literals.specs.declared.Object.{Object}
use Rattle.literals.specs.Domain.{Fact, same_fact, Domain}
use Rattle.literals.specs.Decode.{byte}
use Rattle.verdict.specs.Binding.{objects_from}
use Rattle.verdict.specs.Machine.{Event, State, legal_step, allowed, next, start_state, top_weight}
use Rattle.verdict.specs.Claims.{is_event, is_fact}
use Rattle.run_semantics.specs.RunFile.{RunKind, objects_record, fact_record, event_record, step_record, end_record, other_record, run_kind_of, fact_of, event_of, Entry, entries_before, entries_up_to, objects_in, start_facts_in, steps_in, waiting_in, begun_in, is_end, closed_in, objects_stop, fact_stop, event_stop, step_stop, end_stop, record_stop}
use Rattle.run_semantics.specs.Play.{Tally, Playing, before_run, PlayTurn, go_on, finish, outcome_at, stop_at, start_tally, begin, with_objects}
use Rattle.run_semantics.specs.Play.{joined, with_fact, with_event, run_objects, forbidden, too_large, tallied, after_step, close_step, with_close}
use Rattle.run_semantics.specs.Play.{unless, play_record, play_found, play_step, play_from, play_run}
use Rattle.run_semantics.specs.Claims.{start_of, step_end, close_end, record_end, found_end, end_number, AsMachine}
use Rattle.run_semantics.proofs.Allowed.{allowed_not_forbidden}
use Rattle.run_semantics.proofs.Loop.{play_more, play_done, play_at}
use Rattle.run_semantics.proofs.Entries.{entry_at, Chain, here, snoc, chain_within, chain_behind, before_chain, up_to_whole, up_to_none, facts_snoc, waiting_snoc, steps_snoc, objects_snoc, closed_snoc, facts_keep, steps_keep, begun_keep, begun_here, begun_before, nothing_early}
use Rattle.run_semantics.proofs.Runs.{final, Taken, peak, no_steps, taken_none, final_none, peak_none, taken_snoc, final_snoc, peak_snoc}
use Rattle.run_semantics.proofs.Runs.{start_snoc}
use Rattle.run_semantics.proofs.Stops.{Tested, objects_tested, fact_tested, event_tested, step_tested, end_tested, forbidden_by, no_events, legal_snoc}

-- ---- what holds of the machine, of start facts, steps taken and events that wait

pub record Reached (D : Domain) (n : ℕ) (s : State) (fs : List Fact) (ess : List (List Event)) (ws : List Event) : Type 0 where
  pub facts_legal : all (is_fact D (objects_from 0 n)) fs ≡ true
  pub steps_legal : all (legal_step D) ess ≡ true
  pub events_legal : all (all (is_event D (objects_from 0 n))) ess ≡ true
  pub waiting_legal : legal_step D ws ≡ true
  pub waiting_events : all (is_event D (objects_from 0 n)) ws ≡ true
  -- before the object count nothing is read
  pub none_yet : n ≡ 0 → (fs ≡ []) × (ess ≡ []) × (ws ≡ [])
  pub taken : Taken D (objects_from 0 n) (start_state fs) ess
  pub state : s ≡ final D (objects_from 0 n) (start_state fs) ess

-- the tally, where the start counts or does not
pub record Counts (D : Domain) (n : ℕ) (b : Bool) (fs : List Fact) (ess : List (List Event)) (t : Tally) : Type 0 where
  pub begun : t.begun ≡ b
  pub steps : t.steps ≡ length ess
  pub weight : t.weight ≡ cond b (peak D (objects_from 0 n) (start_state fs) ess) 0

module _ (D : Domain) {n : ℕ} {s : State} {fs : List Fact} {ess : List (List Event)} {ws : List Event} where
  -- the object count
  with_objects_lem : (m : ℕ) → n ≡ 0 → Reached D n s fs ess ws → Reached D m s fs ess ws
  with_objects_lem m z h =
      let e = h.none_yet z in
      record {
        facts_legal = rw e.0;
        steps_legal = rw e.1;
        events_legal = rw e.1;
        waiting_legal = h.waiting_legal;
        waiting_events = rw e.2;
        none_yet = λ _. e;
        taken = taken_none D (objects_from 0 m) (start_state fs) e.1;
        state =
            h.state ∙ final_none D (objects_from 0 n) (start_state fs) e.1 ∙ sym (final_none D (objects_from 0 m) (start_state fs) e.1);
      }

  count_objects : (m : ℕ) {b : Bool} {t : Tally} → n ≡ 0 → Reached D n s fs ess ws → Counts D n b fs ess t → Counts D m b fs ess t
  count_objects m {b} z h k =
      let e = (h.none_yet z).1 in
      record {
        begun = k.begun;
        steps = k.steps;
        weight =
            k.weight
            ∙ ap (λ (x : ℕ). cond b x 0)
            (peak_none D (objects_from 0 n) (start_state fs) e ∙ sym (peak_none D (objects_from 0 m) (start_state fs) e));
      }

  -- one event more
  with_event_lem : (e : Event) → (n ≡ 0 → ⊥) → is_event D (objects_from 0 n) e ≡ true → legal_step D (ws ++ (e ∷ [])) ≡ true → Reached D n s fs ess ws → Reached D n s fs ess (ws ++ (e ∷ []))
  with_event_lem e z i l h =
      record {
        facts_legal = h.facts_legal;
        steps_legal = h.steps_legal;
        events_legal = h.events_legal;
        waiting_legal = l;
        waiting_events = all_snoc (is_event D (objects_from 0 n)) ws e h.waiting_events i;
        none_yet = λ q. absurd (z q);
        taken = h.taken;
        state = h.state;
      }

  -- one step more
  with_step : (n ≡ 0 → ⊥) → allowed D (objects_from 0 n) s ws ≡ true → Reached D n s fs ess ws
      → Reached D n (next D (objects_from 0 n) s ws) fs (ess ++ (ws ∷ [])) []
  with_step z a h =
      let b : allowed D (objects_from 0 n) (final D (objects_from 0 n) (start_state fs) ess) ws ≡ true = rw h.state at a in
      record {
        facts_legal = h.facts_legal;
        steps_legal = all_snoc (legal_step D) ess ws h.steps_legal h.waiting_legal;
        events_legal = all_snoc (all (is_event D (objects_from 0 n))) ess ws h.events_legal h.waiting_events;
        waiting_legal = no_events D;
        waiting_events = refl;
        none_yet = λ q. absurd (z q);
        taken = taken_snoc D (objects_from 0 n) (start_state fs) ess ws h.taken b;
        state = rw h.state (sym (final_snoc D (objects_from 0 n) (start_state fs) ess ws h.taken b));
      }

  -- the start counts from now on
  count_start : {b : Bool} {t : Tally} → (b ≡ false → ess ≡ []) → Reached D n s fs ess ws → Counts D n b fs ess t
      → Counts D n true fs ess (start_tally t (top_weight D s.facts))
  count_start {b} {t} z h k = go b z k
    where
      go : (b : Bool) → (b ≡ false → ess ≡ []) → Counts D n b fs ess t → Counts D n true fs ess (start_tally t (top_weight D s.facts))
      go true z k = rw k.begun (record { begun = refl; steps = k.steps; weight = k.weight })
      go false z k =
          let e : ess ≡ [] = z refl in
          let f : s ≡ start_state fs = h.state ∙ rw (e, no_steps) in
          rw k.begun
          (record {
            begun = refl;
            steps = rw e;
            weight = rw (e, no_steps, f) (omega arith);
          })

  -- one step more counts
  count_step : {t : Tally} → allowed D (objects_from 0 n) s ws ≡ true → Reached D n s fs ess ws → Counts D n true fs ess t
      → Counts D n true fs (ess ++ (ws ∷ [])) (tallied t (top_weight D (next D (objects_from 0 n) s ws).facts))
  count_step {t} a h k =
      let b : allowed D (objects_from 0 n) (final D (objects_from 0 n) (start_state fs) ess) ws ≡ true = rw h.state at a in
      record {
        begun = k.begun;
        steps = ap suc k.steps ∙ simp length-append (omega arith);
        weight = rw (k.weight, h.state) (sym (peak_snoc D (objects_from 0 n) (start_state fs) ess ws h.taken b));
      }

-- one start fact more, before any step
with_fact_lem : (D : Domain) {n : ℕ} {s : State} {fs : List Fact} {ws : List Event} (f : Fact) → (n ≡ 0 → ⊥) → is_fact D (objects_from 0 n) f ≡ true
    → Reached D n s fs [] ws → Reached D n (record { facts = joined f s.facts; running = s.running }) (fs ++ (f ∷ [])) [] ws
with_fact_lem D {n} {s} {fs} {ws} f z i h =
    let e : s ≡ start_state fs = h.state ∙ rw no_steps in
    record {
      facts_legal = all_snoc (is_fact D (objects_from 0 n)) fs f h.facts_legal i;
      steps_legal = refl;
      events_legal = refl;
      waiting_legal = h.waiting_legal;
      waiting_events = h.waiting_events;
      none_yet = λ q. absurd (z q);
      taken = rw no_steps;
      state = rw (no_steps, e) (ap (λ (x : List Fact). record { facts = x; running = [] }) (sym (start_snoc fs f)));
    }

count_fact : (D : Domain) {n : ℕ} {fs : List Fact} {t : Tally} (f : Fact) → Counts D n false fs [] t
    → Counts D n false (fs ++ (f ∷ [])) [] t
count_fact D f k = record { begun = k.begun; steps = k.steps; weight = k.weight }

-- ---- where playing stands, told by the records before it

pub record Stands (D : Domain) (r : List ℕ) (es : List Entry) (b : Bool) (p : Playing) : Type 0 where
  pub chain : Chain r 0 es p.at
  pub earlier : (e : Entry) → In e es → end_number D r (entries_before r e.at) e.at ≡ 0
  pub objects : p.objects ≡ objects_in es
  pub reached : Reached D p.objects p.state (start_facts_in es) (steps_in es) (waiting_in es)
  pub counts : Counts D p.objects b (start_facts_in es) (steps_in es) p.tally
  pub waiting : p.waiting ≡ waiting_in es

pub record Inv (D : Domain) (r : List ℕ) (p : Playing) : Type 0 where
  pub es : List Entry
  pub stands : Stands D r es (begun_in es) p
  pub closed : p.closed ≡ closed_in es
  pub begun : closed_in es ≡ true → begun_in es ≡ true

abbrev pub Good : Domain → List ℕ → PlayTurn → Type 0
Good D r (go_on q) = Inv D r q
Good D r (finish o) = AsMachine D r o

good_cond : (D : Domain) (r : List ℕ) (b : Bool) (t u : PlayTurn) → (b ≡ true → Good D r t) → (b ≡ false → Good D r u) → Good D r (cond b t u)
good_cond D r true t u f g = f refl
good_cond D r false t u f g = g refl

module _ (D : Domain) (r : List ℕ) where
  -- an outcome that leaves the state before the record
  ends : {es : List Entry} {b : Bool} (p : Playing) → Stands D r es b p → begun_in (entries_up_to r p.at) ≡ b → (n : ℕ) → n ≡ end_number D r es p.at → (n ≡ 0 → ⊥) → (n ≡ 2 → p.at ≡ length r)
      → AsMachine D r (outcome_at n p.at p.state p.tally)
  ends {es} p h u n e z w =
      rw (before_chain r h.chain)
      (record {
        place = chain_behind r h.chain;
        earlier = h.earlier;
        number = e;
        some = z;
        whole = w;
        facts_legal = rw (← h.objects) h.reached.facts_legal;
        steps_legal = h.reached.steps_legal;
        events_legal = rw (← h.objects) h.reached.events_legal;
        taken = rw (← h.objects) h.reached.taken;
        steps = h.counts.steps;
        facts = rw (← h.objects) (ap (λ (s : State). s.facts) h.reached.state);
        running = rw (← h.objects) (ap (λ (s : State). s.running) h.reached.state);
        begun = rw u h.counts.begun;
        weight = rw (← h.objects, u) h.counts.weight;
      })

  begun : {es : List Entry} (p : Playing) → Stands D r es (begun_in es) p → Stands D r es true (begin D p)
  unfolding begin
  begun {es} p h =
      record {
        chain = h.chain;
        earlier = h.earlier;
        objects = h.objects;
        reached = h.reached;
        counts = count_start D (λ q. (nothing_early es q).0) h.reached h.counts;
        waiting = h.waiting;
      }

-- ---- one record more

-- the entry e is the whole record at an offset, behind these records, which don't close the run
pub record Found (D : Domain) (r : List ℕ) (at : ℕ) (e : Entry) (behind : ℕ) (es : List Entry) : Type 0 where
  pub further : Chain r 0 (es ++ (e ∷ [])) behind
  pub up_to : entries_up_to r at ≡ es ++ (e ∷ [])
  pub before : entries_before r at ≡ es
  pub here_at : e.at ≡ at
  pub not_closed : closed_in es ≡ false
  pub number : end_number D r es at ≡ record_end D es e.kind e.bytes

abbrev entry : Playing → RunKind → List ℕ → Entry
entry p k b = record { at = p.at; kind = k; bytes = b }

module _ (D : Domain) (r : List ℕ) {at : ℕ} {e : Entry} {behind : ℕ} {es : List Entry} (f : Found D r at e behind es) where
  -- by what stops it
  by_stop : (n : ℕ) → n ≡ record_stop D es e.kind e.bytes → (n ≡ 0 → ⊥) → n ≡ end_number D r es at
  by_stop n q z = sym (f.number ∙ sym (go (record_stop D es e.kind e.bytes) q))
    where
      go : (m : ℕ) → n ≡ m → n ≡ cond (eqb m 0) (close_end D es e.kind) m
      go m k = let h : eqb m 0 ≡ false = ne_eqb m 0 (λ y. z (k ∙ y)) in rw h k

  -- where nothing does, by what the machine says
  by_close : record_stop D es e.kind e.bytes ≡ 0 → end_number D r es at ≡ close_end D es e.kind
  by_close q = f.number ∙ go (record_stop D es e.kind e.bytes) q
    where
      go : (m : ℕ) → m ≡ 0 → cond (eqb m 0) (close_end D es e.kind) m ≡ close_end D es e.kind
      go m k = rw (eq-eqb m 0 k)

  -- a record that does not end playing is one more of the earlier ones
  earlier_more : ((x : Entry) → In x es → end_number D r (entries_before r x.at) x.at ≡ 0) → end_number D r es at ≡ 0
      → (x : Entry) → In x (es ++ (e ∷ [])) → end_number D r (entries_before r x.at) x.at ≡ 0
  earlier_more h z = in_snoc {P = λ (x : Entry). end_number D r (entries_before r x.at) x.at ≡ 0} es e h (rw (f.here_at, f.before) z)

  -- its close
  closed_now : (b : Bool) → is_end e.kind ≡ b → b ≡ closed_in (es ++ (e ∷ []))
  closed_now b q = sym (closed_snoc es e f.not_closed ∙ q)

-- a start fact behind the first of 18 to 20 is stopped whatever is held; before it, the facts held are the start's
late_stop : (D : Domain) (n : ℕ) (fs : List Fact) (b : List ℕ) → fact_stop D n true fs b ≡ 50
unfolding fact_stop
late_stop D n fs b = let e : eqb n 0 || true ≡ true = or_r (eqb n 0) refl in rw e

fact_stop_is : (D : Domain) (r : List ℕ) {es : List Entry} (p : Playing) (b : List ℕ) → Stands D r es (begun_in es) p
    → fact_stop D p.objects p.tally.begun p.state.facts b ≡ fact_stop D (objects_in es) (begun_in es) (dedup same_fact (start_facts_in es)) b
fact_stop_is D r {es} p b h = rw (h.objects, h.counts.begun) (go (begun_in es) refl)
  where
    go : (c : Bool) → begun_in es ≡ c → fact_stop D (objects_in es) c p.state.facts b ≡ fact_stop D (objects_in es) c (dedup same_fact (start_facts_in es)) b
    go true q = late_stop D (objects_in es) p.state.facts b ∙ sym (late_stop D (objects_in es) (dedup same_fact (start_facts_in es)) b)
    go false q =
        let n : steps_in es ≡ [] = (nothing_early es q).0 in
        ap (λ (fs : List Fact). fact_stop D (objects_in es) false fs b) (ap (λ (s : State). s.facts) h.reached.state ∙ rw (n, no_steps))

module _ (D : Domain) (r : List ℕ) where
  -- a record that is stopped, or passes
  good_unless : {P : Type 0} {es : List Entry} {b : Bool} {e : Entry} {behind : ℕ} (p : Playing) → Stands D r es b p → begun_in (entries_up_to r p.at) ≡ b → Found D r p.at e behind es
      → (n : ℕ) → n ≡ record_stop D es e.kind e.bytes → (t : PlayTurn) → Tested n P → (record_stop D es e.kind e.bytes ≡ 0 → P → Good D r t) → Good D r (unless n p t)
  good_unless p h u f n q t (inl z) g = rw z.0 (g (sym q ∙ z.0) z.1)
  good_unless p h u f n q t (inr k) g = let z : n ≡ 0 → ⊥ = λ y. omega arith in rw (ne_eqb n 0 z) (ends D r p h u n (by_stop D r f n q z) z (λ y. absurd (omega arith)))

  -- the step's close
  good_close : {es : List Entry} (p : Playing) (b : List ℕ) (behind : ℕ) → (p.objects ≡ 0 → ⊥) → Stands D r es true p → Found D r p.at (entry p step_record b) behind es
      → record_stop D es step_record b ≡ 0 → Good D r (close_step D p behind)
  unfolding close_step
  good_close {es} p b behind z h f stop =
      good_cond D r (eqb number 0) (cond (too_large after) (stop_at 52 p) (after_step p after top behind)) (stop_at number p)
      (λ q.
      let a = allowed_not_forbidden D objs p.state p.waiting ∙ q in
      good_cond D r (too_large after) (stop_at 52 p) (after_step p after top behind)
      (λ l. ends D r p h u 52 (sym (said ∙ rw (a, l))) (λ y. omega arith) (λ y. absurd (omega arith)))
      (λ l. went a (said ∙ rw (a, l))))
      (λ q.
      let a = allowed_not_forbidden D objs p.state p.waiting ∙ q in
      ends D r p h u number (sym (said ∙ rw a)) (λ y. clash (eq-eqb number 0 y) q)
      (λ y. absurd (not_two y (forbidden_by D objs p.state p.waiting))))
    where
      e : Entry
      e = entry p step_record b

      objs : List Object
      objs = run_objects p

      number : ℕ
      number = forbidden D objs p.state p.waiting

      after : State
      after = next D objs p.state p.waiting

      top : ℕ
      top = top_weight D after.facts

      u : begun_in (entries_up_to r p.at) ≡ true
      u = rw f.up_to (begun_here es e refl)

      said : end_number D r es p.at ≡ step_end D objs p.state p.waiting
      said =
          by_close D r f stop
          ∙ sym (ap (λ (s : State). step_end D objs s p.waiting) h.reached.state
          ∙ ap (step_end D objs (final D objs (start_of es) (steps_in es))) h.waiting
          ∙ ap (λ (n : ℕ). step_end D (objects_from 0 n) (final D (objects_from 0 n) (start_of es) (steps_in es)) (waiting_in es)) h.objects)

      not_two : number ≡ 2 → (number ≡ 0) ⊎ ((55 ≤ number) × (number ≤ 57)) → ⊥
      not_two y (inl k) = omega arith
      not_two y (inr k) = omega arith

      went : allowed D objs p.state p.waiting ≡ true → end_number D r es p.at ≡ 0 → Good D r (after_step p after top behind)
      went a n =
          let w : allowed D objs p.state (waiting_in es) ≡ true = rw h.waiting at a in
          let k = with_step D z w h.reached in
          record {
            es = es ++ (e ∷ []);
            stands =
                record {
                  chain = f.further;
                  earlier = earlier_more D r f h.earlier n;
                  objects = h.objects ∙ sym (objects_snoc es e);
                  reached = rw (facts_keep es e refl, steps_snoc es e, waiting_snoc es e, h.waiting) k;
                  counts = rw (begun_here es e refl, facts_keep es e refl, steps_snoc es e, h.waiting) (count_step D w h.reached h.counts);
                  waiting = sym (waiting_snoc es e);
                };
            closed = closed_now D r f false refl;
            begun = λ _. begun_here es e refl;
          }

  good_record : (p : Playing) (k : RunKind) (b : List ℕ) (behind : ℕ) (h : Inv D r p) → Found D r p.at (entry p k b) behind h.es → Good D r (play_record D p k b behind)
  unfolding play_record begin record_stop
  good_record p objects_record b behind h f =
      let es = h.es in
      let e = entry p objects_record b in
      good_unless p h.stands (rw f.up_to (begun_keep es e refl)) f (objects_stop p.objects b) (ap (λ (n : ℕ). objects_stop n b) h.stands.objects) (go_on (with_objects p (byte b 0) behind)) (objects_tested p.objects b)
      (λ s z.
      record {
        es = es ++ (e ∷ []);
        stands =
            record {
              chain = f.further;
              earlier = earlier_more D r f h.stands.earlier (by_close D r f s);
              objects = sym (objects_snoc es e);
              reached = rw (facts_keep es e refl, steps_keep es e refl, waiting_snoc es e) (with_objects_lem D (byte b 0) z h.stands.reached);
              counts = rw (begun_keep es e refl, facts_keep es e refl, steps_keep es e refl)
                  (count_objects D (byte b 0) z h.stands.reached h.stands.counts);
              waiting = h.stands.waiting ∙ sym (waiting_snoc es e);
            };
        closed = closed_now D r f false refl;
        begun = λ q. absurd (clash q (sym (closed_now D r f false refl)));
      })
  good_record p fact_record b behind h f =
      let es = h.es in
      let e = entry p fact_record b in
      good_unless p h.stands (rw f.up_to (begun_keep es e refl)) f (fact_stop D p.objects p.tally.begun p.state.facts b) (fact_stop_is D r p b h.stands) (go_on (with_fact p (fact_of b) behind))
      (fact_tested D p.objects p.tally.begun p.state.facts b)
      (λ s z.
      let q : begun_in es ≡ false = sym h.stands.counts.begun ∙ z.early in
      let n : steps_in es ≡ [] = (nothing_early es q).0 in
      record {
        es = es ++ (e ∷ []);
        stands =
            record {
              chain = f.further;
              earlier = earlier_more D r f h.stands.earlier (by_close D r f s);
              objects = h.stands.objects ∙ sym (objects_snoc es e);
              reached = rw (facts_snoc es e, steps_keep es e refl, waiting_snoc es e, n) (with_fact_lem D (fact_of b) z.some z.fact (rw n at h.stands.reached));
              counts = rw (begun_keep es e refl, q, facts_snoc es e, steps_keep es e refl, n) (count_fact D (fact_of b) (rw (q, n) at h.stands.counts));
              waiting = h.stands.waiting ∙ sym (waiting_snoc es e);
            };
        closed = closed_now D r f false refl;
        begun = λ q. absurd (clash q (sym (closed_now D r f false refl)));
      })
  good_record p event_record b behind h f =
      let es = h.es in
      let e = entry p event_record b in
      let g = begun D r p h.stands in
      good_unless (begin D p) g (rw f.up_to (begun_here es e refl)) f (event_stop D p.objects p.waiting b) (ap (λ (n : ℕ). event_stop D n p.waiting b) g.objects ∙ ap (λ (ws : List Event). event_stop D (objects_in es) ws b) g.waiting)
      (go_on (with_event (begin D p) (event_of b) behind)) (event_tested D p.objects p.waiting b)
      (λ s z.
      record {
        es = es ++ (e ∷ []);
        stands =
            record {
              chain = f.further;
              earlier = earlier_more D r f h.stands.earlier (by_close D r f s);
              objects = g.objects ∙ sym (objects_snoc es e);
              reached = rw (facts_keep es e refl, steps_keep es e refl, waiting_snoc es e)
                  (with_event_lem D (event_of b) z.some z.event (legal_snoc D (waiting_in es) (event_of b) g.reached.waiting_legal (and_l _ _ (and_l _ _ z.event)) (rw g.waiting at z.fresh)) g.reached);
              counts = rw (begun_here es e refl, facts_keep es e refl, steps_keep es e refl) g.counts;
              waiting = rw (waiting_snoc es e, g.waiting);
            };
        closed = closed_now D r f false refl;
        begun = λ _. begun_here es e refl;
      })
  good_record p step_record b behind h f =
      let es = h.es in
      let e = entry p step_record b in
      let g = begun D r p h.stands in
      good_unless (begin D p) g (rw f.up_to (begun_here es e refl)) f (step_stop p.objects b) (ap (λ (n : ℕ). step_stop n b) g.objects) (close_step D (begin D p) behind) (step_tested p.objects b)
      (λ s z. good_close (begin D p) b behind z g f s)
  good_record p end_record b behind h f =
      let es = h.es in
      let e = entry p end_record b in
      let g = begun D r p h.stands in
      good_unless (begin D p) g (rw f.up_to (begun_here es e refl)) f (end_stop p.objects p.waiting b) (ap (λ (n : ℕ). end_stop n p.waiting b) g.objects ∙ ap (λ (ws : List Event). end_stop (objects_in es) ws b) g.waiting)
      (go_on (with_close (begin D p) behind)) (end_tested p.objects p.waiting b)
      (λ s z.
      record {
        es = es ++ (e ∷ []);
        stands =
            record {
              chain = f.further;
              earlier = earlier_more D r f h.stands.earlier (by_close D r f s);
              objects = g.objects ∙ sym (objects_snoc es e);
              reached = rw (facts_keep es e refl, steps_keep es e refl, waiting_snoc es e) g.reached;
              counts = rw (begun_here es e refl, facts_keep es e refl, steps_keep es e refl) g.counts;
              waiting = g.waiting ∙ sym (waiting_snoc es e);
            };
        closed = closed_now D r f true refl;
        begun = λ _. begun_here es e refl;
      })
  good_record p other_record b behind h f =
      ends D r p h.stands (rw f.up_to (begun_keep h.es (entry p other_record b) refl)) 50 (by_stop D r f 50 refl (λ y. omega arith)) (λ y. omega arith) (λ y. absurd (omega arith))

  -- ---- the whole file

  number_at : (es : List Entry) (at : ℕ) → closed_in es ≡ false → (f : Record) → record_at r at ≡ f → end_number D r es at ≡ found_end D r es f
  unfolding end_number
  number_at es at c f e = rw (c, e)

  good_found : (p : Playing) → p.closed ≡ false → (f : Record) → record_at r p.at ≡ f → Inv D r p → Good D r (play_found D r p f)
  unfolding play_found
  good_found p c (Whole k start len) e h =
      good_record p (run_kind_of k) (payload r start len) (start + len) h
      (record {
        further = snoc r h.stands.chain e;
        up_to = up_to_whole r h.stands.chain e;
        before = before_chain r h.stands.chain;
        here_at = refl;
        not_closed = sym h.closed ∙ c;
        number = number_at h.es p.at (sym h.closed ∙ c) (Whole k start len) e;
      })
  good_found p c Cut e h = ends D r p h.stands (ap begun_in (up_to_none r h.stands.chain (inl e))) 50 (sym (number_at h.es p.at (sym h.closed ∙ c) Cut e)) (λ y. omega arith) (λ y. absurd (omega arith))
  good_found p c End e h = ends D r p h.stands (ap begun_in (up_to_none r h.stands.chain (inr e))) 50 (sym (number_at h.es p.at (sym h.closed ∙ c) End e)) (λ y. omega arith) (λ y. absurd (omega arith))

  -- behind the run's close
  begun_still : {es : List Entry} {at : ℕ} → Chain r 0 es at → begun_in es ≡ true → (f : Record) → record_at r at ≡ f → begun_in (entries_up_to r at) ≡ true
  begun_still {es} {at} c b (Whole k start len) e = rw (up_to_whole r c e) (begun_before es (entry_at r at k start len) b)
  begun_still c b Cut e = rw (up_to_none r c (inl e)) b
  begun_still c b End e = rw (up_to_none r c (inr e)) b

  number_closed : (es : List Entry) (at : ℕ) → closed_in es ≡ true → (b : Bool) → ltb at (length r) ≡ b → end_number D r es at ≡ cond b 50 2
  unfolding end_number
  number_closed es at c b e = rw (c, e)

  pub good_step : (p : Playing) → Inv D r p → Good D r (play_step D r p)
  unfolding play_step
  good_step p h =
      good_cond D r p.closed (cond (ltb p.at (length r)) (stop_at 50 p) (stop_at 2 p)) (play_found D r p (record_at r p.at))
      (λ c.
      let k : closed_in h.es ≡ true = sym h.closed ∙ c in
      let b : begun_in h.es ≡ true = h.begun k in
      let g : Stands D r h.es true p = rw b at h.stands in
      let u = begun_still g.chain b (record_at r p.at) refl in
      good_cond D r (ltb p.at (length r)) (stop_at 50 p) (stop_at 2 p)
      (λ l. ends D r p g u 50 (sym (number_closed h.es p.at k true l)) (λ y. omega arith) (λ y. absurd (omega arith)))
      (λ l. ends D r p g u 2 (sym (number_closed h.es p.at k false l)) (λ y. omega arith) (λ _. let a = ltb-false p.at (length r) l in let b = chain_within r g.chain (omega arith) in omega arith)))
      (λ c. good_found p c (record_at r p.at) refl h)

  good_from : (fuel : ℕ) (p : Playing) → length r < p.at + fuel → Inv D r p → AsMachine D r (play_from fuel D r p)
  good_from zero p l h = let w = chain_within r h.stands.chain (omega arith) in absurd (omega arith)
  good_from (suc fuel) p l h = go (λ q. good_from fuel q) (play_step D r p) refl (good_step p h)
    where
      go : ((q : Playing) → length r < q.at + fuel → Inv D r q → AsMachine D r (play_from fuel D r q))
          → (t : PlayTurn) → play_step D r p ≡ t → Good D r t → AsMachine D r (play_from (suc fuel) D r p)
      go ih (go_on q) e k = let z = play_at D r p q e in rw (play_more fuel D r p q e) (ih q (omega arith) k)
      go ih (finish o) e k = rw (play_done fuel D r p o e) k

  at_first : Inv D r before_run
  at_first =
      record {
        es = [];
        stands =
            record {
              chain = here;
              earlier = λ e m. absurd (Memᴰ.not-nil m);
              objects = refl;
              reached =
                  record {
                    facts_legal = refl;
                    steps_legal = refl;
                    events_legal = refl;
                    waiting_legal = no_events D;
                    waiting_events = refl;
                    none_yet = λ _. (refl, refl, refl);
                    taken = rw no_steps;
                    state = rw no_steps;
                  };
              counts = record { begun = refl; steps = refl; weight = refl };
              waiting = refl;
            };
        closed = refl;
        begun = λ q. absurd (false≢true q);
      }

  -- a run file is played exactly as the machine plays it
  pub ended : AsMachine D r (play_run D r)
  unfolding play_run
  ended = good_from (suc (length r)) before_run (omega arith) at_first
