-- What holds wherever playing stands: each record keeps it. Assumes nothing.
use mathlib.Core.Path.{◌≡◌, refl, ap}
use mathlib.Core.Bool.{Bool, true, false, ◌&&◌, ◌||◌, not, cond, false≢true}
use mathlib.Core.List.Memᴰ
use mathlib.Core.List.{List, [], ◌∷◌, ◌++◌, map}
use Prim.Native.Nat.{ℕ, zero, suc, ◌+◌, ◌≤◌, ◌<◌}
use native.Mathlib.Omega.{arith}
use lib.Dec.{eqb, ltb, leb}
use lib.ListN.{length, drop, length-map, length-append, length-drop}
use borrow.Author.Tests.{eqb-true, eqb-false, ltb-false, leb-false}
use Rattle.records.specs.Lists.{In, elem, distinct}
use Rattle.records.specs.declared.Record.{Record}
use Rattle.records.specs.declared.Record.TheVariants.{Whole, Cut, End}
use Rattle.records.specs.Record.{record_at, payload}
use Rattle.records.proofs.Laws.{whole_within}
use Rattle.records.proofs.Lists.{or_out, not_false, clash, any_out, in_snoc}
use Rattle.records.proofs.Numbers.{none_passes}
use Rattle.literals.specs.declared.Object.{Object}
use Rattle.literals.specs.Domain.{object, Fact, same_fact, Domain, arity, action}
use Rattle.literals.specs.Decode.{byte}
use Rattle.literals.specs.Held.{Bounded}
use Rattle.literals.specs.Matching.{moment_number}
use Rattle.verdict.specs.Binding.{objects_from}
use Rattle.verdict.specs.Machine.{GroundAction, Event, State, next, top_weight}
use Rattle.verdict.specs.Held.{FactOver}
use Rattle.verdict.proofs.Events.{not_fact}
use Rattle.verdict.proofs.Objects.{objects_range, object_in}
use Rattle.verdict.proofs.Weight.{distinct_append}
use Rattle.run_semantics.proofs.Stops.{event_tests}
use Rattle.run_semantics.specs.RunFile.{RunKind, objects_record, fact_record, event_record, step_record, end_record, other_record, run_kind_of}
use Rattle.run_semantics.specs.RunFile.{fact_of, moment_of, event_of, max_objects, max_facts, max_events, outside, objects_stop, fact_stop}
use Rattle.run_semantics.specs.RunFile.{event_stop, step_stop, end_stop}
use Rattle.run_semantics.specs.Play.{Tally, Playing, before_run, PlayTurn, go_on, finish, stop_at, begin, with_objects, joined}
use Rattle.run_semantics.specs.Play.{with_fact, with_event, run_objects, forbidden, too_large, after_step, close_step, with_close, unless}
use Rattle.run_semantics.specs.Play.{play_record, play_found, play_step, play_from, play_run}
use Rattle.store.specs.Held.{FactFits}
use Rattle.events.specs.Held.{GroundFits}
use Rattle.machine.specs.Held.{Kept}
use Rattle.player.specs.Held.{Sound}
use Rattle.events.proofs.Members.{map_in}
use Rattle.run_fields.proofs.RunFields.{byte_moment}
use Rattle.machine.proofs.NextKept.{kept_next}
use Rattle.machine.proofs.Resting.{kept_none}
use Rattle.run_semantics.proofs.Loop.{play_more, play_done}

-- ---- the tests of each record, as far as they are needed here

-- an object count that passes
pub record ObjectsTaken (p : Playing) (b : List ℕ) : Type 0 where
  pub none : p.objects ≡ 0
  pub some : byte b 0 ≡ 0 → ⊥
  pub few : byte b 0 ≤ max_objects

pub objects_taken : (p : Playing) (b : List ℕ) → objects_stop p.objects b ≡ 0 → ObjectsTaken p b
unfolding objects_stop
objects_taken p b z =
    let g = none_passes ((not (eqb p.objects 0), 50) ∷ (not (eqb (length b) 1), 50) ∷ (eqb (byte b 0) 0 || ltb max_objects (byte b 0), 51) ∷ []) 0 refl z in
    let o = or_out (eqb (byte b 0) 0) (ltb max_objects (byte b 0)) (g.0 2) in
    record {
      none = eqb-true p.objects 0 (not_false _ (g.0 0));
      some = eqb-false (byte b 0) 0 o.0;
      few = ltb-false max_objects (byte b 0) o.1;
    }

-- a step that passes
pub step_taken : (n : ℕ) (b : List ℕ) → step_stop n b ≡ 0 → n ≡ 0 → ⊥
unfolding step_stop
step_taken n b z = eqb-false n 0 ((none_passes ((eqb n 0, 50) ∷ (not (eqb (length b) 0), 50) ∷ []) 0 refl z).0 0)

-- numbers below the object count are objects of the run
among : (n : ℕ) (bs : List ℕ) → outside n bs ≡ false → (o : Object) → In o (map object bs) → In o (objects_from 0 n)
among n bs h o m =
    let r = map_in object bs m in
    let l = leb-false n r.0 (any_out (leb n) h r.1) in
    rw r.2 (object_in 0 n (object r.0) (omega arith) (omega arith))

-- a start fact that passes
pub record FactTaken (D : Domain) (p : Playing) (b : List ℕ) : Type 0 where
  pub early : p.tally.begun ≡ false
  pub fits : FactFits D (fact_of b)
  pub over : FactOver D (run_objects p) (fact_of b)
  pub few : length (joined (fact_of b) p.state.facts) ≤ max_facts

pub fact_taken : (D : Domain) (p : Playing) (b : List ℕ) → length p.state.facts ≤ max_facts → fact_stop D p.objects p.tally.begun p.state.facts b ≡ 0 → FactTaken D p b
unfolding fact_stop
fact_taken D p b l z =
    let g =
    none_passes
    ((eqb p.objects 0 || p.tally.begun, 50)
    ∷ (ltb (length b) 1, 50)
    ∷ (leb (length D.arities) (byte b 0), 51)
    ∷ (not (eqb (length b) (1 + arity D (byte b 0))), 50)
    ∷ (outside p.objects (drop 1 b), 51)
    ∷ (not (elem same_fact (fact_of b) p.state.facts) && leb max_facts (length p.state.facts), 52)
    ∷ [])
    0 refl z in
    let e = eqb-true (length b) (1 + arity D (byte b 0)) (not_false _ (g.0 3)) in
    let d = length-drop 1 b in
    let m = length-map (drop 1 b) object in
    record {
      early = (or_out (eqb p.objects 0) p.tally.begun (g.0 0)).1;
      fits = record { sized = omega arith };
      over = record { sized = omega arith; over = among p.objects (drop 1 b) (g.0 4) };
      few = go (elem same_fact (fact_of b) p.state.facts) (g.0 5);
    }
  where
    go : (t : Bool) → not t && leb max_facts (length p.state.facts) ≡ false → length (cond t p.state.facts (p.state.facts ++ (fact_of b ∷ []))) ≤ max_facts
    go true e = l
    go false e = let k = leb-false max_facts (length p.state.facts) e in let a = length-append p.state.facts (fact_of b ∷ []) in omega arith

-- an event that passes
pub record EventTaken (D : Domain) (p : Playing) (b : List ℕ) : Type 0 where
  pub moment : byte b 0 ≡ moment_number (moment_of (byte b 0))
  pub fits : GroundFits D (event_of b).act
  pub over : (o : Object) → In o (event_of b).act.binding → In o (run_objects p)
  pub few : length p.waiting < max_events

pub event_taken : (D : Domain) (p : Playing) (b : List ℕ) → p.objects ≤ max_objects → event_stop D p.objects p.waiting b ≡ 0 → EventTaken D p b
unfolding event_stop
event_taken D p b l z =
    let a = action D (byte b 1) in
    let g = none_passes (event_tests D p.objects p.waiting b) 0 refl z in
    let e = eqb-true (length b) (2 + a.vars) (not_false _ (g.0 4)) in
    let d = length-drop 2 b in
    let m = length-map (drop 2 b) object in
    record {
      moment = byte_moment (byte b 0) (ltb-false 1 (byte b 0) (g.0 2));
      fits =
          record {
            listed = leb-false (length D.actions) (byte b 1) (g.0 3);
            bound = omega arith;
            objects = λ o i. let r = map_in object (drop 2 b) i in let q = leb-false p.objects r.0 (any_out (leb p.objects) (g.0 6) r.1) in rw r.2 (omega arith);
          };
      over = among p.objects (drop 2 b) (g.0 6);
      few = leb-false max_events (length p.waiting) (g.0 9);
    }

-- ---- each record

module _ (D : Domain) where
  -- before there are objects nothing is over them, so that it is over those that come
  kept_objects : (n m : ℕ) (s : State) (es : List Event) → n ≡ 0 → m ≤ max_objects → Kept D (objects_from 0 n) s es → Kept D (objects_from 0 m) s es
  kept_objects n m s es e l k =
      record {
        facts = k.facts;
        facts_few = k.facts_few;
        facts_once = k.facts_once;
        running = k.running;
        running_few = k.running_few;
        waiting = k.waiting;
        waiting_few = k.waiting_few;
        chosen =
            record {
              low = λ o i. let r = (objects_range 0 m o i).1 in omega arith;
              facts = λ f i. record { sized = (k.chosen.facts f i).sized; over = λ o j. none o ((k.chosen.facts f i).over o j) };
              bindings = λ g i o j. none o (k.chosen.bindings g i o j);
            };
        waiting_over = λ d i o j. none o (k.waiting_over d i o j);
      }
    where
      none : (o : Object) → In o (objects_from 0 n) → In o (objects_from 0 m)
      none o i = let r = (objects_range 0 n o i).1 in absurd (omega arith)

  kept_fact : (objs : List Object) (s : State) (es : List Event) (f : Fact) → Kept D objs s es → FactOver D objs f
      → length (joined f s.facts) ≤ max_facts → Kept D objs (record { facts = joined f s.facts; running = s.running }) es
  kept_fact objs s es f k h l =
      record {
        facts = λ g m. record { sized = (over (elem same_fact f s.facts) g m).sized };
        facts_few = l;
        facts_once = once (elem same_fact f s.facts) refl;
        running = k.running;
        running_few = k.running_few;
        waiting = k.waiting;
        waiting_few = k.waiting_few;
        chosen = record { low = k.chosen.low; facts = over (elem same_fact f s.facts); bindings = k.chosen.bindings };
        waiting_over = k.waiting_over;
      }
    where
      over : (t : Bool) (g : Fact) → In g (cond t s.facts (s.facts ++ (f ∷ []))) → FactOver D objs g
      over true g m = k.chosen.facts g m
      over false g m = in_snoc {P = FactOver D objs} s.facts f k.chosen.facts h g m

      once : (t : Bool) → elem same_fact f s.facts ≡ t → distinct same_fact (cond t s.facts (s.facts ++ (f ∷ []))) ≡ true
      once true e = k.facts_once
      once false e =
          distinct_append s.facts (f ∷ []) k.facts_once refl
          (λ g m n. in_snoc {P = λ (x : Fact). In x s.facts → ⊥} [] f (λ x i. absurd (Memᴰ.not-nil i)) (not_fact f s.facts (ap not e)) g n m)

  kept_event : (objs : List Object) (s : State) (es : List Event) (e : Event) → Kept D objs s es → GroundFits D e.act
      → ((o : Object) → In o e.act.binding → In o objs) → length es < max_events → Kept D objs s (es ++ (e ∷ []))
  kept_event objs s es e k h v l =
      let a = length-append es (e ∷ []) in
      record {
        facts = k.facts;
        facts_few = k.facts_few;
        facts_once = k.facts_once;
        running = k.running;
        running_few = k.running_few;
        waiting = in_snoc {P = λ (d : Event). GroundFits D d.act} es e k.waiting h;
        waiting_few = omega arith;
        chosen = k.chosen;
        waiting_over = in_snoc {P = λ (d : Event). (o : Object) → In o d.act.binding → In o objs} es e k.waiting_over v;
      }

  pub sound_begin : (p : Playing) → Sound D p → Sound D (begin D p)
  unfolding begin
  sound_begin p h = go p.tally.begun refl
    where
      top : ℕ
      top = top_weight D p.state.facts

      with_tally : (t : Tally) → t.steps ≤ p.at → (t.begun ≡ false → (t.steps ≡ 0) × (t.weight ≡ 0))
          → (t.begun ≡ true → top ≤ t.weight)
          → Sound D (record { at = p.at; closed = p.closed; objects = p.objects; state = p.state; waiting = p.waiting; tally = t })
      with_tally t a b c = record { kept = h.kept; objects = h.objects; idle = h.idle; steps = a; early = b; weight = c }

      go : (b : Bool) → p.tally.begun ≡ b
          → Sound D (record { at = p.at; closed = p.closed; objects = p.objects; state = p.state; waiting = p.waiting; tally = cond b p.tally (record { begun = true; steps = 0; weight = top }) })
      go true e = with_tally p.tally h.steps h.early h.weight
      go false e = with_tally (record { begun = true; steps = 0; weight = top }) (omega arith) (λ q. absurd (clash refl q)) (λ q. omega arith)

  -- facts and entries of the domain over some objects, within the limits
  abbrev KeptOver : List Fact → List GroundAction → Type 0
  KeptOver fs gs = (objs : List Object) × Kept D objs (record { facts = fs; running = gs }) []

  -- a turn that goes on, goes on where it holds; one that ends leaves such
  abbrev SoundTurn : PlayTurn → Type 0
  SoundTurn (go_on q) = Sound D q
  SoundTurn (finish o) = KeptOver o.facts o.running

  stopped : (n : ℕ) (p : Playing) → Sound D p → SoundTurn (stop_at n p)
  stopped n p h = (run_objects p, kept_none {s = p.state} {es = p.waiting} h.kept)

  sound_unless : (n : ℕ) (p : Playing) → Sound D p → (t : PlayTurn) → (n ≡ 0 → SoundTurn t) → SoundTurn (unless n p t)
  sound_unless n p s t h = go (eqb n 0) refl
    where
      go : (b : Bool) → eqb n 0 ≡ b → SoundTurn (cond b t (stop_at n p))
      go true e = h (eqb-true n 0 e)
      go false e = stopped n p s

  module _ (B : Bounded D) (p : Playing) (h : Sound D p) (some : p.objects ≡ 0 → ⊥) (behind : ℕ) (l : p.at < behind) where
    sound_after : (s : State) → Kept D (run_objects p) s [] → p.tally.begun ≡ true → SoundTurn (after_step p s (top_weight D s.facts) behind)
    sound_after s k b =
        let a = h.steps in
        record {
          kept = k;
          objects = h.objects;
          idle = λ z. absurd (some z);
          steps = omega arith;
          early = λ q. absurd (clash b q);
          weight = λ q. omega arith;
        }

    sound_close : p.tally.begun ≡ true → SoundTurn (close_step D p behind)
    unfolding close_step
    sound_close b = go (eqb (forbidden D (run_objects p) p.state p.waiting) 0)
      where
        after : State
        after = next D (run_objects p) p.state p.waiting

        fits : (t : Bool) → too_large after ≡ t → SoundTurn (cond t (stop_at 52 p) (after_step p after (top_weight D after.facts) behind))
        fits true e = stopped 52 p h
        fits false e = sound_after after (kept_next D B p.state p.waiting h.kept e) b

        go : (t : Bool)
            → SoundTurn (cond t (cond (too_large after) (stop_at 52 p) (after_step p after (top_weight D after.facts) behind)) (stop_at (forbidden D (run_objects p) p.state p.waiting) p))
        go true = fits (too_large after) refl
        go false = stopped (forbidden D (run_objects p) p.state p.waiting) p h

  pub begun_tally : (p : Playing) → (begin D p).tally.begun ≡ true
  unfolding begin
  begun_tally p = go p.tally.begun refl
    where
      go : (b : Bool) → p.tally.begun ≡ b
          → (cond b p.tally (record { begun = true; steps = 0; weight = top_weight D p.state.facts })).begun ≡ true
      go true e = e
      go false e = refl

  begin_at : (p : Playing) → (begin D p).at ≡ p.at
  unfolding begin
  begin_at p = refl

  sound_record : Bounded D → (p : Playing) → Sound D p → (k : RunKind) (b : List ℕ) (behind : ℕ) → p.at < behind → SoundTurn (play_record D p k b behind)
  unfolding play_record begin
  sound_record B p h objects_record b behind l =
      sound_unless (objects_stop p.objects b) p h (go_on (with_objects p (byte b 0) behind))
      (λ z.
      let t = objects_taken p b z in
      let a = h.steps in
      record {
        kept = kept_objects p.objects (byte b 0) p.state p.waiting t.none t.few h.kept;
        objects = t.few;
        idle = λ e. absurd (t.some e);
        steps = omega arith;
        early = h.early;
        weight = h.weight;
      })
  sound_record B p h fact_record b behind l =
      sound_unless (fact_stop D p.objects p.tally.begun p.state.facts b) p h (go_on (with_fact p (fact_of b) behind))
      (λ z.
      let t = fact_taken D p b h.kept.facts_few z in
      let a = h.steps in
      record {
        kept = kept_fact (run_objects p) p.state p.waiting (fact_of b) h.kept t.over t.few;
        objects = h.objects;
        idle = h.idle;
        steps = omega arith;
        early = h.early;
        weight = λ q. absurd (clash q t.early);
      })
  sound_record B p h event_record b behind l =
      let q = begin D p in
      let s = sound_begin p h in
      let e = begin_at p in
      sound_unless (event_stop D p.objects p.waiting b) q s (go_on (with_event q (event_of b) behind))
      (λ z.
      let t = event_taken D q b s.objects z in
      let a = s.steps in
      record {
        kept = kept_event (run_objects q) q.state q.waiting (event_of b) s.kept t.fits t.over t.few;
        objects = s.objects;
        idle = s.idle;
        steps = omega arith;
        early = s.early;
        weight = s.weight;
      })
  sound_record B p h step_record b behind l =
      let q = begin D p in
      let e = begin_at p in
      sound_unless (step_stop p.objects b) q (sound_begin p h) (close_step D q behind)
      (λ z. sound_close B q (sound_begin p h) (step_taken p.objects b z) behind (omega arith) (begun_tally p))
  sound_record B p h end_record b behind l =
      let q = begin D p in
      let s = sound_begin p h in
      let e = begin_at p in
      sound_unless (end_stop p.objects p.waiting b) q s (go_on (with_close q behind))
      (λ z. let a = s.steps in record { kept = s.kept; objects = s.objects; idle = s.idle; steps = omega arith; early = s.early; weight = s.weight })
  sound_record B p h other_record b behind l = stopped 50 p h

  sound_turn : Bounded D → (r : List ℕ) (p : Playing) → Sound D p → SoundTurn (play_step D r p)
  unfolding play_step play_found
  sound_turn B r p h = go p.closed (ltb p.at (length r)) (record_at r p.at) refl
    where
      go : (b c : Bool) (f : Record) → record_at r p.at ≡ f → SoundTurn (cond b (cond c (stop_at 50 p) (stop_at 2 p)) (play_found D r p f))
      go true true f e = stopped 50 p h
      go true false f e = stopped 2 p h
      go false c (Whole k start len) e =
          let w = whole_within r p.at e in
          sound_record B p h (run_kind_of k) (payload r start len) (start + len) (omega arith)
      go false c Cut e = stopped 50 p h
      go false c End e = stopped 50 p h

  pub sound_on : Bounded D → (r : List ℕ) (p q : Playing) → Sound D p → play_step D r p ≡ go_on q → Sound D q
  sound_on B r p q h e = rw e at (sound_turn B r p h)

  -- before the run
  pub sound_new : Sound D before_run
  sound_new =
      record {
        kept =
            record {
              facts = λ f m. absurd (Memᴰ.not-nil m);
              facts_few = omega arith;
              facts_once = refl;
              running = λ g m. absurd (Memᴰ.not-nil m);
              running_few = omega arith;
              waiting = λ e m. absurd (Memᴰ.not-nil m);
              waiting_few = omega arith;
              chosen =
                  record {
                    low = λ o i. absurd (Memᴰ.not-nil i);
                    facts = λ f i. absurd (Memᴰ.not-nil i);
                    bindings = λ g i. absurd (Memᴰ.not-nil i);
                  };
              waiting_over = λ e m. absurd (Memᴰ.not-nil m);
            };
        objects = omega arith;
        idle = λ z. refl;
        steps = omega arith;
        early = λ q. (refl, refl);
        weight = λ q. absurd (false≢true q);
      }

  -- ---- where a run ends

  kept_from : Bounded D → (fuel : ℕ) (r : List ℕ) (p : Playing) → Sound D p
      → KeptOver (play_from fuel D r p).facts (play_from fuel D r p).running
  unfolding play_from
  kept_from B zero r p h = stopped 50 p h
  kept_from B (suc fuel) r p h = go (λ q. kept_from B fuel r q) (play_step D r p) refl (sound_turn B r p h)
    where
      go : ((q : Playing) → Sound D q → KeptOver (play_from fuel D r q).facts (play_from fuel D r q).running)
          → (t : PlayTurn) → play_step D r p ≡ t → SoundTurn t
          → KeptOver (play_from (suc fuel) D r p).facts (play_from (suc fuel) D r p).running
      go ih (go_on q) e k = rw (play_more fuel D r p q e) (ih q k)
      go ih (finish o) e k = rw (play_done fuel D r p o e) k

  pub kept_run : Bounded D → (r : List ℕ) → KeptOver (play_run D r).facts (play_run D r).running
  unfolding play_run
  kept_run B r = kept_from B (suc (length r)) r before_run sound_new
