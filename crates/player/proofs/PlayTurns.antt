-- What each record leads to, from what the code's calls promise. Assumes nothing.
use Rattle.std.specs.Prelude.{Err, Option, Some, None, MatchOption}
use Rattle.std.specs.Int.NonZero.{non_zero_u8_get}
use Rattle.std.specs.declared.num.NonZeroU8.{NonZeroU8}
use mathlib.Core.Path.{◌≡◌, refl, sym, ap, ap₂, ◌∙◌}
use mathlib.Core.Bool.{Bool, true, false, cond}
use mathlib.Core.List.{List, [], ◌∷◌, ◌++◌, map}
use Prim.Native.Nat.{ℕ, suc, ◌+◌, ◌-◌, ◌*◌, ◌≤◌, ◌<◌, max}
use native.Mathlib.Numerals.{add-one}
use native.Mathlib.Omega.{arith}
use lib.Dec.{eqb, ltb}
use lib.ListN.{length, take, drop, length-append}
use lib.Seq.{paste}
use borrow.Author.Tests.{eqb-false, eq-eqb, ne_eqb, lt-ltb, le-ltb}
use Rattle.records.specs.Lists.{In, elem}
use Rattle.records.specs.Memory.{over}
use Rattle.records.specs.declared.Record.{Record}
use Rattle.records.specs.declared.Record.TheVariants.{Whole, Cut, End}
use Rattle.records.specs.Record.{record_at, payload}
use Rattle.literals.specs.declared.Object.{Object}
use Rattle.literals.specs.Domain.{object, Fact, same_fact, Domain}
use Rattle.literals.specs.Decode.{byte}
use Rattle.literals.specs.Held.{rows_in, Bounded}
use Rattle.literals.proofs.Bounds.{arity_six}
use Rattle.verdict.specs.Machine.{Event, State, next, top_weight}
use Rattle.verdict.proofs.Objects.{object_in}
use Rattle.verdict.specs.Held.{fact_row}
use Rattle.events.specs.Held.{Waiting, entries_in, agenda_open, agenda_waiting, waiting_of}
use Rattle.player.specs.declared.Player.{Player as Small}
use Rattle.run_semantics.specs.RunFile.{RunKind, objects_record, fact_record, event_record, step_record, end_record, other_record, run_kind_of, fact_of}
use Rattle.run_semantics.specs.RunFile.{event_of, objects_stop, fact_stop, event_stop, step_stop, end_stop}
use Rattle.run_semantics.specs.Play.{play_record, play_found, play_step, Playing, onward, PlayTurn, Tally, go_on, stop_at, start_tally, begin}
use Rattle.run_semantics.specs.Play.{with_objects, joined, with_fact, with_event, with_close, unless, run_objects, forbidden, too_large}
use Rattle.run_semantics.specs.Play.{after_step, close_step, held_bytes}
use Rattle.run_semantics.specs.declared.Stop.{Stop}
use Rattle.run_semantics.specs.Numbers.{stop_number}
use Rattle.run_semantics.proofs.Numbers.{numbered_stop}
use Rattle.store.specs.Held.{has_row, Few}
use Rattle.machine.specs.declared.State.{State as Counts}
use Rattle.machine.specs.Held.{StateRows, state_of, state_in, Noted, close_stop, close_state, close_waiting, close_weight, Leaves}
use Rattle.run_fields.specs.Held.{objects_or_0}
use Rattle.player.specs.declared.Ending.{Ending}
use Rattle.player.specs.declared.Ending.TheVariants.{Played, Stopped}
use Rattle.player.specs.declared.Over.{Over}
use Rattle.player.specs.Held.{Whole as Player, WholeTurn as Turn, whole_in, ending_number, turn_in, player_of, Stands, PlayLeadsTo, NotedAfter}
use Rattle.events.proofs.FactRows.{has_fact}
use Rattle.machine.proofs.HeldBytes.{fits_few, state_rows}
use Rattle.machine.proofs.Resting.{no_events, rest_leaves}
use Rattle.machine.proofs.RunRows.{held_more}
use Rattle.player.proofs.Sound.{step_taken, FactTaken, fact_taken}

-- ---- the player with its agenda

-- going on behind a record
pub gone_on : (self new : Small) (behind facts waits : ℕ) (agenda : List ℕ)
    → new ≡ record {
      at = behind;
      closed = false;
      begun = self.begun;
      objects = self.objects;
      state = record { facts = facts; opened = self.state.opened; waits = waits };
      tally = self.tally;
    }
    → (new.at ≡ behind) × (new.closed ≡ false) × (objects_or_0 new.objects ≡ objects_or_0 self.objects)
    × ((whole_in new agenda).state ≡ state_in (record { facts = facts; opened = self.state.opened; waits = waits }) agenda)
    × ((whole_in new agenda).tally ≡ (whole_in self agenda).tally)
gone_on self new behind facts waits agenda e = (
  ap (λ (x : Small). x.at) e,
  ap (λ (x : Small). x.closed) e,
  ap (λ (x : Small). objects_or_0 x.objects) e,
  ap (λ (x : Small). state_in x.state agenda) e,
  ap (λ (x : Small). (whole_in x agenda).tally) e,
)

-- with one event more, where the entries stay
pub event_waits : (facts opened waits : ℕ) (agenda more : List ℕ) → entries_in more ≡ entries_in agenda
    → state_in (record { facts = facts; opened = opened; waits = waits }) more
    ≡ record { facts = facts; running = agenda_open opened agenda; waiting = agenda_waiting waits more }
event_waits facts opened waits agenda more e i =
    record { facts = facts; running = record { count = opened; rows = e i }; waiting = agenda_waiting waits more }

-- behind a step that was made
pub stepped_on : (self new : Small) (behind : ℕ) (counts : Counts) (weight : ℕ) (agenda : List ℕ)
    → new ≡ record {
      at = behind;
      closed = false;
      begun = self.begun;
      objects = self.objects;
      state = counts;
      tally = record { steps = self.tally.steps + 1; weight = weight };
    }
    → whole_in new agenda ≡ record {
      at = behind;
      closed = false;
      objects = objects_or_0 self.objects;
      state = state_in counts agenda;
      tally = record { begun = self.begun; steps = self.tally.steps + 1; weight = weight };
    }
stepped_on self new behind counts weight agenda e = ap (λ (x : Small). whole_in x agenda) e

-- ---- a record that is refused, and one that passes

module _ (D : Domain) (q : Playing) (player : Player) (work old : List ℕ) (st : Stands D q player work old) where
  pub stops_at : (n m : ℕ) → m ≡ n → (m ≡ 0 → ⊥) → PlayLeadsTo (stop_at n q) (record { number = m; player = player }) work old
  unfolding player_of
  stops_at n m e z =
      record {
        number = e;
        some = λ k. z (e ∙ k);
        place = ap (λ (x : Player). x.at) st.is;
        tally = ap (λ (x : Player). x.tally) st.is;
        facts = ap (λ (x : Player). x.state.facts) st.is;
        running = ap (λ (x : Player). x.state.running) st.is;
        memory = st.memory;
      }

  pub stops : (n m : ℕ) (t : PlayTurn) → m ≡ n → (m ≡ 0 → ⊥) → PlayLeadsTo (unless n q t) (record { number = m; player = player }) work old
  stops n m t e z = let f : eqb n 0 ≡ false = ne_eqb n 0 (λ k. z (e ∙ k)) in rw f (stops_at n m e z)

-- the same of the player that the code holds
module _ (D : Domain) (q : Playing) (self : Small) (agenda work old : List ℕ) (st : Stands D q (whole_in self agenda) work old) (over : Over) (stop : Stop)
    (is : over ≡ record { ending = Stopped stop; player = self }) where
  pub stopped_at : PlayLeadsTo (stop_at (stop_number stop) q) (turn_in (Err over) agenda) work old
  stopped_at = rw is (stops_at D q (whole_in self agenda) work old st (stop_number stop) (stop_number stop) refl (numbered_stop stop))

  pub stopped_unless : (n : ℕ) (t : PlayTurn) → stop_number stop ≡ n → PlayLeadsTo (unless n q t) (turn_in (Err over) agenda) work old
  stopped_unless n t e = rw is (stops D q (whole_in self agenda) work old st n (stop_number stop) t e (numbered_stop stop))

pub passes : (D : Domain) (q : Playing) (n : ℕ) (t : PlayTurn) (turn : Turn) (work old : List ℕ) → n ≡ 0 → PlayLeadsTo t turn work old → PlayLeadsTo (unless n q t) turn work old
passes D q n t turn work old z h = let f : eqb n 0 ≡ true = eq-eqb n 0 z in rw f h

-- however playing ended, it has a number
pub ending_some : (e : Ending) → ending_number e ≡ 0 → ⊥
ending_some Played k = omega arith
ending_some (Stopped stop) k = numbered_stop stop k

-- what the player holds
module _ (D : Domain) (q : Playing) {player : Player} {work old : List ℕ} (st : Stands D q player work old) where
  pub objects_are : q.objects ≡ player.objects
  unfolding player_of
  objects_are = sym (ap (λ (x : Player). x.objects) st.is)

  pub state_is : player.state ≡ state_of q.state q.waiting
  unfolding player_of
  state_is = ap (λ (x : Player). x.state) st.is

  pub waiting_are : length q.waiting ≡ player.state.waiting.count
  unfolding waiting_of
  waiting_are = sym (ap (λ (x : StateRows). x.waiting.count) state_is)

  pub waiting_is : player.state.waiting ≡ waiting_of q.waiting
  waiting_is = ap (λ (x : StateRows). x.waiting) state_is

  pub begun_is : q.tally.begun ≡ player.tally.begun
  unfolding player_of
  begun_is = sym (ap (λ (x : Player). x.tally.begun) st.is)

  pub objects_low : player.objects ≤ 64
  objects_low = let e = objects_are in let l = st.sound.objects in omega arith

  pub weight_under : q.tally.begun ≡ true → top_weight D q.state.facts ≤ player.tally.weight
  unfolding player_of
  weight_under b = let e = ap (λ (x : Player). x.tally.weight) st.is in let k = st.sound.weight b in omega arith

-- ---- the start counts

module _ (D : Domain) (p : Playing) (player : Player) (work old : List ℕ) (st : Stands D p player work old) where
  pub begun_already : player.tally.begun ≡ true → player.tally ≡ (begin D p).tally
  unfolding player_of begin
  begun_already b =
      let e : p.tally.begun ≡ true = begun_is D p st ∙ b in
      ap (λ (x : Player). x.tally) st.is ∙ kept_tally e
    where
      kept_tally : p.tally.begun ≡ true → p.tally ≡ start_tally p.tally (top_weight D p.state.facts)
      kept_tally e = rw e

  pub begun_now : player.tally.begun ≡ false → (top : ℕ) → top ≡ top_weight D p.state.facts → record { begun = true; steps = 0; weight = top } ≡ (begin D p).tally
  unfolding begin
  begun_now b top e =
      let z : p.tally.begun ≡ false = begun_is D p st ∙ b in
      (λ i. record { begun = true; steps = 0; weight = e i }) ∙ new_tally z
    where
      new_tally : p.tally.begun ≡ false → record { begun = true; steps = 0; weight = top_weight D p.state.facts } ≡ start_tally p.tally (top_weight D p.state.facts)
      new_tally z = rw z

  -- what work memory has for weighing
  pub facts_rows : Bounded D → rows_in player.state.facts work ≡ map fact_row p.state.facts
  facts_rows B = state_rows D B p.state p.waiting st.sound.kept player.state (state_is D p st) work old st.memory

  -- all but the tally stays
  pub begun_player : (tally : Tally) → tally ≡ (begin D p).tally
      → record { at = player.at; closed = player.closed; objects = player.objects; state = player.state; tally = tally } ≡ player_of (begin D p)
  unfolding player_of begin
  begun_player tally e i = record { at = (st.is i).at; closed = (st.is i).closed; objects = (st.is i).objects; state = (st.is i).state; tally = e i }

-- ---- kinds 16 and 20

-- the count of a byte, none where it is 0
pub counted : (o : Option NonZeroU8) (n : ℕ) → MatchOption o (n ≡ 0) (λ x. non_zero_u8_get x ≡ n) → objects_or_0 o ≡ n
counted None n e = sym e
counted (Some x) n e = e

module _ (D : Domain) (q : Playing) (player : Player) (work old : List ℕ) (st : Stands D q player work old) (behind : ℕ) where
  pub objects_on : (b n : ℕ) → b ≡ n
      → PlayLeadsTo (go_on (with_objects q n behind)) (record { number = 0; player = record { at = behind; closed = false; objects = b; state = player.state; tally = player.tally } }) work old
  unfolding player_of
  objects_on b n e =
      record {
        number = refl;
        is = ap (λ (x : Player). record { at = behind; closed = false; objects = b; state = x.state; tally = x.tally }) st.is
            ∙ ap {B = Player} (λ (k : ℕ). record { at = behind; closed = false; objects = k; state = (player_of q).state; tally = (player_of q).tally }) e;
        memory = st.memory;
      }

  pub end_on : PlayLeadsTo (go_on (with_close q behind)) (record { number = 0; player = record { at = behind; closed = true; objects = player.objects; state = player.state; tally = player.tally } }) work old
  unfolding player_of
  end_on =
      record {
        number = refl;
        is = ap (λ (x : Player). record { at = behind; closed = true; objects = x.objects; state = x.state; tally = x.tally }) st.is;
        memory = st.memory;
      }

  -- ---- the same, with another state of the machine
  module _ (s : State) (es : List Event) (new : Player) (work' : List ℕ)
      (is : (new.at ≡ behind) × (new.closed ≡ false) × (new.objects ≡ player.objects) × (new.state ≡ state_of s es) × (new.tally ≡ player.tally)) (m : work' ≡ over (held_bytes s.facts) old) where
    pub onward_on : PlayLeadsTo (go_on (onward q behind s es q.tally)) (record { number = 0; player = new }) work' old
    unfolding player_of
    onward_on =
        record {
          number = refl;
          is =
              λ i.
              record {
                at = is.0 i;
                closed = is.1 i;
                objects = (is.2 ∙ ap (λ (x : Player). x.objects) st.is) i;
                state = is.3 i;
                tally = (is.4 ∙ ap (λ (x : Player). x.tally) st.is) i;
              };
          memory = m;
        }

-- ---- the step's close

-- a run with objects has one
pub some_object : (q : Playing) → (q.objects ≡ 0 → ⊥) → (o : Object) × In o (run_objects q)
some_object q n = (object 0, object_in 0 q.objects (object 0) (omega arith) (omega (arith, n)))

module _ (D : Domain) (q : Playing) (behind : ℕ) where
  abbrev objs : List Object
  objs = run_objects q

  abbrev s : State
  s = q.state

  abbrev es : List Event
  es = q.waiting

  close_refused : (n : ℕ) → n ≡ close_stop D objs s es → (n ≡ 0 → ⊥) → close_step D q behind ≡ stop_at n q
  unfolding close_step close_stop
  close_refused n e z = go (eqb (forbidden D objs s es) 0) (too_large (next D objs s es)) e
    where
      go : (b c : Bool) → n ≡ cond b (cond c 52 0) (forbidden D objs s es)
          → cond b (cond c (stop_at 52 q) (after_step q (next D objs s es) (top_weight D (next D objs s es).facts) behind)) (stop_at (forbidden D objs s es) q) ≡ stop_at n q
      go true true k = ap (λ (j : ℕ). stop_at j q) (sym k)
      go true false k = absurd (z k)
      go false c k = ap (λ (j : ℕ). stop_at j q) (sym k)

  close_taken : 0 ≡ close_stop D objs s es → close_step D q behind ≡ after_step q (next D objs s es) (top_weight D (next D objs s es).facts) behind
  unfolding close_step close_stop
  close_taken e = go (eqb (forbidden D objs s es) 0) refl (too_large (next D objs s es)) e
    where
      go : (b : Bool) → eqb (forbidden D objs s es) 0 ≡ b → (c : Bool) → 0 ≡ cond b (cond c 52 0) (forbidden D objs s es)
          → cond b (cond c (stop_at 52 q) (after_step q (next D objs s es) (top_weight D (next D objs s es).facts) behind)) (stop_at (forbidden D objs s es) q)
          ≡ after_step q (next D objs s es) (top_weight D (next D objs s es).facts) behind
      go true f true k = absurd (omega arith)
      go true f false k = refl
      go false f c k = absurd (eqb-false (forbidden D objs s es) 0 f (sym k))

  module _ (player : Player) (work old : List ℕ) (st : Stands D q player work old) (number : ℕ) (state : StateRows) (weight : ℕ) (work' : List ℕ) (l : Leaves D objs s es old player.tally.weight number state weight work') where
    weight_was : player.tally.weight ≡ q.tally.weight
    unfolding player_of
    weight_was = ap (λ (x : Player). x.tally.weight) st.is

    -- a step that is refused
    pub close_stops : (number ≡ 0 → ⊥) → PlayLeadsTo (close_step D q behind) (record { number = number; player = player }) work' old
    unfolding close_state player_of
    close_stops z =
        let f : eqb (close_stop D objs s es) 0 ≡ false = ne_eqb (close_stop D objs s es) 0 (λ k. z (l.number_is ∙ k)) in
        let m : work' ≡ over (held_bytes s.facts) old = rw f at l.work_is in
        rw (close_refused number l.number_is z)
        (record {
          number = refl;
          some = z;
          place = ap (λ (x : Player). x.at) st.is;
          tally = ap (λ (x : Player). x.tally) st.is;
          facts = ap (λ (x : Player). x.state.facts) st.is;
          running = ap (λ (x : Player). x.state.running) st.is;
          memory = m;
        })

    module _ (z : number ≡ 0) where
      taken : eqb (close_stop D objs s es) 0 ≡ true
      taken = eq-eqb (close_stop D objs s es) 0 (sym l.number_is ∙ z)

      abbrev top : ℕ
      top = top_weight D (next D objs s es).facts

      weight_now : weight ≡ max q.tally.weight top
      unfolding close_weight
      weight_now = (rw taken at l.weight_is) ∙ ap (λ (w : ℕ). max w top) weight_was

      state_now : state ≡ state_of (next D objs s es) []
      unfolding close_state close_waiting
      state_now = rw taken at l.state_is

      work_now : work' ≡ over (held_bytes (next D objs s es).facts) old
      unfolding close_state
      work_now = rw taken at l.work_is

      -- the step is counted
      pub close_on : (counted : Player)
          → counted ≡ record { at = behind; closed = false; objects = player.objects; state = state; tally = record { begun = player.tally.begun; steps = player.tally.steps + 1; weight = weight } }
          → PlayLeadsTo (close_step D q behind) (record { number = 0; player = counted }) work' old
      unfolding player_of
      close_on counted is =
          rw (close_taken (sym z ∙ l.number_is))
          (record {
            number = refl;
            is =
                is
                ∙ (λ i.
                record {
                  at = behind;
                  closed = false;
                  objects = (st.is i).objects;
                  state = state_now i;
                  tally = record { begun = (st.is i).tally.begun; steps = (add-one player.tally.steps ∙ ap (λ (x : Player). suc x.tally.steps) st.is) i; weight = weight_now i };
                });
            memory = work_now;
          })

-- the same of the player that the code holds
module _ (D : Domain) (q : Playing) (behind : ℕ) (self : Small) (agenda work old : List ℕ) (st : Stands D q (whole_in self agenda) work old) (over : Over) (stop : Stop)
    (is : over ≡ record { ending = Stopped stop; player = self }) where
  pub close_stopped : (state : StateRows) (weight : ℕ) (work' : List ℕ) → Leaves D (run_objects q) q.state q.waiting old self.tally.weight (stop_number stop) state weight work'
      → PlayLeadsTo (close_step D q behind) (turn_in (Err over) agenda) work' old
  close_stopped state weight work' l = rw is (close_stops D q behind (whole_in self agenda) work old st (stop_number stop) state weight work' l (numbered_stop stop))

-- ---- a step without events

module _ (D : Domain) (q : Playing) {player : Player} {work old : List ℕ} (st : Stands D q player work old)
    (none : player.state.waiting.count ≡ 0) where
  none_wait : q.waiting ≡ []
  none_wait = no_events q.state q.waiting player.state (state_is D q st) none

  pub rest_closes : q.tally.begun ≡ true → (n : ℕ) → n ≡ close_stop D (run_objects q) q.state []
      → Leaves D (run_objects q) q.state q.waiting old player.tally.weight n player.state player.tally.weight work
  rest_closes b n e =
      rw none_wait
      (rest_leaves D (run_objects q) q.state old player.tally.weight (weight_under D q st b) n e player.state
      (state_is D q st ∙ ap (state_of q.state) none_wait) work st.memory)

  pub rest_notes : (head index : List ℕ) → Noted D (run_objects q) head index (close_state D (run_objects q) q.state [])
      → Noted D (run_objects q) head index (close_state D (run_objects q) q.state q.waiting)
  rest_notes head index h = rw none_wait h

-- ---- records by their kind

module _ (D : Domain) (q : Playing) (k : RunKind) (b : List ℕ) (behind : ℕ) (t : Turn) (work old : List ℕ) where
  pub of_objects : k ≡ objects_record → PlayLeadsTo (unless (objects_stop q.objects b) q (go_on (with_objects q (byte b 0) behind))) t work old → PlayLeadsTo (play_record D q k b behind) t work old
  unfolding play_record
  of_objects e h = rw e h

  pub of_fact : k ≡ fact_record → PlayLeadsTo (unless (fact_stop D q.objects q.tally.begun q.state.facts b) q (go_on (with_fact q (fact_of b) behind))) t work old → PlayLeadsTo (play_record D q k b behind) t work old
  unfolding play_record
  of_fact e h = rw e h

  pub of_event : k ≡ event_record → PlayLeadsTo (unless (event_stop D (begin D q).objects (begin D q).waiting b) (begin D q) (go_on (with_event (begin D q) (event_of b) behind))) t work old → PlayLeadsTo (play_record D q k b behind) t work old
  unfolding play_record begin
  of_event e h = rw e h

  pub of_step : k ≡ step_record → PlayLeadsTo (unless (step_stop (begin D q).objects b) (begin D q) (close_step D (begin D q) behind)) t work old → PlayLeadsTo (play_record D q k b behind) t work old
  unfolding play_record begin
  of_step e h = rw e h

  pub of_end : k ≡ end_record → PlayLeadsTo (unless (end_stop (begin D q).objects (begin D q).waiting b) (begin D q) (go_on (with_close (begin D q) behind))) t work old → PlayLeadsTo (play_record D q k b behind) t work old
  unfolding play_record begin
  of_end e h = rw e h

  pub leads_of : (j : RunKind) → k ≡ j → PlayLeadsTo (play_record D q j b behind) t work old → PlayLeadsTo (play_record D q k b behind) t work old
  leads_of j e h = rw e h

  pub of_other : k ≡ other_record → PlayLeadsTo (stop_at 50 q) t work old
      → PlayLeadsTo (play_record D q k b behind) t work old
  unfolding play_record
  of_other e h = rw e h

-- a step's close, once the start counts: its record is asked, and passes
module _ (D : Domain) (q : Playing) (begun : Player) (work old : List ℕ) (st : Stands D (begin D q) begun work old) (b : List ℕ) (n : ℕ)
    (e : n ≡ step_stop begun.objects b) (k : RunKind) (kind : k ≡ step_record) (behind : ℕ) where
  pub stop_is : n ≡ step_stop (begin D q).objects b
  stop_is = e ∙ ap (λ (m : ℕ). step_stop m b) (sym (objects_are D (begin D q) st))

  pub step_some : n ≡ 0 → (begin D q).objects ≡ 0 → ⊥
  step_some z = step_taken (begin D q).objects b (sym stop_is ∙ z)

  pub step_passed : n ≡ 0 → (t : Turn) (work' : List ℕ) → PlayLeadsTo (close_step D (begin D q) behind) t work' old
      → PlayLeadsTo (play_record D q k b behind) t work' old
  step_passed z t work' h =
      of_step D q k b behind t work' old kind
      (passes D (begin D q) (step_stop (begin D q).objects b) (close_step D (begin D q) behind) t work' old (sym stop_is ∙ z) h)

-- ---- the next record

module _ (D : Domain) (r : List ℕ) (q : Playing) (player : Player) (work old : List ℕ) (st : Stands D q player work old) where
  closed_is : player.closed ≡ q.closed
  unfolding player_of
  closed_is = ap (λ (x : Player). x.closed) st.is

  pub at_is : player.at ≡ q.at
  unfolding player_of
  at_is = ap (λ (x : Player). x.at) st.is

  pub turn_behind : player.closed ≡ true → player.at < length r → (t : Turn) → PlayLeadsTo (stop_at 50 q) t work old → PlayLeadsTo (play_step D r q) t work old
  unfolding play_step
  turn_behind c l t h =
      let e = at_is in
      rw (sym closed_is ∙ c, lt-ltb q.at (length r) (omega arith)) h

  pub turn_end : player.closed ≡ true → length r ≤ player.at
      → PlayLeadsTo (play_step D r q) (record { number = 2; player = player }) work old
  unfolding play_step
  turn_end c l =
      let e = at_is in
      rw (sym closed_is ∙ c, le-ltb q.at (length r) (omega arith)) (stops_at D q player work old st 2 2 refl (λ z. omega arith))

  module _ (c : player.closed ≡ false) where
    found : (f : Record) → record_at r player.at ≡ f → play_step D r q ≡ play_found D r q f
    unfolding play_step
    found f e =
        ap (λ (b : Bool). cond b (cond (ltb q.at (length r)) (stop_at 50 q) (stop_at 2 q)) (play_found D r q (record_at r q.at))) (sym closed_is ∙ c)
        ∙ ap (play_found D r q) (ap (record_at r) (sym at_is) ∙ e)

    pub turn_none : (f : Record) → f ≡ record_at r player.at → ((k start len : ℕ) → f ≡ Whole k start len → ⊥) → (t : Turn) → PlayLeadsTo (stop_at 50 q) t work old → PlayLeadsTo (play_step D r q) t work old
    unfolding play_found
    turn_none (Whole k start len) e other t h = absurd (other k start len refl)
    turn_none Cut e other t h = rw (found Cut (sym e)) h
    turn_none End e other t h = rw (found End (sym e)) h

    pub turn_whole : (k start len : ℕ) → record_at r player.at ≡ Whole k start len → (t : Turn) (work' : List ℕ) (end : ℕ) → end ≡ start + len
        → PlayLeadsTo (play_record D q (run_kind_of k) (take (end - start) (drop start r)) end) t work' old
        → PlayLeadsTo (play_step D r q) t work' old
    unfolding play_found payload
    turn_whole k start len e t work' end z h =
        let n : end - start ≡ len = omega arith in
        let g : PlayLeadsTo (play_record D q (run_kind_of k) (take len (drop start r)) (start + len)) t work' old = rw (n, z) at h in
        rw (found (Whole k start len) e) g

    pub turn_noted : (k start len : ℕ) → record_at r player.at ≡ Whole k start len → (end : ℕ) → end ≡ start + len → (head index : List ℕ)
        → NotedAfter D head index (play_record D q (run_kind_of k) (take (end - start) (drop start r)) end) → NotedAfter D head index (play_step D r q)
    unfolding play_found payload
    turn_noted k start len e end z head index h =
        let n : end - start ≡ len = omega arith in
        let g : NotedAfter D head index (play_record D q (run_kind_of k) (take len (drop start r)) (start + len)) = rw (n, z) at h in
        rw (found (Whole k start len) e) g

-- ---- kinds 17 and 18

module _ (D : Domain) (B : Bounded D) (q : Playing) (player : Player) (work old : List ℕ) (st : Stands D q player work old) (b : List ℕ) (behind : ℕ) where
  pub facts_count : player.state.facts ≡ length q.state.facts
  facts_count = ap (λ (h : StateRows). h.facts) (state_is D q st)

  pub few_facts : Few q.state.facts
  few_facts = fits_few B q.state.facts st.sound.kept.facts

  -- what is asked of it, by what the player holds
  pub fact_asked : (n : ℕ) → ((fs : List Fact) → rows_in player.state.facts work ≡ map fact_row fs → player.state.facts ≡ length fs → Few fs → n ≡ fact_stop D player.objects player.tally.begun fs b)
      → n ≡ fact_stop D q.objects q.tally.begun q.state.facts b
  fact_asked n asks =
      asks q.state.facts (facts_rows D q player work old st B) facts_count few_facts
      ∙ ap₂ (λ (k : ℕ) (t : Bool). fact_stop D k t q.state.facts b) (sym (objects_are D q st)) (sym (begun_is D q st))

  module _ (z : fact_stop D q.objects q.tally.begun q.state.facts b ≡ 0) (row : List ℕ) (re : row ≡ fact_row (fact_of b)) (held : Bool) (he : held ≡ has_row row (rows_in player.state.facts work)) where
    passed : FactTaken D q b
    passed = fact_taken D q b st.sound.kept.facts_few z

    held_is : held ≡ elem same_fact (fact_of b) q.state.facts
    held_is = he ∙ ap₂ (λ (x : List ℕ) (y : List (List ℕ)). has_row x y) re (facts_rows D q player work old st B) ∙ has_fact (fact_of b) q.state.facts

    -- a fact that is held already
    pub fact_again : held ≡ true → (new : Player)
        → (new.at ≡ behind) × (new.closed ≡ false) × (new.objects ≡ player.objects) × (new.state ≡ player.state) × (new.tally ≡ player.tally)
        → PlayLeadsTo (go_on (with_fact q (fact_of b) behind)) (record { number = 0; player = new }) work old
    fact_again h new is =
        let e : elem same_fact (fact_of b) q.state.facts ≡ true = sym held_is ∙ h in
        let j : q.state.facts ≡ joined (fact_of b) q.state.facts = rw e in
        onward_on D q player work old st behind (record { facts = joined (fact_of b) q.state.facts; running = q.state.running }) q.waiting new work
        (is.0, is.1, is.2, is.3 ∙ state_is D q st ∙ ap (λ (fs : List Fact). state_of (record { facts = fs; running = q.state.running }) q.waiting) j, is.4)
        (st.memory ∙ ap (λ (fs : List Fact). over (held_bytes fs) old) j)

    joined_new : held ≡ false → joined (fact_of b) q.state.facts ≡ q.state.facts ++ (fact_of b ∷ [])
    joined_new h = let e : elem same_fact (fact_of b) q.state.facts ≡ false = sym held_is ∙ h in rw e

    -- there is room for a new one
    pub fact_room : held ≡ false → player.state.facts < 1024
    fact_room h =
        let l = passed.few in
        let n = ap length (joined_new h) ∙ length-append q.state.facts (fact_of b ∷ []) in
        let c = facts_count in
        omega arith

    -- a new one
    pub fact_new : held ≡ false → (new : Player) (next : StateRows) → next ≡ record { facts = player.state.facts + 1; running = player.state.running; waiting = player.state.waiting }
        → (new.at ≡ behind) × (new.closed ≡ false) × (new.objects ≡ player.objects) × (new.state ≡ next) × (new.tally ≡ player.tally)
        → (work' : List ℕ) → work' ≡ paste work (8 * player.state.facts) row 8
        → PlayLeadsTo (go_on (with_fact q (fact_of b) behind)) (record { number = 0; player = new }) work' old
    fact_new h new next ne is work' we =
        let fs : List Fact = q.state.facts ++ (fact_of b ∷ []) in
        let n : player.state.facts + 1 ≡ length fs = let c = facts_count in let a = length-append q.state.facts (fact_of b ∷ []) in omega arith in
        let m : work' ≡ over (held_bytes fs) old =
        we ∙ ap (λ (x : List ℕ). paste x (8 * player.state.facts) row 8) st.memory
        ∙ held_more q.state.facts (fact_of b) row old player.state.facts few_facts (let e = passed.fits.sized in let k = arity_six D B.arities (fact_of b).rel in omega arith) facts_count (fact_room h) re in
        let s : next ≡ state_of (record { facts = fs; running = q.state.running }) q.waiting =
        ne ∙ (λ i. record { facts = n i; running = (state_is D q st i).running; waiting = (state_is D q st i).waiting }) in
        let j = sym (joined_new h) in
        onward_on D q player work old st behind (record { facts = joined (fact_of b) q.state.facts; running = q.state.running }) q.waiting new work'
        (is.0, is.1, is.2, is.3 ∙ s ∙ ap (λ (gs : List Fact). state_of (record { facts = gs; running = q.state.running }) q.waiting) j, is.4)
        (m ∙ ap (λ (gs : List Fact). over (held_bytes gs) old) j)

  -- an event
  pub event_on : (more : Waiting) → more ≡ waiting_of (q.waiting ++ (event_of b ∷ [])) → (new : Player)
      → (new.at ≡ behind) × (new.closed ≡ false) × (new.objects ≡ player.objects)
      × (new.state ≡ record { facts = player.state.facts; running = player.state.running; waiting = more }) × (new.tally ≡ player.tally)
      → PlayLeadsTo (go_on (with_event q (event_of b) behind)) (record { number = 0; player = new }) work old
  event_on more e new is =
      let s : new.state ≡ state_of q.state (q.waiting ++ (event_of b ∷ [])) =
      is.3 ∙ (λ i. record { facts = (state_is D q st i).facts; running = (state_is D q st i).running; waiting = e i }) in
      onward_on D q player work old st behind q.state (q.waiting ++ (event_of b ∷ [])) new work (is.0, is.1, is.2, s, is.4) st.memory
