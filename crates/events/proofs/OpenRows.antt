-- The open entries and the waiting events as rows of bytes: what the loops over rows find in a domain. Assumes nothing.
use mathlib.Core.Path.{◌≡◌, refl, sym, ap, ap₂, subst, ◌∙◌}
use mathlib.Core.Bool.{Bool, true, false, not, ◌&&◌, cond, true≢false, ◌||◌}
use mathlib.Core.Logic.{◌⊎◌, inl, inr}
use mathlib.Core.List.Memᴰ
use mathlib.Core.List.{List, [], ◌∷◌, ◌++◌, map, flat_map, append-nil, append_assoc}
use Prim.Native.Nat.{ℕ, zero, suc, ◌+◌, ◌-◌, ◌*◌, ◌≤◌}
use native.Mathlib.Omega.{arith}
use lib.Dec.{eqb, ltb, leb}
use lib.ListN.{length, get_or, take, drop, replicate, length-append, replicate-append-replicate, drop_of_length-le}
use lib.Seq.{paste, take_at, drop_at, take_all, split_at, length-take-le}
use borrow.Author.Tests.{ltb-true, ltb-false, lt-ltb, le-leb, lt-leb, eqb-true, eqb-false}
use Rattle.records.specs.Lists.{In, keep_if, all, same_list, elem, position}
use Rattle.records.proofs.Lists.{bool_cases, flat_map_append, flat_map_snoc, in_snoc}
use Rattle.literals.specs.declared.Object.{Object}
use Rattle.literals.specs.Domain.{Domain, action}
use Rattle.literals.specs.Held.{pad, Bounded, actions_in, lasting_in, HeadOf}
use Rattle.literals.proofs.Tables.{length_flat, rows_flat, pad_paste, same_filled}
use Rattle.literals.specs.declared.Moment.{Moment}
use Rattle.literals.specs.declared.Moment.TheVariants.{Start, End}
use Rattle.literals.specs.Matching.{moment_number}
use Rattle.literals.proofs.KeyRows.{place_le}
use Rattle.verdict.specs.Machine.{GroundAction, Event, same_ground, is_open_at, is_open, close_one, close_at, close_all, opens, opened_by}
use Rattle.events.specs.Held.{Open, Waiting, ground_row, grounds_in, open_of, waiting_of, GroundFits, GroundsFit, EventsFit, EventRow}
use Rattle.events.specs.Held.{events_in, end_open, without_entry, close_entry, close_event, close_events, join_entry, opens_by, join_event}
use Rattle.events.specs.Held.{join_events, OpenAfter, count_after, rows_after}
use Rattle.events.proofs.GroundRows.{fits_with}
use Rattle.std.specs.Prelude.{Option, Some, None, is_some}
use Rattle.store.specs.Held.{has_row}
use Rattle.events.proofs.FactRows.{few_objects, length_ground_row}
use Rattle.events.proofs.Members.{close_in, closed_in}

-- ---- the events that wait

abbrev event_row : Event → EventRow
event_row e = record { moment = moment_number e.moment; row = ground_row e.act }

events_flat : (f : Event → List ℕ) (es : List Event) (left rest : List ℕ) → ((e : Event) → In e es → length (f e) ≡ 17)
    → events_in (length es) (map (λ (e : Event). moment_number e.moment) es ++ left) (flat_map f es ++ rest)
    ≡ map {B = EventRow} (λ (e : Event). record { moment = moment_number e.moment; row = f e }) es
unfolding flat_map
events_flat f [] left rest h = refl
events_flat f (x ∷ xs) left rest h =
    let e = h x (Memᴰ.head refl) in
    rw (
      append_assoc (f x) (flat_map f xs) rest,
      take_at (f x) (flat_map f xs ++ rest) 17 e,
      drop_at (f x) (flat_map f xs ++ rest) 17 e,
      events_flat f xs left rest (λ a m. h a (Memᴰ.tail m)),
    )

-- ---- two actions with objects have the same row where they are the same

module _ {D : Domain} (B : Bounded D) where
  pub length_ground : (g : GroundAction) → GroundFits D g → length (ground_row g) ≡ 17
  length_ground g f = length_ground_row g (few_objects B g f)

  pub same_rows : (g h : GroundAction) → GroundFits D g → GroundFits D h → same_list eqb (ground_row g) (ground_row h) ≡ same_ground g h
  same_rows g h f k =
      let a = few_objects B g f in
      let b = few_objects B h k in
      ap (λ (t : Bool). eqb g.action h.action && t)
      (same_filled (λ (o : Object). o.0) g.binding h.binding (16 - length g.binding) (16 - length h.binding) f.objects k.objects (omega arith))

  -- ---- the entries

  has_row_lem : (g : GroundAction) → GroundFits D g → (gs : List GroundAction) → GroundsFit D gs → has_row (ground_row g) (map ground_row gs) ≡ elem same_ground g gs
  has_row_lem g f [] k = refl
  has_row_lem g f (h ∷ hs) k = ap₂ ◌||◌ (same_rows g h f (k h (Memᴰ.head refl))) (has_row_lem g f hs (λ x m. k x (Memᴰ.tail m)))

  place_row : (g : GroundAction) → GroundFits D g → (gs : List GroundAction) → GroundsFit D gs → position (same_list eqb (ground_row g)) (map ground_row gs) ≡ position (same_ground g) gs
  place_row g f [] k = refl
  place_row g f (h ∷ hs) k =
      ap₂ (λ (b : Bool) (n : ℕ). cond b zero (suc n)) (same_rows g h f (k h (Memᴰ.head refl))) (place_row g f hs (λ x m. k x (Memᴰ.tail m)))

  entries_are : (gs : List GroundAction) → GroundsFit D gs → grounds_in (open_of gs).count (open_of gs).rows ≡ map ground_row gs
  unfolding open_of
  entries_are gs k = rows_flat ground_row gs (replicate (544 - length (flat_map ground_row gs)) 0) (λ g m. length_ground g (k g m))

  events_are : (es : List Event) → EventsFit D es → events_in (waiting_of es).count (waiting_of es).moments (waiting_of es).rows ≡ map event_row es
  unfolding waiting_of
  events_are es k =
      events_flat (λ (e : Event). ground_row e.act) es (replicate (16 - length (map (λ (e : Event). moment_number e.moment) es)) 0)
      (replicate (272 - length (flat_map (λ (e : Event). ground_row e.act) es)) 0)
      (λ e m. length_ground e.act (k e m))

  -- ---- "every end is open"

  end_is : (gs : List GroundAction) → GroundsFit D gs → (e : Event) → GroundFits D e.act → end_open (map ground_row gs) (event_row e) ≡ is_open gs e
  unfolding end_open
  end_is gs k e f = go e.moment
    where
      go : (m : Moment) → cond (eqb (moment_number m) 1) (has_row (ground_row e.act) (map ground_row gs)) true ≡ is_open_at m gs e.act
      go Start = refl
      go End = has_row_lem e.act f gs k

  ends_are : (gs : List GroundAction) → GroundsFit D gs → (es : List Event) → EventsFit D es → all (end_open (map ground_row gs)) (map event_row es) ≡ all (is_open gs) es
  ends_are gs k [] h = refl
  ends_are gs k (e ∷ es) h = ap₂ ◌&&◌ (end_is gs k e (h e (Memᴰ.head refl))) (ends_are gs k es (λ x m. h x (Memᴰ.tail m)))

  pub ends_held : (gs : List GroundAction) (es : List Event) → GroundsFit D gs → EventsFit D es → (running : Open) (waiting : Waiting) → running ≡ open_of gs → waiting ≡ waiting_of es
      → (r : Bool) → r ≡ all (end_open (grounds_in running.count running.rows)) (events_in waiting.count waiting.moments waiting.rows) → r ≡ all (is_open gs) es
  ends_held gs es k h running waiting e f r g =
      g
      ∙ ap₂ (λ (o : Open) (w : Waiting). all (end_open (grounds_in o.count o.rows)) (events_in w.count w.moments w.rows)) e f
      ∙ ap₂ (λ (rows : List (List ℕ)) (rs : List EventRow). all (end_open rows) rs) (entries_are gs k) (events_are es h)
      ∙ ends_are gs k es h

-- ---- an entry out

close_place : (g : GroundAction) (gs : List GroundAction) → close_one g gs ≡ take (position (same_ground g) gs) gs ++ drop (suc (position (same_ground g) gs)) gs
close_place g [] = refl
close_place g (h ∷ hs) = go (same_ground g h) (close_place g hs)
  where
    go : (b : Bool) → close_one g hs ≡ take (position (same_ground g) hs) hs ++ drop (suc (position (same_ground g) hs)) hs
        → cond b hs (h ∷ close_one g hs)
        ≡ take (cond b zero (suc (position (same_ground g) hs))) (h ∷ hs) ++ drop (suc (cond b zero (suc (position (same_ground g) hs)))) (h ∷ hs)
    go true e = refl
    go false e = ap {B = List GroundAction} (λ l. h ∷ l) e

more_zeros : (a b : ℕ) → a + 17 ≡ b → replicate {A = ℕ} a 0 ++ replicate 17 0 ≡ replicate b 0
more_zeros a b e = replicate-append-replicate a 17 0 ∙ ap (λ (m : ℕ). replicate m 0) e

-- by bytes: x before it, z it, y behind it
module _ (x z y : List ℕ) (k : ℕ) (e : length x ≡ 17 * k) where
  before_out : (rest : List ℕ) → take (17 * k) ((x ++ (z ++ y)) ++ rest) ≡ x
  before_out rest = ap (take (17 * k)) (append_assoc x (z ++ y) rest) ∙ take_at x ((z ++ y) ++ rest) (17 * k) e

  module _ (f : length z ≡ 17) where
    behind_out : (rest : List ℕ) → drop (17 * k + 17) ((x ++ (z ++ y)) ++ rest) ≡ y ++ rest
    behind_out rest =
        let l = length-append x z in
        ap (λ (t : List ℕ). drop (17 * k + 17) (t ++ rest)) (sym (append_assoc x z y)) ∙ ap (drop (17 * k + 17)) (append_assoc (x ++ z) y rest) ∙ drop_at (x ++ z) (y ++ rest) (17 * k + 17) (omega arith)

    module _ (n : ℕ) (h : length (x ++ (z ++ y)) ≤ n) where
      zeros_out : replicate {A = ℕ} (n - length (x ++ (z ++ y))) 0 ++ replicate 17 0 ≡ replicate (n - length (x ++ y)) 0
      zeros_out =
          let a = length-append x (z ++ y) in
          let b = length-append z y in
          let c = length-append x y in
          more_zeros (n - length (x ++ (z ++ y))) (n - length (x ++ y)) (omega arith)

      bytes_out : take (17 * k) (pad n (x ++ (z ++ y))) ++ (drop (17 * k + 17) (pad n (x ++ (z ++ y))) ++ replicate 17 0) ≡ pad n (x ++ y)
      bytes_out =
          let fill = replicate {A = ℕ} (n - length (x ++ (z ++ y))) 0 in
          ap₂ (λ (a b : List ℕ). a ++ (b ++ replicate 17 0)) (before_out fill) (behind_out fill)
          ∙ ap (λ (l : List ℕ). x ++ l) (append_assoc y fill (replicate 17 0) ∙ ap (λ (l : List ℕ). y ++ l) zeros_out)
          ∙ sym (append_assoc x y (replicate (n - length (x ++ y)) 0))

module _ {D : Domain} (B : Bounded D) where
  entry_out : (xs : List GroundAction) (g : GroundAction) (ys : List GroundAction) → GroundsFit D (xs ++ (g ∷ ys)) → length (xs ++ (g ∷ ys)) ≤ 32
      → without_entry (length xs) (open_of (xs ++ (g ∷ ys))) ≡ open_of (xs ++ ys)
  unfolding open_of without_entry flat_map
  entry_out xs g ys k few = λ i. record { count = counted i; rows = bytes i }
    where
      row : (a : GroundAction) → In a (xs ++ (g ∷ ys)) → length (ground_row a) ≡ 17
      row a m = length_ground B a (k a m)

      counted : length (xs ++ (g ∷ ys)) - 1 ≡ length (xs ++ ys)
      counted = let a = length-append xs (g ∷ ys) in let b = length-append xs ys in omega arith

      split : flat_map ground_row (xs ++ (g ∷ ys)) ≡ flat_map ground_row xs ++ (ground_row g ++ flat_map ground_row ys)
      split = flat_map_append ground_row xs (g ∷ ys)

      bytes : take (17 * length xs) (pad 544 (flat_map ground_row (xs ++ (g ∷ ys)))) ++ (drop (17 * length xs + 17) (pad 544 (flat_map ground_row (xs ++ (g ∷ ys)))) ++ replicate 17 0)
          ≡ pad 544 (flat_map ground_row (xs ++ ys))
      bytes =
          let l = length_flat ground_row (xs ++ (g ∷ ys)) row in
          let s = ap length split in
          ap (λ (l : List ℕ). take (17 * length xs) (pad 544 l) ++ (drop (17 * length xs + 17) (pad 544 l) ++ replicate 17 0)) split
          ∙ bytes_out (flat_map ground_row xs) (ground_row g) (flat_map ground_row ys) (length xs) (length_flat ground_row xs (λ a m. row a (Memᴰ.append_left (g ∷ ys) m)))
          (row g (Memᴰ.append_right xs (Memᴰ.head refl))) 544 (omega arith)
          ∙ ap (pad 544) (sym (flat_map_append ground_row xs ys))

  -- the first equal entry out
  close_is : (g : GroundAction) → GroundFits D g → (gs : List GroundAction) → GroundsFit D gs → length gs ≤ 32 → close_entry (ground_row g) (open_of gs) ≡ open_of (close_one g gs)
  unfolding close_entry open_of
  close_is g f gs k few =
      ap (λ (n : ℕ). cond (eqb n (length gs)) (open_of gs) (without_entry n (open_of gs))) (ap (position (same_list eqb (ground_row g))) (entries_are B gs k) ∙ place_row B g f gs k)
      ∙ go (bool_cases (eqb p (length gs)))
      ∙ ap open_of (sym (close_place g gs))
    where
      p : ℕ
      p = position (same_ground g) gs

      go : (eqb p (length gs) ≡ true) ⊎ (eqb p (length gs) ≡ false) → cond (eqb p (length gs)) (open_of gs) (without_entry p (open_of gs)) ≡ open_of (take p gs ++ drop (suc p) gs)
      go (inl t) =
          let e = eqb-true p (length gs) t in
          ap (λ (b : Bool). cond b (open_of gs) (without_entry p (open_of gs))) t
          ∙ ap open_of (sym (append-nil gs) ∙ ap₂ ◌++◌ (sym (take_all p gs (omega arith))) (sym (drop_of_length-le gs {i = suc p} (omega arith))))
      go (inr t) =
          let e = eqb-false p (length gs) t in
          let l = place_le (same_ground g) gs in
          let s = split_at gs p g (omega arith) in
          let n = ap length s in
          ap (λ (b : Bool). cond b (open_of gs) (without_entry p (open_of gs))) t
          ∙ ap₂ (λ (n : ℕ) (l : List GroundAction). without_entry n (open_of l)) (sym (length-take-le p gs (omega arith))) s
          ∙ entry_out (take p gs) (get_or gs p g) (drop (suc p) gs) (subst (GroundsFit D) s k) (omega arith)

  -- "ends leave the list (one entry each)"
  close_event_is : (e : Event) → GroundFits D e.act → (gs : List GroundAction) → GroundsFit D gs → length gs ≤ 32
      → close_event (event_row e) (open_of gs) ≡ open_of (close_at e.moment e.act gs)
  unfolding close_event
  close_event_is e f gs k few = go e.moment
    where
      go : (m : Moment) → cond (eqb (moment_number m) 1) (close_entry (ground_row e.act) (open_of gs)) (open_of gs) ≡ open_of (close_at m e.act gs)
      go Start = refl
      go End = close_is e.act f gs k few

close_few : (g : GroundAction) (gs : List GroundAction) → length (close_one g gs) ≤ length gs
close_few g [] = omega arith
close_few g (h ∷ hs) = go (same_ground g h) (close_few g hs)
  where
    go : (b : Bool) → length (close_one g hs) ≤ length hs → length (cond b hs (h ∷ close_one g hs)) ≤ suc (length hs)
    go true l = omega arith
    go false l = omega arith

close_at_few : (m : Moment) (g : GroundAction) (gs : List GroundAction) → length (close_at m g gs) ≤ length gs
close_at_few Start g gs = omega arith
close_at_few End g gs = close_few g gs

close_at_in : (m : Moment) (g : GroundAction) (gs : List GroundAction) {h : GroundAction} → In h (close_at m g gs) → In h gs
close_at_in Start g gs i = i
close_at_in End g gs i = close_in g gs i

closed_few : (es : List Event) (gs : List GroundAction) → length (close_all es gs) ≤ length gs
closed_few [] gs = omega arith
closed_few (e ∷ es) gs = let a = closed_few es (close_at e.moment e.act gs) in let b = close_at_few e.moment e.act gs in omega arith

closes_are : {D : Domain} → Bounded D → (es : List Event) → EventsFit D es → (gs : List GroundAction) → GroundsFit D gs → length gs ≤ 32
    → close_events (map event_row es) (open_of gs) ≡ open_of (close_all es gs)
closes_are B [] h gs k few = refl
closes_are B (e ∷ es) h gs k few =
    let l = close_at_few e.moment e.act gs in
    ap (close_events (map event_row es)) (close_event_is B e (h e (Memᴰ.head refl)) gs k few)
    ∙ closes_are B es (λ x m. h x (Memᴰ.tail m)) (close_at e.moment e.act gs) (λ g m. k g (close_at_in e.moment e.act gs m)) (omega arith)

-- ---- an entry more

module _ {D : Domain} (B : Bounded D) where
  entry_in : (gs : List GroundAction) → GroundsFit D gs → (g : GroundAction) → GroundFits D g → join_entry (ground_row g) (open_of gs) ≡ open_of (gs ++ (g ∷ []))
  unfolding open_of join_entry
  entry_in gs k g f = λ i. record { count = counted i; rows = bytes i }
    where
      counted : length gs + 1 ≡ length (gs ++ (g ∷ []))
      counted = sym (length-append gs (g ∷ []))

      bytes : paste (pad 544 (flat_map ground_row gs)) (17 * length gs) (ground_row g) 17 ≡ pad 544 (flat_map ground_row (gs ++ (g ∷ [])))
      bytes =
          pad_paste 544 (flat_map ground_row gs) (ground_row g) (17 * length gs) 17 (length_flat ground_row gs (λ h m. length_ground B h (k h m))) (length_ground B g f)
          ∙ ap (pad 544) (sym (flat_map_snoc ground_row gs g))

-- what the answer says of the entries afterwards
abbrev pub Tells : OpenAfter → List GroundAction → Type 0
Tells r gs = (r.fits ≡ leb (length gs) 32) × (r.fits ≡ true → r.running ≡ open_of gs)

-- the same of the count and the bytes, as the code answers them
pub told : (r : OpenAfter) (gs : List GroundAction) → Tells r gs → {k : Option ℕ} {rows : List ℕ} → k ≡ count_after r → rows ≡ rows_after r
    → (is_some k ≡ leb (length gs) 32) × ((n : ℕ) → k ≡ Some n → record { count = n; rows = rows } ≡ open_of gs)
told r gs t {k} {rows} e f = (ap is_some e ∙ by_fits r.fits ∙ t.0, held)
  where
    by_fits : (b : Bool) → is_some (cond b (Some r.running.count) None) ≡ b
    by_fits true = refl
    by_fits false = refl

    held : (n : ℕ) → k ≡ Some n → record { count = n; rows = rows } ≡ open_of gs
    held n g =
        let w = fits_with r (sym e ∙ g) in
        ap₂ {C = Open} (λ m t. record { count = m; rows = t }) (sym w.1) f ∙ t.1 w.0

-- ---- "starts join it": those of lasting actions

module _ {D : Domain} {head : List ℕ} (h : HeadOf D head) where
  opens_is : (e : Event) → GroundFits D e.act
      → opens_by head (moment_number e.moment) e.act.action ≡ opens e.moment (action D e.act.action)
  unfolding opens_by
  opens_is e f = go e.moment
    where
      go : (m : Moment)
          → not (eqb (moment_number m) 1) && ltb e.act.action (actions_in head) && lasting_in head e.act.action
          ≡ opens m (action D e.act.action)
      go Start =
          let l = f.listed in
          let n = h.actions in
          rw (lt-ltb e.act.action (actions_in head) (omega arith)) (h.lasting e.act.action l)
      go End = refl

  join_event_is : (e : Event) → GroundFits D e.act → (gs : List GroundAction) → join_event head (event_row e) (open_of gs)
      ≡ cond (opens e.moment (action D e.act.action))
      (cond (ltb (length gs) 32) (record { fits = true; running = join_entry (ground_row e.act) (open_of gs) }) (record { fits = false; running = open_of gs }))
      (record { fits = true; running = open_of gs })
  unfolding join_event open_of
  join_event_is e f gs =
      ap {B = OpenAfter} (λ b. cond b
      (cond (ltb (length gs) 32) (record { fits = true; running = join_entry (ground_row e.act) (open_of gs) }) (record { fits = false; running = open_of gs }))
      (record { fits = true; running = open_of gs })) (opens_is e f)

  joins_are : (es : List Event) → EventsFit D es → (gs : List GroundAction) → GroundsFit D gs → length gs ≤ 32
      → Tells (join_events head (map event_row es) (open_of gs)) (gs ++ opened_by D es)
  joins_are [] k gs l few = rw (append-nil gs) (sym (le-leb (length gs) 32 few), λ z. refl)
  joins_are (e ∷ es) k gs l few = rw (join_event_is e f gs) (go (opens e.moment (action D e.act.action)) (ltb (length gs) 32) refl (joins_are es (λ x m. k x (Memᴰ.tail m))))
    where
      f : GroundFits D e.act
      f = k e (Memᴰ.head refl)

      -- of the first event, and then of the others
      first : Bool → Bool → OpenAfter
      first a b =
          cond a (cond b (record { fits = true; running = join_entry (ground_row e.act) (open_of gs) }) (record { fits = false; running = open_of gs })) (record { fits = true; running = open_of gs })

      others : OpenAfter → OpenAfter
      others r = cond r.fits (join_events head (map event_row es) r.running) r

      more : List GroundAction
      more = gs ++ (e.act ∷ [])

      go : (a b : Bool) → ltb (length gs) 32 ≡ b
          → ((hs : List GroundAction) → GroundsFit D hs → length hs ≤ 32 → Tells (join_events head (map event_row es) (open_of hs)) (hs ++ opened_by D es))
          → Tells (others (first a b)) (gs ++ keep_if a e.act (opened_by D es))
      go false b q ih = ih gs l few
      go true true q ih =
          let n = ltb-true (length gs) 32 q in
          let m = length-append gs (e.act ∷ []) in
          subst (λ (o : Open). Tells (join_events head (map event_row es) o) (gs ++ (e.act ∷ opened_by D es))) (sym (entry_in h.bounded gs l e.act f))
          (subst (Tells (join_events head (map event_row es) (open_of more))) (append_assoc gs (e.act ∷ []) (opened_by D es))
          (ih more (in_snoc {P = GroundFits D} gs e.act l f) (omega arith)))
      go true false q ih =
          let n = ltb-false (length gs) 32 q in
          let m = length-append gs (e.act ∷ opened_by D es) in
          (sym (lt-leb (length (gs ++ (e.act ∷ opened_by D es))) 32 (omega arith)), λ z. absurd (true≢false (sym z)))

-- ---- as the code holds them

-- more events or entries than fit
pub events_few : (es : List Event) (waiting : Waiting) → waiting ≡ waiting_of es → length es ≤ 16 → waiting.count ≤ 16
unfolding waiting_of
events_few es waiting e h = let z = ap (λ (w : Waiting). w.count) e in omega arith

pub entries_few : (gs : List GroundAction) (running : Open) → running ≡ open_of gs → length gs ≤ 32 → running.count ≤ 32
unfolding open_of
entries_few gs running e h = let z = ap (λ (o : Open). o.count) e in omega arith

module _ {D : Domain} {head : List ℕ} (h : HeadOf D head) (gs : List GroundAction) (es : List Event) (k : GroundsFit D gs) (l : EventsFit D es) (few : length gs ≤ 32)
    (running : Open) (waiting : Waiting) (e : running ≡ open_of gs) (f : waiting ≡ waiting_of es) where
  events_held : events_in waiting.count waiting.moments waiting.rows ≡ map event_row es
  events_held = ap (λ (w : Waiting). events_in w.count w.moments w.rows) f ∙ events_are h.bounded es l

  closed_held : (closed : Open) → closed ≡ close_events (events_in waiting.count waiting.moments waiting.rows) running → closed ≡ open_of (close_all es gs)
  closed_held closed c = c ∙ ap₂ close_events events_held e ∙ closes_are h.bounded es l gs k few

  pub after_held : (closed : Open) → closed ≡ close_events (events_in waiting.count waiting.moments waiting.rows) running
      → (r : OpenAfter) → r ≡ join_events head (events_in waiting.count waiting.moments waiting.rows) closed
      → Tells r (close_all es gs ++ opened_by D es)
  after_held closed c r j =
      let n = closed_few es gs in
      subst (λ (r : OpenAfter). Tells r (close_all es gs ++ opened_by D es))
      (sym (j ∙ ap₂ (join_events head) events_held (closed_held closed c)))
      (joins_are h es l (close_all es gs) (λ g m. k g (closed_in es gs m)) (omega arith))
