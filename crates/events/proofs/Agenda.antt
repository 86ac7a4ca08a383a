-- Sections of one memory: a section that is changed holds what was put there, and the others are as they were. Assumes nothing.
use mathlib.Core.Path.{◌≡◌, sym, ap, ◌∙◌}
use mathlib.Core.List.{List, [], ◌∷◌, ◌++◌, flat_map}
use Prim.Native.Nat.{ℕ, ◌+◌, ◌*◌, ◌≤◌, ◌<◌}
use native.Mathlib.Omega.{arith}
use lib.ListN.{length, take, drop, set, replicate, length-set, length-drop, length-replicate, take-append-drop}
use lib.Seq.{take-append-le, take_at, drop_at, drop-append-le, length-take-le, drop-drop}
use lib.Seq.{take-set-le, take-set-lt, drop-set-lt, drop-set-add, paste}
use borrow.Rule.Slice.PartMut.{put_mid, post_of, same_len_mid}
use Rattle.literals.specs.Domain.{Domain}
use Rattle.literals.specs.Held.{Bounded}
use Rattle.literals.specs.Matching.{moment_number}
use Rattle.verdict.specs.Machine.{Event}
use Rattle.run_semantics.specs.RunFile.{max_events}
use Rattle.events.specs.Held.{agenda_bytes, moments_at, events_at, open_bytes, waiting_bytes, entries_in, moments_in}
use Rattle.events.specs.Held.{event_rows_in, agenda_waiting, ground_row, waiting_of, EventsFit}
use Rattle.events.proofs.MoreWaiting.{waiting_more}

-- ---- a section of k bytes at a, with others in its place

front_stays : (i n : ℕ) (p q : List ℕ) → i + n ≤ length p → take n (drop i (p ++ q)) ≡ take n (drop i p)
front_stays i n p q h =
    let l = length-drop i p in
    ap (take n) (drop-append-le i p q (omega arith)) ∙ take-append-le n (drop i p) q (omega arith)

module _ (a k : ℕ) (xs ys : List ℕ) (room : a + k ≤ length xs) (sized : length ys ≡ k) where
  before_length : length (take a xs) ≡ a
  before_length = length-take-le a xs (omega arith)

  pub section_is : take k (drop a (put_mid a k xs ys)) ≡ ys
  section_is = ap (take k) (drop_at (take a xs) (ys ++ post_of a k xs) a before_length) ∙ take_at ys (post_of a k xs) k sized

  -- n bytes at i in it
  pub within_is : (i n : ℕ) → i + n ≤ k → take n (drop (a + i) (put_mid a k xs ys)) ≡ take n (drop i ys)
  within_is i n h =
      ap (take n) (sym (drop-drop i a (put_mid a k xs ys)) ∙ ap (drop i) (drop_at (take a xs) (ys ++ post_of a k xs) a before_length))
      ∙ front_stays i n ys (post_of a k xs) (omega arith)

  -- n bytes at i in front of it
  pub before_stays : (i n : ℕ) → i + n ≤ a → take n (drop i (put_mid a k xs ys)) ≡ take n (drop i xs)
  before_stays i n h =
      let l = before_length in
      front_stays i n (take a xs) (ys ++ post_of a k xs) (omega arith)
      ∙ sym (front_stays i n (take a xs) (drop a xs) (omega arith))
      ∙ ap (λ (t : List ℕ). take n (drop i t)) (take-append-drop a xs)

-- the agenda's own
pub section_length : (agenda : List ℕ) (a k : ℕ) → a + k ≤ length agenda → length (take k (drop a agenda)) ≡ k
section_length agenda a k h = let d = length-drop a agenda in length-take-le k (drop a agenda) (omega arith)

-- ---- one event more

module _ (agenda : List ℕ) (n moment : ℕ) (l : length agenda ≡ agenda_bytes) (few : n < max_events) where
  abbrev marked : List ℕ
  marked = set agenda (moments_at + n) moment

  marked_length : length marked ≡ agenda_bytes
  marked_length = length-set agenda (moments_at + n) moment ∙ l

  module _ (rows : List ℕ) (sized : length rows ≡ length (event_rows_in marked)) where
    abbrev more : List ℕ
    more = put_mid events_at waiting_bytes marked rows

    room : events_at + waiting_bytes ≤ length marked
    room = let e = marked_length in omega arith

    rows_sized : length rows ≡ waiting_bytes
    rows_sized = sized ∙ section_length marked events_at waiting_bytes room

    pub more_length : length more ≡ length agenda
    more_length = same_len_mid events_at waiting_bytes marked rows sized ∙ length-set agenda (moments_at + n) moment

    pub more_entries : entries_in more ≡ entries_in agenda
    more_entries =
        before_stays events_at waiting_bytes marked rows room rows_sized 0 open_bytes (omega arith)
        ∙ take-set-le open_bytes agenda (moments_at + n) moment (omega arith)

    more_moments : moments_in more ≡ set (moments_in agenda) n moment
    more_moments =
        before_stays events_at waiting_bytes marked rows room rows_sized moments_at max_events (omega arith)
        ∙ ap (take max_events) (drop-set-add moments_at agenda n moment)
        ∙ take-set-lt max_events (drop moments_at agenda) n moment few

    marked_rows : event_rows_in marked ≡ event_rows_in agenda
    marked_rows = ap (take waiting_bytes) (drop-set-lt events_at agenda (moments_at + n) moment (omega arith))

    pub more_waits : {D : Domain} → Bounded D → (es : List Event) → EventsFit D es → agenda_waiting n agenda ≡ waiting_of es
        → (e : Event) (act : List ℕ) → moment ≡ moment_number e.moment → act ≡ ground_row e.act
        → rows ≡ paste (event_rows_in marked) (17 * n) act (length act) → agenda_waiting (n + 1) more ≡ waiting_of (es ++ (e ∷ []))
    more_waits B es F w e act m g p =
        (λ i. record { count = n + 1; moments = more_moments i; rows = section_is events_at waiting_bytes marked rows room rows_sized i })
        ∙ waiting_more B es F (agenda_waiting n agenda) w few e moment act rows m g
        (p ∙ ap (λ (t : List ℕ). paste t (17 * n) act (length act)) marked_rows)

-- ---- the agenda after a step: other entries, and no event

module _ (agenda entries zeros : List ℕ) (l : length agenda ≡ agenda_bytes) (sized : length entries ≡ length (entries_in agenda)) where
  entries_sized : length entries ≡ open_bytes
  entries_sized = sized ∙ length-take-le open_bytes agenda (omega arith)

  abbrev joined : List ℕ
  joined = put_mid 0 open_bytes agenda entries

  pub joined_length : length joined ≡ agenda_bytes
  joined_length = same_len_mid 0 open_bytes agenda entries sized ∙ l

  module _ (cleared : zeros ≡ replicate (length (take 288 (drop moments_at joined))) 0) where
    abbrev after : List ℕ
    after = put_mid moments_at 288 joined zeros

    room_after : moments_at + 288 ≤ length joined
    room_after = let e = joined_length in omega arith

    zeros_are : zeros ≡ replicate 288 0
    zeros_are = cleared ∙ ap (λ (n : ℕ). replicate {A = ℕ} n 0) (section_length joined moments_at 288 room_after)

    zeros_sized : length zeros ≡ 288
    zeros_sized = ap length zeros_are ∙ length-replicate {A = ℕ} 288 0

    pub after_entries : entries_in after ≡ entries
    after_entries =
        before_stays moments_at 288 joined zeros room_after zeros_sized 0 open_bytes (omega arith)
        ∙ section_is 0 open_bytes agenda entries (omega arith) entries_sized

    pub after_waits : agenda_waiting 0 after ≡ waiting_of []
    unfolding waiting_of flat_map
    after_waits i =
        record {
          count = 0;
          moments = (within_is moments_at 288 joined zeros room_after zeros_sized 0 max_events (omega arith) ∙ ap (take max_events) zeros_are) i;
          rows =
              (within_is moments_at 288 joined zeros room_after zeros_sized max_events waiting_bytes (omega arith)
              ∙ ap (λ (t : List ℕ). take waiting_bytes (drop max_events t)) zeros_are) i;
        }
