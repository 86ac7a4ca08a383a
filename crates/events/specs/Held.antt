-- How the code holds a run: open entries and waiting events as rows of bytes, and ground literals, those of an action with its objects
-- that count at a time, with the memory that holds those of a step. Assumes nothing.
use Rattle.std.specs.Prelude.{◌≡◌, Bool, true, false, ◌&&◌, not, cond, ℕ, zero, suc, ◌+◌, ◌-◌, ◌*◌, ◌<◌, eqb, ltb, length, get_or, take, drop, replicate}
use Rattle.std.specs.Prelude.{Option, Some, None}
use mathlib.Core.List.{List, [], ◌∷◌, ◌++◌, map, flat_map}
use Rattle.std.proofs.Math.Seq.{paste}
use Rattle.records.specs.Lists.{In, any, same_list, position, filter_by}
use Rattle.literals.specs.declared.Object.{Object}
use Rattle.literals.specs.declared.Time.{Time}
use Rattle.literals.specs.declared.Time.TheVariants.{AtStart, AtEnd}
use Rattle.literals.specs.Domain.{Fact, Domain, action, role_number, Literal}
use Rattle.literals.specs.Decode.{byte, max_arguments, max_variables, max_literals}
use Rattle.literals.specs.Held.{row_in, pad, rows_by, actions_in, arity_in, lasting_in, HeadOf, usage_for}
use Rattle.literals.specs.declared.Moment.{Moment}
use Rattle.literals.specs.declared.Moment.TheVariants.{Start, End}
use Rattle.literals.specs.Matching.{moment_number}
use Rattle.verdict.specs.Judged.{object_numbers}
use Rattle.verdict.specs.Machine.{GroundAction, Event}
use Rattle.verdict.specs.Held.{FactOver, pattern_row}
use Rattle.run_semantics.specs.RunFile.{max_running, max_events}
use Rattle.store.specs.Held.{SizedRow, has_row}

-- ---- rows

-- the bytes of an action with its objects, and room for those of what is open and of the events of a step
abbrev pub ground_bytes : ℕ
ground_bytes = 1 + max_variables

abbrev pub open_bytes : ℕ
open_bytes = ground_bytes * max_running

abbrev pub waiting_bytes : ℕ
waiting_bytes = ground_bytes * max_events

-- an action with its objects, FF to fill
abbrev pub ground_row : GroundAction → List ℕ
ground_row g = g.action ∷ (object_numbers g.binding ++ replicate (max_variables - length g.binding) 255)

-- the first n such rows of a memory
abbrev pub grounds_in : ℕ → List ℕ → List (List ℕ)
grounds_in = rows_by ground_bytes

-- ---- what the code holds

-- so many open lasting actions, each a row, 0 behind the last
pub record Open : Type 0 where
  pub count : ℕ
  pub rows : List ℕ

-- so many events of the step that is read: the byte of each one's moment (1 is an end), and its action with objects
pub record Waiting : Type 0 where
  pub count : ℕ
  pub moments : List ℕ
  pub rows : List ℕ

-- the open entries, in order
unfoldable pub open_of : List GroundAction → Open
unfolding flat_map
open_of gs = record { count = length gs; rows = pad open_bytes (flat_map ground_row gs) }

-- the events of the step that is read, in order
unfoldable pub waiting_of : List Event → Waiting
unfolding flat_map
waiting_of es =
    record {
      count = length es;
      moments = pad max_events (map (λ (e : Event). moment_number e.moment) es);
      rows = pad waiting_bytes (flat_map (λ (e : Event). ground_row e.act) es);
    }

-- ---- the agenda: what is open and what waits, in one memory

-- where the moments of the events that wait and their rows start, behind the entries, and its length
abbrev pub moments_at : ℕ
moments_at = open_bytes

abbrev pub events_at : ℕ
events_at = moments_at + max_events

abbrev pub agenda_bytes : ℕ
agenda_bytes = events_at + waiting_bytes

-- its sections
abbrev pub entries_in : List ℕ → List ℕ
entries_in agenda = take open_bytes agenda

abbrev pub moments_in : List ℕ → List ℕ
moments_in agenda = take max_events (drop moments_at agenda)

abbrev pub event_rows_in : List ℕ → List ℕ
event_rows_in agenda = take waiting_bytes (drop events_at agenda)

-- so many entries, and so many events
abbrev pub agenda_open : ℕ → List ℕ → Open
agenda_open n agenda = record { count = n; rows = entries_in agenda }

abbrev pub agenda_waiting : ℕ → List ℕ → Waiting
agenda_waiting n agenda = record { count = n; moments = moments_in agenda; rows = event_rows_in agenda }

-- ---- actions that fit the domain

-- an action of the domain with an object for each variable, none of them FF
pub record GroundFits (D : Domain) (g : GroundAction) : Type 0 where
  pub listed : g.action < length D.actions
  pub bound : length g.binding ≡ (action D g.action).vars
  pub objects : (o : Object) → In o g.binding → o.0 < 255

abbrev pub GroundsFit : Domain → List GroundAction → Type 0
GroundsFit D gs = (g : GroundAction) → In g gs → GroundFits D g

abbrev pub EventsFit : Domain → List Event → Type 0
EventsFit D es = (e : Event) → In e es → GroundFits D e.act

-- "whose facts and bindings use no objects but those chosen": none of these is FF
pub record OverObjects (D : Domain) (objs : List Object) (fs : List Fact) (gs : List GroundAction) : Type 0 where
  pub low : (o : Object) → In o objs → o.0 < 255
  pub facts : (f : Fact) → In f fs → FactOver D objs f
  pub bindings : (g : GroundAction) → In g gs → (o : Object) → In o g.binding → In o objs

-- ---- a literal's row, bound

-- an argument: the object of a variable, which an action's row has behind the action; FF, every object, stays
abbrev pub bound_argument : List ℕ → ℕ → ℕ
bound_argument act v = cond (ltb v max_variables) (get_or act (v + 1) 0) 255

-- the row of a literal, so bound, by the arity of its relation
abbrev pub bound_bytes : ℕ → List ℕ → List ℕ → List ℕ
bound_bytes n act row = byte row 1 ∷ n ∷ (map (bound_argument act) (take n (drop 2 row)) ++ replicate (max_arguments - n) 255)

-- the same, with the arity that the head has
unfoldable pub bound_row : List ℕ → List ℕ → List ℕ → List ℕ
unfolding arity_in
bound_row head act row = bound_bytes (arity_in head (byte row 1)) act row

-- a pattern: FF stands among the arguments of the row
unfoldable pub is_pattern : List ℕ → Bool
is_pattern row = any (eqb 255) (take (byte row 1) (drop 2 row))

-- the time of an event's literals, by its moment
abbrev pub time_of : Moment → Time
time_of Start = AtStart
time_of End = AtEnd

-- ---- openings

-- an event that waits: the byte of its moment, and the row of its action with objects
pub record EventRow : Type 0 where
  pub moment : ℕ
  pub row : List ℕ

-- the event at a place of these memories
abbrev pub event_at : List ℕ → List ℕ → ℕ → EventRow
event_at moments rows i = record { moment = get_or moments i 0; row = take ground_bytes (drop (ground_bytes * i) rows) }

-- the first n
abbrev pub events_in : ℕ → List ℕ → List ℕ → List EventRow
events_in zero moments rows = []
events_in (suc n) moments rows =
    record { moment = get_or moments 0 0; row = take ground_bytes rows } ∷ events_in n (drop 1 moments) (drop ground_bytes rows)

-- where it is an end, its entry is one of these
unfoldable pub end_open : List (List ℕ) → EventRow → Bool
end_open rows e = cond (eqb e.moment 1) (has_row e.row rows) true

-- without the entry k: the later ones move forward, zeros fill the end
unfoldable pub without_entry : ℕ → Open → Open
without_entry k o =
    record {
      count = o.count - 1;
      rows = take (ground_bytes * k) o.rows ++ (drop (ground_bytes * k + ground_bytes) o.rows ++ replicate ground_bytes 0);
    }

-- the place of the first entry that is this one, where there is one
abbrev pub entry_place : List ℕ → List (List ℕ) → Option ℕ
entry_place row rows =
    let k = position (same_list eqb row) rows in
    cond (ltb k (length rows)) (Some k) None

-- without the first equal entry
unfoldable pub close_entry : List ℕ → Open → Open
unfolding without_entry
close_entry row o =
    let k = position (same_list eqb row) (grounds_in o.count o.rows) in
    cond (eqb k o.count) o (without_entry k o)

-- without the entry of an event that is an end
unfoldable pub close_event : EventRow → Open → Open
unfolding close_entry
close_event e o = cond (eqb e.moment 1) (close_entry e.row o) o

abbrev pub close_events : List EventRow → Open → Open
close_events [] o = o
close_events (e ∷ es) o = close_events es (close_event e o)

-- one entry more
unfoldable pub join_entry : List ℕ → Open → Open
join_entry row o = record { count = o.count + 1; rows = paste o.rows (ground_bytes * o.count) row ground_bytes }

-- an event of this moment and action is the start of a lasting action
unfoldable pub opens_by : List ℕ → ℕ → ℕ → Bool
unfolding actions_in lasting_in
opens_by head moment action = not (eqb moment 1) && ltb action (actions_in head) && lasting_in head action

-- what a step leaves open, where it fits
pub record OpenAfter : Type 0 where
  pub fits : Bool
  pub running : Open

-- how many entries that is, where it fits, and the bytes that are left there
abbrev pub count_after : OpenAfter → Option ℕ
count_after r = cond r.fits (Some r.running.count) None

abbrev pub rows_after : OpenAfter → List ℕ
rows_after r = r.running.rows

-- the entry of such a start is added, where there is room for it
unfoldable pub join_event : List ℕ → EventRow → Open → OpenAfter
unfolding opens_by join_entry
join_event head e o =
    cond (opens_by head e.moment (byte e.row 0))
    (cond (ltb o.count max_running) (record { fits = true; running = join_entry e.row o }) (record { fits = false; running = o }))
    (record { fits = true; running = o })

-- those of several events, up to the first for which there is no room
abbrev pub join_events : List ℕ → List EventRow → Open → OpenAfter
join_events head [] o = record { fits = true; running = o }
join_events head (e ∷ es) o =
    let joined = join_event head e o in
    cond joined.fits (join_events head es joined.running) joined

-- ---- ground literals

-- a literal bound to objects, as it counts at a time: its usage (1 true condition, 2 false condition, 3 add, 4 delete), and its row:
-- that of its fact, or with FF for every object a pattern, which is about every fact whose row it meets
pub record GroundLiteral : Type 0 where
  pub usage : ℕ
  pub row : List ℕ

-- those of an action with its objects that count at the start, over all, or at the end, in the order of its literals
unfoldable pub ground_literals : Domain → Time → GroundAction → List GroundLiteral
unfolding usage_for action pattern_row
ground_literals D t g =
    map (λ l. record { usage = usage_for t (role_number l.role); row = pattern_row g.binding l.atom })
    (filter_by (λ (l : Literal). not (eqb (usage_for t (role_number l.role)) 0)) (action D g.action).lits)

-- those of an event
abbrev pub event_literals : Domain → Event → List GroundLiteral
event_literals D e = ground_literals D (time_of e.moment) e.act

-- the same by the rows of an action's literals
unfoldable pub row_literals : Time → List ℕ → List ℕ → List (List ℕ) → List GroundLiteral
unfolding usage_for bound_row
row_literals t head act rows =
    map (λ row. record { usage = usage_for t (byte row 0); row = bound_row head act row })
    (filter_by (λ row. not (eqb (usage_for t (byte row 0)) 0)) rows)

-- ---- ground literals in memory

-- as many as a step can have; behind their rows a byte for each one's usage, and one for each event
abbrev pub max_ground : ℕ
max_ground = max_events * max_literals

abbrev pub usages_at : ℕ
usages_at = 8 * max_ground

abbrev pub counts_at : ℕ
counts_at = usages_at + max_ground

abbrev pub grounded_bytes : ℕ
grounded_bytes = counts_at + max_events

-- that at a place of the memory, and the first n
abbrev pub ground_at : List ℕ → ℕ → GroundLiteral
ground_at memory i = record { usage = get_or memory (usages_at + i) 0; row = row_in memory i }

abbrev pub ground_in : ℕ → List ℕ → List GroundLiteral
ground_in zero memory = []
ground_in (suc n) memory = ground_in n memory ++ (ground_at memory n ∷ [])

-- several lists of them, one behind the other
abbrev pub in_one : List (List GroundLiteral) → List GroundLiteral
in_one parts = flat_map (λ (part : List GroundLiteral). part) parts

-- the memory holds these lists, and how many each has
pub record Laid (parts : List (List GroundLiteral)) (memory : List ℕ) (total : ℕ) : Type 0 where
  pub filled : ground_in total memory ≡ in_one parts
  pub counted : (i : ℕ) → i < length parts → get_or memory (counts_at + i) 0 ≡ length (get_or parts i [])

-- the memory holds the ground literals of the events of a step, in a domain that was read
pub record Grounded (D : Domain) (head : List ℕ) (es : List Event) (memory : List ℕ) (total : ℕ) : Type 0 where
  pub says : HeadOf D head
  pub fit : EventsFit D es
  pub laid : Laid (map (event_literals D) es) memory total

-- each row has the arity of its relation
abbrev pub EachSized : List ℕ → List GroundLiteral → Type 0
EachSized head ls = (l : GroundLiteral) → In l ls → SizedRow head l.row
