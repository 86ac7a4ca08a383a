-- What a step adds and strikes, by its ground literals. Assumes nothing.
use Rattle.std.specs.Prelude.{◌≡◌, Bool, true, false, ◌&&◌, not, cond, ℕ, suc, ◌+◌, ◌*◌, ◌≤◌, ◌<◌, eqb, ltb, length, get_or, take, drop, Option, Some, None}
use mathlib.Core.List.{List, [], ◌∷◌, ◌++◌, map, flat_map}
use Rattle.records.specs.Lists.{In, any, filter_by, count_by, same_list, elem, distinct}
use Rattle.records.specs.Memory.{over}
use Rattle.literals.specs.declared.Object.{Object}
use Rattle.literals.specs.declared.Usage.TheVariants.{Delete}
use Rattle.literals.specs.Domain.{Fact, same_fact, Domain}
use Rattle.literals.specs.Decode.{byte}
use Rattle.literals.specs.Held.{row_in, rows_in}
use Rattle.verdict.specs.Judged.{fact_bytes}
use Rattle.verdict.specs.Machine.{Event, step_facts, facts_after}
use Rattle.verdict.specs.Held.{patterns_meet, fact_row}
use Rattle.run_semantics.specs.RunFile.{max_facts}
use Rattle.run_semantics.specs.Play.{work_bytes}
use Rattle.store.specs.Held.{Indexed, has_row}
use Rattle.events.specs.Held.{is_pattern, GroundLiteral, grounded_bytes}
use Rattle.effects.specs.declared.After.{After}

-- ---- what a step works in

-- its scratch memory: the ground literals, in whose place the facts after it are put together; and behind that what it strikes and then
-- what it adds
abbrev pub scratch_bytes : ℕ
scratch_bytes = grounded_bytes + work_bytes

abbrev pub literals_in : List ℕ → List ℕ
literals_in scratch = take grounded_bytes scratch

abbrev pub effects_in : List ℕ → List ℕ
effects_in scratch = take work_bytes (drop grounded_bytes scratch)

-- ---- effects, by rows

-- the rows of those ground literals that are of a usage
unfoldable pub rows_of_usage : ℕ → List GroundLiteral → List (List ℕ)
rows_of_usage usage ls = map (λ (l : GroundLiteral). l.row) (filter_by (λ (l : GroundLiteral). eqb l.usage usage) ls)

-- a row appended unless it is there already; several rows
abbrev pub join_row : List (List ℕ) → List ℕ → List (List ℕ)
join_row rows row = cond (has_row row rows) rows (rows ++ (row ∷ []))

abbrev pub join_rows : List (List ℕ) → List (List ℕ) → List (List ℕ)
join_rows rows [] = rows
join_rows rows (row ∷ more) = join_rows (join_row rows row) more

-- a count, or one more than the limit where it is above it
abbrev pub at_most : ℕ → ℕ → ℕ
at_most limit n = cond (ltb limit n) (suc limit) n

-- what is told of a count: itself, or one more than the limit of facts where it was told that there is no room
abbrev pub count_of : Option ℕ → ℕ
count_of None = suc max_facts
count_of (Some n) = n

-- what is told of a place: itself, or the end where it was told that there is none
abbrev pub place_or : ℕ → Option ℕ → ℕ
place_or end None = end
place_or end (Some i) = i

-- the bytes of rows, one row behind the other
abbrev pub flat : List (List ℕ) → List ℕ
flat rows = flat_map (λ (row : List ℕ). row) rows

-- what appending leaves where these are the rows afterwards, in a memory that was `old` before: how many they are, their bytes, and their
-- index where they fit
pub record HoldsJoined (head : List ℕ) (rows : List (List ℕ)) (old : List ℕ) (r : ℕ) (out index : List ℕ) : Type 0 where
  pub count : r ≡ at_most max_facts (length rows)
  pub bytes : out ≡ over (flat (take max_facts rows)) old
  pub indexed : r ≤ max_facts → Indexed head index rows

-- no row occurs twice
abbrev pub Once : List (List ℕ) → Type 0
Once rows = distinct (same_list eqb) rows ≡ true

-- a delete's row meets this one: the delete is about this fact
abbrev pub any_meets : List (List ℕ) → List ℕ → Bool
any_meets struck row = any (λ p. patterns_meet p row) struck

-- the same, told by equal rows where no delete is a pattern
unfoldable pub is_struck : List (List ℕ) → List ℕ → Bool
unfolding is_pattern
is_struck struck row = cond (any is_pattern struck) (any_meets struck row) (has_row row struck)

-- how many of the first n rows of a memory are struck
abbrev pub struck_of : List (List ℕ) → List ℕ → ℕ → ℕ
struck_of struck work n = count_by (is_struck struck) (rows_in n work)

-- the rows that are not struck
abbrev pub stays : List (List ℕ) → List ℕ → Bool
stays struck row = not (is_struck struck row)

abbrev pub kept_of : List (List ℕ) → List ℕ → ℕ → List (List ℕ)
kept_of struck work n = filter_by (stays struck) (rows_in n work)

-- of the first n rows of a memory, the first from a row on that is struck; n where there is none
pub record FirstStruck (struck : List (List ℕ)) (work : List ℕ) (n from r : ℕ) : Type 0 where
  pub behind : from ≤ r
  pub within : r ≤ n
  pub others : (j : ℕ) → from ≤ j → j < r → is_struck struck (row_in work j) ≡ false
  pub found : r < n → is_struck struck (row_in work r) ≡ true

-- the third bytes of these rows are marked
abbrev pub Marked : List ℕ → List (List ℕ) → Type 0
Marked marks rows = (row : List ℕ) → In row rows → get_or marks (byte row 2) 0 ≡ 1

-- a row with this third byte meets none that is marked: neither the byte nor FF is
abbrev pub is_apart : List ℕ → ℕ → Bool
is_apart marks first = not (eqb first 255) && (eqb (get_or marks 255 0) 0 && eqb (get_or marks first 0) 0)

-- ---- effects

-- what a step leaves of facts: how many are kept and how many there are then, their bytes, and their index
pub record HoldsAfter (D : Domain) (objs : List Object) (fs : List Fact) (es : List Event) (head : List ℕ) (r : After) (out index : List ℕ)
    : Type 0 where
  pub kept : r.kept ≡ length (filter_by (λ (f : Fact). not (elem same_fact f (step_facts D objs es Delete))) fs)
  pub facts : count_of r.facts ≡ at_most max_facts (length (facts_after D objs fs es))
  pub held : length (facts_after D objs fs es) ≤ max_facts
      → take (8 * length (facts_after D objs fs es)) out ≡ fact_bytes (facts_after D objs fs es)
  pub indexed : length (facts_after D objs fs es) ≤ max_facts → Indexed head index (map fact_row (facts_after D objs fs es))
