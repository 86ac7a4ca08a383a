-- What a step asks, as the code tells it: conditions and interference, by ground literals and the rows of facts. Assumes nothing.
use Rattle.std.specs.Prelude.{◌≡◌, Bool, true, false, ◌&&◌, not, cond, List, ℕ, ◌<◌, eqb, ltb, leb, get_or}
use Rattle.records.specs.Lists.{In, any, same_list}
use Rattle.verdict.specs.Held.{patterns_meet}
use Rattle.store.specs.Held.{has_row, word_of}
use Rattle.events.specs.Held.{is_pattern, GroundLiteral, ground_at}

-- ---- conditions

-- a ground literal holds where it is a condition: a true one asks for its fact, a false one that its row meet no fact's, an effect for
-- nothing
unfoldable pub condition_met : List (List ℕ) → GroundLiteral → Bool
condition_met facts l =
    cond (eqb l.usage 1) (has_row l.row facts) (cond (eqb l.usage 2) (not (any (patterns_meet l.row) facts)) true)

-- the same by equal rows, which is all of it where the row is no pattern
unfoldable pub plainly_met : List (List ℕ) → GroundLiteral → Bool
plainly_met facts l = cond (eqb l.usage 1) (has_row l.row facts) (cond (eqb l.usage 2) (not (has_row l.row facts)) true)

-- a false condition whose row is a pattern
unfoldable pub asks_pattern : GroundLiteral → Bool
unfolding is_pattern
asks_pattern l = eqb l.usage 2 && is_pattern l.row

-- a false condition that this fact's row meets
unfoldable pub forbids : List ℕ → GroundLiteral → Bool
forbids fact l = eqb l.usage 2 && patterns_meet l.row fact

-- each row of these that is no pattern meets a fact's only where it is the same
abbrev pub MeetSame : List GroundLiteral → List (List ℕ) → Type 0
MeetSame ls facts =
    (l : GroundLiteral) → In l ls → is_pattern l.row ≡ false → (fact : List ℕ) → In fact facts
    → patterns_meet l.row fact ≡ same_list eqb l.row fact

-- ---- interference: two ground literals about a fact in common, whose usages may not stand in two events

-- two usages of one fact that two events may not have: a condition with an add or delete, an add with a delete
unfoldable pub clashing : ℕ → ℕ → Bool
clashing c d = cond (ltb c 3) (not (eqb c 0) && leb 3 d) (cond (ltb d 3) (not (eqb d 0)) (not (eqb c d)))

-- two ground literals clash: their rows meet, and their usages clash
unfoldable pub clashes : GroundLiteral → GroundLiteral → Bool
unfolding clashing
clashes a b = patterns_meet a.row b.row && clashing a.usage b.usage

-- a ground literal of the first list clashes with one of the second
abbrev pub literals_clash : List GroundLiteral → List GroundLiteral → Bool
literals_clash first later = any (λ a. any (clashes a) later) first

-- these are the words of the first n ground literals of a memory
abbrev pub WordsOf : ℕ → List ℕ → List ℕ → Type 0
WordsOf n memory words = (i : ℕ) → i < n → get_or words i 0 ≡ word_of (ground_at memory i).row

-- what the words of two rows tell: where they are the same, the rows meet; where not, the rows don't, unless there are patterns
pub record ToldByWords (patterns : Bool) (p q : List ℕ) : Type 0 where
  pub same : word_of p ≡ word_of q → patterns_meet p q ≡ true
  pub other : patterns ≡ false → (word_of p ≡ word_of q → ⊥) → patterns_meet p q ≡ false

-- of any two of the first n ground literals of a memory
abbrev pub AllTold : Bool → ℕ → List ℕ → Type 0
AllTold patterns n memory = (i j : ℕ) → i < n → j < n → ToldByWords patterns (ground_at memory i).row (ground_at memory j).row
