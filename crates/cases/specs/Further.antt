-- Judging, beside M1 to M12: what those and the theorems leave open, each case with what it pins. Assumes nothing.
use Rattle.std.specs.Prelude.{◌≡◌, refl, List, [], ◌∷◌, ◌++◌, map, ℕ}
use Rattle.literals.specs.declared.Role.{Role}
use Rattle.literals.specs.declared.Time.{Time}
use Rattle.literals.specs.declared.Time.TheVariants.{AtStart, OverAll, AtEnd}
use Rattle.literals.specs.declared.Usage.{Usage}
use Rattle.literals.specs.declared.Usage.TheVariants.{Positive, Negative, Add, Delete}
use Rattle.literals.specs.Domain.{role_of}
use Rattle.verdict.specs.Judged.{judged, report_after, witness_after}
use Rattle.cases.specs.Written.{FF, rec, each, relation, at_once, lasting, literal, component, closing, holds, lacks, adds, deletes}
use Rattle.cases.specs.Written.{holds_over_all, lacks_over_all, holds_at_end, lacks_at_end, adds_at_end, deletes_at_end, lent, row, unreachable}
use Rattle.cases.specs.Written.{irrelevant, heavy, balanced, unbalanced, bounded, unbounded, held, judging, leaves, judge, answers}
use Rattle.cases.specs.Written.{refuses}
use Rattle.cases.specs.Samples.{at, out, relations, template, full, empty, fill, pour, m4, m10}

-- ---- vocabulary

abbrev role : Time → Usage → Role
role t c = record { time = t; usage = c }

-- a third relation, of one argument and without a component
abbrev lit : ℕ → List ℕ
lit x = 2 ∷ x ∷ []

-- the domains of full/1 and empty/1, both labelled 0, with these actions
abbrev vessels : List ℕ → List ℕ
vessels actions = relation 1 ++ relation 1 ++ actions ++ component (full 0) ++ component (empty 0) ++ closing

-- the domains of at/2, out/2 and lit/1, with M1's template and these actions
abbrev library : List ℕ → List ℕ
library actions = relations ++ relation 1 ++ actions ++ template ++ closing

-- two classes: that of variable 1 comes first in the file, that of variable 0 is heavy
abbrev second_class : List ℕ
second_class = library (at_once 3 ++ deletes (at 1 2) ++ holds (lit 2) ++ adds (at 0 1) ++ adds (at 0 2))

-- three actions at fault, by 42, 41 and 40
abbrev three_faults : List ℕ
three_faults = library
    (at_once 2 ++ adds (at 0 1) ++ at_once 3 ++ holds (at 0 1) ++ adds (at 0 2) ++ at_once 3 ++ adds (at 0 1) ++ adds (at 0 2))

-- ---- roles, classes, names, journeys and witnesses

pub record Names : Type 0 where
  -- the ten role bytes, sorted by ranges
  pub roles : map role_of (0 ∷ 1 ∷ 2 ∷ 3 ∷ 4 ∷ 5 ∷ 6 ∷ 7 ∷ 8 ∷ 9 ∷ [])
      ≡ role AtStart Positive ∷ role AtStart Negative ∷ role AtStart Add ∷ role AtStart Delete
      ∷ role OverAll Positive ∷ role OverAll Negative
      ∷ role AtEnd Positive ∷ role AtEnd Negative ∷ role AtEnd Add ∷ role AtEnd Delete ∷ []
  -- an over-all true condition doesn't balance the end, which its own would; no witness is written for an end whose class has an over-all
  -- literal
  pub over_all_at_end : judge (library (lasting 3 ++ holds_over_all (at 0 1) ++ adds_at_end (at 0 2) ++ deletes_at_end (at 0 1)))
      ≡ answers 42 0 0 1 (row 0 0 0 irrelevant ++ row 0 0 1 unbounded) []
  -- nor does it count at the start, or stand in the start's witness, which is written
  pub over_all_not_at_start : judge (library (lasting 2 ++ adds (at 0 1) ++ holds_over_all (at 0 1)))
      ≡ answers 42 0 0 0 (row 0 0 0 unbounded ++ row 0 0 1 irrelevant) (held (at 0 2))
  -- a literal in roles 4 and 6 counts once: twice would make the end unreachable
  pub over_all_and_end_once : judge (library (lasting 3 ++ holds_over_all (at 0 1) ++ holds_at_end (at 0 1) ++ adds_at_end (at 0 2)))
      ≡ answers 41 0 0 1 (row 0 0 0 irrelevant ++ row 0 0 1 unbalanced) []
  -- two over-all true conditions of the class make its end unreachable
  pub over_all_unreachable : judge (library (lasting 3 ++ holds_over_all (at 0 1) ++ holds_over_all (at 0 2) ++ adds_at_end (at 0 2)))
      ≡ answers 0 0 0 0 (row 0 0 0 irrelevant ++ row 0 0 1 unreachable) []
  -- so does one with an own one: without it this end would be balanced
  pub over_all_and_own_unreachable : judge
      (library (lasting 3 ++ holds_over_all (at 0 1) ++ holds_at_end (at 0 2) ++ deletes_at_end (at 0 2) ++ adds_at_end (at 0 1)))
      ≡ answers 0 0 0 0 (row 0 0 0 irrelevant ++ row 0 0 1 unreachable) []
  -- an over-all true condition leaves an end's own balance as it is: here they are of two classes
  pub over_all_beside_balanced : judge
      (library (lasting 4 ++ holds_over_all (at 3 1) ++ holds_at_end (at 0 1) ++ deletes_at_end (at 0 1) ++ adds_at_end (at 0 2)))
      ≡ answers 0 0 0 0 (row 0 0 0 irrelevant ++ row 0 0 1 irrelevant ++ row 0 1 0 irrelevant ++ row 0 1 1 balanced) []
  -- a heavy end writes no witness either
  pub over_all_heavy : judge (library (lasting 4 ++ holds_over_all (at 0 1) ++ adds_at_end (at 0 2) ++ adds_at_end (at 0 3)))
      ≡ answers 40 0 0 1 (row 0 0 0 irrelevant ++ row 0 0 1 heavy) []
  -- an over-all literal of another class: the witness is written, and the over-all true condition is in it
  pub over_all_elsewhere : judge (library (lasting 4 ++ holds_over_all (at 2 3) ++ adds_at_end (at 0 1)))
      ≡ answers 42 0 1 1 (row 0 0 0 irrelevant ++ row 0 0 1 irrelevant ++ row 0 1 0 irrelevant ++ row 0 1 1 unbounded)
      (held (at 2 3) ++ held (at 0 4))
  -- a journey's end looks at its own conditions only
  pub journey_over_all : judge (vessels (lasting 1 ++ holds (full 0) ++ deletes (full 0) ++ holds_over_all (full 0) ++ adds_at_end (empty 0)))
      ≡ answers 1 0 0 0 (row 0 0 0 irrelevant ++ row 0 0 1 unbounded) []
  -- a false condition covers its component
  pub false_covers : judge (vessels (at_once 1 ++ adds (full 0) ++ lacks (empty 0))) ≡ answers 0 0 0 0 (row 0 0 0 bounded) []
  -- an over-all one doesn't, and it too is an over-all literal of the class: no witness is written
  pub over_all_false_covers_not : judge (vessels (lasting 1 ++ lacks_over_all (empty 0) ++ adds_at_end (full 0)))
      ≡ answers 42 0 0 1 (row 0 0 0 irrelevant ++ row 0 0 1 unbounded) []
  -- "a name that stands only at the other moment doesn't exclude its fact"
  pub other_moment_covers_not : judge (vessels (lasting 1 ++ deletes (empty 0) ++ adds_at_end (full 0)))
      ≡ answers 42 0 0 1 (row 0 0 0 irrelevant ++ row 0 0 1 unbounded) (held (empty 0))
  -- nor does one of another class
  pub other_class_covers_not : judge (vessels (at_once 2 ++ adds (full 0) ++ deletes (empty 1)))
      ≡ answers 42 0 0 0 (row 0 0 0 unbounded ++ row 0 1 0 irrelevant) (held (empty 0))
  -- "at(0,1) and at(2,3) belong to two volumes": the second class is named in the place; the witness has all true conditions, then the
  -- spare object 4
  pub two_volumes : judge (library (at_once 4 ++ holds (at 0 1) ++ deletes (at 0 1) ++ adds (at 2 3)))
      ≡ answers 42 0 1 0 (row 0 0 0 irrelevant ++ row 0 1 0 unbounded) (held (at 0 1) ++ held (at 2 4))
  -- classes are numbered by first literal, not by variable; the condition without a component is in the witness
  pub second_class_lem : judge second_class ≡ answers 40 0 1 0 (row 0 0 0 irrelevant ++ row 0 1 0 heavy) (held (lit 2))
  -- true conditions of an end in file order, own and over-all, once each, then the instance fact
  pub witness_order : judge
      (library (lasting 3 ++ adds_at_end (at 0 1) ++ holds_at_end (lit 1) ++ holds_over_all (lit 0) ++ holds_over_all (lit 1) ++ holds (lit 2)))
      ≡ answers 42 0 0 1 (row 0 0 0 irrelevant ++ row 0 0 1 unbounded) (held (lit 1) ++ held (lit 0) ++ held (at 0 3))
  -- unreachable is tested before irrelevant and heavy
  pub unreachable_first : judge
      (library (at_once 3 ++ holds (at 0 1) ++ holds (at 0 2) ++ at_once 3 ++ holds (at 0 1) ++ holds (at 0 2) ++ adds (at 0 1)
      ++ adds (at 0 2)))
      ≡ answers 0 0 0 0 (row 0 0 0 unreachable ++ row 1 0 0 unreachable) []
  -- heavy before balanced
  pub heavy_before_balanced : judge (library (at_once 4 ++ holds (at 0 1) ++ deletes (at 0 1) ++ adds (at 0 2) ++ adds (at 0 3)))
      ≡ answers 40 0 0 0 (row 0 0 0 heavy) (held (at 0 1))
  -- n = 0: all matching literals form one class
  pub no_keys : judge (relation 1 ++ at_once 2 ++ adds (full 0) ++ adds (full 1) ++ component (full FF) ++ closing)
      ≡ answers 40 0 0 0 (row 0 0 0 heavy) []
  -- no arguments at all: a witness fact is filled with six FF
  pub no_arguments : judge (relation 0 ++ relation 0 ++ at_once 0 ++ adds (0 ∷ []) ++ component (0 ∷ []) ++ component (1 ∷ []) ++ closing)
      ≡ answers 42 0 0 0 (row 0 0 0 unbounded) (1 ∷ 0 ∷ FF ∷ FF ∷ FF ∷ FF ∷ FF ∷ FF ∷ [])
  -- six arguments, the most: with no fill
  pub six_arguments : judge (relation 6 ++ at_once 7 ++ holds (0 ∷ 0 ∷ 1 ∷ 2 ∷ 3 ∷ 4 ∷ 5 ∷ []) ++ adds (0 ∷ 0 ∷ 1 ∷ 2 ∷ 3 ∷ 4 ∷ 6 ∷ [])
      ++ component (0 ∷ 0 ∷ 1 ∷ 2 ∷ 3 ∷ 4 ∷ FF ∷ []) ++ closing)
      ≡ answers 41 0 0 0 (row 0 0 0 unbalanced) (0 ∷ 6 ∷ 0 ∷ 1 ∷ 2 ∷ 3 ∷ 4 ∷ 5 ∷ [])
  -- keys in another order: at(0,1) and out(1,0) have one tuple
  pub keys_swapped_class : judge
      (relations ++ at_once 2 ++ holds (out 1 0) ++ deletes (out 1 0) ++ adds (at 0 1) ++ component (at 0 1) ++ component (out 1 0)
      ++ closing)
      ≡ answers 0 0 0 0 (row 0 0 0 balanced) []
  -- and the instance fact puts each key's object in its place
  pub keys_swapped_witness : judge (relations ++ at_once 2 ++ adds (at 0 1) ++ component (at 0 1) ++ component (out 1 0) ++ closing)
      ≡ answers 42 0 0 0 (row 0 0 0 unbounded) (held (out 1 0))
  -- no journey: the start doesn't delete its true condition
  pub start_keeps : judge (library (lasting 3 ++ holds (at 0 1) ++ adds_at_end (out 0 2)))
      ≡ answers 42 0 0 1 (row 0 0 0 irrelevant ++ row 0 0 1 unbounded) (held (at 0 3))
  -- no journey: the start adds
  pub start_adds : judge (library (lasting 3 ++ holds (at 0 1) ++ deletes (at 0 1) ++ adds (at 0 2) ++ adds_at_end (out 0 2)))
      ≡ answers 42 0 0 1 (row 0 0 0 balanced ++ row 0 0 1 unbounded) (held (at 0 3))
  -- no journey: the start has two true conditions, and keeps one of them
  pub start_holds_two : judge (library (lasting 3 ++ holds (at 0 1) ++ holds (at 0 2) ++ deletes (at 0 1) ++ adds_at_end (out 0 2)))
      ≡ answers 42 0 0 1 (row 0 0 0 unreachable ++ row 0 0 1 unbounded) (held (at 0 3))
  -- a bounded journey's end beside an unbounded one: accepted, 1
  pub bounded_journey : judge
      (vessels (lasting 1 ++ holds (full 0) ++ deletes (full 0) ++ adds_at_end (empty 0) ++ deletes_at_end (full 0) ++ pour))
      ≡ answers 1 0 0 0 (row 0 0 0 irrelevant ++ row 0 0 1 bounded ++ row 1 0 0 irrelevant ++ row 1 0 1 unbounded) []
  -- 43 at a later action and its second class
  pub bounded_later : judge (vessels (pour ++ at_once 2 ++ deletes (full 1) ++ adds (full 0) ++ deletes (empty 0)))
      ≡ answers 43 1 1 0 (row 0 0 0 irrelevant ++ row 0 0 1 unbounded ++ row 1 0 0 irrelevant ++ row 1 1 0 bounded) []
  -- 40 to 42 come before 43, even behind it in the file
  pub refused_before_bounded : judge (vessels (at_once 1 ++ adds (full 0) ++ deletes (empty 0) ++ at_once 1 ++ adds (full 0)))
      ≡ answers 42 1 0 0 (row 0 0 0 bounded ++ row 1 0 0 unbounded) (held (empty 0))
  -- an action without matching literals has no row
  pub no_row : judge (library (at_once 1 ++ adds (lit 0) ++ at_once 3 ++ holds (at 0 1) ++ adds (at 0 2)))
      ≡ answers 41 1 0 0 (row 1 0 0 unbalanced) (held (at 0 1))
  -- an end's own true condition counts: without it this end would be unbounded
  pub end_own_true : judge (library (lasting 3 ++ holds_at_end (at 0 1) ++ adds_at_end (at 0 2) ++ deletes_at_end (at 0 1)))
      ≡ answers 0 0 0 0 (row 0 0 0 irrelevant ++ row 0 0 1 balanced) []
  -- and its own false condition covers
  pub end_own_false_covers : judge (vessels (lasting 1 ++ lacks_at_end (empty 0) ++ adds_at_end (full 0)))
      ≡ answers 0 0 0 0 (row 0 0 0 irrelevant ++ row 0 0 1 bounded) []
  -- rows are sorted by class before moment: a lasting action with two classes
  pub class_before_moment : judge (vessels (lasting 2 ++ deletes (full 0) ++ deletes_at_end (full 0) ++ adds (empty 1) ++ deletes (full 1)))
      ≡ answers 0 0 0 0 (row 0 0 0 irrelevant ++ row 0 0 1 irrelevant ++ row 0 1 0 bounded ++ row 0 1 1 irrelevant) []
  -- n = 0: literals of two relations form one class too
  pub no_keys_two_relations : judge
      (relation 1 ++ relation 1 ++ at_once 2 ++ holds (full 0) ++ deletes (full 0) ++ adds (empty 1) ++ component (full FF)
      ++ component (empty FF) ++ closing)
      ≡ answers 0 0 0 0 (row 0 0 0 balanced) []
  -- no journey: two true conditions at the start, both deleted
  pub start_deletes_two : judge
      (library (lasting 3 ++ holds (at 0 1) ++ holds (at 0 2) ++ deletes (at 0 1) ++ deletes (at 0 2) ++ adds_at_end (out 0 2)))
      ≡ answers 42 0 0 1 (row 0 0 0 unreachable ++ row 0 0 1 unbounded) (held (at 0 3))
  -- no journey: the start deletes another literal of the class
  pub start_deletes_other : judge (library (lasting 3 ++ holds (at 0 1) ++ deletes (at 0 2) ++ adds_at_end (out 0 2)))
      ≡ answers 42 0 0 1 (row 0 0 0 irrelevant ++ row 0 0 1 unbounded) (held (at 0 3))
  -- no journey: the end deletes it, not the start
  pub end_deletes : judge (library (lasting 3 ++ holds (at 0 1) ++ deletes_at_end (at 0 1) ++ adds_at_end (out 0 2)))
      ≡ answers 42 0 0 1 (row 0 0 0 irrelevant ++ row 0 0 1 unbounded) (held (at 0 3))
  -- a journey's start and end are of one class: here the start takes at(0,1), the end adds out(2,3)
  pub journey_of_another_class : judge (library (lasting 4 ++ holds (at 0 1) ++ deletes (at 0 1) ++ adds_at_end (out 2 3)))
      ≡ answers 42 0 1 1 (row 0 0 0 irrelevant ++ row 0 0 1 irrelevant ++ row 0 1 0 irrelevant ++ row 0 1 1 unbounded) (held (at 2 4))
  -- the worst fault, wherever it stands: 40 behind 41 behind 42, and its witness
  pub worst_of_three : judge three_faults
      ≡ answers 40 2 0 0 (row 0 0 0 unbounded ++ row 1 0 0 unbalanced ++ row 2 0 0 heavy) []
  -- 41 before 42, where there is no 40
  pub unbalanced_before_unbounded : judge (library (at_once 2 ++ adds (at 0 1) ++ at_once 3 ++ holds (at 0 1) ++ adds (at 0 2)))
      ≡ answers 41 1 0 0 (row 0 0 0 unbounded ++ row 1 0 0 unbalanced) (held (at 0 1))
  -- 40 in a later class of the same action
  pub heavy_in_later_class : judge (library (at_once 4 ++ adds (at 0 2) ++ adds (at 1 2) ++ adds (at 1 3)))
      ≡ answers 40 0 1 0 (row 0 0 0 unbounded ++ row 0 1 0 heavy) []
  -- within one number the earliest action, here at its end, before the start of a later one
  pub earliest_action : judge
      (library (lasting 3 ++ holds_at_end (at 0 1) ++ adds_at_end (at 0 2) ++ at_once 3 ++ holds (at 0 2) ++ adds (at 0 1)))
      ≡ answers 41 0 0 1 (row 0 0 0 irrelevant ++ row 0 0 1 unbalanced ++ row 1 0 0 unbalanced) (held (at 0 1))
  -- and in it the earliest class: of class 0 the start is unbounded, of both classes the end is unbalanced
  pub earliest_class : judge
      (library (lasting 3 ++ adds (at 0 2) ++ holds_at_end (at 0 1) ++ adds_at_end (at 0 2) ++ holds_at_end (at 1 2) ++ adds_at_end (at 1 0)))
      ≡ answers 41 0 0 1 (row 0 0 0 unbounded ++ row 0 0 1 unbalanced ++ row 0 1 0 irrelevant ++ row 0 1 1 unbalanced)
      (held (at 0 1) ++ held (at 1 2))
  -- 43 is not looked for beside a 42: without the last action it is 43, at the first
  pub unbounded_beside_bounded : judge (vessels (fill ++ pour ++ at_once 1 ++ adds (full 0)))
      ≡ answers 42 2 0 0 (row 0 0 0 bounded ++ row 1 0 0 irrelevant ++ row 1 0 1 unbounded ++ row 2 0 0 unbounded) (held (empty 0))
  -- of two bounded moments the first
  pub first_bounded : judge (vessels (fill ++ fill ++ pour))
      ≡ answers 43 0 0 0 (row 0 0 0 bounded ++ row 1 0 0 bounded ++ row 2 0 0 irrelevant ++ row 2 0 1 unbounded) []
  -- a false condition is not in the witness
  pub no_false_in_witness : judge (library (at_once 2 ++ lacks (lit 0) ++ holds (lit 1) ++ adds (at 0 1)))
      ≡ answers 42 0 0 0 (row 0 0 0 unbounded) (held (lit 1) ++ held (at 0 2))
  -- file order, not own ones before over-all ones
  pub witness_over_all_first : judge (library (lasting 2 ++ adds_at_end (at 0 1) ++ holds_over_all (lit 0) ++ holds_at_end (lit 1)))
      ≡ answers 42 0 0 1 (row 0 0 0 irrelevant ++ row 0 0 1 unbounded) (held (lit 0) ++ held (lit 1) ++ held (at 0 2))

pub names : Names
unfolding role_of judged report_after witness_after
names =
    record {
      roles = refl;
      over_all_at_end = refl;
      over_all_not_at_start = refl;
      over_all_and_end_once = refl;
      over_all_unreachable = refl;
      over_all_and_own_unreachable = refl;
      over_all_beside_balanced = refl;
      over_all_heavy = refl;
      over_all_elsewhere = refl;
      journey_over_all = refl;
      false_covers = refl;
      over_all_false_covers_not = refl;
      other_moment_covers_not = refl;
      other_class_covers_not = refl;
      two_volumes = refl;
      second_class_lem = refl;
      witness_order = refl;
      unreachable_first = refl;
      heavy_before_balanced = refl;
      no_keys = refl;
      no_arguments = refl;
      six_arguments = refl;
      keys_swapped_class = refl;
      keys_swapped_witness = refl;
      start_keeps = refl;
      start_adds = refl;
      start_holds_two = refl;
      bounded_journey = refl;
      bounded_later = refl;
      refused_before_bounded = refl;
      no_row = refl;
      end_own_true = refl;
      end_own_false_covers = refl;
      class_before_moment = refl;
      no_keys_two_relations = refl;
      start_deletes_two = refl;
      start_deletes_other = refl;
      end_deletes = refl;
      journey_of_another_class = refl;
      worst_of_three = refl;
      unbalanced_before_unbounded = refl;
      heavy_in_later_class = refl;
      earliest_action = refl;
      earliest_class = refl;
      unbounded_beside_bounded = refl;
      first_bounded = refl;
      no_false_in_witness = refl;
      witness_over_all_first = refl;
    }

-- ---- room: "30 report under 4 bytes a moment; then 40 to 43 decided; 31 witness under 8 bytes a fact"

-- `second_class` has two rows, 8 bytes, and a witness of one fact, 8 bytes
pub record Room : Type 0 where
  -- one byte short in both: 30, and both are untouched
  pub both_short : judging second_class (lent 7) (lent 7) ≡ leaves 30 0 0 0 (lent 7) (lent 7)
  pub report_short : judging second_class (lent 7) (lent 8) ≡ leaves 30 0 0 0 (lent 7) (lent 8)
  -- 31: the report is untouched too
  pub witness_short : judging second_class (lent 8) (lent 7) ≡ leaves 31 0 0 0 (lent 8) (lent 7)
  pub just_enough : judging second_class (lent 8) (lent 8) ≡ leaves 40 0 1 0 (row 0 0 0 irrelevant ++ row 0 1 0 heavy) (held (lit 2))
  -- a witness without facts, and 43, which writes none, need no room for it
  pub no_fact : judging m4 (lent 4) [] ≡ leaves 40 0 0 0 (row 0 0 0 heavy) []
  pub no_witness : judging m10 (lent 12) [] ≡ leaves 43 0 0 0 (row 0 0 0 bounded ++ row 1 0 0 irrelevant ++ row 1 0 1 unbounded) []
  -- the room goes by the place that is named: 40's witness has no fact, 41's and 42's, earlier in the file, have one
  pub witness_of_worst : judging three_faults (lent 12) []
      ≡ leaves 40 2 0 0 (row 0 0 0 unbounded ++ row 1 0 0 unbalanced ++ row 2 0 0 heavy) []
  -- an end whose class has an over-all literal needs none either: 31 isn't tested
  pub no_witness_over_all : judging (library (lasting 3 ++ holds_over_all (at 0 1) ++ adds_at_end (at 0 2))) (lent 8) []
      ≡ leaves 42 0 0 1 (row 0 0 0 irrelevant ++ row 0 0 1 unbounded) []
  -- but for its report: 30
  pub over_all_report_short : judging (library (lasting 3 ++ holds_over_all (at 0 1) ++ adds_at_end (at 0 2))) (lent 7) []
      ≡ leaves 30 0 0 0 (lent 7) []
  -- 43 is decided after 30
  pub bounded_short : judging m10 (lent 11) [] ≡ leaves 30 0 0 0 (lent 11) []
  -- a file that isn't well-formed is refused whatever is lent
  pub refused_first : judging (relation 7) [] [] ≡ leaves 15 0 0 0 [] []
  -- no action: no row
  pub nothing_lent : judging (relation 0 ++ component (0 ∷ []) ++ closing) [] [] ≡ leaves 0 0 0 0 [] []

pub room : Room
unfolding judged report_after witness_after
room =
    record {
      both_short = refl;
      report_short = refl;
      witness_short = refl;
      just_enough = refl;
      no_fact = refl;
      no_witness = refl;
      witness_of_worst = refl;
      no_witness_over_all = refl;
      over_all_report_short = refl;
      bounded_short = refl;
      refused_first = refl;
      nothing_lent = refl;
    }

-- ---- refusals, 9 to 25

-- full/1 and an action of one variable, 11 bytes; a literal of full has 7, a component 6
abbrev start_at_once : List ℕ
start_at_once = relation 1 ++ at_once 1

abbrev start_lasting : List ℕ
start_lasting = relation 1 ++ lasting 1

-- a whole file, 14 bytes
abbrev whole : List ℕ
whole = relation 0 ++ component (0 ∷ []) ++ closing

pub record Refusals : Type 0 where
  -- 9: 65,536 bytes; one fewer is read, and its first record is of no kind
  pub too_long : judge (lent 65536) ≡ refuses 9 0
  pub longest : judge (lent 65535) ≡ refuses 11 0
  -- 10: a head, or a payload, that runs past the end; no closing record is told at the file's length
  pub head_cut : judge (0 ∷ 0 ∷ 5 ∷ []) ≡ refuses 10 0
  pub payload_cut : judge (relation 1 ++ (1 ∷ 0 ∷ 1 ∷ 0 ∷ [])) ≡ refuses 10 5
  pub not_closed : judge start_at_once ≡ refuses 10 11
  -- the length's second byte counts 256
  pub length_high : judge (0 ∷ 1 ∷ 5 ∷ 0 ∷ []) ≡ refuses 10 0
  -- 10 before 11
  pub cut_before_unknown : judge (1 ∷ 0 ∷ 6 ∷ 0 ∷ []) ≡ refuses 10 0
  -- 11: below 1 and above 5; the kind's second byte counts 256
  pub kind_0 : judge (relation 1 ++ rec 0 []) ≡ refuses 11 5
  pub kind_6 : judge (relation 1 ++ rec 6 []) ≡ refuses 11 5
  pub kind_257 : judge (1 ∷ 0 ∷ 1 ∷ 1 ∷ 1 ∷ []) ≡ refuses 11 0
  -- 12: before 15, and before 23
  pub action_short : judge (rec 2 (17 ∷ [])) ≡ refuses 12 0
  pub closing_long : judge (rec 5 (0 ∷ [])) ≡ refuses 12 0
  -- before 16 where the payload is too short for any relation
  pub literal_short : judge (start_at_once ++ rec 3 (10 ∷ [])) ≡ refuses 12 11
  -- before 18 once the relation is known, and before 21 and 22
  pub literal_long : judge (start_at_once ++ holds (0 ∷ 9 ∷ 9 ∷ [])) ≡ refuses 12 11
  pub component_long : judge (start_at_once ++ component (full 0) ++ component (0 ∷ 9 ∷ 9 ∷ [])) ≡ refuses 12 17
  pub component_empty : judge (start_at_once ++ component []) ≡ refuses 12 11
  -- 13: a kind behind its place, and a literal before any action
  pub relation_late : judge (start_at_once ++ relation 1) ≡ refuses 13 11
  pub action_late : judge (start_at_once ++ component (full 0) ++ at_once 1) ≡ refuses 13 17
  pub literal_late : judge (start_at_once ++ component (full 0) ++ adds (full 0)) ≡ refuses 13 17
  pub literal_early : judge (relation 1 ++ adds (full 0)) ≡ refuses 13 5
  -- before 12
  pub order_before_length : judge (start_at_once ++ rec 1 []) ≡ refuses 13 11
  -- before 14: a 65th relation that comes late
  pub order_before_limit : judge (each 64 (λ i. relation 0) ++ at_once 0 ++ relation 0) ≡ refuses 13 326
  -- behind the closing record before all else: a byte that is no head, a second closing record, an unknown kind
  pub byte_behind : judge (whole ++ (7 ∷ [])) ≡ refuses 13 14
  pub closing_behind : judge (whole ++ closing) ≡ refuses 13 14
  pub unknown_behind : judge (whole ++ rec 6 []) ≡ refuses 13 14
  -- 14: one relation, action, literal, component too many
  pub relation_65 : judge (each 65 (λ i. relation 0)) ≡ refuses 14 320
  pub action_65 : judge (each 65 (λ i. at_once 0)) ≡ refuses 14 384
  pub literal_65 : judge
      (relation 1 ++ lasting 16 ++ each 16 (λ v. adds (full v)) ++ each 16 (λ v. deletes (full v)) ++ each 16 (λ v. adds_at_end (full v))
      ++ each 16 (λ v. deletes_at_end (full v)) ++ holds (full 0)) ≡ refuses 14 459
  pub component_17 : judge (each 17 (λ i. relation 0) ++ each 17 (λ i. component (i ∷ []))) ≡ refuses 14 165
  pub component_16 : judge (each 17 (λ i. relation 0) ++ each 16 (λ i. component (i ∷ [])) ++ closing) ≡ answers 0 0 0 0 [] []
  -- 15
  pub arity_7 : judge (relation 7) ≡ refuses 15 0
  pub variables_17 : judge (at_once 17) ≡ refuses 15 0
  pub sort_2 : judge (rec 2 (1 ∷ 2 ∷ [])) ≡ refuses 15 0
  -- 16: no such role, or one of a lasting action
  pub role_10 : judge (start_lasting ++ literal 10 (full 0)) ≡ refuses 16 11
  pub role_4_at_once : judge (start_at_once ++ holds_over_all (full 0)) ≡ refuses 16 11
  -- before 17, and before a length that only the relation tells
  pub role_before_relation : judge (start_at_once ++ literal 10 (9 ∷ 0 ∷ [])) ≡ refuses 16 11
  pub role_before_length : judge (start_at_once ++ literal 10 (0 ∷ 0 ∷ 0 ∷ [])) ≡ refuses 16 11
  -- 17: before that length
  pub literal_relation : judge (start_at_once ++ holds (1 ∷ 0 ∷ [])) ≡ refuses 17 11
  pub relation_before_length : judge (start_at_once ++ holds (1 ∷ 0 ∷ 0 ∷ [])) ≡ refuses 17 11
  pub component_relation : judge (start_at_once ++ component (1 ∷ 0 ∷ [])) ≡ refuses 17 11
  -- 18
  pub variable_1 : judge (start_at_once ++ holds (full 1)) ≡ refuses 18 11
  -- 19: in its role; true, added and deleted at once is no repeat
  pub repeated : judge (start_at_once ++ holds (full 0) ++ adds (full 0) ++ deletes (full 0) ++ adds (full 0)) ≡ refuses 19 32
  -- 20: among roles 0 and 1, and among 4 to 7, in either order
  pub false_and_true : judge (start_at_once ++ lacks (full 0) ++ holds (full 0)) ≡ refuses 20 18
  pub over_all_and_end : judge (start_lasting ++ holds_over_all (full 0) ++ lacks_at_end (full 0)) ≡ refuses 20 18
  pub end_and_over_all : judge (start_lasting ++ holds_at_end (full 0) ++ lacks_over_all (full 0)) ≡ refuses 20 18
  -- not across: true at the start and false at the end, false at the start and true over all
  pub start_and_end : judge (start_lasting ++ holds (full 0) ++ lacks_at_end (full 0) ++ component (full 0) ++ closing)
      ≡ answers 0 0 0 0 (row 0 0 0 irrelevant ++ row 0 0 1 irrelevant) []
  pub start_and_over_all : judge (start_lasting ++ lacks (full 0) ++ holds_over_all (full 0) ++ component (full 0) ++ closing)
      ≡ answers 0 0 0 0 (row 0 0 0 irrelevant ++ row 0 0 1 irrelevant) []
  -- 25, at the second FF: of three FF too; before a key that stands twice, and before one that isn't below n
  pub two_counted : judge (relation 3 ++ component (0 ∷ 0 ∷ FF ∷ FF ∷ [])) ≡ refuses 25 12
  pub three_counted : judge (relation 3 ++ component (0 ∷ FF ∷ FF ∷ FF ∷ [])) ≡ refuses 25 11
  pub counted_before_twice : judge (relation 5 ++ component (0 ∷ FF ∷ 0 ∷ 0 ∷ FF ∷ FF ∷ [])) ≡ refuses 25 13
  pub counted_before_high : judge (relation 3 ++ component (0 ∷ 9 ∷ FF ∷ FF ∷ [])) ≡ refuses 25 12
  -- 24, at the first key equal to an earlier one: before a key that isn't below n, and itself at any number
  pub key_twice : judge (relation 2 ++ component (at 0 0)) ≡ refuses 24 11
  pub twice_before_high : judge (relation 5 ++ component (0 ∷ 9 ∷ 1 ∷ 8 ∷ 1 ∷ FF ∷ [])) ≡ refuses 24 13
  pub high_twice : judge (relation 5 ++ component (0 ∷ 9 ∷ 1 ∷ 9 ∷ 1 ∷ FF ∷ [])) ≡ refuses 24 12
  -- 21, at the first key that isn't below n, though another is missing; n is the first component's
  pub key_high : judge (relation 1 ++ component (full 1)) ≡ refuses 21 10
  pub high_behind : judge (relation 3 ++ component (0 ∷ 0 ∷ FF ∷ 7 ∷ [])) ≡ refuses 21 12
  pub more_keys : judge (relation 1 ++ relation 2 ++ component (full 0) ++ component (out 0 1)) ≡ refuses 21 22
  pub high_later : judge (relations ++ component (at 0 FF) ++ component (out FF 3)) ≡ refuses 21 23
  pub high_before_missing : judge (relations ++ component (at 0 1) ++ component (out 0 2)) ≡ refuses 21 23
  -- 21, at the record where a key is only missing
  pub key_missing : judge (relations ++ component (at 0 1) ++ component (out 0 FF)) ≡ refuses 21 17
  pub fewer_keys : judge (relation 1 ++ relation 1 ++ component (full 0) ++ component (empty FF)) ≡ refuses 21 16
  -- 22: before 25, 24 and 21
  pub used_before : judge (start_at_once ++ component (full 0) ++ component (full 9)) ≡ refuses 22 17
  pub used_before_counted : judge (relation 2 ++ component (at 0 FF) ++ component (at FF FF)) ≡ refuses 22 12
  -- 23
  pub no_component_lem : judge (start_at_once ++ closing) ≡ refuses 23 11
  -- 12: a relation's length, before 15
  pub relation_long : judge (rec 1 (7 ∷ 0 ∷ [])) ≡ refuses 12 0
  pub relation_empty : judge (rec 1 []) ≡ refuses 12 0
  -- an action's, before 15
  pub action_long : judge (rec 2 (17 ∷ 2 ∷ 0 ∷ [])) ≡ refuses 12 0
  -- a variable too few, a label too few
  pub literal_lacks_variable : judge (start_at_once ++ holds (0 ∷ [])) ≡ refuses 12 11
  pub component_lacks_label : judge (start_at_once ++ component (0 ∷ [])) ≡ refuses 12 11
  -- 13: a relation behind a component, where there is no action
  pub relation_after_component : judge (relation 1 ++ component (full 0) ++ relation 1) ≡ refuses 13 11
  -- 14 counts the literals of an action, not of the file: 96 in three actions
  pub literals_of_three_actions : judge
      (relation 1 ++ each 3 (λ i. at_once 16 ++ each 16 (λ v. adds (full v)) ++ each 16 (λ v. deletes (full v))) ++ closing)
      ≡ refuses 23 695
  -- 16: the roles of an end
  pub role_6_at_once : judge (start_at_once ++ holds_at_end (full 0)) ≡ refuses 16 11
  -- no 20: the same relation with other variables
  pub other_variables : judge (relation 1 ++ at_once 2 ++ holds (full 0) ++ lacks (full 1) ++ component (full 0) ++ closing)
      ≡ answers 0 0 0 0 (row 0 0 0 irrelevant ++ row 0 1 0 irrelevant) []
  -- 24: a key twice, with none missing and none too high
  pub key_twice_later : judge (relation 1 ++ relation 2 ++ component (full 0) ++ component (out 0 0)) ≡ refuses 24 22

pub refusals : Refusals
unfolding judged report_after witness_after
refusals =
    record {
      too_long = refl;
      longest = refl;
      head_cut = refl;
      payload_cut = refl;
      not_closed = refl;
      length_high = refl;
      cut_before_unknown = refl;
      kind_0 = refl;
      kind_6 = refl;
      kind_257 = refl;
      action_short = refl;
      closing_long = refl;
      literal_short = refl;
      literal_long = refl;
      component_long = refl;
      component_empty = refl;
      relation_late = refl;
      action_late = refl;
      literal_late = refl;
      literal_early = refl;
      order_before_length = refl;
      order_before_limit = refl;
      byte_behind = refl;
      closing_behind = refl;
      unknown_behind = refl;
      relation_65 = refl;
      action_65 = refl;
      literal_65 = refl;
      component_17 = refl;
      component_16 = refl;
      arity_7 = refl;
      variables_17 = refl;
      sort_2 = refl;
      role_10 = refl;
      role_4_at_once = refl;
      role_before_relation = refl;
      role_before_length = refl;
      literal_relation = refl;
      relation_before_length = refl;
      component_relation = refl;
      variable_1 = refl;
      repeated = refl;
      false_and_true = refl;
      over_all_and_end = refl;
      end_and_over_all = refl;
      start_and_end = refl;
      start_and_over_all = refl;
      two_counted = refl;
      three_counted = refl;
      counted_before_twice = refl;
      counted_before_high = refl;
      key_twice = refl;
      twice_before_high = refl;
      high_twice = refl;
      key_high = refl;
      high_behind = refl;
      more_keys = refl;
      high_later = refl;
      high_before_missing = refl;
      key_missing = refl;
      fewer_keys = refl;
      used_before = refl;
      used_before_counted = refl;
      no_component_lem = refl;
      relation_long = refl;
      relation_empty = refl;
      action_long = refl;
      literal_lacks_variable = refl;
      component_lacks_label = refl;
      relation_after_component = refl;
      literals_of_three_actions = refl;
      role_6_at_once = refl;
      other_variables = refl;
      key_twice_later = refl;
    }
