-- Per action a summary, and the decision read off the list of them. Assumes nothing.
use Rattle.std.specs.Prelude.{◌≡◌, Bool, cond, List, [], ◌∷◌, map, ℕ, suc, Option, None, Some}
use Rattle.std.specs.Option.{option_or}
use Rattle.std.proofs.Math.Option.{Option as Maybe, none, some}
use Rattle.records.specs.Lists.{any}
use Rattle.literals.specs.Domain.{Action, Domain}
use Rattle.classes.specs.Classes.{classes, name_of, journey}
use Rattle.literals.specs.Matching.{moment_number}
use Rattle.verdict.specs.declared.Spot.{Spot}
use Rattle.verdict.specs.declared.Place.{Place}
use Rattle.verdict.specs.declared.Summary.{Summary}
use Rattle.verdict.specs.declared.Notes.{Notes}
use Rattle.verdict.specs.Decision.{Row, rows_of_classes, is_unbounded, is_bounded_outside, first_row, has_fault}
use Rattle.verdict.specs.Judged.{Answer, answer_at, decided}

-- ---- the summary of an action

-- where a row stands within its action: "class, moment"
abbrev pub spot_of : Maybe Row → Option Spot
spot_of none = None
spot_of (some r) = Some (record { class = r.class; moment = r.moment })

-- the first one that passes a test
abbrev pub first_spot : (Row → Bool) → List Row → Option Spot
first_spot p rs = spot_of (first_row p rs)

abbrev pub has_unbounded : List Row → Bool
has_unbounded rs = any (λ (r : Row). is_unbounded r.name) rs

-- "its first place .. for each of 40, 41 and 42, its first bounded place outside a journey's end, and 1 if it has an unbounded moment": of
-- one action's rows
unfoldable pub summary_rows : List Row → Summary
summary_rows rs =
    record {
      heavy = first_spot (has_fault 40) rs;
      unbalanced = first_spot (has_fault 41) rs;
      unbounded = first_spot (has_fault 42) rs;
      bounded = first_spot is_bounded_outside rs;
      endless = has_unbounded rs;
    }

-- of an action: by its own rows, whatever its number
unfoldable pub summary_of : Domain → Action → Summary
unfolding name_of journey classes summary_rows
summary_of D a = summary_rows (rows_of_classes D a 0 0 (classes D a))

-- one for each action
unfoldable pub summaries : Domain → List Summary
unfolding summary_of
summaries D = map (summary_of D) D.actions

-- ---- the decision from summaries

-- a spot in the action i
abbrev pub place_in : ℕ → Option Spot → Option Place
place_in i None = None
place_in i (Some s) = Some (record { action = i; class = s.class; moment = s.moment })

-- the one, or where there is none the other
abbrev pub place_else : Option Place → Option Place → Option Place
place_else = option_or

-- the first place of one sort, of actions numbered from i on
abbrev pub first_place : (Summary → Option Spot) → ℕ → List Summary → Option Place
first_place f i [] = None
first_place f i (s ∷ ss) = place_else (place_in i (f s)) (first_place f (suc i) ss)

-- of each sort the first place of all, and whether some moment is unbounded
unfoldable pub notes_of : List Summary → Notes
notes_of ss =
    record {
      heavy = first_place (λ (s : Summary). s.heavy) 0 ss;
      unbalanced = first_place (λ (s : Summary). s.unbalanced) 0 ss;
      unbounded = first_place (λ (s : Summary). s.unbounded) 0 ss;
      bounded = first_place (λ (s : Summary). s.bounded) 0 ss;
      endless = any (λ (s : Summary). s.endless) ss;
    }

-- the number at a place
abbrev pub answer_in : ℕ → Place → Answer
answer_in n p = record { number = n; first = p.action; second = p.class; third = moment_number p.moment }

-- the number, at a place where there is one; else another answer
abbrev pub answer_place : ℕ → Option Place → Answer → Answer
answer_place n None a = a
answer_place n (Some p) a = answer_in n p

-- "Else, if some moment is unbounded, the first bounded one that isn't a journey's end: 43. Else accepted: 1 if some moment is unbounded, 0
-- if none."
abbrev pub faultless : Notes → Answer
faultless n = cond n.endless (answer_place 43 n.bounded (answer_at 1 0)) (answer_at 0 0)

-- "40 is named before 41 and 41 before 42 .. 43 is still looked for only when none of these exists"
unfoldable pub decide_notes : Notes → Answer
decide_notes n = answer_place 40 n.heavy (answer_place 41 n.unbalanced (answer_place 42 n.unbounded (faultless n)))

unfoldable pub decided_summaries : List Summary → Answer
unfolding notes_of decide_notes
decided_summaries ss = decide_notes (notes_of ss)

-- read off the summaries the decision is that of the rows: number and places, of every domain
abbrev pub SummariesDecide : Type 0
SummariesDecide = (D : Domain) → decided_summaries (summaries D) ≡ decided D
