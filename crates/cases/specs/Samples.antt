-- The paper's cases M1 to M12, on their bytes: one record of equations, proved. Assumes nothing.
use Rattle.std.specs.Prelude.{◌≡◌, refl, List, [], ◌∷◌, ◌++◌, ℕ, replicate}
use Rattle.verdict.specs.Judged.{judged, report_after, witness_after}
use Rattle.run_semantics.specs.Play.{of_run, played, work_after, returned, returned_bytes}
use Rattle.cases.specs.Written.{FF, relation, at_once, lasting, holds, adds, deletes, adds_at_end, component, closing, objects, fact}
use Rattle.cases.specs.Written.{event, close_step, close_run, row, unreachable, irrelevant, heavy, balanced, unbalanced, bounded}
use Rattle.cases.specs.Written.{unbounded, lent, judge, answers, refuses, playing, reply}

-- ---- M1 to M5, M8, M9 and M12 speak of at/2 and out/2

abbrev pub at : ℕ → ℕ → List ℕ
at x y = 0 ∷ x ∷ y ∷ []

abbrev pub out : ℕ → ℕ → List ℕ
out x y = 1 ∷ x ∷ y ∷ []

-- "at/2, out/2"
abbrev pub relations : List ℕ
relations = relation 2 ++ relation 2

-- "at[0,FF], out[0,FF]"
abbrev pub template : List ℕ
template = component (at 0 FF) ++ component (out 0 FF)

-- "move(0,1,2): true at(0,1), add at(0,2), delete at(0,1)"
abbrev pub move : List ℕ
move = at_once 3 ++ holds (at 0 1) ++ adds (at 0 2) ++ deletes (at 0 1)

-- "lasting lend(0,1,2): start true and delete at(0,1), end add out(0,2)"
abbrev pub lend : List ℕ
lend = lasting 3 ++ holds (at 0 1) ++ deletes (at 0 1) ++ adds_at_end (out 0 2)

-- "M1: at/2, out/2; move(0,1,2) ..; lasting lend(0,1,2) ..; at[0,FF], out[0,FF]."
abbrev pub m1 : List ℕ
m1 = relations ++ move ++ lend ++ template ++ closing

-- "Bytes: `0100010002 0100010002 ..`", as the paper lists them
abbrev pub m1_bytes : List ℕ
m1_bytes =
    0x01 ∷ 0x00 ∷ 0x01 ∷ 0x00 ∷ 0x02
    ∷ 0x01 ∷ 0x00 ∷ 0x01 ∷ 0x00 ∷ 0x02
    ∷ 0x02 ∷ 0x00 ∷ 0x02 ∷ 0x00 ∷ 0x03 ∷ 0x00
    ∷ 0x04 ∷ 0x00 ∷ 0x03 ∷ 0x00 ∷ 0x00 ∷ 0x00 ∷ 0x00 ∷ 0x01
    ∷ 0x04 ∷ 0x00 ∷ 0x03 ∷ 0x00 ∷ 0x02 ∷ 0x00 ∷ 0x00 ∷ 0x02
    ∷ 0x04 ∷ 0x00 ∷ 0x03 ∷ 0x00 ∷ 0x03 ∷ 0x00 ∷ 0x00 ∷ 0x01
    ∷ 0x02 ∷ 0x00 ∷ 0x02 ∷ 0x00 ∷ 0x03 ∷ 0x01
    ∷ 0x04 ∷ 0x00 ∷ 0x03 ∷ 0x00 ∷ 0x00 ∷ 0x00 ∷ 0x00 ∷ 0x01
    ∷ 0x04 ∷ 0x00 ∷ 0x03 ∷ 0x00 ∷ 0x03 ∷ 0x00 ∷ 0x00 ∷ 0x01
    ∷ 0x04 ∷ 0x00 ∷ 0x03 ∷ 0x00 ∷ 0x08 ∷ 0x01 ∷ 0x00 ∷ 0x02
    ∷ 0x03 ∷ 0x00 ∷ 0x04 ∷ 0x00 ∷ 0x00 ∷ 0x00 ∷ 0xFF
    ∷ 0x03 ∷ 0x00 ∷ 0x04 ∷ 0x00 ∷ 0x01 ∷ 0x00 ∷ 0xFF
    ∷ 0x00 ∷ 0x00 ∷ 0x05 ∷ 0x00 ∷ []

-- "M2: M1 with at[0,FF] only: 0."
abbrev pub m2 : List ℕ
m2 = relations ++ move ++ lend ++ component (at 0 FF) ++ closing

-- "M3, M4, M8 and M9 keep M1's template. M3: M1's move alone without delete: 41, witness at(0,1)."
abbrev pub m3 : List ℕ
m3 = relations ++ at_once 3 ++ holds (at 0 1) ++ adds (at 0 2) ++ template ++ closing

-- "M4: add at(0,1), at(0,2): 40, no fact."
abbrev pub m4 : List ℕ
m4 = relations ++ at_once 3 ++ adds (at 0 1) ++ adds (at 0 2) ++ template ++ closing

-- "M5: two variables, add at(0,1), at[0,FF]: 42, witness at(0,2)."
abbrev pub m5 : List ℕ
m5 = relation 2 ++ at_once 2 ++ adds (at 0 1) ++ component (at 0 FF) ++ closing

-- ---- M6, M7 and M10 speak of full/1 and empty/1

abbrev pub full : ℕ → List ℕ
full x = 0 ∷ x ∷ []

abbrev pub empty : ℕ → List ℕ
empty x = 1 ∷ x ∷ []

-- "add full(0), delete empty(0)"
abbrev pub fill : List ℕ
fill = at_once 1 ++ adds (full 0) ++ deletes (empty 0)

-- "lasting pour, start true and delete full(0), end add empty(0)"
abbrev pub pour : List ℕ
pour = lasting 1 ++ holds (full 0) ++ deletes (full 0) ++ adds_at_end (empty 0)

-- "M6: full[0], empty[0]; add full(0), delete empty(0): bounded, 0."
abbrev pub m6 : List ℕ
m6 = relation 1 ++ relation 1 ++ fill ++ component (full 0) ++ component (empty 0) ++ closing

-- "M7: neither delete nor false: 42, empty(0)."
abbrev pub m7 : List ℕ
m7 = relation 1 ++ relation 1 ++ at_once 1 ++ adds (full 0) ++ component (full 0) ++ component (empty 0) ++ closing

-- "M8: true at(0,1), at(0,2), add out(0,3): unreachable."
abbrev pub m8 : List ℕ
m8 = relations ++ at_once 4 ++ holds (at 0 1) ++ holds (at 0 2) ++ adds (out 0 3) ++ template ++ closing

-- "M9: true and add at(0,1): balanced."
abbrev pub m9 : List ℕ
m9 = relations ++ at_once 2 ++ holds (at 0 1) ++ adds (at 0 1) ++ template ++ closing

-- "M10: M6 followed by lasting pour, start true and delete full(0), end add empty(0): 43 at M6's action."
abbrev pub m10 : List ℕ
m10 = relation 1 ++ relation 1 ++ fill ++ pour ++ component (full 0) ++ component (empty 0) ++ closing

-- "M11: empty input: 10 at 0."
abbrev pub m11 : List ℕ
m11 = []

-- "M12: M1 with at(0,1), start lend(0,1,2), then move(0,1,3): 55, 1 step, weight 1.": a run of M1 with four objects
abbrev pub m12 : List ℕ
m12 =
    objects 4 ++ fact (at 0 1) ++ event 0 1 (0 ∷ 1 ∷ 2 ∷ []) ++ close_step ++ event 0 0 (0 ∷ 1 ∷ 3 ∷ []) ++ close_step ++ close_run

-- ---- the proved list

pub record Samples : Type 0 where
  pub m1_is_listed : m1 ≡ m1_bytes
  pub m1_judged : judge m1 ≡ answers 1 0 0 0 (row 0 0 0 balanced ++ row 1 0 0 irrelevant ++ row 1 0 1 unbounded) []
  pub m2_judged : judge m2 ≡ answers 0 0 0 0 (row 0 0 0 balanced ++ row 1 0 0 irrelevant ++ row 1 0 1 irrelevant) []
  pub m3_judged : judge m3 ≡ answers 41 0 0 0 (row 0 0 0 unbalanced) (0 ∷ 2 ∷ 0 ∷ 1 ∷ FF ∷ FF ∷ FF ∷ FF ∷ [])
  pub m4_judged : judge m4 ≡ answers 40 0 0 0 (row 0 0 0 heavy) []
  pub m5_judged : judge m5 ≡ answers 42 0 0 0 (row 0 0 0 unbounded) (0 ∷ 2 ∷ 0 ∷ 2 ∷ FF ∷ FF ∷ FF ∷ FF ∷ [])
  pub m6_judged : judge m6 ≡ answers 0 0 0 0 (row 0 0 0 bounded) []
  pub m7_judged : judge m7 ≡ answers 42 0 0 0 (row 0 0 0 unbounded) (1 ∷ 1 ∷ 0 ∷ FF ∷ FF ∷ FF ∷ FF ∷ FF ∷ [])
  pub m8_judged : judge m8 ≡ answers 0 0 0 0 (row 0 0 0 unreachable) []
  pub m9_judged : judge m9 ≡ answers 0 0 0 0 (row 0 0 0 balanced) []
  pub m10_judged : judge m10 ≡ answers 43 0 0 0 (row 0 0 0 bounded ++ row 1 0 0 irrelevant ++ row 1 0 1 unbounded) []
  pub m11_judged : judge m11 ≡ refuses 10 0
  -- no fact is left: zeros up to 8,192 bytes, and the last 8 are untouched; what comes back starts at the second step's close
  pub m12_played : playing m1 m12 (lent 8200)
      ≡ record { answer = reply 55 34 1 1; memory = replicate 8192 0 ++ lent 8; part = of_run 34; bytes = close_step ++ close_run }

pub samples : Samples
unfolding judged report_after witness_after played work_after returned returned_bytes
samples =
    record {
      m1_is_listed = refl;
      m1_judged = refl;
      m2_judged = refl;
      m3_judged = refl;
      m4_judged = refl;
      m5_judged = refl;
      m6_judged = refl;
      m7_judged = refl;
      m8_judged = refl;
      m9_judged = refl;
      m10_judged = refl;
      m11_judged = refl;
      m12_played = refl;
    }
