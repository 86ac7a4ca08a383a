-- Rows of 8 bytes by index: what they say of the literals and components that they hold. Assumes nothing.
use mathlib.Core.Path.{◌≡◌, sym, ap, ap₂, ◌∙◌}
use mathlib.Core.Bool.{Bool, true, false, ◌&&◌}
use mathlib.Core.List.{List, [], ◌++◌, map, flat_map, append-nil}
use Prim.Native.Nat.{ℕ, suc, ◌+◌, ◌-◌, ◌*◌, ◌≤◌, ◌<◌}
use native.Mathlib.Omega.{arith}
use lib.Dec.{eqb}
use lib.ListN.{length, get_or, take, drop, replicate, length-append, length-map, get_or-append}
use Rattle.records.specs.Lists.{In, same_list}
use Rattle.records.proofs.Lists.{get_d_in}
use Rattle.literals.specs.declared.Argument.TheVariants.{Every}
use Rattle.literals.specs.declared.Time.TheVariants.{AtStart}
use Rattle.literals.specs.declared.Usage.TheVariants.{Positive}
use Rattle.literals.specs.Domain.{same_literal, meets, role_number, Literal, Domain}
use Rattle.literals.specs.Held.{argument_number, literal_row, rows_meet, row_in}
use Rattle.literals.proofs.Rows.{seven_by_four, part_at}
use Rattle.literals.proofs.Tables.{Kept, length_flat, rows_flat, length_literal_row, same_rows, meet_rows}
use Rattle.classes.specs.Held.{same_atom_at, meet_at}
use Rattle.literals.proofs.Indices.{get_d_map}
use Rattle.literals.proofs.KeyRows.{rows_at}

-- ---- comparing two rows, four bytes at a time

module _ (rows : List ℕ) (i j : ℕ) (h : 8 * i + 8 ≤ length rows) (g : 8 * j + 8 ≤ length rows) where
  pub agree_same : {r : Bool} → same_list eqb (take 4 (drop (8 * i + 1) rows)) (take 4 (drop (8 * j + 1) rows)) ≡ true
      → r ≡ same_list eqb (take 4 (drop (8 * i + 4) rows)) (take 4 (drop (8 * j + 4) rows)) → r ≡ same_atom_at rows i j
  unfolding same_atom_at
  agree_same e f = f ∙ sym (seven_by_four rows rows (8 * i) (8 * j) h g ∙ ap (λ (b : Bool). b && same_list eqb (take 4 (drop (8 * i + 4) rows)) (take 4 (drop (8 * j + 4) rows))) e)

  pub agree_other : same_list eqb (take 4 (drop (8 * i + 1) rows)) (take 4 (drop (8 * j + 1) rows)) ≡ false → false ≡ same_atom_at rows i j
  unfolding same_atom_at
  agree_other e = sym (seven_by_four rows rows (8 * i) (8 * j) h g ∙ ap (λ (b : Bool). b && same_list eqb (take 4 (drop (8 * i + 4) rows)) (take 4 (drop (8 * j + 4) rows))) e)

-- ---- the rows of a list's elements

module _ {A : Type 0} (f : A → List ℕ) (l : List A) (rest : List ℕ) (d : A) where
  pub row_flat : {w : ℕ} → ((a : A) → In a l → length (f a) ≡ w) → (j : ℕ) → j < length l → take w (drop (w * j) (flat_map f l ++ rest)) ≡ f (get_or l j d)
  row_flat {w} h j g =
      sym (rows_at w (length l) (flat_map f l ++ rest) j [] g) ∙ ap (λ (r : List (List ℕ)). get_or r j []) (rows_flat f l rest h) ∙ get_d_map f l j d [] g

  pub byte_flat : ((a : A) → In a l → length (f a) ≡ 8) → (j k : ℕ) → j < length l → k < 8 → get_or (flat_map f l ++ rest) (8 * j + k) 0 ≡ get_or (f (get_or l j d)) k 0
  byte_flat h j k g s =
      let e = length-append (flat_map f l) rest in
      let u = length_flat f l h in
      sym (part_at 8 (flat_map f l ++ rest) (8 * j) (omega arith) k s) ∙ ap (λ (r : List ℕ). get_or r k 0) (row_flat h j g)

-- ---- of literals

abbrev pub no_literal : Literal
no_literal = record { role = record { time = AtStart; usage = Positive }; atom = record { rel = 0; args = [] } }

-- the literal of a row
abbrev pub literal_at : List Literal → ℕ → Literal
literal_at ls j = get_or ls j no_literal

module _ {D : Domain} (ls : List Literal) (k : (l : Literal) → In l ls → Kept D l) where
  pub kept_at : (j : ℕ) → j < length ls → Kept D (literal_at ls j)
  kept_at j h = k (literal_at ls j) (get_d_in ls j no_literal h)

  literal_row_lem : (l : Literal) → In l ls → length (literal_row l) ≡ 8
  literal_row_lem l m = length_literal_row l (k l m).fits

  pub row_at_lem : (j : ℕ) → j < length ls → row_in (flat_map literal_row ls) j ≡ literal_row (literal_at ls j)
  row_at_lem j h = ap (λ (t : List ℕ). row_in t j) (sym (append-nil (flat_map literal_row ls))) ∙ row_flat literal_row ls [] no_literal literal_row_lem j h

  byte_at : (j i : ℕ) → j < length ls → i < 8 → get_or (flat_map literal_row ls) (8 * j + i) 0 ≡ get_or (literal_row (literal_at ls j)) i 0
  byte_at j i h g = ap (λ (t : List ℕ). get_or t (8 * j + i) 0) (sym (append-nil (flat_map literal_row ls))) ∙ byte_flat literal_row ls [] no_literal literal_row_lem j i h g

  pub role_at : (j : ℕ) → j < length ls → get_or (flat_map literal_row ls) (8 * j) 0 ≡ role_number (literal_at ls j).role
  role_at j h = let e : 8 * j ≡ 8 * j + 0 = omega arith in ap (λ (i : ℕ). get_or (flat_map literal_row ls) i 0) e ∙ byte_at j 0 h (omega arith)

  pub relation_at : (j : ℕ) → j < length ls → get_or (flat_map literal_row ls) (8 * j + 1) 0 ≡ (literal_at ls j).atom.rel
  relation_at j h = byte_at j 1 h (omega arith)

  pub atoms_at : (i j : ℕ) → i < length ls → j < length ls → same_atom_at (flat_map literal_row ls) i j ≡ same_literal (literal_at ls i).atom (literal_at ls j).atom
  unfolding same_atom_at
  atoms_at i j h g =
      ap₂ (λ (x y : List ℕ). same_list eqb (drop 1 x) (drop 1 y)) (row_at_lem i h) (row_at_lem j g)
      ∙ same_rows D (literal_at ls i) (literal_at ls j) (kept_at i h).arguments (kept_at j g).arguments (kept_at i h).variables
      (kept_at j g).variables

  pub meet_at_lem : (i j : ℕ) → i < length ls → j < length ls
      → meet_at (flat_map literal_row ls) i j ≡ meets (literal_at ls i).atom (literal_at ls j).atom
  unfolding meet_at
  meet_at_lem i j h g =
      ap₂ rows_meet (row_at_lem i h) (row_at_lem j g)
      ∙ meet_rows D (literal_at ls i) (literal_at ls j) (kept_at i h).arguments (kept_at j g).arguments (kept_at i h).variables
      (kept_at j g).variables

  -- an argument's byte
  pub argument_at_lem : (j i : ℕ) → j < length ls → i < length (literal_at ls j).atom.args → get_or (flat_map literal_row ls) (8 * j + 2 + i) 0
      ≡ argument_number (get_or (literal_at ls j).atom.args i Every)
  argument_at_lem j i h g =
      let f = (kept_at j h).fits in
      let e : 8 * j + 2 + i ≡ 8 * j + suc (suc i) = omega arith in
      let vs = (literal_at ls j).atom.args in
      let n = length-map (literal_at ls j).atom.args argument_number in
      ap (λ (m : ℕ). get_or (flat_map literal_row ls) m 0) e
      ∙ byte_at j (suc (suc i)) h (omega arith)
      ∙ get_or-append (map argument_number vs) (replicate (8 - suc (suc (length (map argument_number vs)))) 255) 0 i (omega arith)
      ∙ get_d_map argument_number vs i Every 0 g
