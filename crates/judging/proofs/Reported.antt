-- Laws of the report that is filled row by row. Assumes nothing.
use mathlib.Core.Path.{◌≡◌, refl, sym, ap, ◌∙◌, subst}
use mathlib.Core.Bool.{true, false}
use mathlib.Core.List.{List, [], ◌∷◌, ◌++◌, flat_map, map-append, append-nil, append_assoc}
use Prim.Native.Nat.{ℕ, ◌+◌, ◌*◌, ◌≤◌, ◌<◌}
use native.Mathlib.Omega.{arith}
use lib.ListN.{length, get_or, take, drop, length-append, length-map, drop_of_length-le, get_or-map}
use lib.Seq.{get_or_at, take_all, paste}
use Rattle.records.specs.Memory.{over}
use Rattle.records.proofs.Memory.{length_over, over_paste}
use Rattle.literals.specs.declared.Variable.{Variable}
use Rattle.literals.specs.Domain.{Action, Domain, no_action, action}
use Rattle.literals.specs.Held.{pad, lasting_in, HeadOf}
use Rattle.literals.proofs.Tables.{pad_at}
use Rattle.literals.specs.declared.Moment.TheVariants.{Start, End}
use Rattle.literals.specs.Matching.{moment_number}
use Rattle.classes.specs.Classes.{name_number, classes}
use Rattle.verdict.specs.Decision.{Row, row_at, rows_of_classes, rows_from, rows}
use Rattle.verdict.specs.Judged.{row_bytes}
use Rattle.naming.specs.Held.{name_bytes, class_counts}
use Rattle.judging.specs.Held.{Reporting}
use Rattle.naming.proofs.NamedRows.{class_rows, once_rows, lasting_rows, classes_next, classes_left_lem, action_rows, actions_next, actions_left_lem}

-- ---- the bytes of rows

abbrev one_row : Row → List ℕ
one_row r = r.action ∷ r.class ∷ moment_number r.moment ∷ name_number r.name ∷ []

row_bytes_append : (rs ss : List Row) → row_bytes (rs ++ ss) ≡ row_bytes rs ++ row_bytes ss
unfolding row_bytes
row_bytes_append [] ss = refl
row_bytes_append (r ∷ rs) ss = ap {B = List ℕ} (λ l. one_row r ++ l) (row_bytes_append rs ss)

row_bytes_more : (rs : List Row) (r : Row) → row_bytes (rs ++ (r ∷ [])) ≡ row_bytes rs ++ one_row r
unfolding row_bytes
row_bytes_more rs r = row_bytes_append rs (r ∷ [])

pub length_row_bytes : (rs : List Row) → length (row_bytes rs) ≡ 4 * length rs
unfolding row_bytes
length_row_bytes [] = refl
length_row_bytes (r ∷ rs) = let h = length_row_bytes rs in omega arith

-- ---- one row

module _ {rs rest : List Row} {r : Row} {at : ℕ} {report names old given : List ℕ} (R : Reporting rs (r ∷ rest) at report names old given) where
  -- there is room for it
  rows_room : 4 * at + 4 ≤ length old
  rows_room =
      let a = R.written in
      let l = length-append rs (r ∷ rest) in
      let m = R.room in
      omega arith

  report_long : length report ≡ length old
  report_long =
      let l = length_row_bytes rs in
      let a = R.written in
      let m = rows_room in
      ap length R.bytes ∙ length_over (row_bytes rs) old (omega arith)

  pub report_room : 4 * at + 4 ≤ length report
  report_room = let a = report_long in let b = rows_room in omega arith

  pub names_room : at < length names
  unfolding over
  names_room =
      let a = R.written in
      let b = ap length R.named ∙ length-append (name_bytes (rs ++ (r ∷ rest))) (drop (length (name_bytes (rs ++ (r ∷ rest)))) given) in
      let m = length-map (rs ++ (r ∷ rest)) (λ (r : Row). name_number r.name) in
      let l = length-append rs (r ∷ rest) in
      omega arith

  -- its name is given
  name_given : get_or names at 0 ≡ name_number r.name
  unfolding over
  name_given =
      ap (λ (l : List ℕ). get_or l at 0)
      (R.named
      ∙ ap (λ (l : List ℕ). l ++ drop (length (name_bytes (rs ++ (r ∷ rest)))) given) (map-append (λ (r : Row). name_number r.name) rs (r ∷ rest))
      ∙ append_assoc (name_bytes rs) (name_bytes (r ∷ rest)) (drop (length (name_bytes (rs ++ (r ∷ rest)))) given))
      ∙ get_or_at (name_bytes rs) (name_number r.name) (name_bytes rest ++ drop (length (name_bytes (rs ++ (r ∷ rest)))) given) 0 at
      (length-map rs (λ (r : Row). name_number r.name) ∙ sym R.written)

  pub reporting_more : {a b m : ℕ} {report₁ : List ℕ} → a ≡ r.action → b ≡ r.class → m ≡ moment_number r.moment
      → report₁ ≡ paste report (4 * at) (a ∷ b ∷ m ∷ get_or names at 0 ∷ []) 4 → Reporting (rs ++ (r ∷ [])) rest (at + 1) report₁ names old given
  reporting_more {a} {b} {m} ea eb em e =
      let z = append_assoc rs (r ∷ []) rest in
      record {
        written = let k = R.written in let l = length-append rs (r ∷ []) in omega arith;
        bytes =
            e
            ∙ (λ i. paste (R.bytes i) (4 * at) (ea i ∷ eb i ∷ em i ∷ name_given i ∷ []) 4)
            ∙ over_paste (row_bytes rs) old (one_row r) (4 * at) 4 (length_row_bytes rs ∙ ap (λ (n : ℕ). 4 * n) (sym R.written)) refl
            ∙ ap (λ (l : List ℕ). over l old) (sym (row_bytes_more rs r));
        named = R.named ∙ ap (λ (l : List Row). over (name_bytes l) given) (sym z);
        room = rw z R.room;
      }

-- ---- one class

module _ (D : Domain) (a : Action) (i j : ℕ) (x : List Variable) (rs : List Row) {rest : List Row} {at : ℕ} {report names old given : List ℕ} where
  -- the class's rows one by one
  pub once_first : a.lasting ≡ false → Reporting rs (class_rows D a i j x ++ rest) at report names old given → Reporting rs (row_at D a i j x Start ∷ rest) at report names old given
  once_first l R = subst (λ (k : List Row). Reporting rs (k ++ rest) at report names old given) (once_rows D a i j x l) R

  pub lasting_first_lem : a.lasting ≡ true → Reporting rs (class_rows D a i j x ++ rest) at report names old given
      → Reporting rs (row_at D a i j x Start ∷ row_at D a i j x End ∷ rest) at report names old given
  lasting_first_lem l R = subst (λ (k : List Row). Reporting rs (k ++ rest) at report names old given) (lasting_rows D a i j x l) R

  -- and together
  pub once_all : a.lasting ≡ false → Reporting (rs ++ (row_at D a i j x Start ∷ [])) rest at report names old given → Reporting (rs ++ class_rows D a i j x) rest at report names old given
  once_all l R = subst (λ (k : List Row). Reporting (rs ++ k) rest at report names old given) (sym (once_rows D a i j x l)) R

  pub lasting_all : a.lasting ≡ true → {n : ℕ} → n ≡ at → Reporting ((rs ++ (row_at D a i j x Start ∷ [])) ++ (row_at D a i j x End ∷ [])) rest at report names old given
      → Reporting (rs ++ class_rows D a i j x) rest n report names old given
  lasting_all l e R =
      subst (λ (n : ℕ). Reporting (rs ++ class_rows D a i j x) rest n report names old given) (sym e)
      (subst (λ (k : List Row). Reporting k rest at report names old given)
      (append_assoc rs (row_at D a i j x Start ∷ []) (row_at D a i j x End ∷ []) ∙ ap (λ (k : List Row). rs ++ k) (sym (lasting_rows D a i j x l)))
      R)

-- ---- the classes of an action, after k of them

module _ (D : Domain) (a : Action) (i : ℕ) (xs : List (List Variable)) (rs rest : List Row) where
  abbrev classes_done : ℕ → List Row
  classes_done k = rs ++ rows_of_classes D a i 0 (take k xs)

  abbrev classes_left : ℕ → List Row
  classes_left k = rows_of_classes D a i k (drop k xs) ++ rest

  module _ {at : ℕ} {report names old given : List ℕ} where
    pub classes_begin : Reporting rs (rows_of_classes D a i 0 xs ++ rest) at report names old given → Reporting (classes_done 0) (classes_left 0) at report names old given
    classes_begin R = subst (λ (l : List Row). Reporting l (rows_of_classes D a i 0 xs ++ rest) at report names old given) (sym (append-nil rs)) R

    pub classes_open : (k : ℕ) → k < length xs → Reporting (classes_done k) (classes_left k) at report names old given
        → Reporting (classes_done k) (class_rows D a i k (get_or xs k []) ++ classes_left (k + 1)) at report names old given
    classes_open k h R =
        subst (λ (l : List Row). Reporting (classes_done k) l at report names old given)
        (ap (λ (l : List Row). l ++ rest) (classes_left_lem D a i xs k h) ∙ append_assoc (class_rows D a i k (get_or xs k [])) (rows_of_classes D a i (k + 1) (drop (k + 1) xs)) rest)
        R

    pub classes_close : (k : ℕ) → k < length xs → Reporting (classes_done k ++ class_rows D a i k (get_or xs k [])) (classes_left (k + 1)) at report names old given
        → Reporting (classes_done (k + 1)) (classes_left (k + 1)) at report names old given
    classes_close k h R =
        subst (λ (l : List Row). Reporting l (classes_left (k + 1)) at report names old given)
        (append_assoc rs (rows_of_classes D a i 0 (take k xs)) (class_rows D a i k (get_or xs k [])) ∙ ap (λ (l : List Row). rs ++ l) (sym (classes_next D a i xs k h)))
        R

    pub classes_end : (k : ℕ) → length xs ≤ k → Reporting (classes_done k) (classes_left k) at report names old given
        → Reporting (rs ++ rows_of_classes D a i 0 xs) rest at report names old given
    classes_end k h R =
        subst (λ (l : List (List Variable)). Reporting (rs ++ rows_of_classes D a i 0 xs) (rows_of_classes D a i k l ++ rest) at report names old given) (drop_of_length-le xs h)
        (subst (λ (l : List (List Variable)). Reporting (rs ++ rows_of_classes D a i 0 l) (classes_left k) at report names old given) (take_all k xs h)
        R)

-- ---- the actions of a domain, after k of them

module _ (D : Domain) where
  abbrev actions_done : ℕ → List Row
  actions_done k = rows_from D 0 (take k D.actions)

  abbrev actions_left : ℕ → List Row
  actions_left k = rows_from D k (drop k D.actions)

  pub actions_begin : {report names given : List ℕ} → names ≡ over (name_bytes (rows D)) given → 4 * length (rows D) ≤ length report
      → Reporting (actions_done 0) (actions_left 0) 0 report names report given
  unfolding rows row_bytes over
  actions_begin e h = record { written = refl; bytes = refl; named = e; room = h }

  module _ {at : ℕ} {report names old given : List ℕ} where
    pub actions_open : (k : ℕ) → k < length D.actions → Reporting (actions_done k) (actions_left k) at report names old given
        → Reporting (actions_done k) (action_rows D (get_or D.actions k no_action) k ++ actions_left (k + 1)) at report names old given
    actions_open k h R = subst (λ (l : List Row). Reporting (actions_done k) l at report names old given) (actions_left_lem D D.actions k h) R

    pub actions_close : (k : ℕ) → k < length D.actions → Reporting (actions_done k ++ action_rows D (get_or D.actions k no_action) k) (actions_left (k + 1)) at report names old given
        → Reporting (actions_done (k + 1)) (actions_left (k + 1)) at report names old given
    actions_close k h R = subst (λ (l : List Row). Reporting l (actions_left (k + 1)) at report names old given) (sym (actions_next D D.actions k h)) R

    pub actions_end : (k : ℕ) → length D.actions ≤ k → Reporting (actions_done k) (actions_left k) at report names old given → report ≡ over (row_bytes (rows D)) old
    unfolding rows
    actions_end k h R = R.bytes ∙ ap (λ (l : List Action). over (row_bytes (rows_from D 0 l)) old) (take_all k D.actions h)

-- what the head and the counts say of an action
pub lasting_is : {D : Domain} {head : List ℕ} → HeadOf D head → (i : ℕ) → i < length D.actions → (get_or D.actions i no_action).lasting ≡ lasting_in head i
unfolding action
lasting_is H i h = sym (H.lasting i h)

pub count_is : (D : Domain) (counts : List ℕ) (i : ℕ) → counts ≡ pad 64 (class_counts D D.actions) → length (classes D (get_or D.actions i no_action)) ≡ get_or counts i 0
unfolding classes flat_map
count_is D counts i e =
    sym (ap (λ (l : List ℕ). get_or l i 0) e ∙ pad_at 64 (class_counts D D.actions) i ∙ get_or-map (λ (a : Action). length (classes D a)) D.actions i no_action)
