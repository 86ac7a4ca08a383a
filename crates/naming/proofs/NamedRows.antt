-- Laws of the rows of a domain, one class or one action more at a time, and naming them. Assumes nothing.
use Rattle.std.specs.Prelude.{Option, None, Some}
use mathlib.Core.Path.{◌≡◌, refl, sym, ap, ap₂, ◌∙◌, subst}
use mathlib.Core.Bool.{Bool, true, false, cond}
use mathlib.Core.List.{List, [], ◌∷◌, ◌++◌, map, flat_map, map-append, append-nil, append_assoc}
use Prim.Native.Nat.{ℕ, suc, ◌+◌, ◌-◌, ◌*◌, ◌≤◌, ◌<◌}
use native.Mathlib.Numerals.{add-one}
use native.Mathlib.Omega.{arith}
use lib.ListN.{length, get_or, set, take, drop, length-append, length-map}
use lib.Seq.{take-suc, take_all, drop-cons, length-take-le}
use Rattle.records.specs.Memory.{over}
use Rattle.records.proofs.Memory.{length_over, over_more}
use Rattle.literals.specs.declared.Variable.{Variable}
use Rattle.literals.specs.Domain.{Action, Domain, no_action, action}
use Rattle.literals.specs.declared.span.Span.{Span}
use Rattle.literals.specs.Held.{all_literals, pad, actions_in, Held, SpanFits, SpanOf}
use Rattle.literals.proofs.Tables.{pad_more}
use Rattle.literals.proofs.Held.{rows_few}
use Rattle.literals.proofs.Heads.{literals_after}
use Rattle.literals.specs.declared.Moment.TheVariants.{Start, End}
use Rattle.classes.specs.Classes.{moments_of, name_number, classes, name_of, journey}
use Rattle.classes.specs.Held.{MomentOf, class_numbers, numbers_of, asked_usages, sole_at, reach_at}
use Rattle.naming.specs.declared.EndName.{EndName}
use Rattle.naming.specs.declared.ClassNames.{ClassNames}
use Rattle.naming.specs.declared.Naming.{Naming}
use Rattle.verdict.specs.declared.Summary.{Summary}
use Rattle.verdict.specs.declared.Notes.{Notes}
use Rattle.verdict.specs.Decision.{Row, row_at, rows_of_classes, rows_from, rows}
use Rattle.verdict.specs.Claims.{well_formed}
use Rattle.verdict.specs.Summaries.{summary_rows, summary_of, notes_of}
use Rattle.verdict.specs.Held.{row_for}
use Rattle.naming.specs.Held.{name_bytes, class_counts, class_names, EndOf, Listed, Named, naming_of}

-- ---- one class or one action more

-- the rows of the class j with the key tuple x
abbrev pub class_rows : Domain → Action → ℕ → ℕ → List Variable → List Row
class_rows D a i j x = map (row_at D a i j x) (moments_of a)

module _ (D : Domain) (a : Action) (i : ℕ) where
  pub classes_more : (j : ℕ) (xs : List (List Variable)) (x : List Variable)
      → rows_of_classes D a i j (xs ++ (x ∷ [])) ≡ rows_of_classes D a i j xs ++ class_rows D a i (j + length xs) x
  classes_more j [] x =
      let z : j ≡ j + 0 = omega arith in
      append-nil (class_rows D a i j x) ∙ ap (λ (k : ℕ). class_rows D a i k x) z
  classes_more j (y ∷ ys) x =
      let z : suc j + length ys ≡ j + suc (length ys) = omega arith in
      ap (λ (r : List Row). class_rows D a i j y ++ r) (classes_more (suc j) ys x ∙ ap (λ (k : ℕ). rows_of_classes D a i (suc j) ys ++ class_rows D a i k x) z)
      ∙ sym (append_assoc (class_rows D a i j y) (rows_of_classes D a i (suc j) ys) (class_rows D a i (j + suc (length ys)) x))

  -- the first k + 1 classes
  pub classes_next : (xs : List (List Variable)) (k : ℕ) → k < length xs
      → rows_of_classes D a i 0 (take (k + 1) xs) ≡ rows_of_classes D a i 0 (take k xs) ++ class_rows D a i k (get_or xs k [])
  classes_next xs k h =
      let l = length-take-le k xs (omega arith) in
      let z : 0 + length (take k xs) ≡ k = omega arith in
      ap (λ (n : ℕ). rows_of_classes D a i 0 (take n xs)) (add-one k)
      ∙ ap (rows_of_classes D a i 0) (take-suc xs k [] h)
      ∙ classes_more 0 (take k xs) (get_or xs k [])
      ∙ ap (λ (n : ℕ). rows_of_classes D a i 0 (take k xs) ++ class_rows D a i n (get_or xs k [])) z

  -- and those from k on
  pub classes_left_lem : (xs : List (List Variable)) (k : ℕ) → k < length xs
      → rows_of_classes D a i k (drop k xs) ≡ class_rows D a i k (get_or xs k []) ++ rows_of_classes D a i (k + 1) (drop (k + 1) xs)
  classes_left_lem xs k h =
      ap (rows_of_classes D a i k) (drop-cons xs k [] h)
      ∙ ap (λ (n : ℕ). class_rows D a i k (get_or xs k []) ++ rows_of_classes D a i n (drop n xs)) (sym (add-one k))

-- the rows of the action a of the number i
abbrev pub action_rows : Domain → Action → ℕ → List Row
action_rows D a i = rows_of_classes D a i 0 (classes D a)

module _ (D : Domain) where
  pub actions_more : (i : ℕ) (as' : List Action) (a : Action) → rows_from D i (as' ++ (a ∷ [])) ≡ rows_from D i as' ++ action_rows D a (i + length as')
  actions_more i [] a =
      let z : i ≡ i + 0 = omega arith in
      append-nil (action_rows D a i) ∙ ap (action_rows D a) z
  actions_more i (b ∷ bs) a =
      let z : suc i + length bs ≡ i + suc (length bs) = omega arith in
      ap (λ (r : List Row). action_rows D b i ++ r) (actions_more (suc i) bs a ∙ ap (λ (k : ℕ). rows_from D (suc i) bs ++ action_rows D a k) z)
      ∙ sym (append_assoc (action_rows D b i) (rows_from D (suc i) bs) (action_rows D a (i + suc (length bs))))

  -- the first k + 1 actions
  pub actions_next : (as' : List Action) (k : ℕ) → k < length as'
      → rows_from D 0 (take (k + 1) as') ≡ rows_from D 0 (take k as') ++ action_rows D (get_or as' k no_action) k
  actions_next as' k h =
      let l = length-take-le k as' (omega arith) in
      let z : 0 + length (take k as') ≡ k = omega arith in
      ap (λ (n : ℕ). rows_from D 0 (take n as')) (add-one k)
      ∙ ap (rows_from D 0) (take-suc as' k no_action h)
      ∙ actions_more 0 (take k as') (get_or as' k no_action)
      ∙ ap (λ (n : ℕ). rows_from D 0 (take k as') ++ action_rows D (get_or as' k no_action) n) z

  -- and those from k on
  pub actions_left_lem : (as' : List Action) (k : ℕ) → k < length as'
      → rows_from D k (drop k as') ≡ action_rows D (get_or as' k no_action) k ++ rows_from D (k + 1) (drop (k + 1) as')
  actions_left_lem as' k h =
      ap (rows_from D k) (drop-cons as' k no_action h)
      ∙ ap (λ (n : ℕ). action_rows D (get_or as' k no_action) k ++ rows_from D n (drop n as')) (sym (add-one k))

-- the rows of a class, by its moments
module _ (D : Domain) (a : Action) (i j : ℕ) (x : List Variable) where
  pub once_rows : a.lasting ≡ false → class_rows D a i j x ≡ row_at D a i j x Start ∷ []
  once_rows l = ap (λ (b : Bool). map (row_at D a i j x) (cond b (Start ∷ End ∷ []) (Start ∷ []))) l

  pub lasting_rows : a.lasting ≡ true → class_rows D a i j x ≡ row_at D a i j x Start ∷ row_at D a i j x End ∷ []
  lasting_rows l = ap (λ (b : Bool). map (row_at D a i j x) (cond b (Start ∷ End ∷ []) (Start ∷ []))) l

-- the row of an end that has a name
abbrev pub end_rows : ℕ → ℕ → Option EndName → List Row
end_rows i j None = []
end_rows i j (Some e) = row_for i j End e.name e.journey ∷ []

-- the rows of a class, by its names
pub named_rows : (D : Domain) (a : Action) (i j : ℕ) (x : List Variable)
    → class_rows D a i j x ≡ row_for i j Start (class_names D a x).start false ∷ end_rows i j (class_names D a x).end
named_rows D a i j x = go a.lasting
  where
    go : (b : Bool) → map (row_at D a i j x) (cond b (Start ∷ End ∷ []) (Start ∷ []))
        ≡ row_for i j Start (name_of D a x Start) false ∷ end_rows i j (cond b (Some (record { name = name_of D a x End; journey = journey D a x })) None)
    go true = refl
    go false = refl

-- ---- naming

-- one row more
pub listed_more : (rs : List Row) (r : Row) {n m : ℕ} (names old : List ℕ) (v : ℕ) → n < length names → Listed rs n names old
    → m ≡ n + 1 → v ≡ name_number r.name → Listed (rs ++ (r ∷ [])) m (set names n v) old
listed_more rs r {n} names old v h N e g =
    let k = N.counted in
    let w = N.room in
    let l = length-append rs (r ∷ []) in
    let b = length-map rs (λ (r : Row). name_number r.name) in
    let u = ap length N.bytes ∙ length_over (name_bytes rs) old (omega arith) in
    record {
      room = omega arith;
      counted = omega arith;
      bytes =
          ap₂ (λ (l : List ℕ) (a : ℕ). set l n a) N.bytes g
          ∙ over_more (name_bytes rs) old n (name_number r.name) (b ∙ sym k) (omega arith)
          ∙ ap (λ (l : List ℕ). over l old) (sym (map-append (λ (r : Row). name_number r.name) rs (r ∷ [])));
    }

pub named_more : (before rs : List Row) (r : Row) (n : Naming) {m : Naming} (names old : List ℕ) (v : ℕ) → n.rows < length names → Named before rs n names old
    → m.rows ≡ n.rows + 1 → m.summary ≡ summary_rows (rs ++ (r ∷ [])) → v ≡ name_number r.name → Named before (rs ++ (r ∷ [])) m (set names n.rows v) old
named_more before rs r n {m} names old v h N e f g =
    record {
      listed =
          subst (λ (l : List Row). Listed l m.rows (set names n.rows v) old) (append_assoc before rs (r ∷ []))
          (listed_more (before ++ rs) r names old v h N.listed e g);
      summed = f;
    }

-- the rows of a class, by its names
pub named_class : (D : Domain) (a : Action) (i j : ℕ) (x : List Variable) (before rs : List Row) {n : Naming} {names old : List ℕ} {c : ClassNames} → c ≡ class_names D a x
    → Named before (rs ++ (row_for i j Start c.start false ∷ end_rows i j c.end)) n names old → Named before (rs ++ class_rows D a i j x) n names old
named_class D a i j x before rs {n} {names} {old} e N =
    subst (λ (k : List Row). Named before (rs ++ k) n names old)
    (ap (λ (c : ClassNames). row_for i j Start c.start false ∷ end_rows i j c.end) e ∙ sym (named_rows D a i j x)) N

-- the classes of an action, after k of them
module _ (D : Domain) (a : Action) (i : ℕ) (xs : List (List Variable)) (before : List Row) {n : Naming} {names old : List ℕ} where
  pub named_begin : Named before [] n names old → Named before (rows_of_classes D a i 0 (take 0 xs)) n names old
  named_begin N = N

  pub named_next : (k : ℕ) → k < length xs → Named before (rows_of_classes D a i 0 (take k xs) ++ class_rows D a i k (get_or xs k [])) n names old
      → Named before (rows_of_classes D a i 0 (take (k + 1) xs)) n names old
  named_next k h N = subst (λ (l : List Row). Named before l n names old) (sym (classes_next D a i xs k h)) N

  pub named_end : (k : ℕ) → length xs ≤ k → Named before (rows_of_classes D a i 0 (take k xs)) n names old → Named before (rows_of_classes D a i 0 xs) n names old
  named_end k h N = subst (λ (l : List (List Variable)). Named before (rows_of_classes D a i 0 l) n names old) (take_all k xs h) N

-- before the first of them
pub named_none : (before : List Row) {n : Naming} {names old : List ℕ} → Listed before n.rows names old → n.summary ≡ summary_rows [] → Named before [] n names old
named_none before {n} {names} {old} L e = record { listed = subst (λ (l : List Row). Listed l n.rows names old) (sym (append-nil before)) L; summed = e }

-- the actions of a domain, after k of them
module _ (D : Domain) where
  pub listed_none : (old : List ℕ) → Listed (rows_from D 0 (take 0 D.actions)) 0 old old
  unfolding over
  listed_none old = record { room = omega arith; counted = refl; bytes = refl }

  pub listed_action : (k : ℕ) {n : ℕ} {names old : List ℕ} → k < length D.actions
      → Listed (rows_from D 0 (take k D.actions) ++ action_rows D (action D k) k) n names old → Listed (rows_from D 0 (take (k + 1) D.actions)) n names old
  unfolding action
  listed_action k {n} {names} {old} h N = subst (λ (l : List Row). Listed l n names old) (sym (actions_next D D.actions k h)) N

  pub noted_action : (k : ℕ) {n m : Notes} {s : Summary} → k < length D.actions → n ≡ notes_of (map (summary_of D) (take k D.actions)) → s ≡ summary_of D (action D k)
      → ((ss : List Summary) → k ≡ length ss → n ≡ notes_of ss → m ≡ notes_of (ss ++ (s ∷ [])))
      → m ≡ notes_of (map (summary_of D) (take (k + 1) D.actions))
  unfolding action
  noted_action k h e g f =
      let before = take k D.actions in
      let l = length-map before (summary_of D) ∙ length-take-le k D.actions (omega arith) in
      f (map (summary_of D) before) (sym l) e
      ∙ ap (λ (s : Summary). notes_of (map (summary_of D) before ++ (s ∷ []))) g
      ∙ ap notes_of
      (sym (ap (λ (m : ℕ). map (summary_of D) (take m D.actions)) (add-one k)
      ∙ ap (map (summary_of D)) (take-suc D.actions k no_action h)
      ∙ map-append (summary_of D) before (get_or D.actions k no_action ∷ [])))

  pub counted_action : (k : ℕ) (counts : List ℕ) → k < length D.actions → length D.actions ≤ 64 → counts ≡ pad 64 (class_counts D (take k D.actions))
      → set counts k (length (classes D (action D k))) ≡ pad 64 (class_counts D (take (k + 1) D.actions))
  unfolding action
  counted_action k counts h w e =
      let before = class_counts D (take k D.actions) in
      let now = length (classes D (get_or D.actions k no_action)) in
      let l : length before ≡ k = length-map (take k D.actions) (λ (a : Action). length (classes D a)) ∙ length-take-le k D.actions (omega arith) in
      ap₂ (λ (c : List ℕ) (m : ℕ). set c m now) e (sym l)
      ∙ pad_more 64 before now (omega arith)
      ∙ ap (pad 64)
      (sym (ap (λ (m : ℕ). class_counts D (take m D.actions)) (add-one k)
      ∙ ap (class_counts D) (take-suc D.actions k no_action h)
      ∙ map-append (λ (a : Action). length (classes D a)) (take k D.actions) (get_or D.actions k no_action ∷ [])))

  pub naming_done : (k : ℕ) {r : ℕ} {n : Notes} {names old counts : List ℕ} → length D.actions ≤ k → Listed (rows_from D 0 (take k D.actions)) r names old
      → n ≡ notes_of (map (summary_of D) (take k D.actions)) → counts ≡ pad 64 (class_counts D (take k D.actions))
      → (record { rows = r; notes = n } ≡ naming_of D) × (counts ≡ pad 64 (class_counts D D.actions)) × (names ≡ over (name_bytes (rows D)) old)
  unfolding rows naming_of
  naming_done k {r} {n} {names} {old} {counts} h N e c =
      let all = take_all k D.actions h in (
        λ i. record {
          rows = (N.counted ∙ ap (λ (l : List Action). length (rows_from D 0 l)) all) i;
          notes = (e ∙ ap (λ (l : List Action). notes_of (map (summary_of D) l)) all) i;
        },
        c ∙ ap (λ (l : List Action). pad 64 (class_counts D l)) all,
        N.bytes ∙ ap (λ (l : List Action). over (name_bytes (rows_from D 0 l)) old) all,
      )

-- ---- where the loops of naming stand

-- which literal of a class is asked as a true condition at the end, by the usages of what is asked there
pub reach_is : (D : Domain) (a : Action) {numbers asked : List ℕ} → numbers ≡ class_numbers D a → asked ≡ pad 64 (asked_usages a End) → (k : ℕ) → sole_at numbers asked k 1 ≡ reach_at D a End k
unfolding reach_at
reach_is D a f g k = ap₂ (λ (o c : List ℕ). sole_at o c k 1) f g

-- in an action, after k of its classes
pub record InClasses (head rows numbers at_start_lem at-end asked : List ℕ) (count : ℕ) (lasting : Bool) (names₀ : List ℕ) (next₀ : Naming) (names : List ℕ) (next : Naming) (k : ℕ) : Type 0 where
  pub reach : k ≤ count
  pub few : next.rows ≤ next₀.rows + 2 * k
  pub room : length names ≡ length names₀
  pub named : (before : List Row) (old : List ℕ) (D : Domain) (a : Action) (i : ℕ) → Named before [] next₀ names₀ old → MomentOf D a Start head rows numbers at_start_lem → a.lasting ≡ lasting
      → (lasting ≡ true → EndOf D a head rows numbers at-end asked) → count ≡ length (classes D a) → Named before (rows_of_classes D a i 0 (take k (classes D a))) next names old

-- at most two rows for each literal of the actions so far
module _ {D : Domain} {head table : List ℕ} (H : Held D head table) (i : ℕ) (h : i < length D.actions) {span : Span} (S : SpanOf D i table span) (F : SpanFits (length table) span)
    (r : ℕ) (g : r ≤ 2 * length (all_literals (take i D.actions))) where
  pub names_room : (n : ℕ) → length table ≤ 4 * n → r + 2 * (span.to - span.from) ≤ n
  names_room n l = let f = S.first in let o = F.order in let m = F.room in omega arith

  pub names_next : (q : ℕ) → q ≤ r + 2 * (span.to - span.from) → q ≤ 2 * length (all_literals (take (i + 1) D.actions))
  names_next q l =
      let s = S.size in
      let e = ap (λ (k : ℕ). length (all_literals (take k D.actions))) (add-one i) ∙ literals_after D i h in
      omega arith

-- all of them
pub names_few : {D : Domain} {head table : List ℕ} → Held D head table → (k r : ℕ) → length D.actions ≤ k → r ≤ 2 * length (all_literals (take k D.actions)) → r ≤ 8192
names_few {D} H k r h g =
    let e = ap (λ (l : List Action). length (all_literals l)) (take_all k D.actions h) in
    let n = rows_few D.actions H.says.bounded.sizes in
    let m = H.says.bounded.actions in
    omega arith

-- in a domain, after k of its actions
pub record InActions (head table numbers₀ names₀ counts₀ numbers names counts words : List ℕ) (r : ℕ) (notes : Notes) (k : ℕ) : Type 0 where
  pub reach : k ≤ actions_in head
  pub numbers_room : length numbers ≡ length numbers₀
  pub words_room : length words ≡ 64
  pub numbered : (D : Domain) → Held D head table → well_formed D ≡ true → numbers ≡ over (numbers_of D (take k D.actions)) numbers₀
  pub room : length names ≡ length names₀
  pub few : (D : Domain) → Held D head table → r ≤ 2 * length (all_literals (take k D.actions))
  pub listed : (D : Domain) → Held D head table → well_formed D ≡ true → Listed (rows_from D 0 (take k D.actions)) r names names₀
  pub noted : (D : Domain) → Held D head table → well_formed D ≡ true → notes ≡ notes_of (map (summary_of D) (take k D.actions))
  pub counted : (D : Domain) → Held D head table → well_formed D ≡ true → counts₀ ≡ pad 64 [] → counts ≡ pad 64 (class_counts D (take k D.actions))

-- the numbers of all actions
pub numbered_none : (D : Domain) (old : List ℕ) → old ≡ over (numbers_of D (take 0 D.actions)) old
unfolding numbers_of over flat_map
numbered_none D old = refl

pub numbered_all : (D : Domain) (k : ℕ) {numbers : List ℕ} (old : List ℕ) → length D.actions ≤ k → numbers ≡ over (numbers_of D (take k D.actions)) old → numbers ≡ over (numbers_of D D.actions) old
numbered_all D k {numbers} old h e = e ∙ ap (λ (l : List Action). over (numbers_of D l) old) (take_all k D.actions h)
