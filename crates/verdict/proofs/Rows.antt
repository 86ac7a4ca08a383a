-- What an accepted template says of every class and moment. Assumes nothing.
use mathlib.Core.Path.{◌≡◌, refl, sym, ap, ap₂, ◌∙◌}
use mathlib.Core.Bool.{Bool, true, false, not, ◌&&◌, cond, true≢false}
use mathlib.Core.Logic.{◌⊎◌, inl, inr}
use mathlib.Core.Option.{Option, none, some}
use mathlib.Core.List.Memᴰ
use mathlib.Core.List.{List, [], ◌∷◌, map, head?}
use Prim.Native.Nat.{ℕ, zero, suc, ◌+◌, ◌<◌}
use native.Mathlib.Nat.{not-suc-le-zero, le_of_suc-le-suc, zero-add}
use native.Mathlib.Omega.{arith}
use lib.Dec.{eqb}
use lib.ListN.{get_or, length}
use borrow.Author.Tests.{eqb-true, ne_eqb}
use Rattle.records.specs.Lists.{In, any, filter_by}
use Rattle.records.proofs.Lists.{any_out, in_filter, filter_in, off, clash, not_true, not_false}
use Rattle.literals.specs.declared.Variable.{Variable}
use Rattle.literals.specs.Domain.{Action, Domain, no_action, action}
use Rattle.literals.specs.declared.Moment.{Moment}
use Rattle.literals.specs.declared.Moment.TheVariants.{Start, End}
use Rattle.classes.specs.declared.Name.{Name}
use Rattle.classes.specs.declared.Name.TheVariants.{Unreachable, Irrelevant, Heavy, Balanced, Unbalanced, Bounded, Unbounded}
use Rattle.classes.specs.Classes.{moments_of, classes}
use Rattle.verdict.specs.Decision.{Row, row_at, rows_of_classes, rows_from, rows, is_unbounded, is_bounded, fault_by, fault_of, is_faulty, is_bounded_outside, first_row, has_fault, or_else, worst_row, accept, decide_bounded, decide_by, decide_rows, decision, class_at}
use Rattle.verdict.specs.Machine.{has_moment}
use Rattle.verdict.proofs.Acts.{Harmless}

-- ---- every class and moment has its row

-- the row of the class x of the action a at the moment m stands in the list
abbrev pub RowOf : Domain → Action → List Variable → Moment → List Row → Type 0
RowOf D a x m rs = (i : ℕ) × (j : ℕ) × In (row_at D a i j x m) rs

in_moments : (m : Moment) (l : Bool) (a : Action) → a.lasting ≡ l → has_moment a m ≡ true → In m (cond l (Start ∷ End ∷ []) (Start ∷ []))
in_moments Start true a e h = Memᴰ.head refl
in_moments Start false a e h = Memᴰ.head refl
in_moments End true a e h = Memᴰ.tail (Memᴰ.head refl)
in_moments End false a e h = absurd (clash h e)

row_class : (D : Domain) (a : Action) (i j : ℕ) (x : List Variable) (m : Moment) → In m (moments_of a) → (xs : List (List Variable)) → In x xs → RowOf D a x m (rows_of_classes D a i j xs)
row_class D a i j x m h [] k = absurd (Memᴰ.not-nil k)
row_class D a i j x m h (z ∷ zs) (Memᴰ.head e) = (i, j, Memᴰ.append_left (rows_of_classes D a i (suc j) zs) (Memᴰ.cast (ap (λ u. row_at D a i j u m) e) (Memᴰ.map (row_at D a i j z) h)))
row_class D a i j x m h (z ∷ zs) (Memᴰ.tail k) = let r = row_class D a i (suc j) x m h zs k in (r.0, r.1, Memᴰ.append_right (map (row_at D a i j z) (moments_of a)) r.2)

row_action : (D : Domain) (i n : ℕ) (acts : List Action) (x : List Variable) (m : Moment) → n < length acts
    → has_moment (get_or acts n no_action) m ≡ true → In x (classes D (get_or acts n no_action)) → RowOf D (get_or acts n no_action) x m (rows_from D i acts)
row_action D i n [] x m h l k = absurd (not-suc-le-zero h)
row_action D i zero (a ∷ acts) x m h l k =
    let r = row_class D a i 0 x m (in_moments m a.lasting a refl l) (classes D a) k in (r.0, r.1, Memᴰ.append_left (rows_from D (suc i) acts) r.2)
row_action D i (suc n) (a ∷ acts) x m h l k =
    let r = row_action D (suc i) n acts x m (le_of_suc-le-suc h) l k in (r.0, r.1, Memᴰ.append_right (rows_of_classes D a i 0 (classes D a)) r.2)

pub row_of_lem : (D : Domain) (n : ℕ) (x : List Variable) (m : Moment) → n < length D.actions → has_moment (action D n) m ≡ true
    → In x (classes D (action D n)) → RowOf D (action D n) x m (rows D)
unfolding rows action
row_of_lem D n x m h l k = row_action D 0 n D.actions x m h l k

-- ---- and every row is of a class and a moment

class_of_row : (D : Domain) (a : Action) (i j : ℕ) (xs : List (List Variable)) (r : Row) → In r (rows_of_classes D a i j xs)
    → (k : ℕ) × (k < length xs) × ((m : Moment) × In m (moments_of a) × (r ≡ row_at D a i (j + k) (get_or xs k []) m))
class_of_row D a i j [] r h = absurd (Memᴰ.not-nil h)
class_of_row D a i j (x ∷ xs) r h = go (λ k. class_of_row D a i (suc j) xs r k) (Memᴰ.append_cases (map (row_at D a i j x) (moments_of a)) h)
  where
    Of : ℕ → List (List Variable) → Type 0
    Of j xs = (k : ℕ) × (k < length xs) × ((m : Moment) × In m (moments_of a) × (r ≡ row_at D a i (j + k) (get_or xs k []) m))

    go : (In r (rows_of_classes D a i (suc j) xs) → Of (suc j) xs) → In r (map (row_at D a i j x) (moments_of a)) ⊎ In r (rows_of_classes D a i (suc j) xs) → Of j (x ∷ xs)
    go ih (inl h) =
        let o = Memᴰ.of_map (row_at D a i j x) (moments_of a) h in
        let z : j ≡ j + 0 = omega arith in
        (0, omega arith, (o.0, o.1, sym o.2 ∙ ap (λ n. row_at D a i n x o.0) z))
    go ih (inr h) = up (ih h)
      where
        up : Of (suc j) xs → Of j (x ∷ xs)
        up (k, l, (m, n, e)) = let z : suc j + k ≡ j + suc k = omega arith in (suc k, omega arith, (m, n, e ∙ ap (λ q. row_at D a i q (get_or xs k []) m) z))

action_of_row : (D : Domain) (i : ℕ) (acts : List Action) (r : Row) → In r (rows_from D i acts)
    → (n : ℕ) × (n < length acts) × In r (rows_of_classes D (get_or acts n no_action) (i + n) 0 (classes D (get_or acts n no_action)))
action_of_row D i [] r h = absurd (Memᴰ.not-nil h)
action_of_row D i (a ∷ acts) r h = go (λ k. action_of_row D (suc i) acts r k) (Memᴰ.append_cases (rows_of_classes D a i 0 (classes D a)) h)
  where
    Of : ℕ → List Action → Type 0
    Of i acts = (n : ℕ) × (n < length acts) × In r (rows_of_classes D (get_or acts n no_action) (i + n) 0 (classes D (get_or acts n no_action)))

    go : (In r (rows_from D (suc i) acts) → Of (suc i) acts) → In r (rows_of_classes D a i 0 (classes D a)) ⊎ In r (rows_from D (suc i) acts) → Of i (a ∷ acts)
    go ih (inl k) = let z : i ≡ i + 0 = omega arith in (0, omega arith, rw z at k)
    go ih (inr k) = up (ih k)
      where
        up : Of (suc i) acts → Of i (a ∷ acts)
        up (n, l, h) = let z : suc i + n ≡ i + suc n = omega arith in (suc n, omega arith, rw z at h)

pub record Stands (D : Domain) (r : Row) : Type 0 where
  pub action_listed : r.action < length D.actions
  pub class_listed : r.class < length (classes D (action D r.action))
  pub moment_listed : In r.moment (moments_of (action D r.action))
  pub is : r ≡ row_at D (action D r.action) r.action r.class (class_at D r.action r.class) r.moment

pub stands : (D : Domain) (r : Row) → In r (rows D) → Stands D r
unfolding rows action class_at
stands D r h = go (action_of_row D 0 D.actions r h)
  where
    go : (n : ℕ) × (n < length D.actions) × In r (rows_of_classes D (get_or D.actions n no_action) (0 + n) 0 (classes D (get_or D.actions n no_action))) → Stands D r
    go (n, l, k) =
        let a = get_or D.actions n no_action in
        let c = class_of_row D a (0 + n) 0 (classes D a) r k in
        let e : r ≡ row_at D a n c.0 (get_or (classes D a) c.0 []) c.2.0 =
        c.2.2 ∙ ap₂ (λ i j. row_at D a i j (get_or (classes D a) c.0 []) c.2.0) (zero-add n) (zero-add c.0) in
        rw e (record { action_listed = l; class_listed = c.1; moment_listed = c.2.1; is = refl })

-- ---- the decision 0 (v) or 1 (not v)

-- what such a decision says of a row: its name n, and whether it is a journey's end
pub record Fine (v : Bool) (n : Name) (e : Bool) : Type 0 where
  pub sound : fault_by n e ≡ 0
  pub none_unbounded : v ≡ true → is_unbounded n ≡ false
  pub none_bounded : v ≡ false → is_bounded n && not e ≡ false

pub filter_empty : {A : Type 0} (p : A → Bool) (l : List A) → head? (filter_by p l) ≡ none → (a : A) → In a l → p a ≡ false
filter_empty {A} p l e a m = off (p a) (λ t. nothing (filter_by p l) e (in_filter p m t))
  where
    nothing : (k : List A) → head? k ≡ none → In a k → ⊥
    nothing [] e i = Memᴰ.not-nil i
    nothing (x ∷ xs) e i = let z : ◌≡◌ {A = ℕ} 0 1 = cc in omega arith

pub filter_first : {A : Type 0} (p : A → Bool) (l : List A) (a : A) → head? (filter_by p l) ≡ some a → In a l × (p a ≡ true)
filter_first {A} p l a e = filter_in p l (go (filter_by p l) e)
  where
    go : (k : List A) → head? k ≡ some a → In a k
    go [] e = let z : ◌≡◌ {A = ℕ} 0 1 = cc in absurd (omega arith)
    go (x ∷ xs) e = let q : a ≡ x = cc in Memᴰ.head q

-- ---- the worst row

-- a row that or_else gives is one of the two
else_cases : (o q : Option Row) (r : Row) → or_else o q ≡ some r → (o ≡ some r) ⊎ (q ≡ some r)
else_cases none q r e = inr e
else_cases (some x) q r e = inl e

-- where it gives none, both are none
else_none : (o q : Option Row) → or_else o q ≡ none → (o ≡ none) × (q ≡ none)
else_none none q e = (refl, e)
else_none (some x) q e = let z : ◌≡◌ {A = ℕ} 0 1 = cc in absurd (omega arith)

-- a row with a number above 0 is faulty
has_faulty : (n : ℕ) (r : Row) → 0 < n → has_fault n r ≡ true → is_faulty r ≡ true
has_faulty n r l t = let e = eqb-true (fault_of r) n t in ap not (ne_eqb (fault_of r) 0 (λ z. omega arith))

-- the worst row is faulty
pub worst_first : (rs : List Row) (r : Row) → worst_row rs ≡ some r → In r rs × (is_faulty r ≡ true)
worst_first rs r e = go (else_cases (first_row (has_fault 40) rs) _ r e)
  where
    at : (n : ℕ) → 0 < n → first_row (has_fault n) rs ≡ some r → In r rs × (is_faulty r ≡ true)
    at n l e = let f = filter_first (has_fault n) rs r e in (f.0, has_faulty n r l f.1)

    go : (first_row (has_fault 40) rs ≡ some r) ⊎ (or_else (first_row (has_fault 41) rs) (first_row (has_fault 42) rs) ≡ some r) → In r rs × (is_faulty r ≡ true)
    go (inl h) = at 40 (omega arith) h
    go (inr h) = last (else_cases (first_row (has_fault 41) rs) _ r h)
      where
        last : (first_row (has_fault 41) rs ≡ some r) ⊎ (first_row (has_fault 42) rs ≡ some r) → In r rs × (is_faulty r ≡ true)
        last (inl h) = at 41 (omega arith) h
        last (inr h) = at 42 (omega arith) h

-- a fault has one of three numbers
pub by_fault : (P : ℕ → Type 0) → P 0 → P 40 → P 41 → P 42 → (n : Name) (e : Bool) → P (fault_by n e)
by_fault P a b c d Unreachable e = a
by_fault P a b c d Irrelevant e = a
by_fault P a b c d Heavy e = b
by_fault P a b c d Balanced e = a
by_fault P a b c d Unbalanced e = c
by_fault P a b c d Bounded e = a
by_fault P a b c d Unbounded true = a
by_fault P a b c d Unbounded false = d

fault_numbers : (n : Name) (e : Bool) → eqb (fault_by n e) 40 ≡ false → eqb (fault_by n e) 41 ≡ false → eqb (fault_by n e) 42 ≡ false → not (eqb (fault_by n e) 0) ≡ false
fault_numbers =
    by_fault (λ f. eqb f 40 ≡ false → eqb f 41 ≡ false → eqb f 42 ≡ false → not (eqb f 0) ≡ false) (λ a b c. refl) (λ a b c. a) (λ a b c. b) (λ a b c. c)

-- where there is no worst row, none is faulty
pub worst_none : (rs : List Row) → worst_row rs ≡ none → (r : Row) → In r rs → is_faulty r ≡ false
worst_none rs e r m =
    let a = else_none (first_row (has_fault 40) rs) _ e in
    let b = else_none (first_row (has_fault 41) rs) _ a.1 in
    fault_numbers r.name r.journey_end (filter_empty (has_fault 40) rs a.0 r m) (filter_empty (has_fault 41) rs b.0 r m) (filter_empty (has_fault 42) rs b.1 r m)

not_one : (n : Name) (e : Bool) → fault_by n e ≡ 1 → ⊥
not_one = by_fault (λ f. f ≡ 1 → ⊥) (λ h. omega arith) (λ h. omega arith) (λ h. omega arith) (λ h. omega arith)

module _ (v : Bool) (rs : List Row) where
  fine_bounded : (o : Option Row) → head? (filter_by is_bounded_outside rs) ≡ o → (b : Bool) → any (λ (r : Row). is_unbounded r.name) rs ≡ b
      → (cond b (decide_bounded o) (accept 0)).number ≡ cond v 0 1
      → (r : Row) → In r rs → fault_of r ≡ 0 → Fine v r.name r.journey_end
  fine_bounded o eo false eb h r m f = record {
    sound = f;
    none_unbounded = λ _. any_out (λ (r : Row). is_unbounded r.name) eb m;
    none_bounded = λ vf. let z : ◌≡◌ {A = ℕ} 0 1 = h ∙ ap (λ b. cond b 0 1) vf in absurd (omega arith);
  }
  fine_bounded (some q) eo true eb h r m f = absurd (never v h)
    where
      never : (v : Bool) → ◌≡◌ {A = ℕ} 43 (cond v 0 1) → ⊥
      never true h = omega arith
      never false h = omega arith
  fine_bounded none eo true eb h r m f = record {
    sound = f;
    none_unbounded = λ vt. let z : ◌≡◌ {A = ℕ} 1 0 = h ∙ ap (λ b. cond b 0 1) vt in absurd (omega arith);
    none_bounded = λ _. filter_empty is_bounded_outside rs eo r m;
  }

  fine_by : (o : Option Row) → worst_row rs ≡ o → (decide_by o rs).number ≡ cond v 0 1
      → (r : Row) → In r rs → Fine v r.name r.journey_end
  fine_by (some q) e h r m = absurd (no_way v h (worst_first rs q e).1)
    where
      no_way : (v : Bool) → fault_of q ≡ cond v 0 1 → not (eqb (fault_of q) 0) ≡ true → ⊥
      no_way true h k = clash (ap (λ n. eqb n 0) h) (not_true _ k)
      no_way false h k = not_one q.name q.journey_end h
  fine_by none e h r m =
      fine_bounded (head? (filter_by is_bounded_outside rs)) refl (any (λ (r : Row). is_unbounded r.name) rs) refl h r m
      (eqb-true (fault_of r) 0 (not_false _ (worst_none rs e r m)))

pub fine_rows : (D : Domain) (v : Bool) → (decision D).number ≡ cond v 0 1 → (r : Row) → In r (rows D) → Fine v r.name r.journey_end
unfolding decision decide_rows
fine_rows D v h r m = fine_by v (rows D) _ refl h r m

-- a fine row that is no journey's end is harmless
pub harmless_of : (v : Bool) (n : Name) (e : Bool) → Fine v n e → (v ≡ false → e ≡ false) → Harmless v n
harmless_of v Unreachable e f j = tt
harmless_of v Irrelevant e f j = tt
harmless_of v Heavy e f j = let z = f.sound in absurd (omega arith)
harmless_of v Balanced e f j = tt
harmless_of v Unbalanced e f j = let z = f.sound in absurd (omega arith)
harmless_of true Bounded e f j = refl
harmless_of false Bounded e f j = absurd (true≢false (sym (ap not (j refl)) ∙ f.none_bounded refl))
harmless_of true Unbounded e f j = absurd (true≢false (f.none_unbounded refl))
harmless_of false Unbounded e f j = let z : ◌≡◌ {A = ℕ} 42 0 = sym (ap (λ b. cond b 0 42) (j refl)) ∙ f.sound in absurd (omega arith)
