-- Where the template has one component, an action's literals of its relation alone give its summary. Assumes nothing.
use mathlib.Core.Path.{◌≡◌, refl, sym, ap, ap₂, ◌∙◌}
use mathlib.Core.Bool.{Bool, true, false, not, cond, ◌&&◌}
use mathlib.Core.List.Memᴰ
use mathlib.Core.List.{List, [], ◌∷◌, ◌++◌, map, flat_map, append-nil}
use Prim.Native.Nat.{ℕ, zero, suc, ◌+◌, ◌*◌, ◌≤◌}
use native.Mathlib.Numerals.{add-one}
use native.Mathlib.Omega.{arith}
use lib.Dec.{eqb}
use lib.ListN.{length, take, drop, length-append, length-drop}
use lib.Seq.{paste, take_at, take-suc, take_all, length-take-le}
use borrow.Author.Tests.{eqb-true}
use Rattle.records.specs.Lists.{In, all, any, filter_by, keep_if, same_list, dedup}
use Rattle.records.specs.Memory.{over}
use Rattle.records.proofs.Lists.{and_l, off, clash, any_in, any_out, in_flat_map, not_false, filter_in, filter_few, filter_agree, filter_append, flat_map_append, pairwise_filter}
use Rattle.records.proofs.Memory.{length_over, over_paste}
use Rattle.literals.specs.declared.Variable.{Variable}
use Rattle.literals.specs.declared.Argument.{Argument}
use Rattle.literals.specs.declared.Usage.{Usage}
use Rattle.literals.specs.declared.Usage.TheVariants.{Positive, Negative, Add, Delete}
use Rattle.literals.specs.declared.Role.{Role}
use Rattle.literals.specs.declared.Moment.{Moment}
use Rattle.literals.specs.declared.Moment.TheVariants.{Start, End}
use Rattle.literals.specs.Domain.{same_variable, variables_of, Atom, same_literal, Literal, Action, keys_of, Domain}
use Rattle.literals.specs.Decode.{repeats}
use Rattle.literals.specs.Held.{literal_row, all_literals, has_every, some_every, row_in}
use Rattle.literals.specs.Matching.{own, asked, tuples_of, with_role}
use Rattle.literals.proofs.Bounds.{Fits, fits_of, bounded_actions}
use Rattle.literals.proofs.Indices.{filter_filter}
use Rattle.literals.proofs.Tables.{Kept, kept}
use Rattle.classes.specs.Classes.{literal_tuples, belongs, moments_of, classes, in_class, reach_in, covered, name_of, journey}
use Rattle.classes.specs.Held.{ActionOf}
use Rattle.classes.proofs.Rows.{literal_at, no_literal, relation_at, row_at_lem}
use Rattle.classes.proofs.Soles.{and_comm}
use Rattle.verdict.specs.Decision.{journey_end_at, row_at as rowFor, rows_of_classes}
use Rattle.verdict.specs.Summaries.{summary_rows, summary_of}
use Rattle.templates.specs.Held.{OnlyRelation, mentioned_at, rows_of_relation}
use Rattle.templates.proofs.Alone.{no_tuple, size}
use Rattle.templates.proofs.Renamed.{map_agree, name_via, name_via_lem, journey_via, journey_via_lem}

-- ---- the rows of one relation, put one behind the other

-- where that stands: of the first j rows k are kept
pub record Keeping (rows : List ℕ) (r : ℕ) (kept₀ kept' : List ℕ) (k j : ℕ) : Type 0 where
  pub few : k ≤ j
  pub count : length (rows_of_relation rows r j) ≡ 8 * k
  pub bytes : kept' ≡ over (rows_of_relation rows r j) kept₀

pub keeping_none : (rows : List ℕ) (r : ℕ) (kept₀ : List ℕ) → Keeping rows r kept₀ kept₀ 0 0
unfolding over rows_of_relation
keeping_none rows r kept₀ = record { few = omega arith; count = refl; bytes = refl }

row_length : (rows : List ℕ) (j : ℕ) → 8 * j + 8 ≤ length rows → length (row_in rows j) ≡ 8
row_length rows j h = let l = length-drop (8 * j) rows in length-take-le 8 (drop (8 * j) rows) (omega arith)

module _ {rows : List ℕ} {r : ℕ} {kept₀ kept' : List ℕ} {k j : ℕ} (w : Keeping rows r kept₀ kept' k j) where
  pub keeping_length : 8 * k ≤ length kept₀ → length kept' ≡ length kept₀
  keeping_length h = let c = w.count in ap length w.bytes ∙ length_over (rows_of_relation rows r j) kept₀ (omega arith)

  pub keeping_all : take (8 * k) kept' ≡ rows_of_relation rows r j
  unfolding over
  keeping_all = ap (take (8 * k)) w.bytes
      ∙ take_at (rows_of_relation rows r j) (drop (length (rows_of_relation rows r j)) kept₀) (8 * k) w.count

  module _ (inside : 8 * j + 8 ≤ length rows) where
    abbrev so_far : List ℕ
    so_far = rows_of_relation rows r j

    few_more : {m : ℕ} (t : Bool) → m ≡ cond t (k + 1) k → m ≤ suc j
    few_more true e = let f = w.few in omega arith
    few_more false e = let f = w.few in omega arith

    count_more : {m : ℕ} (t : Bool) → m ≡ cond t (k + 1) k → length (so_far ++ cond t (row_in rows j) []) ≡ 8 * m
    count_more true e = let l = length-append so_far (row_in rows j) in let c = w.count in let n = row_length rows j inside in omega arith
    count_more false e = let l = ap length (append-nil so_far) in let c = w.count in omega arith

    bytes_more : {next : List ℕ} (t : Bool) → next ≡ cond t (paste kept' (8 * k) (row_in rows j) 8) kept'
        → next ≡ over (so_far ++ cond t (row_in rows j) []) kept₀
    bytes_more true f =
        f ∙ ap (λ (o : List ℕ). paste o (8 * k) (row_in rows j) 8) w.bytes
        ∙ over_paste so_far kept₀ (row_in rows j) (8 * k) 8 w.count (row_length rows j inside)
    bytes_more false f = f ∙ w.bytes ∙ ap (λ (l : List ℕ). over l kept₀) (sym (append-nil so_far))

    pub keeping_more : {m : ℕ} {next : List ℕ} → m ≡ cond (mentioned_at rows r j) (k + 1) k
        → next ≡ cond (mentioned_at rows r j) (paste kept' (8 * k) (row_in rows j) 8) kept'
        → Keeping rows r kept₀ next m (j + 1)
    unfolding rows_of_relation
    keeping_more {m} {next} e f = rw (add-one j) after
      where
        after : Keeping rows r kept₀ next m (suc j)
        after =
            record {
              few = few_more (mentioned_at rows r j) e;
              count = count_more (mentioned_at rows r j) e;
              bytes = bytes_more (mentioned_at rows r j) f;
            }

-- ---- the literals of one relation

abbrev of_relation : ℕ → Literal → Bool
of_relation r l = eqb l.atom.rel r

abbrev atom_of : ℕ → Atom Argument → Bool
atom_of r p = eqb p.rel r

-- an action with those alone
abbrev pub narrowed : ℕ → Action → Action
narrowed r a = record { vars = a.vars; lasting = a.lasting; lits = filter_by (of_relation r) a.lits }

-- a domain with that action alone
abbrev pub alone : Domain → ℕ → Action → Domain
alone D r a = record { arities = D.arities; actions = narrowed r a ∷ []; template = D.template }

-- their rows
rows_are : {D : Domain} (r : ℕ) (ls : List Literal) → ((l : Literal) → In l ls → Kept D l) → (j : ℕ) → j ≤ length ls
    → rows_of_relation (flat_map literal_row ls) r j ≡ flat_map literal_row (filter_by (of_relation r) (take j ls))
unfolding rows_of_relation flat_map
rows_are r ls k zero h = refl
rows_are r ls k (suc j) h =
    ap₂ ◌++◌ (rows_are r ls k j (omega arith))
    (ap₂ (λ (b : ℕ) (row : List ℕ). cond (eqb b r) row []) (relation_at ls k j h) (row_at_lem ls k j h) ∙ go (of_relation r (literal_at ls j)))
    ∙ sym
    (ap (λ (l : List Literal). flat_map literal_row (filter_by (of_relation r) l)) (take-suc ls j no_literal h)
    ∙ ap (flat_map literal_row) (filter_append (of_relation r) (take j ls) (literal_at ls j ∷ []))
    ∙ flat_map_append literal_row (filter_by (of_relation r) (take j ls)) (keep_if (of_relation r (literal_at ls j)) (literal_at ls j) []))
  where
    go : (t : Bool) → cond t (literal_row (literal_at ls j)) [] ≡ flat_map literal_row (keep_if t (literal_at ls j) [])
    go true = sym (append-nil (literal_row (literal_at ls j)))
    go false = refl

-- ---- lists

module _ {A : Type 0} where
  filter_swap : (p q : A → Bool) (l : List A) → filter_by p (filter_by q l) ≡ filter_by q (filter_by p l)
  filter_swap p q l =
      filter_filter q p l ∙ filter_agree (λ a. q a && p a) (λ a. p a && q a) l (λ a m. and_comm (q a) (p a)) ∙ sym (filter_filter p q l)

  -- a test that another one implies
  filter_implied : (p q : A → Bool) → ((a : A) → p a ≡ false → q a ≡ false) → (l : List A) → filter_by q (filter_by p l) ≡ filter_by q l
  filter_implied p q h l = filter_filter p q l ∙ filter_agree (λ a. p a && q a) q l (λ a m. go a (p a) refl)
    where
      go : (a : A) (t : Bool) → p a ≡ t → t && q a ≡ q a
      go a true e = refl
      go a false e = sym (h a e)

  -- a test that does not tell equals apart goes past `dedup`
  dedup_filter : (eq : A → A → Bool) (g : A → Bool) → ((x y : A) → eq x y ≡ true → g x ≡ g y) → (l : List A)
      → dedup eq (filter_by g l) ≡ filter_by g (dedup eq l)
  dedup_filter eq g h [] = refl
  dedup_filter eq g h (x ∷ xs) = go (g x) refl (dedup_filter eq g h xs)
    where
      other : A → Bool
      other y = not (eq x y)

      differs : g x ≡ false → (y : A) → other y ≡ false → g y ≡ false
      differs e y o = sym (h x y (not_false (eq x y) o)) ∙ e

      go : (t : Bool) → g x ≡ t → dedup eq (filter_by g xs) ≡ filter_by g (dedup eq xs)
          → dedup eq (keep_if t x (filter_by g xs)) ≡ keep_if t x (filter_by g (filter_by other (dedup eq xs)))
      go true e ih = ap {B = List A} (λ l. x ∷ l) (ap (filter_by other) ih ∙ filter_swap other g (dedup eq xs))
      go false e ih = ih ∙ sym (filter_implied other g (differs e) (dedup eq xs))

with_role_lem : (r : ℕ) (q : Role → Bool) (ls : List Literal) → with_role q (filter_by (of_relation r) ls) ≡ filter_by (atom_of r) (with_role q ls)
with_role_lem r q [] = refl
with_role_lem r q (l ∷ ls) =
    left (of_relation r l)
    ∙ ap₂ (λ (t : Bool) (ps : List (Atom Argument)). keep_if t l.atom ps) (and_comm (of_relation r l) (q l.role)) (with_role_lem r q ls)
    ∙ sym (right (q l.role))
  where
    left : (t : Bool) → with_role q (keep_if t l (filter_by (of_relation r) ls))
        ≡ keep_if (t && q l.role) l.atom (with_role q (filter_by (of_relation r) ls))
    left true = refl
    left false = refl

    right : (t : Bool) → filter_by (atom_of r) (keep_if t l.atom (with_role q ls))
        ≡ keep_if (t && atom_of r l.atom) l.atom (filter_by (atom_of r) (with_role q ls))
    right true = refl
    right false = refl

-- ---- what an action's classes have, of these literals alone

module _ (D : Domain) (r : ℕ) (only : OnlyRelation D r) where
  none_other : (p : Atom Argument) → atom_of r p ≡ false → literal_tuples D p ≡ []
  unfolding tuples_of literal_tuples
  none_other p h = ap (map variables_of) (no_tuple (keys_of D.template) r D.template only p h)

  tuples_kept : (ls : List Literal)
      → flat_map (λ (l : Literal). literal_tuples D l.atom) (filter_by (of_relation r) ls)
      ≡ flat_map (λ (l : Literal). literal_tuples D l.atom) ls
  unfolding flat_map
  tuples_kept [] = refl
  tuples_kept (l ∷ ls) = go (of_relation r l) refl (tuples_kept ls)
    where
      its : Literal → List (List Variable)
      its m = literal_tuples D m.atom

      go : (t : Bool) → of_relation r l ≡ t → flat_map its (filter_by (of_relation r) ls) ≡ flat_map its ls
          → flat_map its (keep_if t l (filter_by (of_relation r) ls)) ≡ its l ++ flat_map its ls
      go true e ih = ap (λ (ts : List (List Variable)). its l ++ ts) ih
      go false e ih = ih ∙ sym (ap (λ (ts : List (List Variable)). ts ++ flat_map its ls) (none_other l.atom e))

  belongs_other : (x : List Variable) (p : Atom Argument) → atom_of r p ≡ false → belongs D x p ≡ false
  belongs_other x p h = ap (any (λ t. same_list same_variable t x)) (none_other p h)

  counted_kept : (q : Role → Bool) (x : List Variable) (ls : List Literal)
      → filter_by (belongs D x) (dedup same_literal (with_role q (filter_by (of_relation r) ls)))
      ≡ filter_by (belongs D x) (dedup same_literal (with_role q ls))
  counted_kept q x ls =
      ap (λ (ps : List (Atom Argument)). filter_by (belongs D x) (dedup same_literal ps)) (with_role_lem r q ls)
      ∙ ap (filter_by (belongs D x)) (dedup_filter same_literal (atom_of r)
      (λ p s e. ap (λ (k : ℕ). eqb k r) (eqb-true p.rel s.rel (and_l _ _ e))) (with_role q ls))
      ∙ filter_implied (atom_of r) (belongs D x) (belongs_other x) (dedup same_literal (with_role q ls))

  module _ (a : Action) where
    classes_kept : classes (alone D r a) (narrowed r a) ≡ classes D a
    unfolding classes literal_tuples tuples_of
    classes_kept = ap (dedup (same_list same_variable)) (tuples_kept a.lits)

    in_class_lem : (x : List Variable) (m : Moment) (c : Usage) → in_class (alone D r a) (narrowed r a) x m c ≡ in_class D a x m c
    unfolding in_class literal_tuples tuples_of
    in_class_lem x m c = counted_kept (own m c) x a.lits

    reach_in_lem : (x : List Variable) (m : Moment) → reach_in (alone D r a) (narrowed r a) x m ≡ reach_in D a x m
    unfolding reach_in literal_tuples tuples_of
    reach_in_lem x m = counted_kept (asked m Positive) x a.lits

    name_kept : (x : List Variable) (m : Moment) → name_of (alone D r a) (narrowed r a) x m ≡ name_of D a x m
    name_kept x m =
        name_via_lem (alone D r a) (narrowed r a) x m
        ∙ (λ i. name_via (reach_in_lem x m i) (in_class_lem x m Positive i) (in_class_lem x m Add i) (in_class_lem x m Delete i) (in_class_lem x m Negative i)
        (λ ps. all (covered ps) D.template))
        ∙ sym (name_via_lem D a x m)

    journey_kept : (x : List Variable) → journey (alone D r a) (narrowed r a) x ≡ journey D a x
    journey_kept x =
        journey_via_lem (alone D r a) (narrowed r a) x
        ∙ (λ i. journey_via a.lasting (in_class_lem x Start Add i) (in_class_lem x Start Positive i) (in_class_lem x Start Delete i)
        (in_class_lem x End Positive i) (in_class_lem x End Add i))
        ∙ sym (journey_via_lem D a x)

    end_kept : (x : List Variable) (m : Moment) → journey_end_at (alone D r a) (narrowed r a) x m ≡ journey_end_at D a x m
    end_kept x Start = refl
    end_kept x End = journey_kept x

    rows_kept : (j : ℕ) (xs : List (List Variable)) → rows_of_classes (alone D r a) (narrowed r a) 0 j xs ≡ rows_of_classes D a 0 j xs
    rows_kept j [] = refl
    rows_kept j (x ∷ xs) =
        ap₂ ◌++◌
        (map_agree (rowFor (alone D r a) (narrowed r a) 0 j x) (rowFor D a 0 j x) (moments_of a)
        (λ m k. record { action = 0; class = j; moment = m; name = name_kept x m k; journey_end = end_kept x m k }))
        (rows_kept (suc j) xs)

    pub summary_kept : summary_of (alone D r a) (narrowed r a) ≡ summary_of D a
    unfolding summary_of
    summary_kept = ap summary_rows (rows_kept 0 (classes (alone D r a) (narrowed r a)) ∙ ap (rows_of_classes D a 0 0) classes_kept)

-- ---- as the code holds them

module _ {D : Domain} {a : Action} {head rows : List ℕ} (A : ActionOf D a head rows) (r : ℕ) where
  narrowed_fits : Fits D (narrowed r a)
  narrowed_fits =
      let f = fits_of D A.says.bounded a A.listed in
      let n = filter_few (of_relation r) a.lits in
      let s = f.sizes in
      record {
        counts = f.counts;
        sizes = omega arith;
        arguments = λ l m. f.arguments l (filter_in (of_relation r) a.lits m).0;
        variables = λ l m. f.variables l (filter_in (of_relation r) a.lits m).0;
        below = λ l m. f.below l (filter_in (of_relation r) a.lits m).0;
        roles = λ l m. f.roles l (filter_in (of_relation r) a.lits m).0;
        literal_arity = λ l m. f.literal_arity l (filter_in (of_relation r) a.lits m).0;
        clears = λ l m. f.clears l (filter_in (of_relation r) a.lits m).0;
        keys_kept = λ l m. f.keys_kept l (filter_in (of_relation r) a.lits m).0;
      }

  -- no literal of it has FF where none of the domain has
  narrowed_plain : some_every D.actions ≡ false → some_every (narrowed r a ∷ []) ≡ false
  unfolding some_every all_literals flat_map
  narrowed_plain e =
      let ls = filter_by (of_relation r) a.lits in
      ap (any has_every) (append-nil ls)
      ∙ off (any has_every ls) (λ t.
      let x = any_in has_every ls t in
      clash x.2 (any_out has_every e (in_flat_map (λ (b : Action). b.lits) A.listed (filter_in (of_relation r) a.lits x.1).0)))

  pub narrowed_held : (n : ℕ) → length rows ≡ 8 * n → {few : List ℕ} → few ≡ rows_of_relation rows r n
      → ActionOf (alone D r a) (narrowed r a) head few
  narrowed_held n w e =
      record {
        says =
            record {
              bounded = bounded_actions D (narrowed r a ∷ []) A.says.bounded (omega arith)
                  (λ b m. rw (Memᴰ.eq_of_singleton m) narrowed_fits);
              keys = A.says.keys;
              arities = A.says.arities;
              components = A.says.components;
              component_rows = A.says.component_rows;
              plain = λ f. narrowed_plain (A.says.plain f);
            };
        listed = Memᴰ.head refl;
        apart = pairwise_filter (λ l m. not (repeats l m)) (of_relation r) a.lits A.apart;
        literals =
            e
            ∙ ap₂ (λ (t : List ℕ) (k : ℕ). rows_of_relation t r k) A.literals (size A r n w)
            ∙ rows_are r a.lits (λ l m. kept A.says.bounded A.listed m) (length a.lits) (omega arith)
            ∙ ap (λ (l : List Literal). flat_map literal_row (filter_by (of_relation r) l)) (take_all (length a.lits) a.lits (omega arith));
      }
