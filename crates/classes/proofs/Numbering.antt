-- The loop over the literals of an action: the classes and the class numbers after j turns. Assumes nothing.
use mathlib.Core.Path.{◌≡◌, refl, sym, ap, ap₂, subst, ◌∙◌}
use mathlib.Core.Bool.{Bool, true, false, ◌||◌, cond}
use mathlib.Core.Logic.{◌⊎◌, inl, inr}
use mathlib.Core.List.Memᴰ
use mathlib.Core.List.{List, [], ◌∷◌, ◌++◌, map, flat_map, append-nil}
use Prim.Native.Nat.{ℕ, ◌+◌, ◌*◌, ◌≤◌, ◌<◌}
use native.Mathlib.Numerals.{add-one}
use native.Mathlib.Omega.{arith}
use lib.Dec.{eqb}
use borrow.Author.Tests.{eq-eqb, eqb-true, eqb-false}
use lib.ListN.{length, get_or, set, take, drop, length-map, length-set, drop_of_length-le, take-append-drop}
use lib.Seq.{take-suc, take_all, length-take-le}
use Rattle.records.specs.Lists.{In, any, same_list, position}
use Rattle.records.specs.Memory.{over}
use Rattle.records.proofs.Lists.{bool_cases, clash, get_d_in, in_get_d, in_any, dedup_in, flat_map_in}
use Rattle.records.proofs.Memory.{over_more}
use Rattle.literals.specs.declared.Variable.{Variable}
use Rattle.literals.specs.Domain.{same_variable, Literal, Action, Component, keys_of, Domain}
use Rattle.literals.specs.Held.{literal_row, Bounded, row_in, key_rows, key_rows_in, row_word, key_words_in}
use Rattle.literals.proofs.Bytes.{keys_once}
use Rattle.literals.proofs.Equality.{variables_eq, variables_self}
use Rattle.literals.proofs.Tables.{kept, length_literals}
use Rattle.literals.proofs.Held.{keys_few}
use Rattle.classes.specs.declared.number.NumberedLiteral.{NumberedLiteral}
use Rattle.literals.specs.Matching.{tuples_of}
use Rattle.classes.specs.Classes.{literal_tuples, belongs, classes}
use Rattle.classes.specs.Held.{ActionOf, class_number_by, class_byte, class_numbers, tuple_row, only_row, numbered_by, words_after}
use Rattle.classes.proofs.Rows.{no_literal, literal_at, row_at_lem}
use Rattle.classes.proofs.Members.{member}
use Rattle.classes.proofs.Numbers.{One, Fits, tuples_one, tuples_rows, found, numbers, numbers_more, class_in, class_in_byte, tuple_word, row_word_lem, words_of, numbered_more, words_more}

or_none : (b : Bool) → b || false ≡ true → b ≡ true
or_none true t = refl
or_none false t = t

abbrev pub tuples : Domain → Literal → List (List Variable)
tuples D l = literal_tuples D l.atom

-- the classes and the class numbers of these literals, as the code holds them
pub record Numbered-by (D : Domain) (ls : List Literal) (numbers₀ numbers' words₀ words : List ℕ) (count : ℕ) : Type 0 where
  pub words_are : words ≡ words_of (found (tuples D) ls) words₀
  pub counted : count ≡ length (found (tuples D) ls)
  pub given : numbers' ≡ over (numbers (tuples D) ls) numbers₀

-- ---- the literals of an action of a domain whose template is held

module _ {D : Domain} {a : Action} {head rows : List ℕ} (A : ActionOf D a head rows) where
  abbrev B : Bounded D
  B = A.says.bounded

  few_keys : keys_of D.template ≤ 6
  few_keys = keys_few D.template B.labels

  fits : (c : Component) → In c D.template → Fits D (keys_of D.template) c
  fits c m = record { arguments = B.component_arity c m; keys = keys_once _ _ (B.keys_fit c m) }

  pub one : (l : Literal) → In l a.lits → One (keys_of D.template) (tuples D l)
  unfolding literal_tuples tuples_of
  one l m =
      tuples_one D (keys_of D.template) few_keys l (B.literal_arity a A.listed l m)
      (λ v k. let b = B.variables a A.listed l m v k in omega arith) D.template fits (B.keys_kept a A.listed l m)
      B.components_once

  -- the key tuples of a literal, by the bytes of the index
  pub tuples_are : (l : Literal) → In l a.lits → key_rows_in head (literal_row l) ≡ map tuple_row (tuples D l)
  unfolding literal_tuples tuples_of key_rows_in
  tuples_are l m =
      ap₂ (λ (k : ℕ) (ps : List (List ℕ)). key_rows k ps (literal_row l)) A.says.keys A.says.component_rows
      ∙ tuples_rows D (keys_of D.template) few_keys l (B.literal_arity a A.listed l m) D.template fits
      (B.keys_kept a A.listed l m)
      B.components_once

  -- and as numbers
  its_words : (l : Literal) → In l a.lits → key_words_in head (literal_row l) ≡ map tuple_word (tuples D l)
  unfolding key_words_in
  its_words l m = ap₂ (λ (k : ℕ) (ts : List (List ℕ)). map (row_word k) ts) A.says.keys (tuples_are l m) ∙ go (tuples D l) (one l m)
    where
      go : (ts : List (List Variable)) → One (keys_of D.template) ts → map (row_word (keys_of D.template)) (map tuple_row ts) ≡ map tuple_word ts
      go ts (inl e) = rw e
      go ts (inr (t, e, q, s)) = rw e (ap (λ (w : ℕ). w ∷ []) (row_word_lem (keys_of D.template) t q))

  pub row_of_lem : (j : ℕ) → j < length a.lits → take 8 (drop (8 * j) rows) ≡ literal_row (get_or a.lits j no_literal)
  row_of_lem j g = ap (λ (t : List ℕ). row_in t j) A.literals ∙ row_at_lem a.lits (λ l m. kept B A.listed m) j g

  pub rows_length : length rows ≡ 8 * length a.lits
  rows_length = ap length A.literals ∙ length_literals a.lits (B.arguments a A.listed)

-- ---- the loop

pub record SoFar (head rows numbers₀ numbers' words₀ words : List ℕ) (count j : ℕ) : Type 0 where
  pub few : count ≤ j
  pub reach : j ≤ length numbers₀
  pub whole : length numbers' ≡ length numbers₀
  pub room : length words ≡ length words₀
  pub is : (D : Domain) (a : Action) → ActionOf D a head rows → Numbered-by D (take j a.lits) numbers₀ numbers' words₀ words count

pub so_far_none : (head rows numbers₀ words₀ : List ℕ) → SoFar head rows numbers₀ numbers₀ words₀ words₀ 0 0
unfolding over flat_map
so_far_none head rows numbers₀ words₀ =
    record { few = omega arith; reach = omega arith; whole = refl; room = refl; is = λ D a A. record { words_are = refl; counted = refl; given = refl } }

numbered_few : (ws : List ℕ) (count : ℕ) (words : List ℕ) → (numbered_by ws count words).count ≤ count + 1
unfolding numbered_by
numbered_few [] count words = omega arith
numbered_few (w ∷ ws) count words = go (eqb (position (eqb w) (take count words)) count)
  where
    go : (b : Bool) → cond b (count + 1) count ≤ count + 1
    go true = omega arith
    go false = omega arith

module _ (head rows numbers₀ numbers' words₀ words words' : List ℕ) (count j : ℕ) (o : NumberedLiteral) (m : length words' ≡ length words) (l : length rows ≡ 8 * length numbers₀)
    (r : length numbers₀ ≤ length words₀)
    (w : SoFar head rows numbers₀ numbers' words₀ words count j)
    (g : j < length numbers₀)
    (e : o ≡ numbered_by (key_words_in head (take 8 (drop (8 * j) rows))) count words)
    (f : words' ≡ words_after (key_words_in head (take 8 (drop (8 * j) rows))) count words) where
  turn : (D : Domain) (a : Action) → ActionOf D a head rows
      → Numbered-by D (take (j + 1) a.lits) numbers₀ (set numbers' j (class_byte o.class)) words₀ words' o.count
  turn D a A = rw (add-one j, take-suc a.lits j no_literal inside) after
    where
      before : Numbered-by D (take j a.lits) numbers₀ numbers' words₀ words count
      before = w.is D a A

      inside : j < length a.lits
      inside = let k = rows_length A in omega arith

      space : length (found (tuples D) (take j a.lits)) < length words₀
      space = let c = before.counted in let k = w.few in omega arith

      x : Literal
      x = get_or a.lits j no_literal

      its : One (keys_of D.template) (tuples D x)
      its = one A x (get_d_in a.lits j no_literal inside)

      -- of the literals so far
      those : (y : Literal) → In y (take j a.lits) → One (keys_of D.template) (tuples D y)
      those y m = one A y (subst (λ (ls : List Literal). In y ls) (take-append-drop j a.lits) (Memᴰ.append_left (drop j a.lits) m))

      keyed_by_lem : key_words_in head (take 8 (drop (8 * j) rows)) ≡ map tuple_word (tuples D x)
      keyed_by_lem =
          ap (key_words_in head) (row_of_lem A j inside)
          ∙ its_words A x (get_d_in a.lits j no_literal inside)

      result : o ≡ record { class = class_in (found (tuples D) (take j a.lits ++ (x ∷ []))) (tuples D x); count = length (found (tuples D) (take j a.lits ++ (x ∷ []))) }
      result =
          e
          ∙ ap (λ (ws : List ℕ). numbered_by ws count words) keyed_by_lem
          ∙ ap₂ (numbered_by (map tuple_word (tuples D x))) before.counted before.words_are
          ∙ numbered_more (tuples D) (keys_of D.template) words₀ (take j a.lits) those x its

      after : Numbered-by D (take j a.lits ++ (x ∷ [])) numbers₀ (set numbers' j (class_byte o.class)) words₀ words' o.count
      after =
          record {
            words_are =
                f
                ∙ ap (λ (ws : List ℕ). words_after ws count words) keyed_by_lem
                ∙ ap₂ (words_after (map tuple_word (tuples D x))) before.counted before.words_are
                ∙ words_more (tuples D) (keys_of D.template) words₀ (take j a.lits) those x its space;
            counted = ap (λ (p : NumberedLiteral). p.count) result;
            given =
                ap₂ (λ (t : List ℕ) (v : ℕ). set t j v) before.given (ap (λ (p : NumberedLiteral). class_byte p.class) result ∙ class_in_byte (found (tuples D) (take j a.lits ++ (x ∷ []))) (tuples D x))
                ∙ over_more (numbers (tuples D) (take j a.lits)) numbers₀ j (class_number_by (found (tuples D) (take j a.lits ++ (x ∷ []))) (tuples D x))
                (length-map (take j a.lits) (λ y. class_number_by (found (tuples D) (take j a.lits)) (tuples D y)) ∙ length-take-le j a.lits (omega (arith, inside)))
                g
                ∙ ap (λ (t : List ℕ). over t numbers₀) (sym (numbers_more (tuples D) (take j a.lits) x its));
          }

  pub so_far_more : SoFar head rows numbers₀ (set numbers' j (class_byte o.class)) words₀ words' o.count (j + 1)
  so_far_more =
      record {
        few =
            let k = numbered_few (key_words_in head (take 8 (drop (8 * j) rows))) count words in
            let q = ap (λ (p : NumberedLiteral). p.count) e in
            let u = w.few in
            omega arith;
        reach = omega arith;
        whole = length-set numbers' j (class_byte o.class) ∙ w.whole;
        room = m ∙ w.room;
        is = turn;
      }

pub so_far_all : (head rows numbers₀ numbers' words₀ words : List ℕ) (count j : ℕ) → length rows ≡ 8 * length numbers₀
    → SoFar head rows numbers₀ numbers' words₀ words count j → length numbers₀ ≤ j
    → (D : Domain) (a : Action) → ActionOf D a head rows
    → (count ≡ length (classes D a)) × (numbers' ≡ class_numbers D a)
unfolding class_numbers classes over
so_far_all head rows numbers₀ numbers' words₀ words count j l w g D a A = (
  now.counted ∙ ap (λ (ls : List Literal). length (found (tuples D) ls)) done,
  now.given ∙ ap (λ (ls : List Literal). over (numbers (tuples D) ls) numbers₀) done ∙ covers,
)
  where
    now : Numbered-by D (take j a.lits) numbers₀ numbers' words₀ words count
    now = w.is D a A

    done : take j a.lits ≡ a.lits
    done = let k = rows_length A in take_all j a.lits (omega arith)

    covers : over (numbers (tuples D) a.lits) numbers₀ ≡ numbers (tuples D) a.lits
    covers =
        let k = rows_length A in
        let n = length-map a.lits (λ y. class_number_by (found (tuples D) a.lits) (tuples D y)) in
        ap (λ (t : List ℕ). numbers (tuples D) a.lits ++ t) (drop_of_length-le numbers₀ {i = length (numbers (tuples D) a.lits)} (omega arith))
        ∙ append-nil (numbers (tuples D) a.lits)

-- ---- the key tuple of a class

module _ {D : Domain} {a : Action} {head rows numbers' : List ℕ} (A : ActionOf D a head rows) (e : numbers' ≡ class_numbers D a) {k : ℕ} (h : k < length (classes D a)) where
  abbrev its_tuple : List Variable
  its_tuple = get_or (classes D a) k []

  -- the number of the literal j tells whether it belongs to the class
  told : (j : ℕ) → j < length a.lits → eqb (get_or numbers' j 0) k ≡ belongs D its_tuple (literal_at a.lits j).atom
  told j g = ap (λ (t : List ℕ). eqb (get_or t j 0) k) e ∙ member k (B A) A.listed h j g

  -- a literal with its number has its tuple
  pub tuple_found : (j : ℕ) → 8 * j < length rows → get_or numbers' j 0 ≡ k → only_row (key_rows_in head (take 8 (drop (8 * j) rows))) ≡ tuple_row its_tuple
  unfolding literal_tuples
  tuple_found j g q =
      ap (λ (t : List ℕ). only_row (key_rows_in head t)) (row_of_lem A j inside)
      ∙ ap only_row (tuples_are A x (get_d_in a.lits j no_literal inside))
      ∙ go (tuples D x) (one A x (get_d_in a.lits j no_literal inside)) (sym (told j inside) ∙ eq-eqb (get_or numbers' j 0) k q)
    where
      inside : j < length a.lits
      inside = let l = rows_length A in omega arith

      x : Literal
      x = get_or a.lits j no_literal

      go : (ts : List (List Variable)) → One (keys_of D.template) ts → any (λ t. same_list same_variable t its_tuple) ts ≡ true → only_row (map tuple_row ts) ≡ tuple_row its_tuple
      go [] o b = absurd (clash b refl)
      go (t ∷ []) o b = ap tuple_row (variables_eq t its_tuple (or_none _ b))
      go (t ∷ u ∷ ts) (inl z) b = let w = ap length z in absurd (omega arith)
      go (t ∷ u ∷ ts) (inr (y, z, q, s)) b = let w = ap length z in absurd (omega arith)

  -- every class has such a literal
  pub tuple_somewhere : ((j : ℕ) → j < length numbers' → eqb (get_or numbers' j 0) k ≡ false) → ⊥
  unfolding classes class_numbers literal_tuples
  tuple_somewhere none =
      let d = dedup_in (same_list same_variable) (flat_map (tuples D) a.lits) (get_d_in (classes D a) k [] h) in
      let f = flat_map_in (tuples D) a.lits d in
      let i = in_get_d a.lits no_literal f.1 in
      let inside = i.1 in
      let n = ap length e ∙ length-map a.lits (λ (l : Literal). class_number_by (classes D a) (literal_tuples D l.atom)) in
      let w : i.0 < length numbers' = omega arith in
      clash (told i.0 inside ∙ ap (λ (y : Literal). belongs D its_tuple y.atom) i.2 ∙ in_any (λ t. same_list same_variable t its_tuple) f.2 (variables_self its_tuple)) (none i.0 w)

-- no literal before j has the number, nor has the literal j
pub none_more : (numbers' : List ℕ) (k j : ℕ) → ((i : ℕ) → i < j → eqb (get_or numbers' i 0) k ≡ false) → eqb (get_or numbers' j 0) k ≡ false
    → (i : ℕ) → i < j + 1 → eqb (get_or numbers' i 0) k ≡ false
none_more numbers' k j none e i h = go (bool_cases (eqb i j))
  where
    go : (eqb i j ≡ true) ⊎ (eqb i j ≡ false) → eqb (get_or numbers' i 0) k ≡ false
    go (inl t) = ap (λ (m : ℕ). eqb (get_or numbers' m 0) k) (eqb-true i j t) ∙ e
    go (inr f) = let g = eqb-false i j f in none i (omega arith)
