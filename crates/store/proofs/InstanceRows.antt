-- Key tuples of facts by the bytes of their rows: the loops that find, weigh and compare them, and what they find in a domain. Assumes nothing.
use mathlib.Core.Path.{◌≡◌, refl, sym, ap, ap₂, ◌∙◌}
use mathlib.Core.Bool.{Bool, true, false, ◌&&◌, ◌||◌, not, cond}
use mathlib.Core.Logic.{◌⊎◌, inl, inr}
use mathlib.Core.List.Memᴰ
use mathlib.Core.List.{List, [], ◌∷◌, ◌++◌, map, flat_map, map-append}
use Prim.Native.Nat.{ℕ, zero, suc, ◌+◌, ◌-◌, ◌*◌, ◌≤◌, ◌<◌, max}
use native.Mathlib.Omega.{arith}
use lib.Dec.{eqb}
use lib.ListN.{length, get_or, take, drop, replicate, length-map}
use lib.Pointwise.{pointwise}
use Rattle.std.specs.Prelude.{Some, None}
use Rattle.std.specs.List.{fold, filter}
use lib.Seq.{drop-drop}
use Rattle.records.specs.Lists.{In, add_if, keep_if, any, same_list, position, count_by, numbers_from, below}
use Rattle.records.proofs.Lists.{count_map, and_i, or_r, and_r, eqb_same, eqb_comm, same_list_self, same_list_comm, flat_map_in}
use Rattle.literals.specs.declared.Variable.{Variable}
use Rattle.literals.specs.declared.Object.{Object}
use Rattle.literals.specs.declared.Time.TheVariants.{AtStart}
use Rattle.literals.specs.declared.Usage.TheVariants.{Positive}
use Rattle.literals.specs.declared.Argument.{Argument}
use Rattle.literals.specs.declared.Argument.TheVariants.{Variable as bound}
use Rattle.literals.specs.declared.Label.{Label}
use Rattle.literals.specs.Domain.{variable, same_object, variables_of, Fact, Literal, Component, is_counted, keys_bound, keeps_keys, keys_of}
use Rattle.literals.specs.Domain.{Domain}
use Rattle.literals.specs.Decode.{byte}
use Rattle.literals.specs.Held.{argument_number, row_of, literal_row, component_row, rows_in, components_in, keys_in, component_row_in}
use Rattle.literals.specs.Held.{component_rows_in, HeadOf, TemplateOf, under_keys, key_row, key_rows, starts}
use Rattle.literals.proofs.Bytes.{keys_once}
use Rattle.literals.proofs.Rows.{part_first}
use Rattle.literals.proofs.Held.{keys_few}
use Rattle.literals.proofs.Heads.{parts_length, part_row, template_of}
use Rattle.literals.specs.Matching.{key_tuple, is_of, tuples_by, tuples_of, has_tuple}
use Rattle.classes.specs.Held.{tuple_row}
use Rattle.literals.proofs.Chains.{rows_are}
use Rattle.classes.proofs.Numbers.{tuples_rows}
use Rattle.verdict.specs.Judged.{object_numbers}
use Rattle.verdict.specs.Machine.{weight, instances_in, largest}
use Rattle.verdict.proofs.Tuples.{key_tuple_map, component_of_lem}
use Rattle.store.specs.Held.{FactFits, instance_rows, top_from, keyed_by, row_weight, top_rows}
use Rattle.verdict.proofs.TopWeight.{tuple_size}
use borrow.Author.Tests.{eqb-true}
use Rattle.verdict.specs.Held.{fact_row}

-- ---- rows that are the same, by the library's test

pub pointwise_same : (xs ys : List ℕ) → pointwise eqb xs ys ≡ same_list eqb xs ys
pointwise_same [] [] = refl
pointwise_same [] (y ∷ ys) = refl
pointwise_same (x ∷ xs) [] = refl
pointwise_same (x ∷ xs) (y ∷ ys) = ap (λ (b : Bool). eqb x y && b) (pointwise_same xs ys)

-- ---- the key tuple of a row, by the place of its component

module _ (keys r : ℕ) (row : List ℕ) (e : byte row 0 ≡ r) where
  instance_none : (ps : List (List ℕ)) → position (starts r) ps ≡ length ps → instance_rows keys ps row ≡ []
  unfolding instance_rows
  instance_none [] h = refl
  instance_none (p ∷ ps) h = rw e (go (starts r p) (instance_none ps) h)
    where
      go : (b : Bool) → (position (starts r) ps ≡ length ps → instance_rows keys ps row ≡ []) → cond b zero (suc (position (starts r) ps)) ≡ suc (length ps)
          → cond b (key_row keys p row ∷ []) (instance_rows keys ps row) ≡ []
      go true ih k = absurd (omega arith)
      go false ih k = ih (omega arith)

  instance_one : (ps : List (List ℕ)) → (position (starts r) ps ≡ length ps → ⊥) → instance_rows keys ps row ≡ key_row keys (get_or ps (position (starts r) ps) []) row ∷ []
  unfolding instance_rows
  instance_one [] h = absurd (h refl)
  instance_one (p ∷ ps) h = rw e (go (starts r p) (instance_one ps) h)
    where
      go : (b : Bool) → ((position (starts r) ps ≡ length ps → ⊥) → instance_rows keys ps row ≡ key_row keys (get_or ps (position (starts r) ps) []) row ∷ [])
          → (cond b zero (suc (position (starts r) ps)) ≡ suc (length ps) → ⊥)
          → cond b (key_row keys p row ∷ []) (instance_rows keys ps row) ≡ key_row keys (get_or (p ∷ ps) (cond b zero (suc (position (starts r) ps))) []) row ∷ []
      go true ih k = refl
      go false ih k = ih (λ z. k (ap suc z))

-- the fact at an offset, by the place of its relation's component
module _ (head memory : List ℕ) (at : ℕ) where
  pub unmatched : position (starts (get_or memory at 0)) (component_rows_in head) ≡ components_in head
      → None ≡ keyed_by (instance_rows (keys_in head) (component_rows_in head) (take 8 (drop at memory)))
  unfolding keyed_by
  unmatched f =
      rw (instance_none (keys_in head) (get_or memory at 0) (take 8 (drop at memory)) (part_first memory at) (component_rows_in head) (f ∙ sym (parts_length head)))

  pub matched : (c : ℕ) → c ≡ position (starts (get_or memory at 0)) (component_rows_in head) → c < components_in head
      → (t : List ℕ) → t ≡ key_row (keys_in head) (component_row_in head c) (take 8 (drop at memory))
      → Some t ≡ keyed_by (instance_rows (keys_in head) (component_rows_in head) (take 8 (drop at memory)))
  unfolding keyed_by
  matched c e v t f =
      sym (ap keyed_by
      (instance_one (keys_in head) (get_or memory at 0) (take 8 (drop at memory)) (part_first memory at) (component_rows_in head) (λ z. let l = parts_length head in omega arith)
      ∙ ap (λ (k : ℕ). key_row (keys_in head) (get_or (component_rows_in head) k []) (take 8 (drop at memory)) ∷ []) (sym e)
      ∙ ap (λ (p : List ℕ). key_row (keys_in head) p (take 8 (drop at memory)) ∷ []) (part_row head c v)
      ∙ ap (λ (x : List ℕ). x ∷ []) (sym f)))

-- ---- none or one

abbrev pub Single : List (List ℕ) → Type 0
Single ts = (ts ≡ []) ⊎ ((t : List ℕ) × (ts ≡ t ∷ []))

pub single : (keys : ℕ) (ps : List (List ℕ)) (row : List ℕ) → Single (instance_rows keys ps row)
unfolding instance_rows
single keys [] row = inl refl
single keys (p ∷ ps) row = go (eqb (byte row 0) (byte p 0)) (single keys ps row)
  where
    go : (b : Bool) → Single (instance_rows keys ps row) → Single (cond b (key_row keys p row ∷ []) (instance_rows keys ps row))
    go true h = inr (key_row keys p row, refl)
    go false h = h

module _ (keys : ℕ) (ps : List (List ℕ)) (fact : List ℕ) where
  pub keyed_none : None ≡ keyed_by (instance_rows keys ps fact) → instance_rows keys ps fact ≡ []
  unfolding keyed_by
  keyed_none e = go (single keys ps fact)
    where
      go : Single (instance_rows keys ps fact) → instance_rows keys ps fact ≡ []
      go (inl f) = f
      go (inr (t, f)) = let q : None ≡ Some t = e ∙ ap keyed_by f in absurd (let z : ◌≡◌ {A = ℕ} 0 1 = cc in omega arith)

  pub keyed_one : (row : List ℕ) → Some row ≡ keyed_by (instance_rows keys ps fact) → instance_rows keys ps fact ≡ row ∷ []
  unfolding keyed_by
  keyed_one row e = go (single keys ps fact)
    where
      go : Single (instance_rows keys ps fact) → instance_rows keys ps fact ≡ row ∷ []
      go (inl f) = let q : Some row ≡ None = e ∙ ap keyed_by f in absurd (let z : ◌≡◌ {A = ℕ} 0 1 = cc in omega arith)
      go (inr (t, f)) = let q : Some row ≡ Some t = e ∙ ap keyed_by f in let z : row ≡ t = cc in f ∙ ap (λ (x : List ℕ). x ∷ []) (sym z)

-- ---- the weight of a row, fact by fact

-- a fact with its key tuple, or without
pub has_none : (keys : ℕ) (ps : List (List ℕ)) (fact row : List ℕ) → instance_rows keys ps fact ≡ [] → false ≡ any (same_list eqb row) (instance_rows keys ps fact)
has_none keys ps fact row e = rw e

pub has_one : (keys : ℕ) (ps : List (List ℕ)) (fact row other : List ℕ) → instance_rows keys ps fact ≡ other ∷ []
    → pointwise eqb row other ≡ any (same_list eqb row) (instance_rows keys ps fact)
has_one keys ps fact row other e = rw e (pointwise_same row other ∙ unit (same_list eqb row other))
  where
    unit : (b : Bool) → b ≡ b || false
    unit true = refl
    unit false = refl

length_filter : {A : Type 0} (p : A → Bool) (xs : List A) → length (filter p xs) ≡ count_by p xs
length_filter p [] = refl
length_filter {A} p (x ∷ xs) = go (p x) (length_filter p xs)
  where
    go : (b : Bool) → length (filter p xs) ≡ count_by p xs → length (cond b (x ∷ filter p xs) (filter p xs)) ≡ add_if b (count_by p xs)
    go true h = ap suc h
    go false h = h

-- those among the first n facts
pub weigh_all : (keys : ℕ) (ps : List (List ℕ)) (memory row : List ℕ) (n : ℕ)
    → length (filter (λ i. any (same_list eqb row) (instance_rows keys ps (take 8 (drop (8 * i) memory)))) (below n)) ≡ row_weight keys ps (rows_in n memory) row
unfolding row_weight
weigh_all keys ps memory row n =
    length_filter (λ i. any (same_list eqb row) (instance_rows keys ps (take 8 (drop (8 * i) memory)))) (below n)
    ∙ sym
    (ap (count_by (λ fact. any (same_list eqb row) (instance_rows keys ps fact))) (rows_are 8 memory n 0)
    ∙ count_map (λ i. take 8 (drop (8 * i) memory)) (λ fact. any (same_list eqb row) (instance_rows keys ps fact)) _ (λ i. refl) (below n))

-- ---- the highest weight, fact by fact

abbrev pub top_of : ℕ → List (List ℕ) → List (List ℕ) → List (List ℕ) → ℕ
top_of keys ps facts rows = largest (map (row_weight keys ps facts) (flat_map (instance_rows keys ps) rows))

largest_append : {A : Type 0} (f : A → ℕ) (xs ys : List A) → largest (map f (xs ++ ys)) ≡ max (largest (map f xs)) (largest (map f ys))
largest_append f [] ys = omega arith
largest_append f (x ∷ xs) ys = let h = largest_append f xs ys in omega arith

module _ (keys : ℕ) (ps facts : List (List ℕ)) (fact : List ℕ) (least : ℕ) where
  pub higher_none : instance_rows keys ps fact ≡ [] → least ≡ max least (largest (map (row_weight keys ps facts) (instance_rows keys ps fact)))
  higher_none e = rw e (omega arith)

  module _ (row : List ℕ) (e : instance_rows keys ps fact ≡ row ∷ []) (w : ℕ) (f : w ≡ row_weight keys ps facts row) where
    pub higher_one : {r : ℕ} → r ≡ max least w → r ≡ max least (largest (map (row_weight keys ps facts) (instance_rows keys ps fact)))
    higher_one h = rw e (omega arith)

    pub higher_old : w ≤ least → least ≡ max least (largest (map (row_weight keys ps facts) (instance_rows keys ps fact)))
    higher_old h = rw e (omega arith)

-- what one fact makes of the highest so far
abbrev pub higher : ℕ → List (List ℕ) → List (List ℕ) → ℕ → List ℕ → ℕ
higher keys ps facts top fact = max top (largest (map (row_weight keys ps facts) (instance_rows keys ps fact)))

-- n facts from row i on
pub top_folded : (keys : ℕ) (ps facts : List (List ℕ)) (memory : List ℕ) (n i top : ℕ)
    → fold (λ (t i : ℕ). higher keys ps facts t (take 8 (drop (8 * i) memory))) top (numbers_from i n) ≡ max top (top_of keys ps facts (rows_in n (drop (8 * i) memory)))
unfolding flat_map
top_folded keys ps facts memory zero i top = omega arith
top_folded keys ps facts memory (suc n) i top =
    let fact : List ℕ = take 8 (drop (8 * i) memory) in
    let next : drop 8 (drop (8 * i) memory) ≡ drop (8 * (i + 1)) memory = drop-drop 8 (8 * i) memory ∙ ap (λ (k : ℕ). drop k memory) (omega arith) in
    let f = largest_append (row_weight keys ps facts) (instance_rows keys ps fact) (flat_map (instance_rows keys ps) (rows_in n (drop (8 * (i + 1)) memory))) in
    let ih = top_folded keys ps facts memory n (i + 1) (higher keys ps facts top fact) in
    rw next (omega arith)

-- the rows from one place on
rows_drop : (n from : ℕ) (t : List ℕ) → drop from (rows_in n t) ≡ rows_in (n - from) (drop (8 * from) t)
rows_drop zero zero t = refl
rows_drop zero (suc k) t = let e : 0 - suc k ≡ 0 = omega arith in rw e
rows_drop (suc n) zero t = let e : suc n - 0 ≡ suc n = omega arith in rw e
rows_drop (suc n) (suc k) t =
    let e : suc n - suc k ≡ n - k = omega arith in
    let f : 8 + 8 * k ≡ 8 * suc k = omega arith in
    rows_drop n k (drop 8 t) ∙ ap (rows_in (n - k)) (drop-drop (8 * k) 8 t) ∙ ap₂ (λ (m p : ℕ). rows_in m (drop p t)) (sym e) f

pub top_rows_lem : (keys : ℕ) (ps : List (List ℕ)) (memory : List ℕ) (n from : ℕ)
    → top_of keys ps (rows_in n memory) (rows_in (n - from) (drop (8 * from) memory)) ≡ top_rows keys ps (rows_in n memory) from
unfolding top_rows
top_rows_lem keys ps memory n from = ap (top_of keys ps (rows_in n memory)) (sym (rows_drop n from memory))

-- ---- the key tuples of a fact of a domain, by its row

-- a literal with the fact's numbers for variables: its row has the same arguments
abbrev as_argument : Object → Argument
as_argument o = bound (variable o.0)

abbrev as_literal : Fact → Literal
as_literal f = record { role = record { time = AtStart; usage = Positive }; atom = record { rel = f.rel; args = map as_argument f.args } }

numbers_same : (os : List Object) → map argument_number (map as_argument os) ≡ object_numbers os
numbers_same [] = refl
numbers_same (o ∷ os) = ap {B = List ℕ} (λ l. o.0 ∷ l) (numbers_same os)

variables_same : (os : List Object) → map (λ (v : Variable). v.0) (variables_of (map as_argument os)) ≡ object_numbers os
variables_same [] = refl
variables_same (o ∷ os) = ap {B = List ℕ} (λ l. o.0 ∷ l) (variables_same os)

-- it has no FF, so that no key stands there
no_every : (c : Component) (f : Fact) → keeps_keys c (as_literal f).atom ≡ true
no_every c f = or_r (not (eqb c.rel f.rel)) (go c.labels f.args)
  where
    go : (ls : List Label) (os : List Object) → keys_bound ls (map as_argument os) ≡ true
    go [] os = refl
    go (l ∷ ls) [] = refl
    go (l ∷ ls) (o ∷ os) = and_i {a = is_counted l || true} (or_r (is_counted l) refl) (go ls os)

-- the key tuple of objects, as a row
abbrev pub objects_row : List Object → List ℕ
objects_row y = row_of (object_numbers y)

module _ (n : ℕ) (f : Fact) where
  arguments_same : drop 2 (literal_row (as_literal f)) ≡ drop 2 (fact_row f)
  arguments_same =
      let e : 8 - suc (suc (length (map argument_number (map as_argument f.args)))) ≡ 6 - length f.args =
      let g = length-map (map as_argument f.args) argument_number in let h = length-map f.args as_argument in omega arith in
      ap₂ (λ (l : List ℕ) (m : ℕ). l ++ replicate m 255) (numbers_same f.args) e

  rows_same : (ps : List (List ℕ)) → instance_rows n ps (fact_row f) ≡ key_rows n ps (literal_row (as_literal f))
  unfolding instance_rows key_rows key_row
  rows_same [] = refl
  rows_same (p ∷ ps) =
      ap₂ (λ (row : List ℕ) (rest : List (List ℕ)). cond (eqb f.rel (byte p 0)) (row_of (under_keys n (drop 1 p) row) ∷ []) rest) (sym arguments_same) (rows_same ps)

  tuples_same : (cs : List Component) → tuples_by n cs (as_literal f).atom ≡ map (map as_argument) (tuples_by n cs f)
  tuples_same [] = refl
  tuples_same (c ∷ cs) = rw (length-map f.args as_argument) (go (is_of c f) (tuples_same cs))
    where
      go : (t : Bool) → tuples_by n cs (as_literal f).atom ≡ map (map as_argument) (tuples_by n cs f)
          → keep_if t (key_tuple n c.labels (map as_argument f.args)) (tuples_by n cs (as_literal f).atom) ≡ map (map as_argument) (keep_if t (key_tuple n c.labels f.args) (tuples_by n cs f))
      go true h = ap₂ ◌∷◌ (key_tuple_map as_argument n c.labels f.args) h
      go false h = h

rows_back : (ts : List (List Object)) → map tuple_row (map variables_of (map (map as_argument) ts)) ≡ map objects_row ts
rows_back [] = refl
rows_back (t ∷ ts) = ap₂ ◌∷◌ (ap row_of (variables_same t)) (rows_back ts)

-- ---- two key tuples have the same row where they are the same

pub same_numbers : (x y : List Object) (fill : List ℕ) → length x ≡ length y → same_list eqb (object_numbers x ++ fill) (object_numbers y ++ fill) ≡ same_list same_object x y
same_numbers [] [] fill e = same_list_self eqb eqb_same fill
same_numbers [] (y ∷ ys) fill e = absurd (omega arith)
same_numbers (x ∷ xs) [] fill e = absurd (omega arith)
same_numbers (x ∷ xs) (y ∷ ys) fill e = ap (λ (b : Bool). same_object x y && b) (same_numbers xs ys fill (omega arith))

same_rows : (x y : List Object) → length x ≡ length y → same_list eqb (objects_row x) (objects_row y) ≡ same_list same_object y x
same_rows x y e =
    let f : length (object_numbers x) ≡ length (object_numbers y) = length-map x (λ (o : Object). o.0) ∙ e ∙ sym (length-map y (λ (o : Object). o.0)) in
    ap (λ (k : ℕ). same_list eqb (object_numbers x ++ replicate (8 - k) 255) (objects_row y)) f
    ∙ same_numbers x y (replicate (8 - length (object_numbers y)) 255) e
    ∙ same_list_comm same_object (λ o p. eqb_comm o.0 p.0) x y

-- ---- from one place on

drop_map : (from : ℕ) (fs : List Fact) → drop from (map fact_row fs) ≡ map fact_row (drop from fs)
drop_map zero fs = refl
drop_map (suc n) [] = refl
drop_map (suc n) (f ∷ fs) = drop_map n fs

dropped : (from : ℕ) (fs : List Fact) {f : Fact} → In f (drop from fs) → In f fs
dropped zero fs m = m
dropped (suc n) [] m = m
dropped (suc n) (g ∷ fs) m = Memᴰ.tail (dropped n fs m)

-- ---- in a domain that an index holds

any_same : (y : List Object) (ts : List (List Object)) → ((t : List Object) → In t ts → length y ≡ length t)
    → any (same_list eqb (objects_row y)) (map objects_row ts) ≡ any (λ t. same_list same_object t y) ts
any_same y [] h = refl
any_same y (t ∷ ts) h = ap₂ ◌||◌ (same_rows y t (h t (Memᴰ.head refl))) (any_same y ts (λ u m. h u (Memᴰ.tail m)))

module _ {D : Domain} {head : List ℕ} (h : TemplateOf D head) where
  few_keys : keys_of D.template ≤ 6
  few_keys = keys_few D.template h.bounded.labels

  -- the key tuples of a fact
  pub instances_are : (f : Fact) → FactFits D f → instance_rows (keys_in head) (component_rows_in head) (fact_row f) ≡ map objects_row (tuples_of D f)
  unfolding tuples_of
  instances_are f k =
      ap₂ (λ (n : ℕ) (ps : List (List ℕ)). instance_rows n ps (fact_row f)) h.keys h.component_rows
      ∙ rows_same (keys_of D.template) f (map component_row D.template)
      ∙ tuples_rows D (keys_of D.template) few_keys (as_literal f) (length-map f.args as_argument ∙ k.sized) D.template
      (λ c m. record { arguments = h.bounded.component_arity c m; keys = keys_once _ _ (h.bounded.keys_fit c m) }) (λ c m. no_every c f) h.bounded.components_once
      ∙ ap (λ (ts : List (List Argument)). map tuple_row (map variables_of ts)) (tuples_same (keys_of D.template) f D.template)
      ∙ rows_back (tuples_by (keys_of D.template) D.template f)

  -- one object a key
  tuple_keys : (f : Fact) (t : List Object) → In t (tuples_of D f) → length t ≡ keys_of D.template
  tuple_keys f t m =
      let c = component_of_lem D f m in
      ap length c.3 ∙ tuple_size (keys_of D.template) c.0.labels f.args (eqb-true _ _ (and_r (eqb c.0.rel f.rel) _ c.2)) (keys_once _ _ (h.bounded.keys_fit c.0 c.1))

  module _ (y : List Object) (e : length y ≡ keys_of D.template) where
    -- the weight of an instance
    pub weight_is : (fs : List Fact) → ((f : Fact) → In f fs → FactFits D f)
        → row_weight (keys_in head) (component_rows_in head) (map fact_row fs) (objects_row y) ≡ weight D y fs
    unfolding row_weight weight has_tuple
    weight_is [] fit = refl
    weight_is (f ∷ fs) fit =
        ap₂ add_if
        (ap (any (same_list eqb (objects_row y))) (instances_are f (fit f (Memᴰ.head refl))) ∙ any_same y (tuples_of D f) (λ t m. e ∙ sym (tuple_keys f t m)))
        (weight_is fs (λ g m. fit g (Memᴰ.tail m)))

  flat_rows : (fs : List Fact) → ((f : Fact) → In f fs → FactFits D f)
      → flat_map (instance_rows (keys_in head) (component_rows_in head)) (map fact_row fs) ≡ map objects_row (instances_in D fs)
  unfolding flat_map instances_in
  flat_rows [] fit = refl
  flat_rows (f ∷ fs) fit =
      ap₂ ◌++◌ (instances_are f (fit f (Memᴰ.head refl))) (flat_rows fs (λ g m. fit g (Memᴰ.tail m)))
      ∙ sym (map-append objects_row (tuples_of D f) (instances_in D fs))

  instance_keys : (fs : List Fact) (y : List Object) → In y (instances_in D fs) → length y ≡ keys_of D.template
  unfolding instances_in
  instance_keys fs y m = let r = flat_map_in (tuples_of D) fs m in tuple_keys r.0 y r.2

  -- the weights of some instances
  weights_are : (fs : List Fact) → ((f : Fact) → In f fs → FactFits D f) → (ys : List (List Object)) → ((y : List Object) → In y ys → length y ≡ keys_of D.template)
      → map (row_weight (keys_in head) (component_rows_in head) (map fact_row fs)) (map objects_row ys) ≡ map (λ y. weight D y fs) ys
  weights_are fs fit [] k = refl
  weights_are fs fit (y ∷ ys) k = ap₂ ◌∷◌ (weight_is y (k y (Memᴰ.head refl)) fs fit) (weights_are fs fit ys (λ z m. k z (Memᴰ.tail m)))

  pub top_is : (fs : List Fact) → ((f : Fact) → In f fs → FactFits D f) → (from : ℕ)
      → top_rows (keys_in head) (component_rows_in head) (map fact_row fs) from ≡ top_from D fs from
  unfolding top_rows top_from
  top_is fs fit from =
      ap (λ (rows : List (List ℕ)). top_of (keys_in head) (component_rows_in head) (map fact_row fs) rows) (drop_map from fs)
      ∙ ap (λ (rows : List (List ℕ)). largest (map (row_weight (keys_in head) (component_rows_in head) (map fact_row fs)) rows)) (flat_rows (drop from fs) (λ f m. fit f (dropped from fs m)))
      ∙ ap largest (weights_are fs fit (instances_in D (drop from fs)) (instance_keys (drop from fs)))

-- as the code holds them
pub top_held : (head memory : List ℕ) (n from : ℕ) (D : Domain) (fs : List Fact) → HeadOf D head → rows_in n memory ≡ map fact_row fs → ((f : Fact) → In f fs → FactFits D f)
    → top_rows (keys_in head) (component_rows_in head) (rows_in n memory) from ≡ top_from D fs from
top_held head memory n from D fs h e fit = ap (λ (rows : List (List ℕ)). top_rows (keys_in head) (component_rows_in head) rows from) e ∙ top_is (template_of h) fs fit from
