-- The witness that the code writes is the definition's: from the rows of literals, components and classes to facts. Assumes nothing.
use Rattle.std.specs.Prelude.{Option, Some}
use mathlib.Core.Path.{◌≡◌, refl, sym, ap, ap₂, ◌∙◌}
use mathlib.Core.Bool.{Bool, true, false, ◌&&◌, not, cond, true≢false}
use mathlib.Core.List.Memᴰ
use mathlib.Core.List.{List, [], ◌∷◌, ◌++◌, map, flat_map, append-nil, append_assoc}
use Prim.Native.Nat.{ℕ, zero, suc, ◌+◌, ◌-◌, ◌*◌, ◌≤◌, ◌<◌}
use native.Mathlib.Numerals.{add-one}
use native.Mathlib.Omega.{arith}
use lib.Dec.{eqb, leb}
use lib.ListN.{length, get_or, take, drop, replicate, length-append, length-map, length-drop}
use lib.Seq.{take_all, length-take-le, paste}
use borrow.Author.Tests.{lt-ltb, le-leb, lt-leb}
use Rattle.records.specs.Lists.{In, keep_if, filter_by, count_by, all, position, numbers_from}
use Rattle.records.specs.Memory.{over}
use Rattle.records.proofs.Lists.{get_d_in, all_of}
use Rattle.records.proofs.Memory.{over_paste}
use Rattle.literals.specs.declared.Variable.{Variable}
use Rattle.literals.specs.declared.Argument.{Argument}
use Rattle.literals.specs.declared.Object.{Object}
use Rattle.literals.specs.declared.Usage.TheVariants.{Positive, Add, Delete}
use Rattle.literals.specs.Domain.{object, is_every, variables_of, Atom, Fact, Literal, Action, Component, keeps_keys, keys_of, Domain, action}
use Rattle.literals.specs.Held.{argument_number, row_of, literal_row, rows_in, pad, Bounded, arity_in, component_row_in, TemplateOf, Held}
use Rattle.literals.specs.Held.{SpanFits}
use Rattle.literals.specs.declared.span.Span.{Span}
use Rattle.literals.proofs.Arguments.{plain_numbers}
use Rattle.literals.proofs.Bytes.{keys_once}
use Rattle.literals.proofs.Rows.{length_row}
use Rattle.literals.proofs.Tables.{rows_flat, length_literals, length_literal_row}
use Rattle.literals.proofs.Bounds.{arity_six as arity-most}
use Rattle.literals.proofs.Held.{keys_few as keys-most}
use Rattle.literals.proofs.Heads.{bytes_front, action_in}
use Rattle.literals.specs.declared.Moment.{Moment}
use Rattle.literals.specs.declared.Moment.TheVariants.{Start, End}
use Rattle.literals.specs.contracts.Moment.{the_type}
use denote.Enum.Bare.{sameb}
use Rattle.classes.specs.declared.Name.{Name}
use Rattle.classes.specs.declared.Name.TheVariants.{Unreachable, Irrelevant, Heavy, Balanced, Unbalanced, Bounded as bounded, Unbounded}
use Rattle.literals.specs.Matching.{required}
use Rattle.classes.specs.Classes.{classes, in_class, reach_in, lasts_in, changed_by, covered, excluding, name_number, name_by, name_of}
use Rattle.classes.specs.Held.{ActionOf, tuple_row, usages_by, asked_usages, place_below, uncovered_at}
use Rattle.classes.proofs.Rows.{no_literal}
use Rattle.classes.proofs.Usages.{length_usages, required_at}
use Rattle.classes.proofs.Members.{classes_few}
use Rattle.verdict.specs.Binding.{value_of, bind, bind_tuple, same_numbers, spare}
use Rattle.verdict.specs.Decision.{fault_by, instance_fact, first_uncovered, witness_by, witness_at, shown_at}
use Rattle.verdict.specs.Judged.{object_numbers, fact_bytes}
use Rattle.verdict.specs.Held.{fact_row}
use Rattle.witness.specs.Held.{fits_in, shown_in, condition_facts, RefusedAt, ShownAt, first_usages, select_by, is_condition, condition_of}
use Rattle.witness.specs.Held.{conditions_of}
use Rattle.store.specs.Held.{instance_bytes_in}
use Rattle.store.proofs.InstanceRows.{objects_row}
use Rattle.store.proofs.InstanceFacts.{no_component, length_instance_at, instance_is as row-of}
use Rattle.verdict.proofs.Tuples.{Below, tuple_below}
use Rattle.verdict.proofs.Objects.{value_numbers}
use Rattle.verdict.proofs.Acts.{class_in, asked_plain}
use Rattle.verdict.proofs.Instances.{class_keys}
use Rattle.witness.proofs.Facts.{length_select, length_conditions}

-- ---- the bytes of facts

facts_append : (fs gs : List Fact) → fact_bytes (fs ++ gs) ≡ fact_bytes fs ++ fact_bytes gs
unfolding fact_bytes
facts_append [] gs = refl
facts_append (f ∷ fs) gs =
    let n : List ℕ = object_numbers f.args in
    let r : List ℕ = replicate (6 - length f.args) 255 in
    ap {B = List ℕ} (λ l. f.rel ∷ length f.args ∷ l)
    (ap (λ (t : List ℕ). n ++ (r ++ t)) (facts_append fs gs)
    ∙ ap (λ (t : List ℕ). n ++ t) (sym (append_assoc r (fact_bytes fs) (fact_bytes gs)))
    ∙ sym (append_assoc n (r ++ fact_bytes fs) (fact_bytes gs)))

-- ---- a true condition's fact

module _ (a : Action) (head : List ℕ) where
  -- it has no FF
  condition_fact : (l : Literal) (fs : List Fact) → arity_in head l.atom.rel ≡ length l.atom.args → count_by is_every l.atom.args ≡ 0
      → Below a.vars (variables_of l.atom.args)
      → condition_of head (literal_row l) ++ fact_bytes fs ≡ fact_bytes (bind (same_numbers a) l.atom ∷ fs)
  unfolding fact_bytes
  condition_fact l fs e p h =
      let us : List Variable = variables_of l.atom.args in
      let ns : List ℕ = map argument_number l.atom.args in
      let q : ns ≡ map (λ (v : Variable). v.0) us = plain_numbers l.atom.args p in
      let m = length-map l.atom.args argument_number in
      let k = ap length q ∙ length-map us (λ (v : Variable). v.0) in
      let n = length-map us (value_of (same_numbers a)) in
      let i : arity_in head l.atom.rel ≡ length (map (value_of (same_numbers a)) us) = omega arith in
      let z : 8 - suc (suc (length ns)) ≡ 6 - length (map (value_of (same_numbers a)) us) = omega arith in
      ap₂ (λ (k : ℕ) (r : List ℕ). l.atom.rel ∷ k ∷ r) i
      (append_assoc ns (replicate (8 - suc (suc (length ns))) 255) (fact_bytes fs)
      ∙ ap₂ (λ (x : List ℕ) (k : ℕ). x ++ (replicate k 255 ++ fact_bytes fs)) (q ∙ sym (value_numbers a us h)) z)

  conditions_facts : (ks : List ℕ) (ls : List Literal)
      → ((l : Literal) → In l ls → (arity_in head l.atom.rel ≡ length l.atom.args) × Below a.vars (variables_of l.atom.args))
      → ((p : Atom Argument) → In p (select_by is_condition ks (map (λ (l : Literal). l.atom) ls)) → count_by is_every p.args ≡ 0)
      → conditions_of head ks (map literal_row ls) ≡ fact_bytes (map (bind (same_numbers a)) (select_by is_condition ks (map (λ (l : Literal). l.atom) ls)))
  unfolding conditions_of flat_map fact_bytes
  conditions_facts [] ls h g = refl
  conditions_facts (k ∷ ks) [] h g = refl
  conditions_facts (k ∷ ks) (l ∷ ls) h g = go (is_condition k) g (conditions_facts ks ls (λ j m. h j (Memᴰ.tail m)))
    where
      rest : List (Atom Argument)
      rest = select_by is_condition ks (map (λ (l : Literal). l.atom) ls)

      Plain : List (Atom Argument) → Type 0
      Plain ps = (p : Atom Argument) → In p ps → count_by is_every p.args ≡ 0

      go : (b : Bool) → Plain (keep_if b l.atom rest)
          → (Plain rest → flat_map (condition_of head) (select_by is_condition ks (map literal_row ls)) ≡ fact_bytes (map (bind (same_numbers a)) rest))
          → flat_map (condition_of head) (keep_if b (literal_row l) (select_by is_condition ks (map literal_row ls))) ≡ fact_bytes (map (bind (same_numbers a)) (keep_if b l.atom rest))
      go true f e =
          let q = h l (Memᴰ.head refl) in
          ap (λ (r : List ℕ). condition_of head (literal_row l) ++ r) (e (λ p m. f p (Memᴰ.tail m)))
          ∙ condition_fact l (map (bind (same_numbers a)) rest) q.0 (f l.atom (Memᴰ.head refl)) q.1
      go false f e = e f

-- ---- an instance fact

-- the class's key tuple as an instance, "variable i is object i"
tuple_objects : (a : Action) (x : List Variable) → Below a.vars x → tuple_row x ≡ objects_row (bind_tuple (same_numbers a) x)
tuple_objects a x h = ap row_of (sym (value_numbers a x h))

row_bytes_lem : (f : Fact) → fact_row f ≡ fact_bytes (f ∷ [])
unfolding fact_bytes
row_bytes_lem f =
    ap (λ (l : List ℕ). f.rel ∷ length f.args ∷ (object_numbers f.args ++ l)) (sym (append-nil (replicate (6 - length f.args) 255)))

-- ---- the first uncovered component

first_at_lem : (ps : List (Atom Argument)) (cs : List Component) → all (covered ps) cs ≡ false
    → (first_uncovered ps cs ≡ get_or cs (position (λ c. not (covered ps c)) cs) no_component ∷ []) × (position (λ c. not (covered ps c)) cs < length cs)
first_at_lem ps [] h = absurd (true≢false h)
first_at_lem ps (c ∷ cs) h = go (covered ps c) h (λ k. first_at_lem ps cs k)
  where
    p : ℕ
    p = position (λ c. not (covered ps c)) cs

    go : (b : Bool) → b && all (covered ps) cs ≡ false
        → (all (covered ps) cs ≡ false → (first_uncovered ps cs ≡ get_or cs p no_component ∷ []) × (p < length cs))
        → (cond b (first_uncovered ps cs) (c ∷ []) ≡ get_or (c ∷ cs) (cond (not b) zero (suc p)) no_component ∷ []) × (cond (not b) zero (suc p) < suc (length cs))
    go true k ih = let r = ih k in let q = r.1 in (r.0, omega arith)
    go false k ih = (refl, omega arith)

-- ---- the name by the number that refuses it

fault_42 : (nm : Name) (e : Bool) (number : ℕ) → number ≡ fault_by nm e → number ≡ 42 → nm ≡ Unbounded
fault_42 Unreachable e number f z = absurd (omega arith)
fault_42 Irrelevant e number f z = absurd (omega arith)
fault_42 Heavy e number f z = absurd (omega arith)
fault_42 Balanced e number f z = absurd (omega arith)
fault_42 Unbalanced e number f z = absurd (omega arith)
fault_42 bounded e number f z = absurd (omega arith)
fault_42 Unbounded e number f z = refl

unbounded_open : (u i h o ch cov : Bool) → cond u Unreachable (cond i Irrelevant (cond h Heavy (cond o (cond ch Balanced Unbalanced) (cond cov bounded Unbounded)))) ≡ Unbounded → cov ≡ false
unbounded_open true i h o ch cov e = let z = ap name_number e in absurd (omega arith)
unbounded_open false true h o ch cov e = let z = ap name_number e in absurd (omega arith)
unbounded_open false false true o ch cov e = let z = ap name_number e in absurd (omega arith)
unbounded_open false false false true true cov e = let z = ap name_number e in absurd (omega arith)
unbounded_open false false false true false cov e = let z = ap name_number e in absurd (omega arith)
unbounded_open false false false false ch true e = let z = ap name_number e in absurd (omega arith)
unbounded_open false false false false ch false e = refl

name_open : (r c d : ℕ) (ch cov : Bool) → name_by r c d ch cov ≡ Unbounded → cov ≡ false
unfolding name_by
name_open r c d ch cov e = unbounded_open (leb 2 r) (eqb d 0) (leb 2 d) (eqb c 1) ch cov e

-- ---- the witness of a moment that is refused by a number

module _ (D : Domain) (a : Action) (x : List Variable) (m : Moment) (number : ℕ) (e : Bool) (f : number ≡ fault_by (name_of D a x m) e) where
  -- its conditions
  pub witness_plain : (number ≡ 0 → ⊥) → (number ≡ 42 → ⊥) → witness_at D a x m ≡ condition_facts a m
  unfolding witness_at
  witness_plain z t = go (name_of D a x m) e f
    where
      fs : List Fact
      fs = map (instance_fact (spare a) (bind_tuple (same_numbers a) x)) (first_uncovered (excluding D a x m) D.template)

      go : (nm : Name) (e : Bool) → number ≡ fault_by nm e → witness_by nm (condition_facts a m) fs ≡ condition_facts a m
      go Unreachable e f = absurd (z f)
      go Irrelevant e f = absurd (z f)
      go Heavy e f = refl
      go Balanced e f = absurd (z f)
      go Unbalanced e f = refl
      go bounded e f = absurd (z f)
      go Unbounded true f = absurd (z f)
      go Unbounded false f = absurd (t f)

  module _ (t : number ≡ 42) where
    some_open : all (covered (excluding D a x m)) D.template ≡ false
    unfolding name_of
    some_open =
        name_open (length (reach_in D a x m)) (length (in_class D a x m Positive)) (length (in_class D a x m Add))
        (all (changed_by (in_class D a x m Add) (in_class D a x m Delete)) (in_class D a x m Positive)) (all (covered (excluding D a x m)) D.template)
        (fault_42 (name_of D a x m) e number f t)

    -- there is an uncovered component
    pub open_listed : uncovered_at D a x m < length D.template
    unfolding uncovered_at
    open_listed = (first_at_lem (excluding D a x m) D.template some_open).1

    -- its conditions, and the instance fact of that component
    pub witness_open : witness_at D a x m ≡ condition_facts a m ++ (instance_fact (spare a) (bind_tuple (same_numbers a) x) (get_or D.template (uncovered_at D a x m) no_component) ∷ [])
    unfolding witness_at uncovered_at
    witness_open =
        ap (λ (nm : Name). witness_by nm (condition_facts a m) (map (instance_fact (spare a) (bind_tuple (same_numbers a) x)) (first_uncovered (excluding D a x m) D.template)))
        (fault_42 (name_of D a x m) e number f t)
        ∙ ap (λ (cs : List Component). condition_facts a m ++ map (instance_fact (spare a) (bind_tuple (same_numbers a) x)) cs)
        (first_at_lem (excluding D a x m) D.template some_open).0

-- ---- memory that holds a witness or is too short for it

too_short : (fs : List Fact) (out : List ℕ) → length out < 8 * length fs → (false ≡ fits_in fs out) × (out ≡ shown_in fs out)
too_short fs out h = let e = lt-leb (8 * length fs) (length out) h in (sym e, sym (ap (λ (b : Bool). cond b (over (fact_bytes fs) out) out) e))

long_enough : (fs : List Fact) (out : List ℕ) → 8 * length fs ≤ length out → (true ≡ fits_in fs out) × (over (fact_bytes fs) out ≡ shown_in fs out)
long_enough fs out h = let e = le-leb (8 * length fs) (length out) h in (sym e, sym (ap (λ (b : Bool). cond b (over (fact_bytes fs) out) out) e))

module _ {D : Domain} {a : Action} {j : ℕ} {m : Moment} {fs : List Fact} (e : witness_at D a (get_or (classes D a) j []) m ≡ fs) {out out₁ : List ℕ} {r : Bool} where
  shown_as : (r ≡ fits_in fs out) × (out₁ ≡ shown_in fs out) → ShownAt D a j m out out₁ r
  shown_as s =
      record {
        fits = s.0 ∙ ap (λ (gs : List Fact). fits_in gs out) (sym e);
        bytes = s.1 ∙ ap (λ (gs : List Fact). shown_in gs out) (sym e);
      }

-- ---- what the code holds of an action at a moment: the usages of what is asked there

pub record Given (D : Domain) (a : Action) (head : List ℕ) (m : Moment) (rows usages : List ℕ) (n : ℕ) : Type 0 where
  pub action : ActionOf D a head rows
  pub usages_are : usages ≡ pad 64 (asked_usages a m)
  pub count : n ≡ length a.lits
  -- the true conditions by what each literal is
  pub selected : select_by is_condition (asked_usages a m) (map (λ (l : Literal). l.atom) a.lits) ≡ required a m Positive

module _ {D : Domain} {a : Action} {head : List ℕ} {m : Moment} {rows usages : List ℕ} {n : ℕ} (G : Given D a head m rows usages n) where
  H : TemplateOf D head
  H = G.action.says

  B : Bounded D
  B = H.bounded

  usages_length : length (asked_usages a m) ≡ n
  unfolding usages_by
  usages_length = length_usages true m [] a.lits ∙ sym G.count

  usages_taken : first_usages n usages ≡ asked_usages a m
  usages_taken = ap₂ first_usages (sym usages_length) G.usages_are
      ∙ bytes_front (asked_usages a m) (replicate (64 - length (asked_usages a m)) 0)

  rows_taken : rows_in n rows ≡ map literal_row a.lits
  rows_taken =
      ap₂ rows_in G.count (G.action.literals ∙ sym (append-nil (flat_map literal_row a.lits)))
      ∙ rows_flat literal_row a.lits [] (λ l k. length_literal_row l (B.arguments a G.action.listed l k))

  pub rows_enough : 8 * n ≤ length rows
  rows_enough =
      let c = G.count in
      let l = ap length G.action.literals ∙ length_literals a.lits (B.arguments a G.action.listed) in
      omega arith

  -- the facts of the true conditions
  pub conditions_are : conditions_of head (first_usages n usages) (rows_in n rows) ≡ fact_bytes (condition_facts a m)
  conditions_are =
      ap₂ (conditions_of head) usages_taken rows_taken
      ∙ conditions_facts a head (asked_usages a m) a.lits (λ l k. (H.arities l.atom.rel ∙ sym (B.literal_arity a G.action.listed l k), B.below a G.action.listed l k))
      (λ p k. asked_plain a (B.clears a G.action.listed) m Positive refl p (rw G.selected at k))
      ∙ ap (λ (ps : List (Atom Argument)). fact_bytes (map (bind (same_numbers a)) ps)) G.selected

  -- how many they are
  pub conditions_count : count_by is_condition (first_usages n usages) ≡ length (condition_facts a m)
  conditions_count =
      let c = usages_length in
      let l = G.count in
      let k = length-map a.lits (λ (l : Literal). l.atom) in
      ap (count_by is_condition) usages_taken
      ∙ sym (length_select is_condition (asked_usages a m) (map (λ (l : Literal). l.atom) a.lits) (omega arith))
      ∙ ap length G.selected
      ∙ sym (length-map (required a m Positive) (bind (same_numbers a)))

  -- ---- the instance fact of a class and a component

  arity_six : (r : ℕ) → arity_in head r ≤ 6
  arity_six r = let e = H.arities r in let b = arity-most D B.arities r in omega arith

  keys_few : keys_of D.template ≤ 6
  keys_few = keys-most D.template B.labels

  tuple_length : (x : List Variable) → In x (classes D a) → length x ≡ keys_of D.template
  tuple_length =
      class_keys D a (λ c k. keys_once _ _ (B.keys_fit c k))
      (λ l k. all_of (λ c. keeps_keys c l.atom) D.template (λ c j. B.keys_kept a G.action.listed l k c j))

  module _ (j : ℕ) (h : j < length (classes D a)) where
    class_listed : In (get_or (classes D a) j []) (classes D a)
    class_listed = get_d_in (classes D a) j [] h

    class_below : Below a.vars (get_or (classes D a) j [])
    class_below = let r = class_in D a class_listed in tuple_below D a.vars r.0.atom (B.below a G.action.listed r.0 r.1) r.2

    tuple_part : (tuple : List ℕ) → tuple ≡ tuple_row (get_or (classes D a) j []) → take 8 tuple ≡ tuple_row (get_or (classes D a) j [])
    tuple_part tuple e =
        let x : List Variable = get_or (classes D a) j [] in
        let t = tuple_length x class_listed in
        let n = length-map x (λ (v : Variable). v.0) in
        let f = keys_few in
        let l : length (tuple_row x) ≡ 8 = length_row (map (λ (v : Variable). v.0) x) (omega arith) in
        ap (take 8) e ∙ take_all 8 (tuple_row x) (omega arith)

    module _ (u : ℕ) (g : u < length D.template) where
      abbrev pub part : Component
      part = get_or D.template u no_component

      part_listed : In part D.template
      part_listed = get_d_in D.template u no_component g

      pub instance_is : (tuple : List ℕ) (s : ℕ) → tuple ≡ tuple_row (get_or (classes D a) j []) → s ≡ a.vars
          → instance_bytes_in head u s (take 8 tuple) ≡ fact_bytes (instance_fact (spare a) (bind_tuple (same_numbers a) (get_or (classes D a) j [])) part ∷ [])
      instance_is tuple s e q =
          let x : List Variable = get_or (classes D a) j [] in
          let y : List Object = bind_tuple (same_numbers a) x in
          ap (instance_bytes_in head u s) (tuple_part tuple e ∙ tuple_objects a x class_below)
          ∙ row-of H u g y (length-map x (value_of (same_numbers a)) ∙ tuple_length x class_listed) s
          ∙ ap (λ (k : ℕ). fact_row (instance_fact (object k) y part)) q
          ∙ row_bytes_lem (instance_fact (spare a) y part)

  -- ---- together: what the code leaves, of the k true conditions

  module _ {j number : ℕ} (R : RefusedAt D a j m number) (k : ℕ) (q : k ≡ count_by is_condition (first_usages n usages)) (out : List ℕ) where
    abbrev x : List Variable
    x = get_or (classes D a) j []

    facts_count : length (condition_facts a m) ≡ k
    facts_count = sym (q ∙ conditions_count)

    -- refused by 40 or 41: the conditions
    module _ (t : number ≡ 42 → ⊥) where
      is_conditions : witness_at D a x m ≡ condition_facts a m
      is_conditions = witness_plain D a (get_or (classes D a) j []) m number R.journey_end R.fault R.refused t

      pub plain_short : length out < 8 * k → ShownAt D a j m out out false
      plain_short h = shown_as is_conditions (too_short (condition_facts a m) out (let c = facts_count in omega arith))

      pub plain_shown : 8 * k ≤ length out → (out₁ : List ℕ) → out₁ ≡ over (conditions_of head (first_usages n usages) (rows_in n rows)) out
          → ShownAt D a j m out out₁ true
      plain_shown h out₁ o =
          let r = long_enough (condition_facts a m) out (let c = facts_count in omega arith) in
          shown_as is_conditions (r.0, o ∙ ap (λ (b : List ℕ). over b out) conditions_are ∙ r.1)

    -- refused by 42: the conditions, and the instance fact of the first uncovered component
    module _ (t : number ≡ 42) where
      abbrev u : ℕ
      u = uncovered_at D a x m

      abbrev shown : Fact
      shown = instance_fact (spare a) (bind_tuple (same_numbers a) x) (get_or D.template u no_component)

      one_more : length (condition_facts a m ++ (shown ∷ [])) ≡ k + 1
      one_more = length-append (condition_facts a m) (shown ∷ []) ∙ ap (λ (i : ℕ). i + 1) facts_count

      is_facts : witness_at D a x m ≡ condition_facts a m ++ (shown ∷ [])
      is_facts = witness_open D a (get_or (classes D a) j []) m number R.journey_end R.fault t

      pub open_inside : uncovered_at D a (get_or (classes D a) j []) m < length D.template
      open_inside = open_listed D a (get_or (classes D a) j []) m number R.journey_end R.fault t

      pub open_found : {o : Option ℕ} → o ≡ place_below (length D.template) (uncovered_at D a (get_or (classes D a) j []) m) → o ≡ Some (uncovered_at D a (get_or (classes D a) j []) m)
      open_found e = e ∙ rw (lt-ltb (uncovered_at D a (get_or (classes D a) j []) m) (length D.template) open_inside)

      pub open_short : length out < 8 * k + 8 → ShownAt D a j m out out false
      open_short h = shown_as is_facts (too_short (condition_facts a m ++ (shown ∷ [])) out (let c = one_more in omega arith))

      pub open_shown : 8 * k + 8 ≤ length out → (tuple : List ℕ) (s u' : ℕ)
          → tuple ≡ tuple_row (get_or (classes D a) j []) → u' ≡ uncovered_at D a (get_or (classes D a) j []) m → s ≡ a.vars
          → (out₁ out₂ : List ℕ) → out₁ ≡ over (conditions_of head (first_usages n usages) (rows_in n rows)) out
          → out₂ ≡ paste out₁ (8 * k) (instance_bytes_in head u' s (take 8 tuple)) 8
          → ShownAt D a j m out out₂ true
      open_shown room tuple s u' c v w out₁ out₂ o₁ o₂ =
          let bytes : List ℕ = conditions_of head (first_usages n usages) (rows_in n rows) in
          let fact : List ℕ = instance_bytes_in head u' s (take 8 tuple) in
          let inside = open_inside in
          let is : fact ≡ fact_bytes (shown ∷ []) =
          instance_is j R.listed u' (omega arith) tuple s c w
          ∙ ap (λ (u : ℕ). fact_bytes (instance_fact (spare a) (bind_tuple (same_numbers a) (get_or (classes D a) j [])) (get_or D.template u no_component) ∷ [])) v in
          let many : length bytes ≡ 8 * k = (let b = length_conditions head usages rows n rows_enough in omega arith) in
          let eight : length fact ≡ 8 = length_instance_at (arity_in head (get_or (component_row_in head u') 0 0)) s (take 8 tuple) head u' (arity_six (get_or (component_row_in head u') 0 0)) in
          let full = long_enough (condition_facts a m ++ (shown ∷ [])) out (let d = one_more in omega arith) in
          shown_as is_facts (
            full.0,
            o₂
                ∙ ap (λ (b : List ℕ). paste b (8 * k) fact 8) o₁
                ∙ over_paste bytes out fact (8 * k) 8 many eight
                ∙ ap₂ (λ (b f : List ℕ). over (b ++ f) out) conditions_are is
                ∙ ap (λ (b : List ℕ). over b out) (sym (facts_append (condition_facts a m) (shown ∷ [])))
                ∙ full.1,
          )

-- ---- what is selected, by index: `from i n` lists the n numbers from i on

module _ (from : ℕ → ℕ → List ℕ) (none : (i : ℕ) → from i zero ≡ []) (more : (i n : ℕ) → from i (suc n) ≡ i ∷ from (suc i) n) where
  shift : {C : Type 0} (g : ℕ → C) (q : ℕ → Bool) (i n : ℕ) → map g (filter_by q (from (suc i) n)) ≡ map (λ k. g (suc k)) (filter_by (λ k. q (suc k)) (from i n))
  shift g q i zero = rw (none (suc i), none i)
  shift {C} g q i (suc n) = rw (more (suc i) n, more i n) (go (q (suc i)) (shift g q (suc i) n))
    where
      go : (b : Bool) → map g (filter_by q (from (suc (suc i)) n)) ≡ map (λ k. g (suc k)) (filter_by (λ k. q (suc k)) (from (suc i) n))
          → map g (keep_if b (suc i) (filter_by q (from (suc (suc i)) n))) ≡ map (λ k. g (suc k)) (keep_if b i (filter_by (λ k. q (suc k)) (from (suc i) n)))
      go true e = ap {B = List C} (λ l. g (suc i) ∷ l) e
      go false e = e

  pub select_indexed : {A C : Type 0} (p : ℕ → Bool) (f : A → C) (d : A) (ks : List ℕ) (l : List A) → length ks ≡ length l
      → map (λ k. f (get_or l k d)) (filter_by (λ k. p (get_or ks k 0)) (from 0 (length l))) ≡ select_by p ks (map f l)
  select_indexed p f d [] [] e = rw (none 0)
  select_indexed p f d [] (x ∷ xs) e = absurd (omega arith)
  select_indexed p f d (k ∷ ks) [] e = absurd (omega arith)
  select_indexed {A} {C} p f d (k ∷ ks) (x ∷ xs) e =
      rw (more 0 (length xs)) (go (p k) (shift (λ i. f (get_or (x ∷ xs) i d)) (λ i. p (get_or (k ∷ ks) i 0)) 0 (length xs) ∙ select_indexed p f d ks xs (omega arith)))
    where
      go : (b : Bool) → map (λ i. f (get_or (x ∷ xs) i d)) (filter_by (λ i. p (get_or (k ∷ ks) i 0)) (from 1 (length xs))) ≡ select_by p ks (map f xs)
          → map (λ i. f (get_or (x ∷ xs) i d)) (keep_if b 0 (filter_by (λ i. p (get_or (k ∷ ks) i 0)) (from 1 (length xs)))) ≡ keep_if b (f x) (select_by p ks (map f xs))
      go true h = ap {B = List C} (λ l. f x ∷ l) h
      go false h = h

  -- the true conditions by index, as a `Given` wants them
  pub selected_by : (a : Action) (m : Moment) (d : Literal)
      → required a m Positive ≡ map (λ k. (get_or a.lits k d).atom) (filter_by (λ k. is_condition (get_or (asked_usages a m) k 0)) (from 0 (length a.lits)))
      → select_by is_condition (asked_usages a m) (map (λ (l : Literal). l.atom) a.lits) ≡ required a m Positive
  unfolding usages_by
  selected_by a m d e = sym (e ∙ select_indexed is_condition (λ (l : Literal). l.atom) d (asked_usages a m) a.lits (length_usages true m [] a.lits))

-- what the code holds, by what `usages_at` ensures of what is asked
pub given : {D : Domain} {a : Action} {head : List ℕ} (m : Moment) {rows usages : List ℕ} {n : ℕ} → ActionOf D a head rows → length rows ≡ 8 * n
    → ((D : Domain) (a : Action) (head : List ℕ) → ActionOf D a head rows → pad 64 [] ≡ pad 64 [] → usages ≡ pad 64 (asked_usages a m))
    → Given D a head m rows usages n
given {D} {a} m {rows} {usages} {n} A l c =
    record {
      action = A;
      usages_are = c D a _ A refl;
      count = (let k = sym (ap length A.literals) ∙ l in let g = length_literals a.lits (A.says.bounded.arguments a A.listed) in omega arith);
      selected = selected_by numbers_from (λ i. refl) (λ i n. rw (add-one i)) a m no_literal (required_at a m Positive);
    }

-- a class of an action has a number below 64
pub class_few : {D : Domain} {head table : List ℕ} → Held D head table → (i j : ℕ) → i < length D.actions → j < length (classes D (action D i)) → j < 64
class_few {D} H i j h g =
    let c = classes_few D (action D i) H.says.bounded in
    let s = H.says.bounded.sizes (action D i) (action_in H i h) in
    omega arith

-- ---- whether a witness is written at a moment, by the test of it

module _ (D : Domain) (a : Action) (x : List Variable) where
  pub start_is_shown : (m : Moment) → sameb the_type m Start ≡ true → true ≡ shown_at D a x m
  start_is_shown Start e = refl
  start_is_shown End e = absurd (true≢false (sym e))

  pub end_is_shown : (m : Moment) → sameb the_type m Start ≡ false → {r : Bool} → r ≡ lasts_in D a x → not r ≡ shown_at D a x m
  end_is_shown Start f e = absurd (true≢false f)
  end_is_shown End f e = ap not e

-- the rows of an action, and as many numbers
pub parts_alike : (table numbers : List ℕ) (span : Span) → SpanFits (length table) span → length table ≤ 8 * length numbers
    → (length (take (span.to - span.from) (drop span.from numbers)) ≤ 64)
    × (length (take (8 * span.to - 8 * span.from) (drop (8 * span.from) table)) ≡ 8 * length (take (span.to - span.from) (drop span.from numbers)))
parts_alike table numbers span F h =
    let o = F.order in
    let f = F.few in
    let r = F.room in
    let n : length (take (span.to - span.from) (drop span.from numbers)) ≡ span.to - span.from = length-take-le (span.to - span.from) (drop span.from numbers) (simp length-drop (omega arith)) in
    let t : length (take (8 * span.to - 8 * span.from) (drop (8 * span.from) table)) ≡ 8 * span.to - 8 * span.from = length-take-le (8 * span.to - 8 * span.from) (drop (8 * span.from) table) (simp length-drop (omega arith)) in
    (omega arith, omega arith)
