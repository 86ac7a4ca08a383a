-- A journey of an open entry belongs to an instance where the fact of its true condition does. Assumes nothing.
use mathlib.Core.Path.{◌≡◌, refl, sym, ap, ap₂, ◌∙◌}
use mathlib.Core.Bool.{Bool, true, false, ◌&&◌, ◌||◌, cond}
use mathlib.Core.Logic.{◌⊎◌, inl, inr}
use mathlib.Core.List.Memᴰ
use mathlib.Core.List.{List, [], ◌∷◌, ◌++◌, map, foldr}
use Prim.Native.Nat.{ℕ, zero, suc, ◌+◌, ◌-◌, ◌*◌, ◌≤◌, ◌<◌}
use native.Mathlib.Numerals.{add-one}
use native.Mathlib.Nat.{add-zero}
use native.Mathlib.Omega.{arith}
use lib.Dec.{eqb}
use lib.ListN.{length, get_or, take, drop, set, length-set, length-map, length-append, length-drop, drop_of_length-le}
use lib.Seq.{drop-cons, drop-drop, drop_at, take_all, take_at, take-add, take-take, length-take-le, get_or-set_same, get_or-set_other}
use borrow.Author.Tests.{eqb-true, eqb-false}
use Rattle.records.specs.Lists.{In, add_if, count_by, any, all, same_list}
use Rattle.records.proofs.Lists.{and_l, and_r, all_of, bool_cases, clash, get_d_in, count_not, count_none, in_flat_map}
use Rattle.literals.specs.declared.Object.{Object}
use Rattle.literals.specs.declared.Variable.{Variable}
use Rattle.literals.specs.declared.Argument.{Argument}
use Rattle.literals.specs.declared.Moment.TheVariants.{Start}
use Rattle.literals.specs.declared.Usage.TheVariants.{Positive}
use Rattle.literals.specs.Domain.{same_object, is_every, variables_of, usage_number, may_clear, keeps_keys, Atom, Literal, Fact, keys_of, Domain}
use Rattle.literals.specs.Domain.{Action, no_action, action}
use Rattle.literals.specs.Decode.{max_literals}
use Rattle.literals.specs.Held.{argument_number, row_of, rows_in, literal_row, pad, Bounded, row_in, keys_in, component_rows_in, TemplateOf}
use Rattle.run_semantics.specs.Track.{instance_of}
use Rattle.literals.proofs.Bounds.{arity_six}
use Rattle.literals.proofs.Bytes.{keys_once}
use Rattle.literals.proofs.KeyRows.{length_rows}
use Rattle.literals.proofs.Tables.{kept, length_flat, length_literal_row, pad_at}
use Rattle.literals.proofs.Arguments.{plain_numbers}
use Rattle.literals.specs.Matching.{tuples_of, has_tuple, matches}
use Rattle.classes.specs.Classes.{literal_tuples, classes, belongs, journey}
use Rattle.classes.specs.Held.{ActionOf, class_numbers, counts, usage_at, usages_from, usages_by, own_usages, is_at, sole_at}
use Rattle.classes.proofs.Rows.{no_literal, literal_at, row_at_lem}
use Rattle.classes.proofs.Members.{tuple_once, member}
use Rattle.classes.proofs.Soles.{sole_less, sole_passes}
use Rattle.classes.proofs.Decides.{none_in, many_in, not_one_condition}
use Rattle.verdict.specs.Binding.{value_of, bind, bind_tuple}
use Rattle.verdict.specs.Judged.{object_numbers}
use Rattle.verdict.specs.Machine.{GroundAction, State, weight, instances_in}
use Rattle.verdict.specs.Claims.{well_formed, journeys_for, total}
use Rattle.verdict.proofs.Tuples.{belongs_tuple, matches_tuple}
use Rattle.verdict.proofs.Facts.{tuples_fact, plain_in}
use Rattle.verdict.proofs.Patterns.{plain_row, literal_plain}
use Rattle.verdict.proofs.TopWeight.{instance_size}
use Rattle.verdict.proofs.Equality.{objects_eq}
use Rattle.verdict.proofs.Instances.{class_keys}
use Rattle.verdict.specs.Held.{fact_row}
use Rattle.store.specs.Held.{FactFits, instance_rows, row_weight}
use Rattle.store.proofs.InstanceRows.{weight_is}
use Rattle.events.specs.Held.{ground_row, bound_row, GroundFits, GroundsFit}
use Rattle.events.proofs.FactRows.{no_ground, few_objects, bound_pattern, length_fact_row}
use Rattle.journeys.specs.Held.{journey_mark}

-- the rows of an action's literals
pub rows_length : {D : Domain} {a : Action} {head rows : List ℕ} → ActionOf D a head rows → length rows ≡ 8 * length a.lits
rows_length {a = a} A =
    ap length A.literals ∙ length_flat literal_row a.lits (λ l m. length_literal_row l (kept A.says.bounded A.listed m).fits)

-- ---- the mark of a class

-- a literal with usage 1 is a true condition, which may not have FF
true_plain : (earlier ls : List Literal) (i : ℕ) → get_or (usages_from false Start earlier ls) i 0 ≡ 1
    → may_clear (literal_at ls i).role.usage ≡ false
true_plain earlier [] i e = absurd (omega arith)
true_plain earlier (l ∷ ls) (suc i) e = true_plain (earlier ++ (l ∷ [])) ls i e
true_plain earlier (l ∷ ls) zero e = once (any _ earlier) e
  where
    by_number : (n : ℕ) → suc n ≡ 1 → eqb n 1 || eqb n 3 ≡ false
    by_number zero h = refl
    by_number (suc n) h = absurd (omega arith)

    counted : (c : Bool) → cond c (suc (usage_number l.role.usage)) 0 ≡ 1 → may_clear l.role.usage ≡ false
    counted true h = by_number (usage_number l.role.usage) h
    counted false h = absurd (omega arith)

    once : (b : Bool) → cond b 0 (usage_at false Start l.role) ≡ 1 → may_clear l.role.usage ≡ false
    once true h = absurd (omega arith)
    once false h = counted (counts false Start l.role.usage l.role) h

-- without FF there is a variable for each argument
plain_length : (vs : List Argument) → count_by is_every vs ≡ 0 → length (variables_of vs) ≡ length vs
plain_length vs h =
    sym (length-map (variables_of vs) (λ (v : Variable). v.0)) ∙ ap length (sym (plain_numbers vs h)) ∙ length-map vs argument_number

module _ (D : Domain) (a : Action) {head rows : List ℕ} (A : ActionOf D a head rows) (class : ℕ) (h : class < length (classes D a)) where
  abbrev x : List Variable
  x = get_or (classes D a) class []

  abbrev sole : ℕ
  sole = sole_at (class_numbers D a) (pad max_literals (own_usages a Start)) class 1

  -- 0: no journey
  pub mark_none : journey_mark D a class ≡ 0 → journey D a x ≡ false
  unfolding journey_mark
  mark_none e = go (bool_cases (journey D a x))
    where
      go : (journey D a x ≡ true) ⊎ (journey D a x ≡ false) → journey D a x ≡ false
      go (inl t) =
          let z : sole ≡ 0 = sym (ap (λ (b : Bool). cond b sole 0) t) ∙ e in
          let n = none_in D a A.says.bounded A.listed Start class h Positive z in
          sym (not_one_condition D a x (λ o. omega arith))
      go (inr f) = f

  -- else a journey, and its true condition
  module _ (some : journey_mark D a class ≡ 0 → ⊥) where
    pub mark_journey : journey D a x ≡ true
    unfolding journey_mark
    mark_journey = go (bool_cases (journey D a x))
      where
        go : (journey D a x ≡ true) ⊎ (journey D a x ≡ false) → journey D a x ≡ true
        go (inl t) = t
        go (inr f) = absurd (some (ap (λ (b : Bool). cond b sole 0) f))

    mark_is : journey_mark D a class ≡ sole
    unfolding journey_mark
    mark_is = ap (λ (b : Bool). cond b sole 0) mark_journey

    not_many : sole ≡ 255 → ⊥
    not_many e =
        let m = many_in D a A.says.bounded A.listed Start class h Positive e in
        clash mark_journey (sym (not_one_condition D a x (λ o. omega arith)))

    numbers_length : length (class_numbers D a) ≡ length a.lits
    unfolding class_numbers
    numbers_length = length-map a.lits _

    few : length (class_numbers D a) ≤ 64
    few = let n = numbers_length in let s = A.says.bounded.sizes a A.listed in omega arith

    pub mark_inside : journey_mark D a class - 1 < length a.lits
    unfolding sole_at
    mark_inside =
        let l = sole_less (is_at (class_numbers D a) (pad max_literals (own_usages a Start)) class 1) (length (class_numbers D a)) few
        (λ e. some (mark_is ∙ e)) not_many in
        let n = numbers_length in
        let m = mark_is in
        omega arith

    -- the literal
    abbrev place : ℕ
    place = journey_mark D a class - 1

    abbrev atom : Atom Argument
    atom = (literal_at a.lits place).atom

    -- it is in the class with usage 1
    at_mark : is_at (class_numbers D a) (pad max_literals (own_usages a Start)) class 1 (sole - 1) ≡ true
    unfolding sole_at
    at_mark =
        sole_passes (is_at (class_numbers D a) (pad max_literals (own_usages a Start)) class 1) (length (class_numbers D a)) few
        (λ e. some (mark_is ∙ e)) not_many

    pub mark_belongs : belongs D x atom ≡ true
    unfolding is_at
    mark_belongs =
        let m = mark_is in
        let p = at_mark in
        sym (member class A.says.bounded A.listed h place mark_inside)
        ∙ ap (λ (k : ℕ). eqb (get_or (class_numbers D a) (k - 1) 0) class) m ∙ and_l _ _ p

    -- as a true condition it has no FF
    pub mark_plain : count_by is_every atom.args ≡ 0
    unfolding is_at usages_by
    mark_plain =
        let m = mark_is in
        let p = at_mark in
        let u : get_or (own_usages a Start) (sole - 1) 0 ≡ 1 =
        sym (pad_at max_literals (own_usages a Start) (sole - 1)) ∙ eqb-true _ 1 (and_r (eqb (get_or (class_numbers D a) (sole - 1) 0) class) _ p) in
        let v = rw (← (ap (λ (k : ℕ). k - 1) m)) at u in
        literal_plain A.says.bounded A.listed (literal_at a.lits place) (get_d_in a.lits place no_literal mark_inside)
        (true_plain [] a.lits place v)

-- ---- its fact

-- an instance matches it where it is the bound key tuple
bound_matches : (D : Domain) {head : List ℕ} → TemplateOf D head → (b : List Object) (p : Atom Argument) → count_by is_every p.args ≡ 0
    → all (λ c. keeps_keys c p) D.template ≡ true → (x : List Variable) → belongs D x p ≡ true
    → (y : List Object) → matches D y (bind b p) ≡ same_list same_object (bind_tuple b x) y
unfolding has_tuple
bound_matches D H b p plain ks x t y =
    ap (any (λ u. same_list same_object u y)) (tuples_fact [] b D p ks (bind b p) (plain_in [] b p plain))
    ∙ go (literal_tuples D p) (tuple_once D H.bounded p) (belongs_tuple D x p t)
  where
    or_false : (c : Bool) → c || false ≡ c
    or_false true = refl
    or_false false = refl

    go : (ts : List (List Variable)) → length ts ≤ 1 → In x ts
        → any (λ u. same_list same_object u y) (map (bind_tuple b) ts) ≡ same_list same_object (bind_tuple b x) y
    go [] l m = absurd (Memᴰ.not-nil m)
    go (u ∷ []) l (Memᴰ.head e) = or_false _ ∙ ap (λ (v : List Variable). same_list same_object (bind_tuple b v) y) (sym e)
    go (u ∷ []) l (Memᴰ.tail m) = absurd (Memᴰ.not-nil m)
    go (u ∷ v ∷ ts) l m = absurd (omega arith)

-- the test of a row whose fact is the bound true condition
module _ {D : Domain} {head rows : List ℕ} (g : GroundAction) (A : ActionOf D (action D g.action) head rows) (G : GroundFits D g)
    (y : List Object) (sized : length y ≡ keys_of D.template) (class : ℕ) (h : class < length (classes D (action D g.action)))
    (some : journey_mark D (action D g.action) class ≡ 0 → ⊥) where
  abbrev a : Action
  a = action D g.action

  abbrev tuple : List Variable
  tuple = get_or (classes D a) class []

  abbrev at : ℕ
  at = journey_mark D a class - 1

  abbrev condition : Literal
  condition = literal_at a.lits at

  abbrev fact : Fact
  fact = bind g.binding condition.atom

  at_inside : at < length a.lits
  at_inside = mark_inside D a A class h some

  condition_in : In condition a.lits
  condition_in = get_d_in a.lits at no_literal at_inside

  plain : count_by is_every condition.atom.args ≡ 0
  plain = mark_plain D a A class h some

  keeps : all (λ c. keeps_keys c condition.atom) D.template ≡ true
  keeps = all_of (λ c. keeps_keys c condition.atom) D.template (λ c m. A.says.bounded.keys_kept a A.listed condition condition_in c m)

  fact_fits : FactFits D fact
  fact_fits =
      record {
        sized =
            length-map (variables_of condition.atom.args) (value_of g.binding)
            ∙ plain_length condition.atom.args plain
            ∙ A.says.bounded.literal_arity a A.listed condition condition_in;
      }

  -- the row of the fact
  row_is : bound_row head (ground_row g) (take 8 (drop (8 * at) rows)) ≡ fact_row fact
  row_is =
      let B = A.says.bounded in
      let n = G.bound in
      ap (λ (t : List ℕ). bound_row head (ground_row g) (row_in t at)) A.literals
      ∙ ap (bound_row head (ground_row g)) (row_at_lem a.lits (λ l m. kept B A.listed m) at at_inside)
      ∙ bound_pattern head g condition
      (B.literal_arity a A.listed condition condition_in ∙ sym (A.says.arities condition.atom.rel)) (few_objects B g G)
      (λ v w. let b = B.below a A.listed condition condition_in v w in omega arith)
      ∙ plain_row g.binding condition.atom plain

  fact_length : length (fact_row fact) ≡ 8
  fact_length =
      let k = arity_six D A.says.bounded.arities fact.rel in
      let e = fact_fits.sized in
      length_fact_row fact (omega arith)

  weighed : add_if (any (same_list eqb (row_of (object_numbers y))) (instance_rows (keys_in head) (component_rows_in head) (fact_row fact))) 0
      ≡ add_if (matches D y fact) 0
  unfolding row_weight weight has_tuple
  weighed =
      weight_is A.says y sized (fact ∷ [])
      (λ f m. one m)
    where
      one : {f : Fact} → In f (fact ∷ []) → FactFits D f
      one (Memᴰ.head e) = rw e fact_fits
      one (Memᴰ.tail m) = absurd (Memᴰ.not-nil m)

  pub belongs_is : (act row bound : List ℕ) (w : ℕ) → act ≡ ground_row g → row ≡ row_of (object_numbers y)
      → bound ≡ bound_row head act (take 8 (drop (8 * at) rows))
      → w ≡ add_if (any (same_list eqb row) (instance_rows (keys_in head) (component_rows_in head) (take 8 (drop 0 bound)))) 0
      → w ≡ add_if (journey D a tuple && same_list same_object (bind_tuple g.binding tuple) y) 0
  belongs_is act row bound w ge re be we =
      let f : bound ≡ fact_row fact = be ∙ ap (λ (t : List ℕ). bound_row head t (take 8 (drop (8 * at) rows))) ge ∙ row_is in
      let l = fact_length in
      let t : take 8 (drop 0 bound) ≡ fact_row fact = ap (take 8) f ∙ take_all 8 (fact_row fact) (omega arith) in
      we
      ∙ ap₂ (λ (r t : List ℕ). add_if (any (same_list eqb r) (instance_rows (keys_in head) (component_rows_in head) t)) 0) re t
      ∙ weighed
      ∙ ap (λ (b : Bool). add_if b 0) (bound_matches D A.says g.binding condition.atom plain keeps tuple (mark_belongs D a A class h some) y)
      ∙ ap (λ (b : Bool). add_if (b && same_list same_object (bind_tuple g.binding tuple) y) 0) (sym (mark_journey D a A class h some))

-- no journey belongs to any
pub belongs_none : (j s : Bool) → j ≡ false → 0 ≡ add_if (j && s) 0
belongs_none j s e = rw e

-- ---- class by class, and entry by entry

-- a class is a journey that belongs to the instance
abbrev pub journey_for : Domain → List Object → GroundAction → List Variable → Bool
journey_for D y g x = journey D (action D g.action) x && same_list same_object (bind_tuple g.binding x) y

pub journeys_are : (D : Domain) (y : List Object) (g : GroundAction)
    → journeys_for D y g ≡ count_by (journey_for D y g) (classes D (action D g.action))
unfolding journeys_for
journeys_are D y g = refl

pub one_more : {X : Type 0} (p : X → Bool) (l : List X) (i : ℕ) (d : X) (found w : ℕ) → i < length l → w ≡ add_if (p (get_or l i d)) 0
    → (found + w) + count_by p (drop (i + 1) l) ≡ found + count_by p (drop i l)
one_more p l i d found w h e =
    let n : drop i l ≡ get_or l i d ∷ drop (i + 1) l = drop-cons l i d h ∙ ap (λ (k : ℕ). get_or l i d ∷ drop k l) (sym (add-one i)) in
    go (p (get_or l i d)) (count_by p (drop (i + 1) l)) e ∙ sym (ap (λ (t : List _). found + count_by p t) n)
  where
    go : (b : Bool) (m : ℕ) → w ≡ add_if b 0 → (found + w) + m ≡ found + add_if b m
    go true m k = omega arith
    go false m k = omega arith

pub none_more : {X : Type 0} (p : X → Bool) (l : List X) (i found : ℕ) → length l ≤ i → found + count_by p (drop i l) ≡ found
none_more p l i found h = ap (λ (t : List _). found + count_by p t) (drop_of_length-le l h) ∙ add-zero found

-- ---- the marks of the first classes

pub mark_yes : (D : Domain) (a : Action) (class : ℕ) (t : Bool) (of usages : List ℕ) (v : ℕ) → t ≡ true
    → t ≡ journey D a (get_or (classes D a) class []) → of ≡ class_numbers D a → usages ≡ pad max_literals (own_usages a Start)
    → v ≡ sole_at of usages class 1 → v ≡ journey_mark D a class
unfolding journey_mark
mark_yes D a class t of usages v y e o c w =
    w ∙ ap₂ (λ (p q : List ℕ). sole_at p q class 1) o c
    ∙ sym (ap (λ (b : Bool). cond b (sole_at (class_numbers D a) (pad max_literals (own_usages a Start)) class 1) 0) (sym e ∙ y))

pub mark_no : (D : Domain) (a : Action) (class : ℕ) (t : Bool) → t ≡ false → t ≡ journey D a (get_or (classes D a) class [])
    → 0 ≡ journey_mark D a class
unfolding journey_mark
mark_no D a class t n e =
    sym (ap (λ (b : Bool). cond b (sole_at (class_numbers D a) (pad max_literals (own_usages a Start)) class 1) 0) (sym e ∙ n))

pub record FirstMarked (D : Domain) (a : Action) (marks : List ℕ) (i : ℕ) : Type 0 where
  pub sized : length marks ≡ max_literals
  pub done : (k : ℕ) → k < i → get_or marks k 0 ≡ journey_mark D a k

pub marked_none : (D : Domain) (a : Action) (marks : List ℕ) → marks ≡ pad max_literals [] → FirstMarked D a marks 0
marked_none D a marks e = record { sized = ap length e; done = λ k h. absurd (omega arith) }

pub marked_more : (D : Domain) (a : Action) (marks : List ℕ) (i v : ℕ) → FirstMarked D a marks i → i < max_literals → v ≡ journey_mark D a i
    → FirstMarked D a (set marks i v) (i + 1)
marked_more D a marks i v F h e =
    record {
      sized = length-set marks i v ∙ F.sized;
      done = λ k l. go k l (bool_cases (eqb k i));
    }
  where
    go : (k : ℕ) → k < i + 1 → (eqb k i ≡ true) ⊎ (eqb k i ≡ false) → get_or (set marks i v) k 0 ≡ journey_mark D a k
    go k l (inl t) =
        let z = eqb-true k i t in
        let n = F.sized in
        ap (λ (j : ℕ). get_or (set marks i v) j 0) z ∙ get_or-set_same marks i v 0 (omega arith) ∙ e ∙ sym (ap (journey_mark D a) z)
    go k l (inr f) =
        let z = eqb-false k i f in
        get_or-set_other marks i k v 0 z ∙ F.done k (omega arith)

-- an action at once has no journey
pub none_at_once : (D : Domain) (y : List Object) (g : GroundAction) → (action D g.action).lasting ≡ false → 0 ≡ journeys_for D y g
unfolding journey
none_at_once D y g e = sym (journeys_are D y g ∙ go (classes D (action D g.action)))
  where
    go : (xs : List (List Variable)) → count_by (journey_for D y g) xs ≡ 0
    go [] = refl
    go (x ∷ xs) =
        let f : journey_for D y g x ≡ false = rw e in
        ap (λ (b : Bool). add_if b (count_by (journey_for D y g) xs)) f ∙ go xs

-- ---- entry by entry

abbrev pub sum_of : (GroundAction → ℕ) → List GroundAction → ℕ
sum_of f gs = foldr (λ g m. f g + m) 0 gs

pub entry_more : (f : GroundAction → ℕ) (gs : List GroundAction) (i found w : ℕ) → i < length gs → w ≡ f (get_or gs i no_ground)
    → (found + w) + sum_of f (drop (i + 1) gs) ≡ found + sum_of f (drop i gs)
entry_more f gs i found w h e =
    let n : drop i gs ≡ get_or gs i no_ground ∷ drop (i + 1) gs
    = drop-cons gs i no_ground h ∙ ap (λ (k : ℕ). get_or gs i no_ground ∷ drop k gs) (sym (add-one i)) in
    let a : (found + w) + sum_of f (drop (i + 1) gs) ≡ found + (f (get_or gs i no_ground) + sum_of f (drop (i + 1) gs)) = omega arith in
    a ∙ sym (ap (λ (t : List GroundAction). found + sum_of f t) n)

pub entries_end : (f : GroundAction → ℕ) (gs : List GroundAction) (i found : ℕ) → length gs ≤ i → found + sum_of f (drop i gs) ≡ found
entries_end f gs i found h = ap (λ (t : List GroundAction). found + sum_of f t) (drop_of_length-le gs h) ∙ add-zero found

-- ---- entries one behind the other, 17 bytes each: of the first n those from i on are left

module _ (entries : List ℕ) (n i : ℕ) (left : List ℕ) (room : 17 * n ≤ length entries) (reach : i ≤ n)
    (e : left ≡ drop (17 * i) (take (17 * n) entries)) where
  left_length : length left ≡ 17 * n - 17 * i
  left_length = ap length e ∙ length-drop (17 * i) (take (17 * n) entries) ∙ ap (λ (k : ℕ). k - 17 * i) (length-take-le (17 * n) entries room)

  pub entries_done : length left < 17 → i ≡ n
  entries_done h = let l = left_length in omega arith

  module _ (act next : List ℕ) (f : left ≡ act ++ next) (s : length act ≡ 17) where
    pub entry_left : i < n
    entry_left = let l = left_length in let k = ap length f ∙ length-append act next in omega arith

    pub entry_next : next ≡ drop (17 * (i + 1)) (take (17 * n) entries)
    entry_next =
        let z : 17 * i + 17 ≡ 17 * (i + 1) = omega arith in
        sym (drop_at act next 17 s)
        ∙ ap (drop 17) (sym f ∙ e)
        ∙ drop-drop 17 (17 * i) (take (17 * n) entries)
        ∙ ap (λ (k : ℕ). drop k (take (17 * n) entries)) z

    pub entry_bytes : act ≡ take 17 (drop (17 * i) entries)
    entry_bytes =
        let h = entry_left in
        let z : 17 * n ≡ 17 * i + (17 * n - 17 * i) = omega arith in
        let t = length-take-le (17 * i) entries (omega arith) in
        sym (take_at act next 17 s)
        ∙ ap (take 17) (sym f ∙ e ∙ ap (drop (17 * i)) (ap (λ (k : ℕ). take k entries) z ∙ take-add (17 * i) (17 * n - 17 * i) entries)
        ∙ drop_at (take (17 * i) entries) (take (17 * n - 17 * i) (drop (17 * i) entries)) (17 * i) t)
        ∙ take-take 17 (17 * n - 17 * i) (drop (17 * i) entries) (omega arith)

-- ---- a part of a memory that was lent, lent again

module _ (xs ys : List ℕ) (n : ℕ) (e : length xs ≡ n) where
  pub part_within : n ≤ length (xs ++ ys)
  part_within = let l = length-append xs ys in omega arith

  pub part_again : take (n - 0) (xs ++ ys) ≡ xs
  part_again = let z : length xs ≡ n - 0 = omega arith in take_at xs ys (n - 0) z

-- ---- the total

-- where the instance has another count than the keys, nothing is it
module _ (D : Domain) (B : Bounded D) (wf : well_formed D ≡ true) (y : List Object) (off : length y ≡ keys_of D.template → ⊥) where
  no_weight : (fs : List Fact) → weight D y fs ≡ 0
  unfolding weight instances_in
  no_weight fs = count_none (matches D y) fs (λ f m t. off (instance_size D wf fs y (in_flat_map (tuples_of D) m (matches_tuple D y f t))))

  no_journey : (g : GroundAction) → GroundFits D g → journeys_for D y g ≡ 0
  unfolding action
  no_journey g G =
      journeys_are D y g
      ∙ count_none (journey_for D y g) (classes D (action D g.action))
      (λ x m t.
      let e = objects_eq (bind_tuple g.binding x) y (and_r (journey D (action D g.action) x) _ t) in
      off (ap length (sym e) ∙ length-map x (value_of g.binding)
      ∙ class_keys D (action D g.action) (λ c k. keys_once _ _ (B.keys_fit c k))
      (λ l k. all_of (λ c. keeps_keys c l.atom) D.template
      (λ c j. B.keys_kept (action D g.action) (get_d_in D.actions g.action no_action G.listed) l k c j)) x m))

  no_journeys : (gs : List GroundAction) → GroundsFit D gs → sum_of (journeys_for D y) gs ≡ 0
  no_journeys [] F = refl
  no_journeys (g ∷ gs) F =
      let a = no_journey g (F g (Memᴰ.head refl)) in
      let b = no_journeys gs (λ h m. F h (Memᴰ.tail m)) in
      omega arith

  pub no_total : (s : State) → GroundsFit D s.running → 0 ≡ total D y s
  unfolding total
  no_total s F = let a = no_weight s.facts in let b = no_journeys s.running F in omega arith

-- no more facts weigh than there are
pub weight_few : (keys : ℕ) (parts : List (List ℕ)) (work : List ℕ) (n : ℕ) (row : List ℕ) (w : ℕ)
    → w ≡ row_weight keys parts (rows_in n work) row → w ≤ n
unfolding row_weight
weight_few keys parts work n row w e =
    let c = count_not (λ (fact : List ℕ). any (same_list eqb row) (instance_rows keys parts fact)) (rows_in n work) in
    let l = length_rows 8 n work in
    omega arith

-- the numbers of an instance's objects are its bytes
pub numbers_back : (y : List ℕ) → object_numbers (instance_of y) ≡ y
numbers_back [] = refl
numbers_back (o ∷ os) = ap {B = List ℕ} (λ l. o ∷ l) (numbers_back os)

pub total_is : (D : Domain) (y : List Object) (s : State) (w j : ℕ) → w ≡ weight D y s.facts → j ≡ sum_of (journeys_for D y) s.running
    → w + j ≡ total D y s
unfolding total
total_is D y s w j e f = ap₂ ◌+◌ e f
