-- What a class has at a moment, as the code holds it, and the name and journey that it decides. Assumes nothing.
use mathlib.Core.Path.{◌≡◌, refl, sym, ap, ap₂, ◌∙◌}
use mathlib.Core.Bool.{Bool, true, false, ◌&&◌, ◌||◌, not, cond}
use mathlib.Core.Logic.{◌⊎◌, inl, inr}
use mathlib.Core.List.{List, [], ◌∷◌, ◌++◌, map, flat_map}
use Prim.Native.Nat.{ℕ, suc, ◌+◌, ◌-◌, ◌*◌, ◌≤◌, ◌<◌}
use native.Mathlib.Omega.{arith}
use lib.Dec.{eqb, leb, ltb}
use lib.ListN.{length, get_or, replicate, length-map, get_or-append}
use borrow.Author.Tests.{eq-eqb, ne_eqb, eqb-true, eqb-false, le-leb, lt-leb, leb-true, leb-false, ltb-true, ltb-false}
use Rattle.std.specs.Prelude.{Some, None, position as optional}
use Rattle.records.proofs.Chains.{position_is}
use Rattle.records.specs.Lists.{In, filter_by, count_by, any, all, elem, position, below}
use Rattle.records.proofs.Lists.{and_l, and_r, or_out, off, clash, any_out, in_flat_map, below_in, bool_cases, not_true, get_d_in, all_in, any_map, all_map, any_append, count_filter}
use Rattle.literals.specs.declared.Variable.{Variable}
use Rattle.literals.specs.declared.Argument.{Argument}
use Rattle.literals.specs.declared.Argument.TheVariants.{Every}
use Rattle.literals.specs.declared.Label.{Label}
use Rattle.literals.specs.declared.Label.TheVariants.{Key as keyed, Counted}
use Rattle.literals.specs.declared.Time.TheVariants.{OverAll}
use Rattle.literals.specs.declared.Usage.{Usage}
use Rattle.literals.specs.declared.Usage.TheVariants.{Positive, Negative, Add, Delete}
use Rattle.literals.specs.declared.Role.{Role}
use Rattle.literals.specs.Domain.{is_every, Atom, same_literal, meets, usage_number, role_number, role_of, same_time, Literal, Action}
use Rattle.literals.specs.Domain.{label_number, Component, is_counted, key_below, counted_cleared, keys_of, Domain, arity}
use Rattle.literals.specs.Decode.{argument_of, label_of}
use Rattle.literals.proofs.Arguments.{every_number}
use Rattle.literals.specs.Held.{literal_row, all_literals, has_every, some_every, pad, Bounded as BoundedDomain, arity_in, component_row_in}
use Rattle.literals.specs.Held.{clears_in, components_in, TemplateOf}
use Rattle.literals.proofs.KeyRows.{place_le}
use Rattle.literals.proofs.Bytes.{keys_below_lem}
use Rattle.literals.proofs.Tables.{Kept, kept, pad_at}
use Rattle.literals.proofs.Heads.{part_is}
use Rattle.literals.proofs.Held.{keys_few}
use Rattle.literals.specs.declared.Moment.{Moment}
use Rattle.literals.specs.declared.Moment.TheVariants.{Start, End}
use Rattle.classes.specs.declared.Name.TheVariants.{Unreachable, Irrelevant, Heavy, Balanced, Unbalanced, Bounded, Unbounded}
use Rattle.classes.specs.declared.Count.{Count}
use Rattle.classes.specs.declared.Count.TheVariants.{Zero, One, More}
use Rattle.classes.specs.declared.Sole.{Sole}
use Rattle.literals.specs.Matching.{required}
use Rattle.classes.specs.Classes.{literal_tuples, belongs, classes, in_class, reach_in, lasts_in, deleted_by, changed_by, covered}
use Rattle.classes.specs.Classes.{excluding, name_by, name_of, journey}
use Rattle.classes.specs.Held.{ActionOf, MomentOf, class_number_by, class_numbers, own_usages, asked_usages, uncovered_at, is_at, is_same_at}
use Rattle.classes.specs.Held.{same_in, is_delete_at, deleted_in, changed_at, excludes_at, cleared_at, clears_at, covers_at, covered_at}
use Rattle.classes.specs.Held.{counted_at, has_counted, looked_covered, place_below, lacking_at, lasts_at, count_of, sole_by, sole_at, sole_of, reach_at}
use Rattle.literals.proofs.Indices.{at_all, any_below, all_below_lem, side_all, filter_below, position_below, any_filter, all_filter}
use Rattle.literals.proofs.Indices.{filter_filter, filter_map, any_or, position_map, position_none, get_d_map, length_from}
use Rattle.classes.proofs.Rows.{no_literal, literal_at, kept_at, role_at, relation_at, atoms_at, meet_at_lem, argument_at_lem}
use Rattle.classes.proofs.Usages.{usages_few, literals_at_lem, required_at, asked_start}
use Rattle.classes.proofs.Roles.{own_few}
use Rattle.classes.proofs.Members.{member}
use Rattle.classes.proofs.Soles.{and_comm, sole_none, sole_many, sole_one, sole_less, sole_passes, sole_all, count_zero, count_more, count_one}

-- ---- the members of a class at a moment

-- ---- tests

abbrev same_bool : Bool → Bool → Bool
same_bool true b = b
same_bool false b = not b

bool_eq : (s t : Bool) → same_bool s t ≡ true → s ≡ t
bool_eq true t e = sym e
bool_eq false t e = sym (not_true t e)

-- ---- a component's labels, as bytes

abbrev no_component : Component
no_component = record { rel = 0; labels = [] }

abbrev component_at : Domain → ℕ → Component
component_at D c = get_or D.template c no_component

-- a key's byte is never FF
counted_byte : (n : ℕ) → n ≤ 6 → (l : Label) → key_below n l ≡ true → is_counted (label_of (label_number l)) ≡ is_counted l
counted_byte n h (keyed k) t = let g = ltb-true k.0 n t in rw (ne_eqb k.0 255 (λ e. omega arith))
counted_byte n h Counted t = refl

module _ {D : Domain} {head : List ℕ} (H : TemplateOf D head) (c : ℕ) (h : c < length D.template) where
  here : In (component_at D c) D.template
  here = get_d_in D.template c no_component h

  part_relation : get_or (component_row_in head c) 0 0 ≡ (component_at D c).rel
  part_relation = ap (λ (p : List ℕ). get_or p 0 0) (part_is H no_component c h)

  part_arity : arity_in head (get_or (component_row_in head c) 0 0) ≡ length (component_at D c).labels
  part_arity = ap (arity_in head) part_relation ∙ H.arities (component_at D c).rel ∙ sym (H.bounded.component_arity (component_at D c) here)

  part_label : (i : ℕ) → i < length (component_at D c).labels → get_or (component_row_in head c) (1 + i) 0 ≡ label_number (get_or (component_at D c).labels i Counted)
  part_label i g =
      let e : 1 + i ≡ suc i = omega arith in
      let ns = map label_number (component_at D c).labels in
      let f = length-map (component_at D c).labels label_number in
      ap₂ (λ (p : List ℕ) (j : ℕ). get_or p j 0) (part_is H no_component c h) e
      ∙ get_or-append ns (replicate (8 - suc (length ns)) 255) 0 i (omega arith)
      ∙ get_d_map label_number (component_at D c).labels i Counted 0 g

  part_counted : (i : ℕ) → i < length (component_at D c).labels
      → is_counted (label_of (get_or (component_row_in head c) (1 + i) 0)) ≡ is_counted (get_or (component_at D c).labels i Counted)
  part_counted i g =
      ap (λ (b : ℕ). is_counted (label_of b)) (part_label i g)
      ∙ counted_byte count (keys_few D.template H.bounded.labels) (get_or ls i Counted)
      (all_in (key_below count) ls fits (get_d_in ls i Counted g))
    where
      ls : List Label
      ls = (component_at D c).labels

      count : ℕ
      count = keys_of D.template

      fits : all (key_below count) ls ≡ true
      fits = keys_below_lem _ _ (H.bounded.keys_fit (component_at D c) here)

-- no index passes
no_index : (l : List ℕ) → any (λ j. false) l ≡ false
no_index [] = refl
no_index (j ∷ l) = no_index l

-- a counted place beside arguments none of which is FF
open_beside : (ls : List Label) (vs : List Argument) → length ls ≡ length vs → any is_counted ls ≡ true → any is_every vs ≡ false
    → counted_cleared ls vs ≡ false
open_beside [] vs e t f = absurd (clash t refl)
open_beside (l ∷ ls) [] e t f = absurd (omega arith)
open_beside (l ∷ ls) (v ∷ vs) e t f = go (is_counted l) refl (λ u. open_beside ls vs (omega arith) u (or_out (is_every v) _ f).1)
  where
    go : (b : Bool) → is_counted l ≡ b → (any is_counted ls ≡ true → counted_cleared ls vs ≡ false) → counted_cleared (l ∷ ls) (v ∷ vs) ≡ false
    go true q ih = rw (q, (or_out (is_every v) _ f).0)
    go false q ih = rw q (ih (sym (ap (λ (b : Bool). b || any is_counted ls) q) ∙ t))

-- ---- a class by its number

-- of a usage from 0 to 4
abbrev excludes : ℕ → Bool
excludes n = eqb n 2 || (eqb n 3 || eqb n 4)

usage_excludes : (n : ℕ) → n ≤ 4 → leb 2 n ≡ excludes n
usage_excludes n h = bool_eq (leb 2 n) (excludes n) (below_in 5 (λ n. same_bool (leb 2 n) (excludes n)) refl n (omega arith))

-- the three usages that exclude, one by one
each_usage : (o p q r t : Bool) → o && ((p || (q || r)) && t) ≡ ((o && p) && t) || (((o && q) && t) || ((o && r) && t))
each_usage true p q r t = spread p (q || r) t ∙ ap (λ (b : Bool). (p && t) || b) (spread q r t)
  where
    spread : (p s t : Bool) → (p || s) && t ≡ (p && t) || (s && t)
    spread true s true = refl
    spread true true false = refl
    spread true false false = refl
    spread false s t = refl
each_usage false p q r t = refl

regroup : (o e t z w : Bool) → (t ≡ true → z ≡ w) → (o && (e && t)) && z ≡ o && (e && (t && w))
regroup true true true z w h = h refl
regroup true true false z w h = refl
regroup true false t z w h = refl
regroup false e t z w h = refl

module _ (D : Domain) (a : Action) (B : BoundedDomain D) (i : In a D.actions) (m : Moment) (k : ℕ) (h : k < length (classes D a)) where
  abbrev n : ℕ
  n = length a.lits

  abbrev atom : ℕ → Atom Argument
  atom j = (literal_at a.lits j).atom

  abbrev x : List Variable
  x = get_or (classes D a) k []

  abbrev rows : List ℕ
  rows = flat_map literal_row a.lits

  abbrev usages : List ℕ
  usages = pad 64 (own_usages a m)

  abbrev is_member : ℕ → ℕ → Bool
  is_member usage = is_at (class_numbers D a) usages k usage

  -- of literals that are those with the usage d
  class_members : (d : ℕ) (is : List ℕ) (ls : List (Atom Argument)) → ls ≡ map atom (filter_by (λ j. eqb (get_or is j 0) d) (below n))
      → filter_by (belongs D x) ls ≡ map atom (filter_by (is_at (class_numbers D a) (pad 64 is) k d) (below n))
  unfolding is_at
  class_members d is ls e =
      ap (filter_by (belongs D x)) e
      ∙ filter_map atom (belongs D x) (filter_by counted (below n))
      ∙ ap (map atom) (filter_filter counted (λ j. belongs D x (atom j)) (below n))
      ∙ ap (map atom) (filter_below (λ j. counted j && belongs D x (atom j)) (is_at (class_numbers D a) (pad 64 is) k d) n agree)
    where
      counted : ℕ → Bool
      counted j = eqb (get_or is j 0) d

      agree : (j : ℕ) → j < n → counted j && belongs D x (atom j) ≡ is_at (class_numbers D a) (pad 64 is) k d j
      agree j g =
          and_comm (counted j) (belongs D x (atom j))
          ∙ ap₂ ◌&&◌ (sym (member k B i h j g)) (ap (λ (c : ℕ). eqb c d) (sym (pad_at 64 is j)))

  in_class_lem : (c : Usage) → in_class D a x m c ≡ map atom (filter_by (is_member (suc (usage_number c))) (below n))
  unfolding in_class
  in_class_lem c = class_members (suc (usage_number c)) (own_usages a m) _ (literals_at_lem a m c)

  -- those towards unreachable
  abbrev is_asked : ℕ → Bool
  is_asked = is_at (class_numbers D a) (pad 64 (asked_usages a m)) k 1

  reach_in_lem : reach_in D a x m ≡ map atom (filter_by is_asked (below n))
  unfolding reach_in
  reach_in_lem = class_members 1 (asked_usages a m) (required a m Positive) (required_at a m Positive)

  reach_count : count_by is_asked (below n) ≡ length (reach_in D a x m)
  reach_count = count_filter is_asked (below n) ∙ sym (length-map (filter_by is_asked (below n)) atom) ∙ ap length (sym reach_in_lem)

  -- how many there are
  count_in : (c : Usage) → count_by (is_member (suc (usage_number c))) (below n) ≡ length (in_class D a x m c)
  count_in c =
      count_filter (is_member (suc (usage_number c))) (below n)
      ∙ sym (length-map (filter_by (is_member (suc (usage_number c))) (below n)) atom)
      ∙ ap length (sym (in_class_lem c))

  -- whether one passes a test
  any_member : (c : Usage) (q : Atom Argument → Bool) → any q (in_class D a x m c)
      ≡ any (λ j. is_member (suc (usage_number c)) j && q (atom j)) (below n)
  any_member c q =
      ap (any q) (in_class_lem c)
      ∙ any_map atom q (filter_by (is_member (suc (usage_number c))) (below n))
      ∙ any_filter (is_member (suc (usage_number c))) (λ j. q (atom j)) (below n)

  all_member : (c : Usage) (q : Atom Argument → Bool) → all q (in_class D a x m c)
      ≡ all (λ j. not (is_member (suc (usage_number c)) j) || q (atom j)) (below n)
  all_member c q =
      ap (all q) (in_class_lem c)
      ∙ all_map atom q (filter_by (is_member (suc (usage_number c))) (below n))
      ∙ all_filter (is_member (suc (usage_number c))) (λ j. q (atom j)) (below n)

  length_numbers : length (class_numbers D a) ≡ n
  unfolding class_numbers
  length_numbers = length-map a.lits (λ (l : Literal). class_number_by (classes D a) (literal_tuples D l.atom))

  kept_in : (l : Literal) → In l a.lits → Kept D l
  kept_in l j = kept B i j

  same_in_lem : (c : Usage) (j : ℕ) → j < n → same_in rows (class_numbers D a) usages k (suc (usage_number c)) j ≡ elem same_literal (atom j) (in_class D a x m c)
  unfolding same_in is_same_at
  same_in_lem c j g =
      ap (λ (l : ℕ). any (is_same_at rows (class_numbers D a) usages k (suc (usage_number c)) j) (below l)) length_numbers
      ∙ any_below (is_same_at rows (class_numbers D a) usages k (suc (usage_number c)) j) (λ l. is_member (suc (usage_number c)) l && same_literal (atom j) (atom l)) n
      (λ l f. ap (λ (t : Bool). is_member (suc (usage_number c)) l && t) (atoms_at a.lits kept_in j l g f))
      ∙ sym (any_member c (same_literal (atom j)))

  deletes_in : (j : ℕ) → j < n → deleted_in rows (class_numbers D a) usages k j ≡ deleted_by (in_class D a x m Delete) (atom j)
  unfolding deleted_in is_delete_at
  deletes_in j g =
      ap (λ (l : ℕ). any (is_delete_at rows (class_numbers D a) usages k j) (below l)) length_numbers
      ∙ any_below (is_delete_at rows (class_numbers D a) usages k j) (λ l. is_member 4 l && meets (atom l) (atom j)) n
      (λ l f. ap (λ (t : Bool). is_member 4 l && t) (meet_at_lem a.lits kept_in l j f g))
      ∙ sym (any_member Delete (λ q. meets q (atom j)))

  sole_in_lem : (c : Usage) → sole_at (class_numbers D a) usages k (suc (usage_number c)) ≡ sole_by (is_member (suc (usage_number c))) n
  unfolding sole_at
  sole_in_lem c = ap (sole_by (is_member (suc (usage_number c)))) length_numbers

  few : n ≤ 64
  few = B.sizes a i

  pub none_in : (c : Usage) → sole_at (class_numbers D a) usages k (suc (usage_number c)) ≡ 0 → length (in_class D a x m c) ≡ 0
  none_in c e = sym (count_in c) ∙ sole_none (is_member (suc (usage_number c))) n few (sym (sole_in_lem c) ∙ e)

  pub many_in : (c : Usage) → sole_at (class_numbers D a) usages k (suc (usage_number c)) ≡ 255 → 2 ≤ length (in_class D a x m c)
  many_in c e = let h = sole_many (is_member (suc (usage_number c))) n few (sym (sole_in_lem c) ∙ e) in let g = count_in c in omega arith

  -- two or more towards unreachable, or fewer
  reach_sole : sole_at (class_numbers D a) (pad 64 (asked_usages a m)) k 1 ≡ sole_by is_asked n
  unfolding sole_at
  reach_sole = ap (sole_by is_asked) length_numbers

  pub reach_many : sole_at (class_numbers D a) (pad 64 (asked_usages a m)) k 1 ≡ 255 → 2 ≤ length (reach_in D a x m)
  reach_many e = let u = sole_many is_asked n few (sym reach_sole ∙ e) in let g = reach_count in omega arith

  pub reach_few : (sole_at (class_numbers D a) (pad 64 (asked_usages a m)) k 1 ≡ 255 → ⊥) → length (reach_in D a x m) ≤ 1
  reach_few e = go (bool_cases (eqb (sole_by is_asked n) 0))
    where
      go : (eqb (sole_by is_asked n) 0 ≡ true) ⊎ (eqb (sole_by is_asked n) 0 ≡ false) → length (reach_in D a x m) ≤ 1
      go (inl t) = let u = sole_none is_asked n few (eqb-true _ _ t) in let g = reach_count in omega arith
      go (inr t) = let u = sole_one is_asked n few (eqb-false _ _ t) (λ z. e (reach_sole ∙ z)) in let g = reach_count in omega arith

  module _ (c : Usage) (some : sole_at (class_numbers D a) usages k (suc (usage_number c)) ≡ 0 → ⊥) (not-many : sole_at (class_numbers D a) usages k (suc (usage_number c)) ≡ 255 → ⊥) where
    counted_one : count_by (is_member (suc (usage_number c))) (below n) ≡ 1
    counted_one = sole_one (is_member (suc (usage_number c))) n few (λ e. some (sole_in_lem c ∙ e)) (λ e. not-many (sole_in_lem c ∙ e))

    pub one_in : length (in_class D a x m c) ≡ 1
    one_in = sym (count_in c) ∙ counted_one

    -- the place of the one
    abbrev place : ℕ
    place = sole_at (class_numbers D a) usages k (suc (usage_number c)) - 1

    place_is : place ≡ sole_by (is_member (suc (usage_number c))) n - 1
    place_is = ap (λ (s : ℕ). s - 1) (sole_in_lem c)

    place_less : place < n
    place_less = rw place_is (sole_less (is_member (suc (usage_number c))) n few (λ e. some (sole_in_lem c ∙ e)) (λ e. not-many (sole_in_lem c ∙ e)))

    all_one : (q : Atom Argument → Bool) → all q (in_class D a x m c) ≡ q (atom place)
    all_one q =
        all_member c q
        ∙ sole_all (is_member (suc (usage_number c))) (λ j. q (atom j)) n place counted_one place_less
        (ap (is_member (suc (usage_number c))) place_is ∙ sole_passes (is_member (suc (usage_number c))) n few (λ e. some (sole_in_lem c ∙ e)) (λ e. not-many (sole_in_lem c ∙ e)))

  module _ (some : sole_at (class_numbers D a) usages k 1 ≡ 0 → ⊥) (not-many : sole_at (class_numbers D a) usages k 1 ≡ 255 → ⊥) where
    pub changed_in : changed_at rows (class_numbers D a) usages k (sole_at (class_numbers D a) usages k 1 - 1) ≡ all (changed_by (in_class D a x m Add) (in_class D a x m Delete)) (in_class D a x m Positive)
    unfolding changed_at
    changed_in =
        ap₂ ◌||◌ (same_in_lem Add (place Positive some not-many) (place_less Positive some not-many))
        (deletes_in (place Positive some not-many) (place_less Positive some not-many))
        ∙ sym (all_one Positive some not-many (changed_by (in_class D a x m Add) (in_class D a x m Delete)))

    pub deleted_in_lem : deleted_in rows (class_numbers D a) usages k (sole_at (class_numbers D a) usages k 1 - 1)
        ≡ all (deleted_by (in_class D a x m Delete)) (in_class D a x m Positive)
    deleted_in_lem = deletes_in (place Positive some not-many) (place_less Positive some not-many)
        ∙ sym (all_one Positive some not-many (deleted_by (in_class D a x m Delete)))

  module _ {head : List ℕ} (H : TemplateOf D head) where
    -- a literal of the component's relation has FF in its counted place
    clears_in_lem : (c : ℕ) → c < length D.template → (j : ℕ) → j < n → eqb (component_at D c).rel (atom j).rel ≡ true
        → clears_at head rows c j ≡ counted_cleared (component_at D c).labels (atom j).args
    unfolding clears_at
    clears_in_lem c g j f t =
        ap (λ (w : ℕ). all (cleared_at head rows c j) (below w)) (part_arity H c g)
        ∙ all_below_lem (cleared_at head rows c j) (λ i. not (is_counted (get_or ls i Counted)) || is_every (get_or vs i Every)) (length ls)
        (λ i w. ap₂ (λ (s t : Bool). not s || t) (part_counted H c g i w)
        (ap (λ (b : ℕ). is_every (argument_of b)) (argument_at_lem a.lits kept_in j i f (omega (arith, sized)))
        ∙ every_number vs (kept_in (literal_at a.lits j) there).variables (get_or vs i Every) (get_d_in vs i Every (omega (arith, sized)))))
        ∙ side_all (λ l v. not (is_counted l) || is_every v) Counted Every ls vs sized
      where
        ls : List Label
        ls = (component_at D c).labels

        vs : List Argument
        vs = (atom j).args

        there : In (literal_at a.lits j) a.lits
        there = get_d_in a.lits j no_literal f

        sized : length ls ≡ length vs
        sized =
            H.bounded.component_arity (component_at D c) (here H c g)
            ∙ ap (arity D) (eqb-true (component_at D c).rel (atom j).rel t)
            ∙ sym (kept_in (literal_at a.lits j) there).arguments

    covered_in : (c : ℕ) → c < length D.template
        → covered_at head rows (class_numbers D a) usages k c ≡ covered (excluding D a x m) (component_at D c)
    unfolding covered_at covers_at excludes_at excluding is_at
    covered_in c g =
        ap (λ (l : ℕ). any (covers_at head rows (class_numbers D a) usages k c) (below l)) length_numbers
        ∙ any_below (covers_at head rows (class_numbers D a) usages k c) (λ j. with 2 j || (with 3 j || with 4 j)) n agree
        ∙ sym (any_or (with 2) (λ j. with 3 j || with 4 j) (below n))
        ∙ ap (λ (t : Bool). any (with 2) (below n) || t) (sym (any_or (with 3) (with 4) (below n)))
        ∙ sym (any_append q (in_class D a x m Negative) (in_class D a x m Add ++ in_class D a x m Delete)
        ∙ ap₂ ◌||◌ (any_member Negative q)
        (any_append q (in_class D a x m Add) (in_class D a x m Delete) ∙ ap₂ ◌||◌ (any_member Add q) (any_member Delete q)))
      where
        q : Atom Argument → Bool
        q p = eqb (component_at D c).rel p.rel && counted_cleared (component_at D c).labels p.args

        with : ℕ → ℕ → Bool
        with usage j = is_member usage j && q (atom j)

        agree : (j : ℕ) → j < n → covers_at head rows (class_numbers D a) usages k c j ≡ with 2 j || (with 3 j || with 4 j)
        agree j f =
            let s : get_or usages j 0 ≤ 4 = rw (pad_at 64 (own_usages a m) j) (usages_few false a m j f) in
            ap₂ (λ (e t : Bool). (eqb (get_or (class_numbers D a) j 0) k && (e && t)) && clears_at head rows c j)
            (usage_excludes (get_or usages j 0) s) (ap₂ eqb (part_relation H c g) (relation_at a.lits kept_in j f))
            ∙ regroup (eqb (get_or (class_numbers D a) j 0) k) (excludes (get_or usages j 0)) (eqb (component_at D c).rel (atom j).rel)
            (clears_at head rows c j) (counted_cleared (component_at D c).labels (atom j).args) (clears_in_lem c g j f)
            ∙ each_usage (eqb (get_or (class_numbers D a) j 0) k) (eqb (get_or usages j 0) 2) (eqb (get_or usages j 0) 3)
            (eqb (get_or usages j 0) 4)
            (q (atom j))

    -- where no literal has FF, a component with a counted place is not covered
    open_in : (c : ℕ) → c < length D.template → clears_in head ≡ false → has_counted head c ≡ true
        → covered_at head rows (class_numbers D a) usages k c ≡ false
    unfolding covered_at covers_at excludes_at has_counted some_every all_literals
    open_in c g f t =
        ap (λ (l : ℕ). any (covers_at head rows (class_numbers D a) usages k c) (below l)) length_numbers
        ∙ any_below (covers_at head rows (class_numbers D a) usages k c) (λ j. false) n
        (λ j w. off (covers_at head rows (class_numbers D a) usages k c j) (λ y. clash (and_r (excluded j) (clears_at head rows c j) y) (none j w (same j w (and_l (excluded j) (clears_at head rows c j) y)))))
        ∙ no_index (below n)
      where
        ls : List Label
        ls = (component_at D c).labels

        excluded : ℕ → Bool
        excluded j = eqb (get_or (class_numbers D a) j 0) k && (leb 2 (get_or usages j 0) && eqb (get_or (component_row_in head c) 0 0) (get_or rows (8 * j + 1) 0))

        same : (j : ℕ) → j < n → excluded j ≡ true → eqb (component_at D c).rel (atom j).rel ≡ true
        same j w y =
            sym (ap₂ eqb (part_relation H c g) (relation_at a.lits kept_in j w))
            ∙ and_r (leb 2 (get_or usages j 0)) _ (and_r (eqb (get_or (class_numbers D a) j 0) k) _ y)

        counted : any is_counted ls ≡ true
        counted =
            ap (any is_counted) (sym (at_all Counted ls)) ∙ any_map (λ i. get_or ls i Counted) is_counted (below (length ls))
            ∙ sym (ap (λ (w : ℕ). any (counted_at head c) (below w)) (part_arity H c g)
            ∙ any_below (counted_at head c) (λ i. is_counted (get_or ls i Counted)) (length ls) (λ i w. part_counted H c g i w))
            ∙ t

        none : (j : ℕ) → j < n → eqb (component_at D c).rel (atom j).rel ≡ true → clears_at head rows c j ≡ false
        none j w y =
            let there = get_d_in a.lits j no_literal w in
            clears_in_lem c g j w y
            ∙ open_beside ls (atom j).args
            (H.bounded.component_arity (component_at D c) (here H c g) ∙ ap (arity D) (eqb-true (component_at D c).rel (atom j).rel y)
            ∙ sym (kept_in (literal_at a.lits j) there).arguments)
            counted (any_out has_every (H.plain f) (in_flat_map (λ (b : Action). b.lits) i there))

    uncovered_in : lacking_at head rows (class_numbers D a) usages k ≡ uncovered_at D a x m
    unfolding uncovered_at lacking_at
    uncovered_in =
        ap (λ (l : ℕ). position (λ c. not (covered_at head rows (class_numbers D a) usages k c)) (below l)) H.components
        ∙ position_below (λ c. not (covered_at head rows (class_numbers D a) usages k c)) (λ c. not (covered (excluding D a x m) (component_at D c))) (length D.template)
        (λ c g. ap not (covered_in c g))
        ∙ sym (position_map (component_at D) (λ c. not (covered (excluding D a x m) c)) (below (length D.template)))
        ∙ ap (position (λ c. not (covered (excluding D a x m) c))) (at_all no_component D.template)

-- ---- the memories of a moment

module _ {D : Domain} {a : Action} {m : Moment} {head rows numbers usages : List ℕ} (M : MomentOf D a m head rows numbers usages) where
  its_bounds : BoundedDomain D
  its_bounds = M.whole.says.bounded

  -- the other moment of its action, by the bytes that it has there
  pub moment_of_lem : (m' : Moment) → MomentOf D a m' head rows (class_numbers D a) (pad 64 (own_usages a m'))
  moment_of_lem m' = record { whole = M.whole; numbers_are = refl; usages_are = refl }

  pub uncovered_held : {k : ℕ} → k < length (classes D a) → lacking_at head rows numbers usages k ≡ uncovered_at D a (get_or (classes D a) k []) m
  uncovered_held {k} h =
      (λ t. lacking_at head (M.whole.literals t) (M.numbers_are t) (M.usages_are t) k)
      ∙ uncovered_in D a its_bounds M.whole.listed m k h M.whole.says

  pub open_held : {k : ℕ} → k < length (classes D a) → (c : ℕ) → c < length D.template → clears_in head ≡ false → has_counted head c ≡ true
      → covered_at head rows numbers usages k c ≡ false
  open_held {k} h c g f t =
      (λ u. covered_at head (M.whole.literals u) (M.numbers_are u) (M.usages_are u) k c)
      ∙ open_in D a its_bounds M.whole.listed m k h M.whole.says c g f t

  -- what is looked for is so
  looked_held : {k : ℕ} → k < length (classes D a) → (c : ℕ) → c < length D.template → looked_covered head rows numbers usages k c ≡ covered_at head rows numbers usages k c
  unfolding looked_covered
  looked_held {k} h c g = go (clears_in head) refl (has_counted head c) refl
    where
      go : (s : Bool) → clears_in head ≡ s → (t : Bool) → has_counted head c ≡ t → (s || not t) && covered_at head rows numbers usages k c ≡ covered_at head rows numbers usages k c
      go true e t f = refl
      go false e true f = sym (open_held h c g e f)
      go false e false f = refl

  pub uncovered_found : {k : ℕ} → k < length (classes D a)
      → optional (λ c. not (looked_covered head rows numbers usages k c)) (below (components_in head))
      ≡ place_below (length D.template) (uncovered_at D a (get_or (classes D a) k []) m)
  unfolding lacking_at
  uncovered_found {k} h =
      ap₂ place_below (length_from 0 (components_in head) ∙ its)
      (sym (position_is looked (below (components_in head)))
      ∙ position_below looked (λ c. not (covered_at head rows numbers usages k c)) (components_in head)
      (λ c g. ap not (looked_held h c (omega arith)))
      ∙ uncovered_held h)
    where
      looked : ℕ → Bool
      looked c = not (looked_covered head rows numbers usages k c)

      its : components_in head ≡ length D.template
      its = M.whole.says.components

-- ---- the first line that fits

module _ {D : Domain} {a : Action} {m : Moment} {head rows numbers usages : List ℕ} (M : MomentOf D a m head rows numbers usages) {k : ℕ} (h : k < length (classes D a)) {sole : Sole} (s : sole ≡ sole_of numbers usages k) where
  conditions_are : sole.conditions ≡ count_of (sole_at (class_numbers D a) (pad 64 (own_usages a m)) k 1)
  conditions_are = ap (λ (r : Sole). r.conditions) s ∙ ap₂ (λ (o c : List ℕ). count_of (sole_at o c k 1)) M.numbers_are M.usages_are

  adds_are : sole.adds ≡ count_of (sole_at (class_numbers D a) (pad 64 (own_usages a m)) k 3)
  adds_are = ap (λ (r : Sole). r.adds) s ∙ ap₂ (λ (o c : List ℕ). count_of (sole_at o c k 3)) M.numbers_are M.usages_are

  pub no_conditions : sole.conditions ≡ Zero → length (in_class D a (get_or (classes D a) k []) m Positive) ≡ 0
  no_conditions z = none_in D a (its_bounds M) M.whole.listed m k h Positive (count_zero _ (sym conditions_are ∙ z))

  pub many_conditions : sole.conditions ≡ More → 2 ≤ length (in_class D a (get_or (classes D a) k []) m Positive)
  many_conditions z = many_in D a (its_bounds M) M.whole.listed m k h Positive (count_more _ (sym conditions_are ∙ z))

  pub one_condition : {j : ℕ} → sole.conditions ≡ One j → length (in_class D a (get_or (classes D a) k []) m Positive) ≡ 1
  one_condition z = let o = count_one _ (sym conditions_are ∙ z) in one_in D a (its_bounds M) M.whole.listed m k h Positive o.0 o.1

  pub no_adds : sole.adds ≡ Zero → length (in_class D a (get_or (classes D a) k []) m Add) ≡ 0
  no_adds z = none_in D a (its_bounds M) M.whole.listed m k h Add (count_zero _ (sym adds_are ∙ z))

  pub many_adds : sole.adds ≡ More → 2 ≤ length (in_class D a (get_or (classes D a) k []) m Add)
  many_adds z = many_in D a (its_bounds M) M.whole.listed m k h Add (count_more _ (sym adds_are ∙ z))

  pub one_add : {j : ℕ} → sole.adds ≡ One j → length (in_class D a (get_or (classes D a) k []) m Add) ≡ 1
  one_add z = let o = count_one _ (sym adds_are ∙ z) in one_in D a (its_bounds M) M.whole.listed m k h Add o.0 o.1

  pub some_conditions : (sole.conditions ≡ Zero → ⊥) → length (in_class D a (get_or (classes D a) k []) m Positive) ≡ 0 → ⊥
  some_conditions y z = go sole.conditions refl
    where
      go : (c : Count) → sole.conditions ≡ c → ⊥
      go Zero e = y e
      go (One j) e = let n = one_condition e in omega arith
      go More e = let n = many_conditions e in omega arith

  pub other_conditions : ((j : ℕ) → sole.conditions ≡ One j → ⊥) → length (in_class D a (get_or (classes D a) k []) m Positive) ≡ 1 → ⊥
  other_conditions y z = go sole.conditions refl
    where
      go : (c : Count) → sole.conditions ≡ c → ⊥
      go Zero e = let n = no_conditions e in omega arith
      go (One j) e = y j e
      go More e = let n = many_conditions e in omega arith

  pub some_adds : (sole.adds ≡ Zero → ⊥) → length (in_class D a (get_or (classes D a) k []) m Add) ≡ 0 → ⊥
  some_adds y z = go sole.adds refl
    where
      go : (c : Count) → sole.adds ≡ c → ⊥
      go Zero e = y e
      go (One j) e = let n = one_add e in omega arith
      go More e = let n = many_adds e in omega arith

  pub other_adds : ((j : ℕ) → sole.adds ≡ One j → ⊥) → length (in_class D a (get_or (classes D a) k []) m Add) ≡ 1 → ⊥
  other_adds y z = go sole.adds refl
    where
      go : (c : Count) → sole.adds ≡ c → ⊥
      go Zero e = let n = no_adds e in omega arith
      go (One j) e = y j e
      go More e = let n = many_adds e in omega arith

  module _ {j : ℕ} (one : sole.conditions ≡ One j) where
    abbrev its : (sole_at (class_numbers D a) (pad 64 (own_usages a m)) k 1 ≡ 0 → ⊥) × (sole_at (class_numbers D a) (pad 64 (own_usages a m)) k 1 ≡ 255 → ⊥)
        × (sole_at (class_numbers D a) (pad 64 (own_usages a m)) k 1 - 1 ≡ j)
    its = count_one _ (sym conditions_are ∙ one)

    pub changed_held : changed_at rows numbers usages k j
        ≡ all (changed_by (in_class D a (get_or (classes D a) k []) m Add) (in_class D a (get_or (classes D a) k []) m Delete)) (in_class D a (get_or (classes D a) k []) m Positive)
    changed_held =
        (λ t. changed_at (M.whole.literals t) (M.numbers_are t) (M.usages_are t) k (sym its.2 t))
        ∙ changed_in D a (its_bounds M) M.whole.listed m k h its.0 its.1

    pub deleted_held : deleted_in rows numbers usages k j
        ≡ all (deleted_by (in_class D a (get_or (classes D a) k []) m Delete)) (in_class D a (get_or (classes D a) k []) m Positive)
    deleted_held =
        (λ t. deleted_in (M.whole.literals t) (M.numbers_are t) (M.usages_are t) k (sym its.2 t))
        ∙ deleted_in_lem D a (its_bounds M) M.whole.listed m k h its.0 its.1

-- where the only condition stands, a loop may look
pub sole_inside : (numbers usages : List ℕ) (class : ℕ) {sole : Sole} → length numbers ≤ 64 → sole ≡ sole_of numbers usages class → {j : ℕ} → sole.conditions ≡ One j
    → j < length numbers
unfolding sole_at
sole_inside numbers usages class h e one =
    let o = count_one _ (sym (ap (λ (r : Sole). r.conditions) e) ∙ one) in
    rw (← o.2) (sole_less (is_at numbers usages class 1) (length numbers) h o.0 o.1)

-- ---- whether a class has an over-all literal

lasts_byte : {D : Domain} (l : Literal) → Kept D l → same_time OverAll (role_of (role_number l.role)).time ≡ same_time OverAll
    l.role.time
lasts_byte l k = ap (λ (r : Role). same_time OverAll r.time) k.back

pub lasts_held : {D : Domain} {a : Action} {head rows numbers : List ℕ} → ActionOf D a head rows → numbers ≡ class_numbers D a → {k : ℕ} → k < length (classes D a)
    → any (lasts_at rows numbers k) (below (length numbers)) ≡ lasts_in D a (get_or (classes D a) k [])
unfolding lasts_at lasts_in
lasts_held {D} {a} {head} {rows} {numbers} A f {k} h =
    ap₂ (λ (r o : List ℕ). any (lasts_at r o k) (below (length o))) A.literals f
    ∙ ap (λ (l : ℕ). any (lasts_at (flat_map literal_row a.lits) (class_numbers D a) k) (below l)) (length_numbers D a B i Start k h)
    ∙ any_below (lasts_at (flat_map literal_row a.lits) (class_numbers D a) k) (λ j. test (literal_at a.lits j)) (length a.lits) agree
    ∙ sym (any_map (literal_at a.lits) test (below (length a.lits)))
    ∙ ap (any test) (at_all no_literal a.lits)
  where
    B : BoundedDomain D
    B = A.says.bounded

    i : In a D.actions
    i = A.listed

    test : Literal → Bool
    test l = same_time OverAll l.role.time && belongs D (get_or (classes D a) k []) l.atom

    agree : (j : ℕ) → j < length a.lits → lasts_at (flat_map literal_row a.lits) (class_numbers D a) k j ≡ test (literal_at a.lits j)
    agree j g =
        ap₂ ◌&&◌ (member k B i h j g)
        (ap (λ (b : ℕ). same_time OverAll (role_of b).time) (role_at a.lits (λ l n. kept B i n) j g) ∙ lasts_byte (literal_at a.lits j) (kept_at a.lits (λ l n. kept B i n) j g))
        ∙ and_comm (belongs D (get_or (classes D a) k []) (literal_at a.lits j).atom) (same_time OverAll (literal_at a.lits j).role.time)

-- ---- names, by how many true conditions towards unreachable, own true conditions and adds there are

module _ (r c n : ℕ) (ch v : Bool) where
  by_unreachable : 2 ≤ r → name_by r c n ch v ≡ Unreachable
  unfolding name_by
  by_unreachable h = rw (le-leb 2 r h)

  by_irrelevant : r ≤ 1 → n ≡ 0 → name_by r c n ch v ≡ Irrelevant
  unfolding name_by
  by_irrelevant h e = rw (lt-leb 2 r (omega arith), eq-eqb n 0 e)

  by_heavy : r ≤ 1 → 2 ≤ n → name_by r c n ch v ≡ Heavy
  unfolding name_by
  by_heavy h g = rw (lt-leb 2 r (omega arith), ne_eqb n 0 (λ e. omega arith), le-leb 2 n g)

  by_changed : r ≤ 1 → c ≡ 1 → n ≡ 1 → name_by r c n ch v ≡ cond ch Balanced Unbalanced
  unfolding name_by
  by_changed f h g = rw (lt-leb 2 r (omega arith), ne_eqb n 0 (λ e. omega arith), lt-leb 2 n (omega arith), eq-eqb c 1 h)

  by_covered : r ≤ 1 → c ≡ 0 → n ≡ 1 → name_by r c n ch v ≡ cond v Bounded Unbounded
  unfolding name_by
  by_covered f h g = rw (lt-leb 2 r (omega arith), ne_eqb n 0 (λ e. omega arith), lt-leb 2 n (omega arith), ne_eqb c 1 (λ e. omega arith))

name_is : (D : Domain) (a : Action) (x : List Variable) (m : Moment) → name_of D a x m
    ≡ name_by (length (reach_in D a x m)) (length (in_class D a x m Positive)) (length (in_class D a x m Add))
    (all (changed_by (in_class D a x m Add) (in_class D a x m Delete)) (in_class D a x m Positive)) (eqb (uncovered_at D a x m) (length D.template))
unfolding name_of uncovered_at
name_is D a x m =
    ap (name_by (length (reach_in D a x m)) (length (in_class D a x m Positive)) (length (in_class D a x m Add))
    (all (changed_by (in_class D a x m Add) (in_class D a x m Delete)) (in_class D a x m Positive)))
    (sym (position_none (covered (excluding D a x m)) D.template))

place_past : (n c : ℕ) → place_below n c ≡ None → n ≤ c
place_past n c e = go (ltb c n) refl e
  where
    go : (b : Bool) → ltb c n ≡ b → cond b (Some c) None ≡ None → n ≤ c
    go true t q = cc
    go false f q = ltb-false c n f

place_within : (n c : ℕ) {d : ℕ} → place_below n c ≡ Some d → c < n
place_within n c {d} e = go (ltb c n) refl e
  where
    go : (b : Bool) → ltb c n ≡ b → cond b (Some c) None ≡ Some d → c < n
    go true t q = ltb-true c n t
    go false f q = cc

-- ---- the name of a class, as the code finds it: `reach` tells which of its literals is asked as a true condition

module _ {D : Domain} {a : Action} {m : Moment} {head rows numbers usages : List ℕ} (M : MomentOf D a m head rows numbers usages) {k : ℕ} (h : k < length (classes D a)) {sole : Sole} (s : sole ≡ sole_of numbers usages k)
    {reach : Count} (r : reach ≡ count_of (reach_at D a m k)) where
  pub unreachable_named : reach ≡ More → Unreachable ≡ name_of D a (get_or (classes D a) k []) m
  unfolding reach_at
  unreachable_named z = sym (name_is D a (get_or (classes D a) k []) m ∙ by_unreachable _ _ _ _ _ (reach_many D a (its_bounds M) M.whole.listed m k h (count_more _ (sym r ∙ z))))

  -- two own true conditions are enough
  pub own_unreachable_named : sole.conditions ≡ More → Unreachable ≡ name_of D a (get_or (classes D a) k []) m
  own_unreachable_named z =
      sym (name_is D a (get_or (classes D a) k []) m ∙ by_unreachable _ _ _ _ _ (go (bool_cases (leb 2 (length (reach_in D a (get_or (classes D a) k []) m))))))
    where
      go : (leb 2 (length (reach_in D a (get_or (classes D a) k []) m)) ≡ true) ⊎ (leb 2 (length (reach_in D a (get_or (classes D a) k []) m)) ≡ false) → 2 ≤ length (reach_in D a (get_or (classes D a) k []) m)
      go (inl t) = leb-true _ _ t
      go (inr t) =
          let u = leb-false 2 (length (reach_in D a (get_or (classes D a) k []) m)) t in
          let v = own_few D a (get_or (classes D a) k []) m (omega arith) in
          let w = many_conditions M h s z in absurd (omega arith)

  module _ (rare : reach ≡ More → ⊥) where
    few_asked : length (reach_in D a (get_or (classes D a) k []) m) ≤ 1
    unfolding reach_at
    few_asked = reach_few D a (its_bounds M) M.whole.listed m k h (λ z. rare (r ∙ ap count_of z))

    pub irrelevant_named : sole.adds ≡ Zero → Irrelevant ≡ name_of D a (get_or (classes D a) k []) m
    irrelevant_named z = sym (name_is D a (get_or (classes D a) k []) m ∙ by_irrelevant _ _ _ _ _ few_asked (no_adds M h s z))

    pub heavy_named : sole.adds ≡ More → Heavy ≡ name_of D a (get_or (classes D a) k []) m
    heavy_named z = sym (name_is D a (get_or (classes D a) k []) m ∙ by_heavy _ _ _ _ _ few_asked (many_adds M h s z))

    module _ {i : ℕ} (added : sole.adds ≡ One i) where
      pub changed_named : {j : ℕ} → sole.conditions ≡ One j → (t : Bool) → changed_at rows numbers usages k j ≡ t → cond t Balanced Unbalanced ≡ name_of D a (get_or (classes D a) k []) m
      changed_named one t c =
          sym (name_is D a (get_or (classes D a) k []) m
          ∙ by_changed _ _ _ _ _ few_asked (one_condition M h s one) (one_add M h s added)
          ∙ ap (λ (b : Bool). cond b Balanced Unbalanced) (sym (changed_held M h s one) ∙ c))

      module _ (none : sole.conditions ≡ Zero) where
        covered_named : (t : Bool) → eqb (uncovered_at D a (get_or (classes D a) k []) m) (length D.template) ≡ t → cond t Bounded Unbounded ≡ name_of D a (get_or (classes D a) k []) m
        covered_named t c =
            sym (name_is D a (get_or (classes D a) k []) m
            ∙ by_covered _ _ _ _ _ few_asked (no_conditions M h s none) (one_add M h s added)
            ∙ ap (λ (b : Bool). cond b Bounded Unbounded) c)

        pub bounded_named : place_below (length D.template) (uncovered_at D a (get_or (classes D a) k []) m) ≡ None → Bounded ≡ name_of D a (get_or (classes D a) k []) m
        unfolding uncovered_at
        bounded_named e = covered_named true (eq-eqb _ _ (let g = place_past _ _ e in omega (arith, place_le (λ c. not (covered (excluding D a (get_or (classes D a) k []) m) c)) D.template)))

        pub unbounded_named : {c : ℕ} → place_below (length D.template) (uncovered_at D a (get_or (classes D a) k []) m) ≡ Some c → Unbounded ≡ name_of D a (get_or (classes D a) k []) m
        unbounded_named e = covered_named false (ne_eqb _ _ (λ z. let g = place_within _ _ e in omega arith))

-- what is asked at a start is its own
pub asked_at_start : {D : Domain} {a : Action} {head rows numbers usages : List ℕ} → MomentOf D a Start head rows numbers usages → (k : ℕ) {sole : Sole} → sole ≡ sole_of numbers usages k
    → sole.conditions ≡ count_of (reach_at D a Start k)
unfolding reach_at
asked_at_start {D} {a} M k s =
    ap (λ (r : Sole). r.conditions) s
    ∙ ap₂ (λ (o c : List ℕ). count_of (sole_at o c k 1)) M.numbers_are (M.usages_are ∙ ap (pad 64) (sym (asked_start a)))

-- ---- whether it is a journey

off_first : (l o d p q : Bool) → l && false && o && d && p && q ≡ false
off_first true o d p q = refl
off_first false o d p q = refl

off_second : (x d p q : Bool) → x && false && d && p && q ≡ false
off_second true d p q = refl
off_second false d p q = refl

off_fourth : (x q : Bool) → x && false && q ≡ false
off_fourth true q = refl
off_fourth false q = refl

off_last : (x : Bool) → x && false ≡ false
off_last true = refl
off_last false = refl

module _ (D : Domain) (a : Action) (x : List Variable) where
  abbrev none_added : Bool
  none_added = eqb (length (in_class D a x Start Add)) 0

  abbrev one_required : Bool
  one_required = eqb (length (in_class D a x Start Positive)) 1

  abbrev one_deleted : Bool
  one_deleted = all (deleted_by (in_class D a x Start Delete)) (in_class D a x Start Positive)

  abbrev none_required : Bool
  none_required = eqb (length (in_class D a x End Positive)) 0

  abbrev one_added : Bool
  one_added = eqb (length (in_class D a x End Add)) 1

  pub adds_at_start : (length (in_class D a x Start Add) ≡ 0 → ⊥) → false ≡ journey D a x
  unfolding journey
  adds_at_start n =
      sym (ap (λ (b : Bool). a.lasting && b && one_required && one_deleted && none_required && one_added) (ne_eqb _ _ n) ∙ off_first a.lasting one_required one_deleted none_required one_added)

  pub not_one_condition : (length (in_class D a x Start Positive) ≡ 1 → ⊥) → false ≡ journey D a x
  unfolding journey
  not_one_condition n =
      sym (ap (λ (b : Bool). a.lasting && none_added && b && one_deleted && none_required && one_added) (ne_eqb _ _ n) ∙ off_second (a.lasting && none_added) one_deleted none_required one_added)

  pub condition_at_end : (length (in_class D a x End Positive) ≡ 0 → ⊥) → false ≡ journey D a x
  unfolding journey
  condition_at_end n =
      sym (ap (λ (b : Bool). a.lasting && none_added && one_required && one_deleted && b && one_added) (ne_eqb _ _ n) ∙ off_fourth (a.lasting && none_added && one_required && one_deleted) one_added)

  pub not_one_add : (length (in_class D a x End Add) ≡ 1 → ⊥) → false ≡ journey D a x
  unfolding journey
  not_one_add n =
      sym (ap (λ (b : Bool). a.lasting && none_added && one_required && one_deleted && none_required && b) (ne_eqb _ _ n) ∙ off_last (a.lasting && none_added && one_required && one_deleted && none_required))

  pub journey_deletes : a.lasting ≡ true → length (in_class D a x Start Add) ≡ 0 → length (in_class D a x Start Positive) ≡ 1 → length (in_class D a x End Positive) ≡ 0
      → length (in_class D a x End Add) ≡ 1 → (t : Bool) → t ≡ all (deleted_by (in_class D a x Start Delete)) (in_class D a x Start Positive) → t ≡ journey D a x
  unfolding journey
  journey_deletes l n o p q t e = go a.lasting l _ (eq-eqb _ _ n) _ (eq-eqb _ _ o) _ (eq-eqb _ _ p) _ (eq-eqb _ _ q) t _ e
    where
      go : (l : Bool) → l ≡ true → (n : Bool) → n ≡ true → (o : Bool) → o ≡ true → (p : Bool) → p ≡ true → (q : Bool) → q ≡ true → (t d : Bool) → t ≡ d
          → t ≡ l && n && o && d && p && q
      go l el n en o eo p ep q eq t d e = e ∙ sym (rw (el, en, eo, ep, eq) (both d))
        where
          both : (d : Bool) → d && true && true ≡ d
          both true = refl
          both false = refl
