-- No total is above the number of the box's bytes: a file has at most as many moments as bytes. Assumes nothing.
use mathlib.Core.Path.{◌≡◌, refl, ap}
use mathlib.Core.Bool.{Bool, true, false, cond}
use mathlib.Core.Logic.{◌⊎◌, inl, inr}
use mathlib.Core.List.Memᴰ
use mathlib.Core.List.{List, [], ◌∷◌, ◌++◌, map, flat_map}
use mathlib.Core.Option.{Option, none, some}
use Prim.Native.Nat.{ℕ, suc, ◌+◌, ◌*◌, ◌≤◌}
use native.Mathlib.Omega.{arith}
use lib.Dec.{eqb, ltb}
use lib.ListN.{length, get_or, length-append, length-map, get_or-eq_default}
use borrow.Author.Tests.{ltb-true, ltb-false}
use Rattle.records.specs.Lists.{keep_if, In, numbers_from}
use Rattle.records.proofs.Lists.{bool_cases, get_d_in, count_le, dedup_few}
use Rattle.literals.specs.declared.Variable.{Variable}
use Rattle.literals.specs.declared.Argument.{Argument}
use Rattle.literals.specs.declared.Usage.{Usage}
use Rattle.literals.specs.declared.Usage.TheVariants.{Positive}
use Rattle.literals.specs.declared.Role.{Role}
use Rattle.literals.specs.Domain.{Atom, Fact, Literal, Action, Component, Domain, same_literal, no_action, action}
use Rattle.literals.specs.Decode.{RecordKind, relation_record, action_record, literal_record, component_record, closing_record, unknown_record}
use Rattle.literals.specs.Decode.{literal_of, action_of, with_literal, extend, Decoded, refused, domain, decode}
use Rattle.literals.specs.Held.{Bounded}
use Rattle.literals.proofs.Loop.{decoded_at}
use Rattle.literals.proofs.Bounds.{decoded_bounded}
use Rattle.literals.specs.declared.Moment.{Moment}
use Rattle.literals.specs.declared.Moment.TheVariants.{Start, End}
use Rattle.classes.specs.declared.Name.{Name}
use Rattle.classes.specs.declared.Name.TheVariants.{Unreachable, Irrelevant, Heavy, Balanced, Unbalanced, Bounded as IsBounded, Unbounded}
use Rattle.classes.specs.Classes.{moments_of, classes, excluding, covered, name_of, name_number}
use Rattle.literals.specs.Matching.{asked, with_role, required}
use Rattle.classes.proofs.Members.{classes_few}
use Rattle.verdict.specs.Binding.{bind, bind_tuple, same_numbers, spare}
use Rattle.verdict.specs.Decision.{Row, row_at, rows_of_classes, rows_from, rows, decision, instance_fact, first_uncovered, witness_by, witness_at}
use Rattle.verdict.specs.Decision.{class_at, witness_of, witness}
use Rattle.verdict.specs.Judged.{decided_file}
use Rattle.totals.specs.Totals.{rows_of_decoded, rows_of_file, all_rows, files_with, moments_with, totals}
use Rattle.totals.specs.Claims.{TotalsBounded}
use Rattle.totals.proofs.Joining.{boxed, boxed_length}

-- ---- literals and bytes

-- the literals of all actions
abbrev literal_count : List Action → ℕ
literal_count [] = 0
literal_count (a ∷ as') = length a.lits + literal_count as'

count_action : (as' : List Action) (p : List ℕ) → literal_count (as' ++ (action_of p ∷ [])) ≡ literal_count as'
count_action [] p = refl
count_action (a ∷ as') p = ap (λ n. length a.lits + n) (count_action as' p)

count_literal : (l : Literal) (as' : List Action) → literal_count (with_literal l as') ≤ suc (literal_count as')
count_literal l [] = omega arith
count_literal l (a ∷ []) = let h = length-append a.lits (l ∷ []) in omega arith
count_literal l (a ∷ b ∷ bs) = let h = count_literal l (b ∷ bs) in omega arith

count_extend : (D : Domain) (k : RecordKind) (p : List ℕ) → literal_count (extend D k p).actions ≤ suc (literal_count D.actions)
unfolding extend
count_extend D relation_record p = omega arith
count_extend D action_record p = let h = count_action D.actions p in omega arith
count_extend D literal_record p = count_literal (literal_of p) D.actions
count_extend D component_record p = omega arith
count_extend D closing_record p = omega arith
count_extend D unknown_record p = omega arith

-- each record takes four bytes or more
literals_few : (f : List ℕ) (D : Domain) → decode f ≡ domain D → 4 * literal_count D.actions ≤ length f
literals_few f D e =
    let r = decoded_at (λ n E. 4 * literal_count E.actions ≤ n) (λ n E k p h s. let c = count_extend E k p in omega arith) (omega arith) f D
    e in
    omega (arith, r.1, r.2)

-- ---- rows and literals

moments_few : (a : Action) → length (moments_of a) ≤ 2
moments_few a = go a.lasting
  where
    go : (b : Bool) → length (cond {A = List Moment} b (Start ∷ End ∷ []) (Start ∷ [])) ≤ 2
    go true = omega arith
    go false = omega arith

class_rows_lem : (D : Domain) (a : Action) (i j : ℕ) (xs : List (List Variable)) → length (rows_of_classes D a i j xs) ≤ 2 * length xs
class_rows_lem D a i j [] = omega arith
class_rows_lem D a i j (x ∷ xs) =
    let h = length-append (map (row_at D a i j x) (moments_of a)) (rows_of_classes D a i (suc j) xs) in
    let g = length-map (moments_of a) (row_at D a i j x) in
    let m = moments_few a in
    let r = class_rows_lem D a i (suc j) xs in omega arith

from_rows : (D : Domain) → Bounded D → (i : ℕ) (as' : List Action) → length (rows_from D i as') ≤ 2 * literal_count as'
from_rows D B i [] = omega arith
from_rows D B i (a ∷ as') =
    let h = length-append (rows_of_classes D a i 0 (classes D a)) (rows_from D (suc i) as') in
    let c = class_rows_lem D a i 0 (classes D a) in
    let k = classes_few D a B in
    let r = from_rows D B (suc i) as' in omega arith

pub rows_few : (f : List ℕ) → length (rows_of_file f) ≤ length f
unfolding rows_of_file rows
rows_few f = go (decode f) refl
  where
    go : (d : Decoded) → decode f ≡ d → length (rows_of_decoded d) ≤ length f
    go (refused r) e = omega arith
    go (domain D) e =
        let h = literals_few f D e in
        let r = from_rows D (decoded_bounded f D e) 0 D.actions in omega arith

-- ---- the most that a file can ask

most_literals : (as' : List Action) → ((a : Action) → In a as' → length a.lits ≤ 64) → literal_count as' ≤ 64 * length as'
most_literals [] h = omega arith
most_literals (a ∷ as') h =
    let k = h a (Memᴰ.head refl) in
    let r = most_literals as' (λ b m. h b (Memᴰ.tail m)) in omega arith

-- two moments for each of 64 literals of 64 actions
pub rows_most : (f : List ℕ) → length (rows_of_file f) ≤ 8192
unfolding rows_of_file rows
rows_most f = go (decode f) refl
  where
    go : (d : Decoded) → decode f ≡ d → length (rows_of_decoded d) ≤ 8192
    go (refused r) e = omega arith
    go (domain D) e =
        let B = decoded_bounded f D e in
        let n = B.actions in
        let l = most_literals D.actions B.sizes in
        let r = from_rows D B 0 D.actions in omega arith

-- the literals of an action of a domain, or of none
action_size : (D : Domain) → Bounded D → (i : ℕ) → length (action D i).lits ≤ 64
unfolding action
action_size D B i = go (bool_cases (ltb i (length D.actions)))
  where
    go : (ltb i (length D.actions) ≡ true) ⊎ (ltb i (length D.actions) ≡ false) → length (get_or D.actions i no_action).lits ≤ 64
    go (inl t) = B.sizes (get_or D.actions i no_action) (get_d_in D.actions i no_action (ltb-true i (length D.actions) t))
    go (inr z) =
        let e : length (get_or D.actions i no_action).lits ≡ 0 = ap (λ (a : Action). length a.lits) (get_or-eq_default D.actions no_action (ltb-false i (length D.actions) z)) in omega arith

role_few : (p : Role → Bool) (l : List Literal) → length (with_role p l) ≤ length l
role_few p [] = omega arith
role_few p (l ∷ ls) = go (p l.role) (role_few p ls)
  where
    go : (b : Bool) → length (with_role p ls) ≤ length ls → length (keep_if b l.atom (with_role p ls)) ≤ suc (length ls)
    go true h = omega arith
    go false h = omega arith

required_few : (a : Action) (m : Moment) (c : Usage) → length (required a m c) ≤ length a.lits
unfolding required
required_few a m c =
    let d = dedup_few same_literal (with_role (asked m c) a.lits) in
    let r = role_few (asked m c) a.lits in omega arith

uncovered_few : (ps : List (Atom Argument)) (cs : List Component) → length (first_uncovered ps cs) ≤ 1
uncovered_few ps [] = omega arith
uncovered_few ps (c ∷ cs) = go (covered ps c) (uncovered_few ps cs)
  where
    go : (b : Bool) → length (first_uncovered ps cs) ≤ 1 → length (cond b (first_uncovered ps cs) (c ∷ [])) ≤ 1
    go true h = h
    go false h = omega arith

by_few : (n : Name) (cs fs : List Fact) → length (witness_by n cs fs) ≤ length cs + length fs
by_few Unreachable cs fs = omega arith
by_few Irrelevant cs fs = omega arith
by_few Heavy cs fs = omega arith
by_few Balanced cs fs = omega arith
by_few Unbalanced cs fs = omega arith
by_few IsBounded cs fs = omega arith
by_few Unbounded cs fs = let h = length-append cs fs in omega arith

-- 64 true conditions, and one fact of the instance
pub witness_most : (f : List ℕ) (D : Domain) → decode f ≡ domain D → length (witness D) ≤ 65
unfolding witness witness_at
witness_most f D e = go (decision D).place
  where
    go : (o : Option Row) → length (witness_of D o) ≤ 65
    go none = omega arith
    go (some r) =
        let a = action D r.action in
        let x = class_at D r.action r.class in
        let m = r.moment in
        let b = same_numbers a in
        let cs = map (bind b) (required a m Positive) in
        let us = first_uncovered (excluding D a x m) D.template in
        let fs = map (instance_fact (spare a) (bind_tuple b x)) us in
        let h = by_few (name_of D a x m) cs fs in
        let c = length-map (required a m Positive) (bind b) in
        let q = required_few a m Positive in
        let z = action_size D (decoded_bounded f D e) r.action in
        let i = length-map us (instance_fact (spare a) (bind_tuple b x)) in
        let u = uncovered_few (excluding D a x m) D.template in omega arith

-- ---- the totals

all_few : (fs : List (List ℕ)) → length (all_rows fs) ≤ boxed fs
unfolding all_rows flat_map
all_few [] = omega arith
all_few (f ∷ fs) =
    let h = length-append (rows_of_file f) (all_rows fs) in
    let r = rows_few f in
    let k = all_few fs in omega arith

files_few : (fs : List (List ℕ)) → length fs ≤ boxed fs
files_few [] = omega arith
files_few (f ∷ fs) = let k = files_few fs in omega arith

pub totals_bounded : TotalsBounded
unfolding totals
totals_bounded b fs e t m = go (Memᴰ.append_cases (map (λ n. files_with n fs) (numbers_from 0 64)) m)
  where
    go : In t (map (λ n. files_with n fs) (numbers_from 0 64)) ⊎ In t (map (λ k. moments_with k fs) (numbers_from 1 7)) → t ≤ length b
    go (inl k) =
        let r = Memᴰ.of_map (λ n. files_with n fs) (numbers_from 0 64) k in
        let z = r.2 in
        let c = count_le (λ f. eqb r.0 (decided_file f).number) fs in
        let l = files_few fs in
        let x = boxed_length b fs e in omega arith
    go (inr k) =
        let r = Memᴰ.of_map (λ k. moments_with k fs) (numbers_from 1 7) k in
        let z = r.2 in
        let c = count_le (λ (q : Row). eqb r.0 (name_number q.name)) (all_rows fs) in
        let l = all_few fs in
        let x = boxed_length b fs e in omega arith
