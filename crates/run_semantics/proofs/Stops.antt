-- The tests of each record: the numbers that stop it, and what holds where none does. Assumes nothing.
use mathlib.Core.Path.{◌≡◌, refl, ap, ◌∙◌}
use mathlib.Core.Bool.{Bool, true, false, not, ◌&&◌, ◌||◌, cond}
use mathlib.Core.Logic.{◌⊎◌, inl, inr}
use mathlib.Core.List.{List, [], ◌∷◌, ◌++◌, map}
use Prim.Native.Nat.{ℕ, zero, suc, ◌+◌, ◌≤◌, ◌<◌}
use native.Mathlib.Omega.{arith}
use lib.Dec.{eqb, ltb, leb}
use lib.ListN.{length, drop, length-map, length-drop}
use borrow.Author.Tests.{eqb-true, eqb-false, eq-eqb, lt-ltb, leb-false}
use Rattle.records.specs.Lists.{any, all, empty, elem}
use Rattle.records.proofs.Lists.{and_l, and_r, and_i, or_l, or_r, or_out, not_false, bool_cases, off, clash, eqb_same, all_snoc, pairwise_snoc, any_none, all_map}
use Rattle.records.proofs.Numbers.{number_of, test_of, numbered, by_numbers}
use Rattle.literals.specs.declared.Object.{Object}
use Rattle.literals.specs.Domain.{object, same_object, Fact, same_fact, Action, Domain, arity, action}
use Rattle.literals.specs.Decode.{byte}
use Rattle.literals.specs.declared.Moment.{Moment}
use Rattle.literals.specs.declared.Moment.TheVariants.{Start, End}
use Rattle.verdict.specs.Binding.{objects_from}
use Rattle.verdict.specs.Machine.{Event, State, same_moment, same_event, has_moment, legal, legal_step, injective, is_open, conditions_hold, over_all_hold, independent}
use Rattle.verdict.specs.Claims.{among, is_event, is_fact}
use Rattle.verdict.proofs.Equality.{objects_self, ground_eq}
use Rattle.run_semantics.specs.RunFile.{fact_of, moment_of, event_of, max_objects, max_facts, max_events, outside, objects_stop, fact_stop, event_stop, step_stop, end_stop}
use Rattle.run_semantics.specs.Play.{forbidden}

-- ---- numbers

-- a number of the table's rows up to 54
pub record Row (n : ℕ) : Type 0 where
  pub low : 50 ≤ n
  pub high : n ≤ 54

-- a record passes, and then P holds, or one of those numbers stops it
abbrev pub Tested : ℕ → Type 0 → Type 0
Tested n P = ((n ≡ 0) × P) ⊎ Row n

tested : {P : Type 0} (rows : List (Bool × ℕ)) (n : ℕ) → numbered (λ m. leb 50 m && leb m 54) rows ≡ true → (((i : ℕ) → test_of rows i ≡ false) → Tested n P) → Tested (number_of rows n) P
tested {P} rows n = by_numbers 50 54 (λ m. Tested m P) (λ m l u. inr (record { low = l; high = u })) rows n

-- ---- objects

objects_elem : (k n x : ℕ) → k ≤ x → x < k + n → elem same_object (object x) (objects_from k n) ≡ true
objects_elem k zero x h l = absurd (omega arith)
objects_elem k (suc n) x h l = go (bool_cases (eqb x k)) (λ g. objects_elem (suc k) n x g (omega arith))
  where
    go : (eqb x k ≡ true) ⊎ (eqb x k ≡ false) → (suc k ≤ x → elem same_object (object x) (objects_from (suc k) n) ≡ true) → eqb x k || elem same_object (object x) (objects_from (suc k) n) ≡ true
    go (inl e) ih = or_l _ e
    go (inr e) ih = or_r (eqb x k) (ih (apart (eqb-false x k e)))
      where
        apart : (x ≡ k → ⊥) → suc k ≤ x
        apart n = omega arith

-- where no number is outside, all are among the run's objects
among_of : (n : ℕ) (os : List ℕ) → any (leb n) os ≡ false → among (objects_from 0 n) (map object os) ≡ true
among_of n os h =
    all_map object (λ o. elem same_object o (objects_from 0 n)) os
    ∙ any_none (leb n) (λ o. elem same_object (object o) (objects_from 0 n)) os (λ o e. let l = leb-false n o e in objects_elem 0 n o (omega arith) (omega arith)) h

-- ---- kind 16

pub objects_tested : (n : ℕ) (b : List ℕ) → Tested (objects_stop n b) (n ≡ 0)
unfolding objects_stop
objects_tested n b =
    tested ((not (eqb n 0), 50) ∷ (not (eqb (length b) 1), 50) ∷ (eqb (byte b 0) 0 || ltb max_objects (byte b 0), 51) ∷ []) 0 refl
    (λ g. inl (refl, eqb-true n 0 (not_false _ (g 0))))

-- ---- kind 17

-- what holds of a start fact that nothing stops
pub record FactPasses (D : Domain) (objects : ℕ) (begun : Bool) (b : List ℕ) : Type 0 where
  pub some : objects ≡ 0 → ⊥
  pub early : begun ≡ false
  pub fact : is_fact D (objects_from 0 objects) (fact_of b) ≡ true

pub fact_tested : (D : Domain) (objects : ℕ) (begun : Bool) (held : List Fact) (b : List ℕ) → Tested (fact_stop D objects begun held b) (FactPasses D objects begun b)
unfolding fact_stop
fact_tested D objects begun held b =
    tested
    ((eqb objects 0 || begun, 50)
    ∷ (ltb (length b) 1, 50)
    ∷ (leb (length D.arities) (byte b 0), 51)
    ∷ (not (eqb (length b) (1 + arity D (byte b 0))), 50)
    ∷ (outside objects (drop 1 b), 51)
    ∷ (not (elem same_fact (fact_of b) held) && leb max_facts (length held), 52)
    ∷ [])
    0 refl (λ g.
    let l = eqb-true (length b) (1 + arity D (byte b 0)) (not_false _ (g 3)) in
    let n : length (map object (drop 1 b)) ≡ arity D (byte b 0) = simp (length-map, length-drop) (omega arith) in
    let o = or_out (eqb objects 0) begun (g 0) in
    inl (
      refl,
      record {
        some = eqb-false objects 0 o.0;
        early = o.1;
        fact = and_i (and_i (lt-ltb (byte b 0) (length D.arities) (leb-false (length D.arities) (byte b 0) (g 2))) (eq-eqb (length (map object (drop 1 b))) (arity D (byte b 0)) n)) (among_of objects (drop 1 b) (g 4));
      },
    ))

-- ---- kind 18

-- what holds of an event that nothing stops
pub record EventPasses (D : Domain) (objects : ℕ) (waiting : List Event) (b : List ℕ) : Type 0 where
  pub some : objects ≡ 0 → ⊥
  pub event : is_event D (objects_from 0 objects) (event_of b) ≡ true
  pub fresh : elem same_event (event_of b) waiting ≡ false

moment_of_lem : (m : Bool) (a : Action) → m && not a.lasting ≡ false → has_moment a (cond m End Start) ≡ true
moment_of_lem true a e = not_false a.lasting e
moment_of_lem false a e = refl

-- its tests, in their order
abbrev pub event_tests : Domain → ℕ → List Event → List ℕ → List (Bool × ℕ)
event_tests D objects waiting b =
    (eqb objects 0, 50)
    ∷ (ltb (length b) 2, 50)
    ∷ (ltb 1 (byte b 0), 51)
    ∷ (leb (length D.actions) (byte b 1), 51)
    ∷ (not (eqb (length b) (2 + (action D (byte b 1)).vars)), 50)
    ∷ (eqb (byte b 0) 1 && not (action D (byte b 1)).lasting, 51)
    ∷ (outside objects (drop 2 b), 51)
    ∷ (not (injective (event_of b)), 53)
    ∷ (elem same_event (event_of b) waiting, 54)
    ∷ (leb max_events (length waiting), 52)
    ∷ []

pub event_tested : (D : Domain) (objects : ℕ) (waiting : List Event) (b : List ℕ) → Tested (event_stop D objects waiting b) (EventPasses D objects waiting b)
unfolding event_stop legal
event_tested D objects waiting b =
    tested
    (event_tests D objects waiting b)
    0 refl (λ g.
    let l = eqb-true (length b) (2 + a.vars) (not_false _ (g 4)) in
    let n : length (map object (drop 2 b)) ≡ a.vars = simp (length-map, length-drop) (omega arith) in
    let h1 : ltb (byte b 1) (length D.actions) ≡ true = lt-ltb (byte b 1) (length D.actions) (leb-false (length D.actions) (byte b 1) (g 3)) in
    let h2 : has_moment a (moment_of (byte b 0)) ≡ true = moment_of_lem (eqb (byte b 0) 1) a (g 5) in
    let h3 : eqb (length (map object (drop 2 b))) a.vars ≡ true = eq-eqb (length (map object (drop 2 b))) a.vars n in
    inl (
      refl,
      record {
        some = eqb-false objects 0 (g 0);
        event = and_i (and_i (and_i (and_i h1 h2) h3) (not_false _ (g 7))) (among_of objects (drop 2 b) (g 6));
        fresh = g 8;
      },
    ))
  where
    a : Action
    a = action D (byte b 1)

-- ---- kinds 19 and 20

pub step_tested : (n : ℕ) (b : List ℕ) → Tested (step_stop n b) (n ≡ 0 → ⊥)
unfolding step_stop
step_tested n b = tested ((eqb n 0, 50) ∷ (not (eqb (length b) 0), 50) ∷ []) 0 refl (λ g. inl (refl, eqb-false n 0 (g 0)))

pub end_tested : (n : ℕ) (ws : List Event) (b : List ℕ) → Tested (end_stop n ws b) (ws ≡ [])
unfolding end_stop
end_tested n ws b = tested ((eqb n 0, 50) ∷ (not (eqb (length b) 0), 50) ∷ []) (cond (empty ws) 0 50) refl (λ g. go ws refl)
  where
    go : (vs : List Event) → ws ≡ vs → Tested (cond (empty vs) 0 50) (ws ≡ [])
    go [] e = inl (refl, e)
    go (v ∷ vs) e = inr (record { low = omega arith; high = omega arith })

-- "57 end not open; 55 condition fails; 56 interference"
pub forbidden_by : (D : Domain) (objs : List Object) (s : State) (es : List Event)
    → (forbidden D objs s es ≡ 0) ⊎ ((55 ≤ forbidden D objs s es) × (forbidden D objs s es ≤ 57))
unfolding forbidden
forbidden_by D objs s es =
    by_numbers 55 57 (λ n. (n ≡ 0) ⊎ ((55 ≤ n) × (n ≤ 57))) (λ n l u. inr (l, u))
    ((not (all (is_open s.running) es), 57)
    ∷ (not (all (conditions_hold D objs s.facts) es && all (over_all_hold D objs s.facts) s.running), 55)
    ∷ (not (independent D objs es), 56)
    ∷ [])
    0 refl (λ g. inl refl)

-- ---- a step with one event more

moment_flip : (m n : Moment) → same_moment m n ≡ true → same_moment n m ≡ true
moment_flip Start Start e = e
moment_flip Start End e = e
moment_flip End Start e = e
moment_flip End End e = e

event_flip : (e f : Event) → same_event e f ≡ true → same_event f e ≡ true
event_flip e f t =
    and_i (moment_flip e.moment f.moment (and_l _ _ t))
    (rw (ground_eq e.act f.act (and_r (same_moment e.moment f.moment) _ t)) (and_i (eqb_same f.act.action) (objects_self f.act.binding)))

pub no_events : (D : Domain) → legal_step D [] ≡ true
unfolding legal_step
no_events D = refl

pub legal_snoc : (D : Domain) (es : List Event) (e : Event) → legal_step D es ≡ true → legal D e ≡ true → elem same_event e es ≡ false → legal_step D (es ++ (e ∷ [])) ≡ true
unfolding legal_step
legal_snoc D es e t l n =
    and_i (all_snoc (legal D) es e (and_l _ _ t) l)
    (pairwise_snoc (λ x y. not (same_event x y)) es e (and_r (all (legal D) es) _ t)
    (any_none (same_event e) (λ x. not (same_event x e)) es (λ x f. ap not (off (same_event x e) (λ q. clash (event_flip x e q) f))) n))
