-- Conditions where there may be patterns: what the index tells, and what a walk over the facts tells beside it. Assumes nothing.
use mathlib.Core.Path.{◌≡◌, sym, ap, ◌∙◌, subst}
use mathlib.Core.Bool.{Bool, true, false, ◌&&◌, not, cond}
use mathlib.Core.Logic.{◌⊎◌, inl, inr}
use mathlib.Core.List.{List, map}
use Prim.Native.Nat.{ℕ}
use lib.Dec.{eqb}
use native.Mathlib.Omega.{arith}
use borrow.Author.Tests.{eqb-true, ne_eqb}
use Rattle.records.specs.Lists.{In, all, any, same_list}
use Rattle.records.proofs.Lists.{bool_cases, off, clash, not_true, and_l, and_r, any_in, in_any, any_out, all_in, all_of, same_list_eq}
use Rattle.literals.specs.declared.Object.{Object}
use Rattle.literals.specs.Domain.{Fact, Domain}
use Rattle.literals.specs.Held.{HeadOf}
use Rattle.literals.proofs.Indices.{any_agree}
use Rattle.verdict.specs.Machine.{GroundAction}
use Rattle.verdict.specs.Held.{patterns_meet, fact_row}
use Rattle.store.specs.Held.{has_row}
use Rattle.events.specs.Held.{OverObjects, is_pattern, GroundLiteral}
use Rattle.events.proofs.Members.{map_in}
use Rattle.events.proofs.Meeting.{meets_self, Formed, chosen_meets}
use Rattle.applicability.specs.Held.{condition_met, plainly_met, asks_pattern, forbids, MeetSame}

-- ---- the facts of a domain

-- a row that is no pattern meets a fact over the chosen objects only where it is the fact's
pub rows_same : {D : Domain} {head : List ℕ} → HeadOf D head → {objs : List Object} {fs : List Fact} {gs : List GroundAction}
    → OverObjects D objs fs gs → (facts : List (List ℕ)) → facts ≡ map fact_row fs → (ls : List GroundLiteral)
    → ((l : GroundLiteral) → In l ls → Formed head l.row) → MeetSame ls facts
rows_same H {fs = fs} C facts e ls formed l m k fact i =
    let r = map_in fact_row fs (subst (In fact) e i) in
    ap (patterns_meet l.row) r.2 ∙ chosen_meets H C (formed l m) k r.0 r.1 ∙ sym (ap (same_list eqb l.row) r.2)

-- ---- several

module _ (facts : List (List ℕ)) where
  -- a fact of this row meets it
  not_held : (row : List ℕ) → any (patterns_meet row) facts ≡ false → has_row row facts ≡ false
  not_held row f =
      off (has_row row facts) (λ t.
      let r = any_in (same_list eqb row) facts t in
      clash (in_any (patterns_meet row) r.1
      (ap (patterns_meet row) (sym (same_list_eq eqb eqb-true row r.0 r.2)) ∙ meets_self row)) f)

  -- what holds holds by equal rows
  pub holds_plainly : (l : GroundLiteral) → condition_met facts l ≡ true → plainly_met facts l ≡ true
  unfolding condition_met plainly_met
  holds_plainly l t = go (eqb l.usage 1) (eqb l.usage 2) t
    where
      go : (a b : Bool) → cond a (has_row l.row facts) (cond b (not (any (patterns_meet l.row) facts)) true) ≡ true
          → cond a (has_row l.row facts) (cond b (not (has_row l.row facts)) true) ≡ true
      go true b t = t
      go false true t = ap not (not_held l.row (not_true _ t))
      go false false t = t

  pub fails_plainly : (ls : List GroundLiteral) → all (plainly_met facts) ls ≡ false → false ≡ all (condition_met facts) ls
  fails_plainly ls f =
      sym (off (all (condition_met facts) ls) (λ t.
      clash (all_of (plainly_met facts) ls (λ l m. holds_plainly l (all_in (condition_met facts) ls t m))) f))

  holds_same : (l : GroundLiteral)
      → (is_pattern l.row ≡ false → (fact : List ℕ) → In fact facts → patterns_meet l.row fact ≡ same_list eqb l.row fact)
      → plainly_met facts l ≡ true → asks_pattern l ≡ false → condition_met facts l ≡ true
  unfolding condition_met plainly_met asks_pattern
  holds_same l s t n = go (eqb l.usage 1) (eqb l.usage 2) t n
    where
      go : (a b : Bool) → cond a (has_row l.row facts) (cond b (not (has_row l.row facts)) true) ≡ true
          → b && is_pattern l.row ≡ false
          → cond a (has_row l.row facts) (cond b (not (any (patterns_meet l.row) facts)) true) ≡ true
      go true b t n = t
      go false true t n = ap not (any_agree (patterns_meet l.row) (same_list eqb l.row) facts (s n)) ∙ t
      go false false t n = t

  -- where no false condition is a pattern, equal rows tell all
  module _ (ls : List GroundLiteral) (S : MeetSame ls facts) (t : all (plainly_met facts) ls ≡ true) (n : any asks_pattern ls ≡ false) where
    pub plainly_clear : true ≡ all (condition_met facts) ls
    plainly_clear =
        sym (all_of (condition_met facts) ls (λ l m. holds_same l (S l m) (all_in (plainly_met facts) ls t m) (any_out asks_pattern n m)))

  -- what holds by equal rows, and that no fact meets, holds
  holds_beside : (l : GroundLiteral) → plainly_met facts l ≡ true → any (λ (fact : List ℕ). forbids fact l) facts ≡ false → condition_met facts l ≡ true
  unfolding condition_met plainly_met forbids
  holds_beside l t f = go (eqb l.usage 1) (eqb l.usage 2) t f
    where
      go : (a b : Bool) → cond a (has_row l.row facts) (cond b (not (has_row l.row facts)) true) ≡ true
          → any (λ (fact : List ℕ). b && patterns_meet l.row fact) facts ≡ false
          → cond a (has_row l.row facts) (cond b (not (any (patterns_meet l.row) facts)) true) ≡ true
      go true b t f = t
      go false true t f = ap not f
      go false false t f = t

  -- what a fact meets does not hold
  fails : (l : GroundLiteral) (fact : List ℕ) → In fact facts → forbids fact l ≡ true → condition_met facts l ≡ false
  unfolding condition_met forbids
  fails l fact m k =
      let c = eqb-true l.usage 2 (and_l _ _ k) in
      let one : eqb l.usage 1 ≡ false = ne_eqb l.usage 1 (λ z. omega arith) in
      let two : eqb l.usage 2 ≡ true = and_l _ _ k in
      rw (one, two) (ap not (in_any (patterns_meet l.row) m (and_r (eqb l.usage 2) _ k)))

  -- after a walk over the facts, for all of them together
  module _ (ls : List GroundLiteral) (t : all (plainly_met facts) ls ≡ true) (r : Bool)
      (e : r ≡ any (λ (fact : List ℕ). any (forbids fact) ls) facts) where
    walk_clear : r ≡ false → true ≡ all (condition_met facts) ls
    walk_clear f =
        sym (all_of (condition_met facts) ls (λ l m.
        holds_beside l (all_in (plainly_met facts) ls t m)
        (off (any (λ (fact : List ℕ). forbids fact l) facts) (λ k.
        let w = any_in (λ (fact : List ℕ). forbids fact l) facts k in
        clash (in_any (λ (fact : List ℕ). any (forbids fact) ls) w.1 (in_any (forbids w.0) m w.2)) (sym e ∙ f)))))

    walk_met : r ≡ true → false ≡ all (condition_met facts) ls
    walk_met f =
        let w = any_in (λ (fact : List ℕ). any (forbids fact) ls) facts (sym e ∙ f) in
        let v = any_in (forbids w.0) ls w.2 in
        sym (off (all (condition_met facts) ls) (λ k. clash (all_in (condition_met facts) ls k v.1) (fails v.0 w.0 w.1 v.2)))

    pub walked : not r ≡ all (condition_met facts) ls
    walked = go (bool_cases r)
      where
        go : (r ≡ true) ⊎ (r ≡ false) → not r ≡ all (condition_met facts) ls
        go (inl f) = ap not f ∙ walk_met f
        go (inr f) = ap not f ∙ walk_clear f
