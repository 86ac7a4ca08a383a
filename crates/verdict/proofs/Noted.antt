-- Laws of summaries and notes for code that goes forward: one row more, one summary more. Assumes nothing.
use Rattle.std.specs.Prelude.{Option, None, Some}
use Rattle.std.specs.Option.{option_or}
use mathlib.Core.Path.{◌≡◌, refl, sym, ap, ◌∙◌}
use mathlib.Core.Bool.{Bool, true, false, ◌&&◌, not, ◌||◌, cond}
use mathlib.Core.Logic.{◌⊎◌, inl, inr}
use mathlib.Core.List.{List, [], ◌∷◌, ◌++◌, head?}
use Prim.Native.Nat.{ℕ, suc, ◌+◌}
use native.Mathlib.Omega.{arith}
use lib.Dec.{eqb}
use lib.ListN.{length}
use Rattle.records.specs.Lists.{keep_if, any, filter_by}
use Rattle.records.proofs.Lists.{any_append, filter_append, and_l, and_r, clash, not_true}
use Rattle.literals.specs.declared.Moment.{Moment}
use Rattle.classes.specs.declared.Name.{Name}
use Rattle.classes.specs.declared.Name.TheVariants.{Unreachable, Irrelevant, Balanced}
use Rattle.verdict.specs.declared.Spot.{Spot}
use Rattle.verdict.specs.declared.Place.{Place}
use Rattle.verdict.specs.declared.Summary.{Summary}
use Rattle.verdict.specs.declared.Notes.{Notes}
use Rattle.verdict.specs.Decision.{Row, is_unbounded, is_bounded, fault_by, is_bounded_outside, has_fault}
use Rattle.verdict.specs.Summaries.{spot_of, first_spot, has_unbounded, summary_rows, place_in, place_else, first_place, notes_of}
use Rattle.verdict.specs.Held.{row_for, spot_else, is_nowhere, is_silent}

-- ---- one row more

pub or_none : {A : Type 0} (o : Option A) → option_or o None ≡ o
or_none None = refl
or_none (Some x) = refl

pub or_false : (b : Bool) → b || false ≡ b
or_false true = refl
or_false false = refl

pub or_true : (b : Bool) → b || true ≡ true
or_true true = refl
or_true false = refl

-- a spot, where the row there passes
abbrev pub spot_if : Bool → Spot → Option Spot
spot_if b q = cond b (Some q) None

abbrev pub spot_at : ℕ → Moment → Spot
spot_at c m = record { class = c; moment = m }

spot_more : (p : Row → Bool) (rs : List Row) (r : Row) → first_spot p (rs ++ (r ∷ [])) ≡ spot_else (first_spot p rs) (spot_if (p r) (spot_at r.class r.moment))
spot_more p rs r = ap (λ (l : List Row). spot_of (head? l)) (filter_append p rs (r ∷ [])) ∙ go (filter_by p rs) (p r)
  where
    go : (l : List Row) (b : Bool) → spot_of (head? (l ++ keep_if b r [])) ≡ spot_else (spot_of (head? l)) (spot_if b (spot_at r.class r.moment))
    go [] true = refl
    go [] false = refl
    go (x ∷ xs) b = refl

unbounded_more : (rs : List Row) (r : Row) → has_unbounded (rs ++ (r ∷ [])) ≡ has_unbounded rs || is_unbounded r.name
unbounded_more rs r = any_append (λ (r : Row). is_unbounded r.name) rs (r ∷ []) ∙ ap (λ b. has_unbounded rs || b) (or_false (is_unbounded r.name))

-- a summary with a moment more: each of its spots, where the moment is of that sort
abbrev pub with_moment : Summary → Name → Bool → Spot → Summary
with_moment s n e here =
    record {
      heavy = spot_else s.heavy (spot_if (eqb (fault_by n e) 40) here);
      unbalanced = spot_else s.unbalanced (spot_if (eqb (fault_by n e) 41) here);
      unbounded = spot_else s.unbounded (spot_if (eqb (fault_by n e) 42) here);
      bounded = spot_else s.bounded (spot_if (is_bounded n && not e) here);
      endless = s.endless || is_unbounded n;
    }

pub summed : (s : Summary) (n : Name) (e : Bool) (c : ℕ) (m : Moment) (rs : List Row) (i : ℕ) {t : Summary} → s ≡ summary_rows rs
    → t ≡ with_moment s n e (spot_at c m) → t ≡ summary_rows (rs ++ (row_for i c m n e ∷ []))
unfolding summary_rows
summed s n e c m rs i is k =
    let r = row_for i c m n e in
    k
    ∙ ap (λ (s : Summary). with_moment s n e (spot_at c m)) is
    ∙ (λ k. record {
      heavy = sym (spot_more (has_fault 40) rs r) k;
      unbalanced = sym (spot_more (has_fault 41) rs r) k;
      unbounded = sym (spot_more (has_fault 42) rs r) k;
      bounded = sym (spot_more is_bounded_outside rs r) k;
      endless = sym (unbounded_more rs r) k;
    })

-- moments with these names are not summed
pub unsummed : (s : Summary) (n : Name) (e : Bool) (here : Spot) → (n ≡ Unreachable) ⊎ ((n ≡ Irrelevant) ⊎ (n ≡ Balanced)) → s ≡ with_moment s n e here
unsummed s n e here (inl k) = simp (k, or_none, or_false)
unsummed s n e here (inr (inl k)) = simp (k, or_none, or_false)
unsummed s n e here (inr (inr k)) = simp (k, or_none, or_false)

-- ---- one summary more

or_assoc : {A : Type 0} (p q r : Option A) → option_or p (option_or q r) ≡ option_or (option_or p q) r
or_assoc None q r = refl
or_assoc (Some x) q r = refl

place_more : (f : Summary → Option Spot) (i : ℕ) (ss : List Summary) (s : Summary) → first_place f i (ss ++ (s ∷ [])) ≡ place_else (first_place f i ss) (place_in (i + length ss) (f s))
place_more f i [] s = let z : i ≡ i + 0 = omega arith in or_none (place_in i (f s)) ∙ ap (λ n. place_in n (f s)) z
place_more f i (x ∷ ss) s =
    let z : suc i + length ss ≡ i + suc (length ss) = omega arith in
    ap (place_else (place_in i (f x))) (place_more f (suc i) ss s ∙ ap (λ n. place_else (first_place f (suc i) ss) (place_in n (f s))) z)
    ∙ or_assoc (place_in i (f x)) (first_place f (suc i) ss) (place_in (i + suc (length ss)) (f s))

-- the notes n with the summary s of the action i
abbrev pub with_summary : Notes → ℕ → Summary → Notes
with_summary n i s =
    record {
      heavy = place_else n.heavy (place_in i s.heavy);
      unbalanced = place_else n.unbalanced (place_in i s.unbalanced);
      unbounded = place_else n.unbounded (place_in i s.unbounded);
      bounded = place_else n.bounded (place_in i s.bounded);
      endless = n.endless || s.endless;
    }

pub noted : (n : Notes) (i : ℕ) (s : Summary) (ss : List Summary) {t : Notes} → i ≡ length ss → n ≡ notes_of ss
    → t ≡ with_summary n i s → t ≡ notes_of (ss ++ (s ∷ []))
unfolding notes_of
noted n i s ss l e k =
    let first : (f : Summary → Option Spot) → place_else (first_place f 0 ss) (place_in i (f s)) ≡ first_place f 0 (ss ++ (s ∷ []))
    = λ f. let z : i ≡ 0 + length ss = omega arith in ap (λ k. place_else (first_place f 0 ss) (place_in k (f s))) z ∙ sym (place_more f 0 ss s) in
    k
    ∙ ap (λ (n : Notes). with_summary n i s) e
    ∙ (λ k. record {
      heavy = first (λ (s : Summary). s.heavy) k;
      unbalanced = first (λ (s : Summary). s.unbalanced) k;
      unbounded = first (λ (s : Summary). s.unbounded) k;
      bounded = first (λ (s : Summary). s.bounded) k;
      endless = sym (any_append (λ (s : Summary). s.endless) ss (s ∷ []) ∙ ap (λ b. any (λ (s : Summary). s.endless) ss || b) (or_false s.endless)) k;
    })

-- a silent summary changes nothing
pub notes_silent : (n : Notes) (i : ℕ) (s : Summary) → is_silent s ≡ true → n ≡ with_summary n i s
notes_silent n i s e =
    let quiet = not_true s.endless (and_l _ _ e) in
    let a = and_r (not s.endless) _ e in
    let b = and_r (is_nowhere s.heavy) _ a in
    let c = and_r (is_nowhere s.unbalanced) _ b in
    λ k. record {
      heavy = kept n.heavy s.heavy (and_l _ _ a) k;
      unbalanced = kept n.unbalanced s.unbalanced (and_l _ _ b) k;
      unbounded = kept n.unbounded s.unbounded (and_l _ _ c) k;
      bounded = kept n.bounded s.bounded (and_r (is_nowhere s.unbounded) _ c) k;
      endless = sym (ap (λ (x : Bool). n.endless || x) quiet ∙ or_false n.endless) k;
    }
  where
    kept : (p : Option Place) (o : Option Spot) → is_nowhere o ≡ true → p ≡ place_else p (place_in i o)
    kept p None e = sym (or_none p)
    kept p (Some x) e = absurd (clash e refl)
