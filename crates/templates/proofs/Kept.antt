-- The numbering of the keys is no matter: a key tuple and the arguments in key places, from left to right, say the same. Assumes nothing.
use mathlib.Core.Path.{◌≡◌, refl, sym, ap, ap₂, ◌∙◌}
use mathlib.Core.Bool.{Bool, true, false, ◌&&◌, false≢true}
use mathlib.Core.List.Memᴰ
use mathlib.Core.List.{List, [], ◌∷◌, ◌++◌, map}
use Prim.Native.Nat.{ℕ, zero, suc}
use native.Mathlib.Omega.{arith}
use lib.Dec.{eqb}
use lib.ListN.{get_or, length, length-map}
use borrow.Author.Tests.{eqb-true, eq-eqb}
use Rattle.records.specs.Lists.{In, all, keep_if, same_list}
use Rattle.records.proofs.Lists.{and_l, and_r, and_i, any_same}
use Rattle.literals.specs.declared.Variable.{Variable}
use Rattle.literals.specs.declared.Argument.{Argument}
use Rattle.literals.specs.declared.Argument.TheVariants.{Variable as bound, Every}
use Rattle.literals.specs.declared.Key.{Key}
use Rattle.literals.specs.declared.Label.{Label}
use Rattle.literals.specs.declared.Label.TheVariants.{Key as keyed, Counted}
use Rattle.literals.specs.Domain.{variable, key, Atom, Component, is_key, keys_of, Domain, counted_cleared, keeps_keys, keys_bound, variables_of}
use Rattle.literals.specs.Matching.{under, key_tuple, is_of, tuples_of}
use Rattle.classes.specs.Classes.{literal_tuples, covered}
use Rattle.services.proofs.KeyTuples.{Reads, reads_tail, read_head, tuple_reads}
use Rattle.templates.specs.Templates.{single, legal_alone}
use Rattle.templates.specs.Claims.{same_mark, same_shape, renamed, ShapeIsRenaming, RenamedAlike}
use Rattle.templates.proofs.Labels.{Marked, marked_bound, marked_cleared}
use Rattle.templates.proofs.Legal.{legal_labels, legal_bound}
use Rattle.templates.proofs.Renamed.{rows_alike}

-- the labels that are keys, and their numbers
abbrev key_labels : List Label → List Label
key_labels [] = []
key_labels (keyed k ∷ ls) = keyed k ∷ key_labels ls
key_labels (Counted ∷ ls) = key_labels ls

abbrev key_numbers : List Label → List ℕ
key_numbers [] = []
key_numbers (keyed k ∷ ls) = k.0 ∷ key_numbers ls
key_numbers (Counted ∷ ls) = key_numbers ls

module _ {A : Type 0} where
  -- the arguments in key places, from left to right
  abbrev kept : List Label → List A → List A
  kept [] vs = []
  kept (l ∷ ls) [] = []
  kept (keyed k ∷ ls) (v ∷ vs) = v ∷ kept ls vs
  kept (Counted ∷ ls) (v ∷ vs) = kept ls vs

  kept_marked : (ls ms : List Label) (vs : List A) → Marked ls ms → kept ls vs ≡ kept ms vs
  kept_marked [] [] vs t = refl
  kept_marked [] (m ∷ ms) vs t = absurd (false≢true t)
  kept_marked (l ∷ ls) [] vs t = absurd (false≢true t)
  kept_marked (l ∷ ls) (m ∷ ms) [] t = refl
  kept_marked (keyed k ∷ ls) (keyed j ∷ ms) (v ∷ vs) t = ap {B = List A} (λ l. v ∷ l) (kept_marked ls ms vs t)
  kept_marked (keyed k ∷ ls) (Counted ∷ ms) (v ∷ vs) t = absurd (false≢true t)
  kept_marked (Counted ∷ ls) (keyed j ∷ ms) (v ∷ vs) t = absurd (false≢true t)
  kept_marked (Counted ∷ ls) (Counted ∷ ms) (v ∷ vs) t = kept_marked ls ms vs t

  -- the tuple is one of them alone
  under_kept : (k : Key) (ls : List Label) (vs : List A) → under k ls vs ≡ under k (key_labels ls) (kept ls vs)
  under_kept k [] vs = refl
  under_kept k (Counted ∷ ls) [] = sym (under_nil k (key_labels ls))
    where
      under_nil : (k : Key) (ls : List Label) → under {A = A} k ls [] ≡ []
      under_nil k [] = refl
      under_nil k (l ∷ ls) = refl
  under_kept k (keyed j ∷ ls) [] = refl
  under_kept k (keyed j ∷ ls) (v ∷ vs) = ap (keep_if (is_key k (keyed j)) v) (under_kept k ls vs)
  under_kept k (Counted ∷ ls) (v ∷ vs) = under_kept k ls vs

  tuple_kept : (n : ℕ) (ls : List Label) (vs : List A) → key_tuple n ls vs ≡ key_tuple n (key_labels ls) (kept ls vs)
  tuple_kept zero ls vs = refl
  tuple_kept (suc n) ls vs = ap₂ ◌++◌ (tuple_kept n ls vs) (under_kept (key n) ls vs)

  -- and they are read back from the tuple
  kept_back : (d : A) (y : List A) (ls : List Label) (vs : List A) → length ls ≡ length vs → Reads d y ls vs
      → kept ls vs ≡ map (λ k. get_or y k d) (key_numbers ls)
  kept_back d y [] vs e h = refl
  kept_back d y (l ∷ ls) [] e h = absurd (omega arith)
  kept_back d y (keyed k ∷ ls) (v ∷ vs) e h =
      ap₂ ◌∷◌ (sym (read_head d y k.0 ls v vs h)) (kept_back d y ls vs (omega arith) (reads_tail d y (keyed k) ls v vs h))
  kept_back d y (Counted ∷ ls) (v ∷ vs) e h = kept_back d y ls vs (omega arith) (reads_tail d y Counted ls v vs h)

-- ---- the same marks: one is the other with its keys renamed

number : Label → ℕ
number (keyed k) = k.0
number Counted = 0

marked_renamed : (y : List ℕ) (ls ms : List Label) → Marked ls ms → Reads 0 y ls (map number ms) → ms ≡ map (renamed (λ k. get_or y k 0)) ls
unfolding number
marked_renamed y [] [] t h = refl
marked_renamed y [] (m ∷ ms) t h = absurd (false≢true t)
marked_renamed y (l ∷ ls) [] t h = absurd (false≢true t)
marked_renamed y (keyed k ∷ ls) (keyed j ∷ ms) t h =
    ap₂ ◌∷◌ (ap (λ (n : ℕ). keyed (key n)) (sym (read_head 0 y k.0 ls j.0 (map number ms) h)))
    (marked_renamed y ls ms t (reads_tail 0 y (keyed k) ls j.0 (map number ms) h))
marked_renamed y (keyed k ∷ ls) (Counted ∷ ms) t h = absurd (false≢true t)
marked_renamed y (Counted ∷ ls) (keyed j ∷ ms) t h = absurd (false≢true t)
marked_renamed y (Counted ∷ ls) (Counted ∷ ms) t h =
    ap {B = List Label} (λ l. Counted ∷ l) (marked_renamed y ls ms t (reads_tail 0 y Counted ls 0 (map number ms) h))

renamed_marked : (σ : ℕ → ℕ) (ls : List Label) → Marked ls (map (renamed σ) ls)
renamed_marked σ [] = refl
renamed_marked σ (keyed k ∷ ls) = renamed_marked σ ls
renamed_marked σ (Counted ∷ ls) = renamed_marked σ ls

marked_length : (ls ms : List Label) → Marked ls ms → length ls ≡ length ms
marked_length [] [] t = refl
marked_length [] (m ∷ ms) t = absurd (false≢true t)
marked_length (l ∷ ls) [] t = absurd (false≢true t)
marked_length (l ∷ ls) (m ∷ ms) t = ap suc (marked_length ls ms (and_r (same_mark l m) _ t))

-- ---- the variables of a literal with no FF under a key: an FF stands for any

plain : Argument → Variable
plain (bound v) = v
plain Every = variable 0

variables_append : (as' bs : List Argument) → variables_of (as' ++ bs) ≡ variables_of as' ++ variables_of bs
variables_append [] bs = refl
variables_append (bound v ∷ as') bs = ap {B = List Variable} (λ l. v ∷ l) (variables_append as' bs)
variables_append (Every ∷ as') bs = variables_append as' bs

plain_under : (k : Key) (ls : List Label) (vs : List Argument) → keys_bound ls vs ≡ true
    → variables_of (under k ls vs) ≡ under k ls (map plain vs)
unfolding plain
plain_under k [] vs h = refl
plain_under k (l ∷ ls) [] h = refl
plain_under k (Counted ∷ ls) (v ∷ vs) h = plain_under k ls vs h
plain_under k (keyed j ∷ ls) (Every ∷ vs) h = absurd (false≢true h)
plain_under k (keyed j ∷ ls) (bound v ∷ vs) h = go (is_key k (keyed j)) (plain_under k ls vs h)
  where
    go : (b : Bool) → variables_of (under k ls vs) ≡ under k ls (map plain vs)
        → variables_of (keep_if b (bound v) (under k ls vs)) ≡ keep_if b v (under k ls (map plain vs))
    go true e = ap {B = List Variable} (λ l. v ∷ l) e
    go false e = e

plain_tuple : (n : ℕ) (ls : List Label) (vs : List Argument) → keys_bound ls vs ≡ true
    → variables_of (key_tuple n ls vs) ≡ key_tuple n ls (map plain vs)
plain_tuple zero ls vs h = refl
plain_tuple (suc n) ls vs h =
    variables_append (key_tuple n ls vs) (under (key n) ls vs) ∙ ap₂ ◌++◌ (plain_tuple n ls vs h) (plain_under (key n) ls vs h)

module _ (D : Domain) (c d : Component) (lc : legal_alone D c ≡ true) (ld : legal_alone D d ≡ true) (sh : same_shape c d ≡ true) where
  rel : c.rel ≡ d.rel
  rel = eqb-true _ _ (and_l _ _ sh)

  marked : Marked c.labels d.labels
  marked = and_r (eqb c.rel d.rel) _ sh

  -- a tuple by the keys of c, by the keys of d
  answer : List Variable → List Variable
  answer x = key_tuple (keys_of (d ∷ [])) (key_labels d.labels) (map (λ k. get_or x k (variable 0)) (key_numbers c.labels))

  of_both : (p : Atom Argument) → is_of d p ≡ is_of c p
  of_both p = ap₂ (λ (r n : ℕ). eqb r p.rel && eqb n (length p.args)) (sym rel) (sym (marked_length c.labels d.labels marked))

  answer_is : (vs : List Variable) → length c.labels ≡ length vs
      → key_tuple (keys_of (d ∷ [])) d.labels vs ≡ answer (key_tuple (keys_of (c ∷ [])) c.labels vs)
  unfolding answer
  answer_is vs e =
      tuple_kept (keys_of (d ∷ [])) d.labels vs
      ∙ ap (key_tuple (keys_of (d ∷ [])) (key_labels d.labels))
      (sym (kept_marked c.labels d.labels vs marked)
      ∙ kept_back (variable 0) (key_tuple (keys_of (c ∷ [])) c.labels vs) c.labels vs e
      (tuple_reads (keys_of (c ∷ [])) c.labels vs (variable 0) e (legal_labels D c lc)))

  -- a literal that keeps the keys, of the relation
  bound_of : (p : Atom Argument) → keeps_keys c p ≡ true → is_of c p ≡ true → keys_bound c.labels p.args ≡ true
  bound_of p k t = rw (and_l (eqb c.rel p.rel) _ t) at k

  plain_of : (p : Atom Argument) → keeps_keys c p ≡ true → is_of c p ≡ true
      → variables_of (key_tuple (keys_of (c ∷ [])) c.labels p.args) ≡ key_tuple (keys_of (c ∷ [])) c.labels (map plain p.args)
  plain_of p k t = plain_tuple (keys_of (c ∷ [])) c.labels p.args (bound_of p k t)

  plain_other : (p : Atom Argument) → keeps_keys c p ≡ true → is_of c p ≡ true
      → variables_of (key_tuple (keys_of (d ∷ [])) d.labels p.args) ≡ key_tuple (keys_of (d ∷ [])) d.labels (map plain p.args)
  plain_other p k t =
      plain_tuple (keys_of (d ∷ [])) d.labels p.args (sym (marked_bound c.labels d.labels p.args marked) ∙ bound_of p k t)

  sized : (p : Atom Argument) → is_of c p ≡ true → length c.labels ≡ length (map plain p.args)
  sized p t = eqb-true _ _ (and_r (eqb c.rel p.rel) _ t) ∙ sym (length-map p.args plain)

  tuples : (p : Atom Argument) → keeps_keys c p ≡ true → literal_tuples (single D d) p ≡ map answer (literal_tuples (single D c) p)
  unfolding tuples_of literal_tuples
  tuples p k = ap (λ b. map variables_of (keep_if b (key_tuple (keys_of (d ∷ [])) d.labels p.args) [])) (of_both p) ∙ go (is_of c p) refl
    where
      go : (b : Bool) → is_of c p ≡ b
          → map variables_of (keep_if b (key_tuple (keys_of (d ∷ [])) d.labels p.args) [])
          ≡ map answer (map variables_of (keep_if b (key_tuple (keys_of (c ∷ [])) c.labels p.args) []))
      go true t =
          ap {B = List (List Variable)} (λ x. x ∷ [])
          (plain_other p k t ∙ answer_is (map plain p.args) (sized p t) ∙ ap answer (sym (plain_of p k t)))
      go false t = refl

  tuple_is : (p : Atom Argument) → keeps_keys c p ≡ true → (x : List Variable) → In x (literal_tuples (single D c) p)
      → (length c.labels ≡ length (map plain p.args)) × (x ≡ key_tuple (keys_of (c ∷ [])) c.labels (map plain p.args))
  unfolding tuples_of literal_tuples
  tuple_is p k x m = go (is_of c p) refl m
    where
      go : (b : Bool) → is_of c p ≡ b → In x (map variables_of (keep_if b (key_tuple (keys_of (c ∷ [])) c.labels p.args) []))
          → (length c.labels ≡ length (map plain p.args)) × (x ≡ key_tuple (keys_of (c ∷ [])) c.labels (map plain p.args))
      go true t m = (sized p t, Memᴰ.eq_of_singleton m ∙ plain_of p k t)
      go false t m = absurd (Memᴰ.not-nil m)

  -- the arguments kept, read back from the tuple by the keys of d
  kept_of : (vs : List Variable) → length c.labels ≡ length vs
      → kept c.labels vs ≡ map (λ k. get_or (key_tuple (keys_of (d ∷ [])) d.labels vs) k (variable 0)) (key_numbers d.labels)
  kept_of vs e =
      let l : length d.labels ≡ length vs = sym (marked_length c.labels d.labels marked) ∙ e in
      kept_marked c.labels d.labels vs marked
      ∙ kept_back (variable 0) (key_tuple (keys_of (d ∷ [])) d.labels vs) d.labels vs l
      (tuple_reads (keys_of (d ∷ [])) d.labels vs (variable 0) l (legal_labels D d ld))

  keeps : (p q : Atom Argument) → keeps_keys c p ≡ true → keeps_keys c q ≡ true → (x y : List Variable) → In x (literal_tuples (single D c) p)
      → In y (literal_tuples (single D c) q) → answer x ≡ answer y → x ≡ y
  keeps p q kp kq x y m n e = go (tuple_is p kp x m) (tuple_is q kq y n)
    where
      go : (length c.labels ≡ length (map plain p.args)) × (x ≡ key_tuple (keys_of (c ∷ [])) c.labels (map plain p.args))
          → (length c.labels ≡ length (map plain q.args)) × (y ≡ key_tuple (keys_of (c ∷ [])) c.labels (map plain q.args)) → x ≡ y
      go (lp, ep) (lq, eq) =
          let t : key_tuple (keys_of (d ∷ [])) d.labels (map plain p.args)
          ≡ key_tuple (keys_of (d ∷ [])) d.labels (map plain q.args)
          = answer_is (map plain p.args) lp ∙ ap answer (sym ep) ∙ e ∙ ap answer eq ∙ sym (answer_is (map plain q.args) lq) in
          let k : kept c.labels (map plain p.args) ≡ kept c.labels (map plain q.args)
          = kept_of (map plain p.args) lp ∙ ap (λ (z : List Variable). map (λ k. get_or z k (variable 0)) (key_numbers d.labels)) t
          ∙ sym (kept_of (map plain q.args) lq) in
          ep ∙ tuple_kept (keys_of (c ∷ [])) c.labels (map plain p.args) ∙ ap (key_tuple (keys_of (c ∷ [])) (key_labels c.labels)) k
          ∙ sym (tuple_kept (keys_of (c ∷ [])) c.labels (map plain q.args)) ∙ sym eq

  cover : (ps : List (Atom Argument)) → all (covered ps) (d ∷ []) ≡ all (covered ps) (c ∷ [])
  cover ps =
      ap (λ (b : Bool). b && true)
      (any_same (λ (p : Atom Argument). eqb d.rel p.rel && counted_cleared d.labels p.args)
      (λ (p : Atom Argument). eqb c.rel p.rel && counted_cleared c.labels p.args) ps
      (λ p. ap₂ (λ (r : ℕ) (b : Bool). eqb r p.rel && b) (sym rel) (sym (marked_cleared c.labels d.labels p.args marked))))

pub shape_is_renaming : ShapeIsRenaming
shape_is_renaming D c d lc = (into, back)
  where
    into : same_shape c d ≡ true → (c.rel ≡ d.rel) × ((σ : ℕ → ℕ) × (d.labels ≡ map (renamed σ) c.labels))
    into t =
        let m : Marked c.labels d.labels = and_r (eqb c.rel d.rel) _ t in
        let n = keys_of (c ∷ []) in
        let vs = map number d.labels in (
          eqb-true _ _ (and_l _ _ t),
          (
            (λ k. get_or (key_tuple n c.labels vs) k 0),
            marked_renamed (key_tuple n c.labels vs) c.labels d.labels m
                (tuple_reads n c.labels vs 0 (marked_length c.labels d.labels m ∙ sym (length-map d.labels number))
                (legal_labels D c lc)),
          ),
        )

    back : (c.rel ≡ d.rel) × ((σ : ℕ → ℕ) × (d.labels ≡ map (renamed σ) c.labels)) → same_shape c d ≡ true
    back (e, (σ, q)) = and_i (eq-eqb c.rel d.rel e) (ap (same_list same_mark c.labels) q ∙ renamed_marked σ c.labels)

pub renamed_alike : RenamedAlike
renamed_alike D c d lc ld sh =
    sym (rows_alike (single D c) (single D d) refl (answer D c d lc ld sh) (λ p. keeps_keys c p ≡ true) (legal_bound D c lc)
    (tuples D c d lc ld sh) (keeps D c d lc ld sh) (cover D c d lc ld sh))
