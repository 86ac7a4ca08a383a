-- Steps of events that do not interfere, and what they do to one instance. Facts are a predicate here, so that no list of facts is taken apart.
-- The conditions here are an event's own: those that interference guards. (What is asked in the state that the step is taken from besides, an end's over-all conditions, need not survive an
-- earlier event, and is used before the events are put one after the other: `Alive` in Acts.)
-- The facts of the instance and its journeys under way (j) are together at most one; each event is one of five kinds, and each kind keeps that.
-- Assumes nothing.
use mathlib.Core.Path.{◌≡◌, refl, sym, ◌∙◌}
use mathlib.Core.Bool.{Bool, true, false, true≢false}
use mathlib.Core.Logic.{◌⊎◌, inl, inr}
use mathlib.Core.List.Memᴰ
use mathlib.Core.List.{List, [], ◌∷◌, foldr}
use Prim.Native.Nat.{ℕ, ◌+◌, ◌-◌, ◌≤◌}
use native.Mathlib.Omega.{arith}
use Rattle.records.specs.Lists.{In}
use Rattle.literals.specs.declared.Usage.{Usage}
use Rattle.literals.specs.declared.Usage.TheVariants.{Positive, Negative, Add, Delete}
use Rattle.literals.specs.Domain.{Fact}

abbrev pub Facts : Type 1
Facts = Fact → Type 0

abbrev pub Effect : Type 0
Effect = Usage → List Fact

-- after one event
abbrev pub One : Facts → Effect → Facts
One S e f = (S f × (In f (e Delete) → ⊥)) ⊎ In f (e Add)

pub record Holds (S : Facts) (e : Effect) : Type 0 where
  pub yes : (f : Fact) → In f (e Positive) → S f
  pub no : (f : Fact) → In f (e Negative) → S f → ⊥

-- e first, then d: what e does leaves d's conditions as they are, and d deletes nothing that e adds
pub record Quiet (e d : Effect) : Type 0 where
  pub yes : (f : Fact) → In f (d Positive) → In f (e Delete) → ⊥
  pub no : (f : Fact) → In f (d Negative) → In f (e Add) → ⊥
  pub stay : (f : Fact) → In f (e Add) → In f (d Delete) → ⊥

pub holds_after : {S : Facts} {e d : Effect} → Quiet e d → Holds S d → Holds (One S e) d
holds_after {S} {e} {d} q h = record { yes = λ f m. inl (h.yes f m, q.yes f m); no = λ f m o. go f m o }
  where
    go : (f : Fact) → In f (d Negative) → One S e f → ⊥
    go f m (inl k) = h.no f m k.0
    go f m (inr k) = q.no f m k

abbrev pub sum : {E : Type 0} → (E → ℕ) → List E → ℕ
sum k es = foldr (λ e n. k e + n) 0 es

-- ---- a step of events of any type E
module _ {E : Type 0} (eff : E → Effect) where
  -- after all of them at once
  abbrev pub After : Facts → List E → Facts
  After S es f = (S f × ((e : E) → In e es → In f (eff e Delete) → ⊥)) ⊎ ((e : E) × In e es × In f (eff e Add))

  pub data Quiets : List E → Type 0 where
    alone : Quiets []
    beside : {e : E} {es : List E} → ((d : E) → In d es → Quiet (eff e) (eff d)) → Quiets es → Quiets (e ∷ es)

  -- at once is no more than the first, then the rest
  after_cons : (S : Facts) (e : E) (es : List E) → ((d : E) → In d es → Quiet (eff e) (eff d)) → (f : Fact) → After S (e ∷ es) f → After (One S (eff e)) es f
  after_cons S e es q f (inl k) = inl (inl (k.0, k.1 _ (Memᴰ.head refl)), λ d m. k.1 d (Memᴰ.tail m))
  after_cons S e es q f (inr k) = go k.0 k.1 k.2
    where
      go : (d : E) → In d (e ∷ es) → In f (eff d Add) → After (One S (eff e)) es f
      go d (Memᴰ.head p) a = let b : In f (eff e Add) = rw p at a in inl (inr b, λ c m. (q c m).stay f b)
      go d (Memᴰ.tail m) a = inr (d, m, a)

-- v: bounded moments may add (verdict 0); else journeys are counted (verdict 1)
module _ (fit : Fact → Bool) (v : Bool) where
  pub record Inv (S : Facts) (j : ℕ) : Type 0 where
    pub single : (f g : Fact) → S f → S g → fit f ≡ true → fit g ≡ true → f ≡ g
    pub free : (f : Fact) → S f → fit f ≡ true → j ≡ 0
    pub few : j ≤ 1
    pub none_open : v ≡ true → j ≡ 0

  -- what an event does to the instance; s journeys start, t journeys end
  pub data Act (e : Effect) (s t : ℕ) : Type 0 where
    idle : s ≡ 0 → t ≡ 0 → ((f : Fact) → In f (e Add) → fit f ≡ true → ⊥) → Act e s t
    moves : (p a : Fact) → s ≡ 0 → t ≡ 0 → In p (e Positive) → fit p ≡ true → ((f : Fact) → In f (e Add) → fit f ≡ true → f ≡ a)
        → In p (e Delete) ⊎ (p ≡ a) → Act e s t
    fills : (a : Fact) → v ≡ true → s ≡ 0 → t ≡ 0 → ((f : Fact) → In f (e Add) → fit f ≡ true → f ≡ a)
        → ((f : Fact) → fit f ≡ true → In f (e Negative) ⊎ (In f (e Delete) ⊎ (f ≡ a))) → Act e s t
    leaves : (p : Fact) → v ≡ false → s ≡ 1 → t ≡ 0 → In p (e Positive) → In p (e Delete) → fit p ≡ true
        → ((f : Fact) → In f (e Add) → fit f ≡ true → ⊥) → Act e s t
    arrives : (a : Fact) → s ≡ 0 → t ≡ 1 → ((f : Fact) → In f (e Add) → fit f ≡ true → f ≡ a) → Act e s t

  -- what keeps the invariant over one event
  record Kept (S : Facts) (e : Effect) (j : ℕ) : Type 0 where
    new_new : (f g : Fact) → In f (e Add) → In g (e Add) → fit f ≡ true → fit g ≡ true → f ≡ g
    old_new : (f g : Fact) → S f → (In f (e Delete) → ⊥) → In g (e Add) → fit f ≡ true → fit g ≡ true → f ≡ g
    old : (f : Fact) → S f → (In f (e Delete) → ⊥) → fit f ≡ true → j ≡ 0
    new : (f : Fact) → In f (e Add) → fit f ≡ true → j ≡ 0
    few : j ≤ 1
    none_open : v ≡ true → j ≡ 0

  inv_of : {S : Facts} {e : Effect} {i j : ℕ} → Inv S i → Kept S e j → Inv (One S e) j
  inv_of {S} {e} {i} {j} h k = record { single = pair; free = lone; few = k.few; none_open = k.none_open }
    where
      pair : (f g : Fact) → One S e f → One S e g → fit f ≡ true → fit g ≡ true → f ≡ g
      pair f g (inl a) (inl b) p q = h.single f g a.0 b.0 p q
      pair f g (inl a) (inr b) p q = k.old_new f g a.0 a.1 b p q
      pair f g (inr a) (inl b) p q = sym (k.old_new g f b.0 b.1 a q p)
      pair f g (inr a) (inr b) p q = k.new_new f g a b p q

      lone : (f : Fact) → One S e f → fit f ≡ true → j ≡ 0
      lone f (inl a) p = k.old f a.0 a.1 p
      lone f (inr a) p = k.new f a p

  kept : {S : Facts} {e : Effect} {s t i j : ℕ} → Inv S i → Holds S e → Act e s t → t ≤ i → j + t ≡ i + s → Kept S e j
  kept {S} {e} {i = i} {j = j} h c (idle s0 t0 none) le eq = record {
    new_new = λ f g m n p q. absurd (none f m p);
    old_new = λ f g o d m p q. absurd (none g m q);
    old = λ f o d p. let z = h.free f o p in omega arith;
    new = λ f m p. absurd (none f m p);
    few = let z = h.few in omega arith;
    none_open = λ y. let z = h.none_open y in omega arith;
  }
  kept {S} {e} {i = i} {j = j} h c (moves p a s0 t0 hp fp only or) le eq =
      let z : i ≡ 0 = h.free p (c.yes p hp) fp in
      let y : j ≡ 0 = omega arith in record {
        new_new = λ f g m n fp fq. only f m fp ∙ sym (only g n fq);
        old_new = λ f g o d m ff fg. go or f g o d m ff fg;
        old = λ f o d p. y;
        new = λ f m p. y;
        few = omega arith;
        none_open = λ _. y;
      }
    where
      go : In p (e Delete) ⊎ (p ≡ a) → (f g : Fact) → S f → (In f (e Delete) → ⊥) → In g (e Add) → fit f ≡ true → fit g ≡ true → f ≡ g
      go (inl m) f g o d n ff fg = absurd (d (Memᴰ.cast (h.single f p o (c.yes p hp) ff fp) m))
      go (inr k) f g o d n ff fg = h.single f p o (c.yes p hp) ff fp ∙ k ∙ sym (only g n fg)
  kept {S} {e} {i = i} {j = j} h c (fills a vt s0 t0 only cov) le eq =
      let z : i ≡ 0 = h.none_open vt in
      let y : j ≡ 0 = omega arith in record {
        new_new = λ f g m n fp fq. only f m fp ∙ sym (only g n fq);
        old_new = λ f g o d m ff fg. go f g o d m fg (cov f ff);
        old = λ f o d p. y;
        new = λ f m p. y;
        few = omega arith;
        none_open = λ _. y;
      }
    where
      go : (f g : Fact) → S f → (In f (e Delete) → ⊥) → In g (e Add) → fit g ≡ true → In f (e Negative) ⊎ (In f (e Delete) ⊎ (f ≡ a)) → f ≡ g
      go f g o d n fg (inl m) = absurd (c.no f m o)
      go f g o d n fg (inr (inl m)) = absurd (d m)
      go f g o d n fg (inr (inr k)) = k ∙ sym (only g n fg)
  kept {S} {e} {i = i} {j = j} h c (leaves p vf s1 t0 hp dp fp none) le eq =
      let z : i ≡ 0 = h.free p (c.yes p hp) fp in record {
        new_new = λ f g m n p q. absurd (none f m p);
        old_new = λ f g o d m p q. absurd (none g m q);
        old = λ f o d ff. absurd (d (Memᴰ.cast (h.single f p o (c.yes p hp) ff fp) dp));
        new = λ f m p. absurd (none f m p);
        few = omega arith;
        none_open = λ y. absurd (true≢false (sym y ∙ vf));
      }
  kept {S} {e} {i = i} {j = j} h c (arrives a s0 t1 only) le eq = record {
    new_new = λ f g m n fp fq. only f m fp ∙ sym (only g n fq);
    old_new = λ f g o d m ff fg. let z = h.free f o ff in absurd (omega arith);
    old = λ f o d ff. let z = h.free f o ff in omega arith;
    new = λ f m p. let z = h.few in omega arith;
    few = let z = h.few in omega arith;
    none_open = λ y. let z = h.none_open y in omega arith;
  }

  -- fewer facts keep it too
  pub inv_less : {S R : Facts} {j : ℕ} → ((f : Fact) → R f → S f) → Inv S j → Inv R j
  inv_less sub h = record {
    single = λ f g a b. h.single f g (sub f a) (sub g b);
    free = λ f a. h.free f (sub f a);
    few = h.few;
    none_open = h.none_open;
  }

  module _ {E : Type 0} (eff : E → Effect) (s t : E → ℕ) where
    pub inv_after : (S : Facts) (es : List E) (i j : ℕ) → Inv S i → ((e : E) → In e es → Holds S (eff e)) → Quiets eff es
        → ((e : E) → In e es → Act (eff e) (s e) (t e)) → sum t es ≤ i → j + sum t es ≡ i + sum s es → Inv (After eff S es) j
    inv_after S [] i j h c q a le eq =
        let same : i ≡ j = omega arith in
        inv_less {j = j} (λ f k. go f k) (rw same at h)
      where
        go : (f : Fact) → After eff S [] f → S f
        go f (inl k) = k.0
        go f (inr k) = absurd (Memᴰ.not-nil k.1)
    inv_after S (e ∷ es) i j h c (beside q qs) a le eq =
        let mid : ℕ = i + s e - t e in
        let step : Inv (One S (eff e)) mid = inv_of h (kept {j = mid} h (c e (Memᴰ.head refl)) (a e (Memᴰ.head refl)) (omega arith) (omega arith)) in
        inv_less (after_cons eff S e es q)
        (inv_after (One S (eff e)) es mid j step (λ d m. holds_after (q d m) (c d (Memᴰ.tail m))) qs (λ d m. a d (Memᴰ.tail m)) (omega arith) (omega arith))

    -- with nothing there and nothing under way, nothing comes (journeys counted)
    pub none_after : (S : Facts) (es : List E) → v ≡ false → ((f : Fact) → S f → fit f ≡ true → ⊥) → ((e : E) → In e es → Holds S (eff e))
        → ((e : E) → In e es → Act (eff e) (s e) (t e)) → sum t es ≤ 0 → ((f : Fact) → After eff S es f → fit f ≡ true → ⊥) × (sum s es ≡ 0)
    none_after S es vf bare c a le = (λ f k p. added f p k, all_zero es c a le)
      where
        quiet : (e : E) → Holds S (eff e) → t e ≤ 0 → Act (eff e) (s e) (t e) → ((f : Fact) → In f (eff e Add) → fit f ≡ true → ⊥) × (s e ≡ 0)
        quiet e h l (idle s0 t0 none) = (none, s0)
        quiet e h l (moves p b s0 t0 hp fp only or) = absurd (bare p (h.yes p hp) fp)
        quiet e h l (fills b vt s0 t0 only cov) = absurd (true≢false (sym vt ∙ vf))
        quiet e h l (leaves p vf s1 t0 hp dp fp none) = absurd (bare p (h.yes p hp) fp)
        quiet e h l (arrives b s0 t1 only) = absurd (omega arith)

        small : (e : E) (ds : List E) → In e ds → sum t ds ≤ 0 → t e ≤ 0
        small e ds (Memᴰ.head {x = x} p) l = rw p (omega arith)
        small e ds (Memᴰ.tail {xs = xs} m) l = small e xs m (omega arith)

        added : (f : Fact) → fit f ≡ true → After eff S es f → ⊥
        added f p (inl k) = bare f k.0 p
        added f p (inr k) = (quiet k.0 (c k.0 k.1) (small k.0 es k.1 le) (a k.0 k.1)).0 f k.2 p

        all_zero : (ds : List E) → ((e : E) → In e ds → Holds S (eff e)) → ((e : E) → In e ds → Act (eff e) (s e) (t e)) → sum t ds ≤ 0 → sum s ds ≡ 0
        all_zero [] c a l = refl
        all_zero (d ∷ ds) c a l =
            let q = (quiet d (c d (Memᴰ.head refl)) (omega arith) (a d (Memᴰ.head refl))).1 in
            let r = all_zero ds (λ e m. c e (Memᴰ.tail m)) (λ e m. a e (Memᴰ.tail m)) (omega arith) in omega arith
