-- Which of the numbers below a bound pass a test: none, one alone, or more, as one pass over them tells. Assumes nothing.
use mathlib.Core.Path.{◌≡◌, refl, sym, ap, ap₂, ◌∙◌}
use mathlib.Core.Bool.{Bool, true, false, ◌&&◌, ◌||◌, not, cond}
use mathlib.Core.Logic.{◌⊎◌, inl, inr}
use mathlib.Core.List.Memᴰ
use mathlib.Core.List.{List, [], ◌∷◌, map}
use Prim.Native.Nat.{ℕ, zero, suc, ◌+◌, ◌-◌, ◌*◌, ◌≤◌, ◌<◌}
use native.Mathlib.Numerals.{add-one}
use native.Mathlib.Omega.{arith}
use lib.Dec.{eqb}
use lib.ListN.{length, get_or}
use borrow.Author.Tests.{ne_eqb, eqb-true, eqb-false}
use Rattle.records.specs.Lists.{In, add_if, count_by, all, any, numbers_from, below}
use Rattle.records.proofs.Lists.{bool_cases, clash, count_append}
use Rattle.records.proofs.Memory.{get_d_fill}
use Rattle.literals.specs.declared.Moment.{Moment}
use Rattle.literals.specs.declared.Moment.TheVariants.{Start, End}
use Rattle.literals.specs.declared.Time.{Time}
use Rattle.literals.specs.declared.Time.TheVariants.{AtStart, OverAll, AtEnd}
use Rattle.literals.specs.declared.Usage.{Usage}
use Rattle.literals.specs.declared.Usage.TheVariants.{Positive, Negative, Add, Delete}
use Rattle.literals.specs.declared.Role.{Role}
use Rattle.literals.specs.Domain.{role_of}
use Rattle.literals.specs.Held.{pad}
use Rattle.classes.specs.declared.Count.{Count}
use Rattle.classes.specs.declared.Count.TheVariants.{Zero, One, More}
use Rattle.classes.specs.Held.{usage_at, usage_byte, may_meet, says_at, usage_in, is_at, sole_more, sole_by, sole_at, sole_of, section_of}
use Rattle.classes.specs.Held.{count_of, counts_in, SolesOf, sole_in}
use Rattle.literals.proofs.Tables.{pad_at}
use Rattle.literals.proofs.Indices.{below_snoc, below_in, length_from, get_d_map}

pub and_comm : (s t : Bool) → s && t ≡ t && s
and_comm true true = refl
and_comm true false = refl
and_comm false true = refl
and_comm false false = refl

pub by_second : (p q t : Bool) → q ≡ t → t && p ≡ p && q
by_second p q t e = sym (and_comm p q ∙ ap (λ (b : Bool). b && p) e)

module _ (p : ℕ → Bool) where
  count_next : (n : ℕ) → count_by p (below (suc n)) ≡ count_by p (below n) + add_if (p n) 0
  count_next n = ap (count_by p) (below_snoc n) ∙ count_append p (below n) (n ∷ [])

  -- one alone
  record Only (n : ℕ) : Type 0 where
    place : ℕ
    is : sole_by p n ≡ place + 1
    less : place < n
    passes : p place ≡ true
    one : count_by p (below n) ≡ 1

  abbrev Cases : ℕ → Type 0
  Cases n = ((sole_by p n ≡ 0) × (count_by p (below n) ≡ 0)) ⊎ (((sole_by p n ≡ 255) × (2 ≤ count_by p (below n))) ⊎ Only n)

  sole_cases : (n : ℕ) → Cases n
  unfolding sole_by
  sole_cases zero = inl (refl, refl)
  sole_cases (suc n) = go (p n) refl (count_next n) (sole_cases n)
    where
      go : (t : Bool) → p n ≡ t → count_by p (below (suc n)) ≡ count_by p (below n) + add_if t 0 → Cases n → Cases (suc n)
      go true e k (inl (s, z)) =
          inr (inr record { place = n; is = ap₂ (λ (t : Bool) (r : ℕ). sole_more t n r) e s; less = omega arith; passes = e; one = omega arith })
      go true e k (inr (inl (s, m))) = inr (inl (ap₂ (λ (t : Bool) (r : ℕ). sole_more t n r) e s, omega arith))
      go true e k (inr (inr o)) =
          let w = o.is in
          let u = o.one in
          inr (inl (ap (λ (t : Bool). sole_more t n (sole_by p n)) e ∙ ap (λ (b : Bool). cond b (n + 1) 255) (ne_eqb (sole_by p n) 0 (λ z. omega arith)), omega arith))
      go false e k (inl (s, z)) = inl (ap (λ (t : Bool). sole_more t n (sole_by p n)) e ∙ s, omega arith)
      go false e k (inr (inl (s, m))) = inr (inl (ap (λ (t : Bool). sole_more t n (sole_by p n)) e ∙ s, omega arith))
      go false e k (inr (inr o)) =
          let l = o.less in
          let u = o.one in
          inr (inr record { place = o.place; is = ap (λ (t : Bool). sole_more t n (sole_by p n)) e ∙ o.is; less = omega arith; passes = o.passes; one = omega arith })

  module _ (n : ℕ) (h : n ≤ 64) where
    pub sole_none : sole_by p n ≡ 0 → count_by p (below n) ≡ 0
    sole_none e = go (sole_cases n)
      where
        go : Cases n → count_by p (below n) ≡ 0
        go (inl (s, z)) = z
        go (inr (inl (s, m))) = absurd (omega arith)
        go (inr (inr o)) = let w = o.is in absurd (omega arith)

    pub sole_many : sole_by p n ≡ 255 → 2 ≤ count_by p (below n)
    sole_many e = go (sole_cases n)
      where
        go : Cases n → 2 ≤ count_by p (below n)
        go (inl (s, z)) = absurd (omega arith)
        go (inr (inl (s, m))) = m
        go (inr (inr o)) = let w = o.is in let l = o.less in absurd (omega arith)

    module _ (some : sole_by p n ≡ 0 → ⊥) (few : sole_by p n ≡ 255 → ⊥) where
      only : Only n
      only = go (sole_cases n)
        where
          go : Cases n → Only n
          go (inl (s, z)) = absurd (some s)
          go (inr (inl (s, m))) = absurd (few s)
          go (inr (inr o)) = o

      pub sole_one : count_by p (below n) ≡ 1
      sole_one = only.one

      pub sole_less : sole_by p n - 1 < n
      sole_less = let w = only.is in let l = only.less in omega arith

      pub sole_passes : p (sole_by p n - 1) ≡ true
      sole_passes = let w = only.is in let e : sole_by p n - 1 ≡ only.place = omega arith in ap p e ∙ only.passes

  -- ---- a test of one alone is a test of all that pass

  module _ {w : ℕ} where
    none_in : (l : List ℕ) → count_by p l ≡ 0 → In w l → p w ≡ true → ⊥
    none_in l e (Memᴰ.head {x = x} {xs = xs} m) t = go (p x) refl e
      where
        go : (b : Bool) → p x ≡ b → add_if b (count_by p xs) ≡ 0 → ⊥
        go true f k = omega arith
        go false f k = clash (sym (ap p m) ∙ t) f
    none_in l e (Memᴰ.tail {x = x} {xs = xs} m) t = none_in xs (go (p x) e) m t
      where
        go : (b : Bool) → add_if b (count_by p xs) ≡ 0 → count_by p xs ≡ 0
        go true k = absurd (omega arith)
        go false k = k

  module _ (q : ℕ → Bool) where
    none_all : (l : List ℕ) → count_by p l ≡ 0 → all (λ j. not (p j) || q j) l ≡ true
    none_all [] e = refl
    none_all (x ∷ xs) e = go (p x) e (none_all xs)
      where
        go : (b : Bool) → add_if b (count_by p xs) ≡ 0 → (count_by p xs ≡ 0 → all (λ j. not (p j) || q j) xs ≡ true) → (not b || q x) && all (λ j. not (p j) || q j) xs ≡ true
        go true k r = absurd (omega arith)
        go false k r = r k

    and_true : (b : Bool) → b && true ≡ b
    and_true true = refl
    and_true false = refl

    all_only : {w : ℕ} (l : List ℕ) → count_by p l ≡ 1 → In w l → p w ≡ true → all (λ j. not (p j) || q j) l ≡ q w
    all_only [] e m t = absurd (Memᴰ.not-nil m)
    all_only {w} (x ∷ xs) e m t = go (p x) refl e m (λ k n. all_only xs k n t)
      where
        go : (b : Bool) → p x ≡ b → add_if b (count_by p xs) ≡ 1 → In w (x ∷ xs) → (count_by p xs ≡ 1 → In w xs → all (λ j. not (p j) || q j) xs ≡ q w)
            → (not b || q x) && all (λ j. not (p j) || q j) xs ≡ q w
        go true f k (Memᴰ.head n) r =
            let z : count_by p xs ≡ 0 = omega arith in
            ap (λ (b : Bool). q x && b) (none_all xs z) ∙ and_true (q x) ∙ ap q (sym n)
        go true f k (Memᴰ.tail n) r = let z : count_by p xs ≡ 0 = omega arith in absurd (none_in xs z n t)
        go false f k (Memᴰ.head n) r = absurd (clash (sym (ap p n) ∙ t) f)
        go false f k (Memᴰ.tail n) r = r k n

    pub sole_all : (n w : ℕ) → count_by p (below n) ≡ 1 → w < n → p w ≡ true → all (λ j. not (p j) || q j) (below n) ≡ q w
    sole_all n w e h t = all_only (below n) e (below_in n h) t

-- ---- what a byte says of them

count_cases : (n : ℕ) (P : Count → Type 0) → (n ≡ 0 → P Zero) → (n ≡ 255 → P More) → ((n ≡ 0 → ⊥) → (n ≡ 255 → ⊥) → P (One (n - 1))) → P (count_of n)
count_cases n P none more one = go (eqb n 0) refl (eqb n 255) refl
  where
    go : (b : Bool) → eqb n 0 ≡ b → (c : Bool) → eqb n 255 ≡ c → P (cond b Zero (cond c More (One (n - 1))))
    go true t c u = none (eqb-true n 0 t)
    go false t true u = more (eqb-true n 255 u)
    go false t false u = one (eqb-false n 0 t) (eqb-false n 255 u)

module _ (n : ℕ) where
  pub count_zero : count_of n ≡ Zero → n ≡ 0
  count_zero = count_cases n (λ c. c ≡ Zero → n ≡ 0) (λ z e. z) (λ z e. cc) (λ y z e. cc)

  pub count_more : count_of n ≡ More → n ≡ 255
  count_more = count_cases n (λ c. c ≡ More → n ≡ 255) (λ z e. cc) (λ z e. z) (λ y z e. cc)

  pub count_one : {k : ℕ} → count_of n ≡ One k → (n ≡ 0 → ⊥) × (n ≡ 255 → ⊥) × (n - 1 ≡ k)
  count_one {k} = count_cases n (λ c. c ≡ One k → (n ≡ 0 → ⊥) × (n ≡ 255 → ⊥) × (n - 1 ≡ k)) (λ z e. cc) (λ z e. cc) (λ y z e. (y, z, cc))

-- ---- one literal more, of a class, in one section of the notes

-- unless it is said before
module _ (said : Bool) (s class k j old : ℕ) where
  noted_unless : {r : ℕ} (t : Bool) → not said ≡ t → r ≡ sole_more ((t && eqb 4 s) && eqb class k) j old
      → r ≡ sole_more ((eqb 4 s && not said) && eqb class k) j old
  noted_unless t e q = q ∙ ap (λ (b : Bool). sole_more (b && eqb class k) j old) (by_second (eqb 4 s) (not said) t e)

  pub noted_said : said ≡ true → old ≡ sole_more ((eqb 4 s && not said) && eqb class k) j old
  noted_said e = noted_unless false (ap not e) refl

  pub noted_asked : said ≡ false → {r : ℕ} → r ≡ sole_more (eqb 4 s && eqb class k) j old
      → r ≡ sole_more ((eqb 4 s && not said) && eqb class k) j old
  noted_asked e q = noted_unless true (ap not e) q

-- ---- the sections that count a literal, by its role

-- said: an earlier literal says the same, where it is asked at the end
abbrev hits : Bool → Role → ℕ → Bool
hits said r zero = eqb (usage_at false Start r) 1
hits said r (suc zero) = eqb (usage_at false Start r) 3
hits said r (suc (suc zero)) = eqb (usage_at false End r) 1
hits said r (suc (suc (suc zero))) = eqb (usage_at false End r) 3
hits said r (suc (suc (suc (suc s)))) = eqb (usage_at true End r) 1 && not said

-- by the first section that counts it
abbrev counted : Bool → ℕ → ℕ → Bool
counted said section s = cond (eqb s 4) ((eqb section 4 || eqb section 2) && not said) (eqb section s)

abbrev EachSection : Bool → Role → Type 0
EachSection said r =
    (hits said r 0 ≡ counted said (section_of r) 0) × (hits said r 1 ≡ counted said (section_of r) 1)
    × (hits said r 2 ≡ counted said (section_of r) 2)
    × (hits said r 3 ≡ counted said (section_of r) 3) × (hits said r 4 ≡ counted said (section_of r) 4)

each_section : (said : Bool) (t : Time) (c : Usage) → EachSection said record { time = t; usage = c }
each_section said AtStart Positive = (refl, refl, refl, refl, refl)
each_section said AtStart Negative = (refl, refl, refl, refl, refl)
each_section said AtStart Add = (refl, refl, refl, refl, refl)
each_section said AtStart Delete = (refl, refl, refl, refl, refl)
each_section said OverAll Positive = (refl, refl, refl, refl, refl)
each_section said OverAll Negative = (refl, refl, refl, refl, refl)
each_section said OverAll Add = (refl, refl, refl, refl, refl)
each_section said OverAll Delete = (refl, refl, refl, refl, refl)
each_section said AtEnd Positive = (refl, refl, refl, refl, refl)
each_section said AtEnd Negative = (refl, refl, refl, refl, refl)
each_section said AtEnd Add = (refl, refl, refl, refl, refl)
each_section said AtEnd Delete = (refl, refl, refl, refl, refl)

module _ (rows : List ℕ) (j : ℕ) where
  abbrev role : Role
  role = role_of (get_or rows (8 * j) 0)

  abbrev pub said : Bool
  said = any (says_at true rows End 1 j) (below j)

  -- a literal asked at the end is not said before
  asked_once : eqb (usage_in true rows End j) 1 ≡ eqb (usage_at true End role) 1 && not said
  unfolding usage_in usage_byte
  asked_once = go (usage_at true End role) (bool_cases (eqb (usage_at true End role) 1))
    where
      once : (b : Bool) → eqb (cond b 0 1) 1 ≡ not b
      once true = refl
      once false = refl

      other : (b : Bool) (n : ℕ) → eqb n 1 ≡ false → eqb (cond b 0 n) 1 ≡ false
      other true n f = refl
      other false n f = f

      go : (n : ℕ) → (eqb n 1 ≡ true) ⊎ (eqb n 1 ≡ false)
          → eqb (cond (may_meet true End n && any (says_at true rows End n j) (below j)) 0 n) 1 ≡ eqb n 1 && not said
      go n (inl t) = rw (eqb-true n 1 t) (once said)
      go n (inr f) = other (may_meet true End n && any (says_at true rows End n j) (below j)) n f ∙ sym (ap (λ (b : Bool). b && not said) f)

  counts_hit : (s : ℕ) → s < 5 → counts_in rows s j ≡ hits said role s
  unfolding counts_in usage_in usage_byte
  counts_hit zero h = refl
  counts_hit (suc zero) h = refl
  counts_hit (suc (suc zero)) h = refl
  counts_hit (suc (suc (suc zero))) h = refl
  counts_hit (suc (suc (suc (suc zero)))) h = asked_once
  counts_hit (suc (suc (suc (suc (suc s))))) h = absurd (omega arith)

  counts_section : (s : ℕ) → s < 5 → counts_in rows s j ≡ counted said (section_of role) s
  counts_section s h = counts_hit s h ∙ pick (each_section said role.time role.usage) s h
    where
      pick : EachSection said role → (s : ℕ) → s < 5 → hits said role s ≡ counted said (section_of role) s
      pick e zero h = e.0
      pick e (suc zero) h = e.1
      pick e (suc (suc zero)) h = e.2
      pick e (suc (suc (suc zero))) h = e.3
      pick e (suc (suc (suc (suc zero)))) h = e.4
      pick e (suc (suc (suc (suc (suc s))))) h = absurd (omega arith)

  module _ (section class : ℕ) (e : section ≡ section_of role) (s k old : ℕ) (h : s < 5) where
    -- what is left to show, by the section
    told : {b : Bool} → b ≡ counted said section s → {r : ℕ} → r ≡ sole_more (b && eqb class k) j old
        → r ≡ sole_more (eqb class k && counts_in rows s j) j old
    told {b} f q =
        q
        ∙ ap (λ (t : Bool). sole_more t j old)
        (ap (λ (t : Bool). t && eqb class k) (f ∙ ap (λ (n : ℕ). counted said n s) e ∙ sym (counts_section s h))
        ∙ and_comm (counts_in rows s j) (eqb class k))

    pub literal_none : 4 < section → old ≡ sole_more (eqb class k && counts_in rows s j) j old
    literal_none f = told (go (bool_cases (eqb s 4))) refl
      where
        go : (eqb s 4 ≡ true) ⊎ (eqb s 4 ≡ false) → false ≡ counted said section s
        go (inl t) = rw (eqb-true s 4 t, ne_eqb section 4 (λ z. omega arith), ne_eqb section 2 (λ z. omega arith))
        go (inr q) = sym (ap (λ (b : Bool). cond b ((eqb section 4 || eqb section 2) && not said) (eqb section s)) q
            ∙ ne_eqb section s (λ z. omega arith))

    pub literal_asked : section ≡ 4 → {r : ℕ} → r ≡ sole_more ((eqb 4 s && not said) && eqb class k) j old
        → r ≡ sole_more (eqb class k && counts_in rows s j) j old
    literal_asked f = told (go s h ∙ ap (λ (n : ℕ). counted said n s) (sym f))
      where
        go : (s : ℕ) → s < 5 → eqb 4 s && not said ≡ counted said 4 s
        go zero h = refl
        go (suc zero) h = refl
        go (suc (suc zero)) h = refl
        go (suc (suc (suc zero))) h = refl
        go (suc (suc (suc (suc zero)))) h = refl
        go (suc (suc (suc (suc (suc s))))) h = absurd (omega arith)

    pub literal_own : (section ≡ 4 → ⊥) → (section ≡ 2 → ⊥) → {r : ℕ} → r ≡ sole_more (eqb section s && eqb class k) j old
        → r ≡ sole_more (eqb class k && counts_in rows s j) j old
    literal_own n m = told (go (bool_cases (eqb s 4)))
      where
        go : (eqb s 4 ≡ true) ⊎ (eqb s 4 ≡ false) → eqb section s ≡ counted said section s
        go (inl t) = rw (eqb-true s 4 t, ne_eqb section 4 n, ne_eqb section 2 m)
        go (inr f) = sym (ap (λ (b : Bool). cond b ((eqb section 4 || eqb section 2) && not said) (eqb section s)) f)

    pub literal_both : section ≡ 2 → {r own : ℕ} → own ≡ sole_more (eqb section s && eqb class k) j old
        → r ≡ sole_more ((eqb 4 s && not said) && eqb class k) j own → r ≡ sole_more (eqb class k && counts_in rows s j) j old
    literal_both f {r} {own} p q =
        told (ap (λ (n : ℕ). counted said n s) (sym f))
        (q ∙ ap (λ (n : ℕ). sole_more ((eqb 4 s && not said) && eqb class k) j n)
        (p ∙ ap (λ (n : ℕ). sole_more (eqb n s && eqb class k) j old) f) ∙ go s h)
      where
        go : (s : ℕ) → s < 5
            → sole_more ((eqb 4 s && not said) && eqb class k) j (sole_more (eqb 2 s && eqb class k) j old)
            ≡ sole_more (counted said 2 s && eqb class k) j old
        go zero h = refl
        go (suc zero) h = refl
        go (suc (suc zero)) h = refl
        go (suc (suc (suc zero))) h = refl
        go (suc (suc (suc (suc zero)))) h = refl
        go (suc (suc (suc (suc (suc s))))) h = absurd (omega arith)

-- a literal of no class is noted nowhere
pub literal_outside : (rows : List ℕ) (j class s k old : ℕ) → 64 ≤ class → k < 64 → old ≡ sole_more (eqb class k && counts_in rows s j) j old
literal_outside rows j class s k old h g = sym (ap (λ (b : Bool). sole_more (b && counts_in rows s j) j old)
    (ne_eqb class k (λ z. omega arith)))

-- ---- the notes of the first j literals

pub record Tallied (rows numbers : List ℕ) (j : ℕ) (soles : List ℕ) : Type 0 where
  pub reach : j ≤ length numbers
  pub is : (s k : ℕ) → s < 5 → k < 64 → get_or soles (64 * s + k) 0 ≡ sole_by (λ i. eqb (get_or numbers i 0) k && counts_in rows s i) j

module _ (rows numbers : List ℕ) where
  pub tallied_none : (soles : List ℕ) → soles ≡ pad 320 [] → Tallied rows numbers 0 soles
  unfolding sole_by
  tallied_none soles e = record {
    reach = omega arith;
    is = λ s k h g. ap (λ (l : List ℕ). get_or l (64 * s + k) 0) e
        ∙ get_d_fill [] 320 (64 * s + k) 0;
  }

  pub tallied_more : (j : ℕ) (soles soles' : List ℕ) → j < length numbers → Tallied rows numbers j soles
      → ((s k : ℕ) → s < 5 → k < 64
      → get_or soles' (64 * s + k) 0 ≡ sole_more (eqb (get_or numbers j 0) k && counts_in rows s j) j (get_or soles (64 * s + k) 0))
      → Tallied rows numbers (j + 1) soles'
  unfolding sole_by
  tallied_more j soles soles' h T f =
      record {
        reach = omega arith;
        is =
            λ s k p q.
            f s k p q
            ∙ ap (λ (n : ℕ). sole_more (eqb (get_or numbers j 0) k && counts_in rows s j) j n) (T.is s k p q)
            ∙ ap (sole_by (λ i. eqb (get_or numbers i 0) k && counts_in rows s i)) (sym (add-one j));
      }

  pub tallied_all : (j : ℕ) (soles : List ℕ) → length numbers ≤ j → Tallied rows numbers j soles → SolesOf rows numbers soles
  unfolding SolesOf
  tallied_all j soles h T s k p q =
      let r = T.reach in
      let e : j ≡ length numbers = omega arith in
      T.is s k p q ∙ ap (sole_by (λ i. eqb (get_or numbers i 0) k && counts_in rows s i)) e

-- ---- the notes of a moment, by the usages of its literals

sole_agree : (p q : ℕ → Bool) (n : ℕ) → ((j : ℕ) → j < n → p j ≡ q j) → sole_by p n ≡ sole_by q n
unfolding sole_by
sole_agree p q zero f = refl
sole_agree p q (suc n) f = ap₂ (λ (b : Bool) (s : ℕ). sole_more b n s) (f n (omega arith)) (sole_agree p q n (λ j h. f j (omega arith)))

from_at : (i n j : ℕ) → j < n → get_or (numbers_from i n) j 0 ≡ i + j
from_at i zero j h = absurd (omega arith)
from_at i (suc n) zero h = omega arith
from_at i (suc n) (suc j) h = from_at (i + 1) n j (omega arith) ∙ omega arith

module _ (rows numbers : List ℕ) (w : Bool) (m : Moment) (usages : List ℕ)
    (e : usages ≡ pad 64 (map (usage_in w rows m) (below (length numbers)))) where
  usage_at_lem : (j : ℕ) → j < length numbers → get_or usages j 0 ≡ usage_in w rows m j
  usage_at_lem j h =
      let z : 0 + j ≡ j = omega arith in
      ap (λ (l : List ℕ). get_or l j 0) e
      ∙ pad_at 64 (map (usage_in w rows m) (below (length numbers))) j
      ∙ get_d_map (usage_in w rows m) (below (length numbers)) j 0 0 (omega (arith, length_from 0 (length numbers)))
      ∙ ap (usage_in w rows m) (from_at 0 (length numbers) j h ∙ z)

  section_is : (k usage : ℕ)
      → sole_by (λ j. eqb (get_or numbers j 0) k && eqb (usage_in w rows m j) usage) (length numbers) ≡ sole_at numbers usages k usage
  unfolding sole_at is_at
  section_is k usage =
      sole_agree (λ j. eqb (get_or numbers j 0) k && eqb (usage_in w rows m j) usage) (is_at numbers usages k usage) (length numbers)
      (λ j h. ap (λ (c : ℕ). eqb (get_or numbers j 0) k && eqb c usage) (sym (usage_at_lem j h)))

module _ (rows numbers usages soles : List ℕ) (S : SolesOf rows numbers soles) where
  pub start_soles : usages ≡ pad 64 (map (usage_in false rows Start) (below (length numbers))) → (k : ℕ) → k < 64
      → sole_in soles 0 k ≡ sole_of numbers usages k
  unfolding SolesOf counts_in
  start_soles e k h =
      let is = section_is rows numbers false Start usages e k in
      ap₂ (λ (c d : ℕ). record { conditions = count_of c; adds = count_of d }) (S 0 k (omega arith) h ∙ is 1) (S 1 k (omega arith) h ∙ is 3)

  pub end_soles : usages ≡ pad 64 (map (usage_in false rows End) (below (length numbers))) → (k : ℕ) → k < 64
      → sole_in soles 2 k ≡ sole_of numbers usages k
  unfolding SolesOf counts_in
  end_soles e k h =
      let is = section_is rows numbers false End usages e k in
      ap₂ (λ (c d : ℕ). record { conditions = count_of c; adds = count_of d }) (S 2 k (omega arith) h ∙ is 1) (S 3 k (omega arith) h ∙ is 3)

  pub asked_soles : usages ≡ pad 64 (map (usage_in true rows End) (below (length numbers))) → (k : ℕ) → k < 64
      → get_or soles (64 * 4 + k) 0 ≡ sole_at numbers usages k 1
  unfolding SolesOf counts_in
  asked_soles e k h = S 4 k (omega arith) h ∙ section_is rows numbers true End usages e k 1
