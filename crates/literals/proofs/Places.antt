-- The components of relations and the places of keys, worked out one by one. Assumes nothing.
use mathlib.Core.Path.{◌≡◌, refl, sym, ap, ◌∙◌}
use mathlib.Core.Bool.{Bool, true, false, cond}
use mathlib.Core.Logic.{◌⊎◌, inl, inr}
use mathlib.Core.List.{List, []}
use Prim.Native.Nat.{ℕ, suc, ◌+◌, ◌-◌, ◌*◌, ◌≤◌, ◌<◌}
use native.Mathlib.Numerals.{add-one}
use native.Mathlib.Omega.{arith}
use lib.Dec.{eqb, leb}
use lib.ListN.{length, get_or, set, length-set}
use lib.Seq.{get_or-set_same, get_or-set_other}
use borrow.Author.Tests.{eq-eqb, ne_eqb, eqb-true, eqb-false, leb-true}
use Rattle.records.proofs.Lists.{bool_cases}
use Rattle.records.proofs.Memory.{get_d_fill}
use Rattle.records.specs.Lists.{position, below}
use Rattle.literals.specs.declared.Key.{Key}
use Rattle.literals.specs.Domain.{key, is_key}
use Rattle.literals.specs.Decode.{label_of}
use Rattle.literals.specs.Held.{pad, within, component_row_in, component_rows_from, component_rows_in, keys_in, components_in, starts, marked, mark_of}
use Rattle.std.specs.Prelude.{Option, Some, None, MatchOption}
use Rattle.literals.specs.Held.{place_under, FirstComponents}
use Rattle.literals.proofs.Heads.{parts_next, parts_end}
use Rattle.literals.proofs.KeyRows.{place_le}

pub place_few : (k : Key) (part : List ℕ) → place_under k part ≤ 6
unfolding place_under
place_few k part = place_le (λ i. is_key k (label_of (get_or part (i + 1) 0))) (below 6)

within_few : (limit n : ℕ) → within limit n ≤ limit
within_few limit n = go (leb n limit) refl
  where
    go : (b : Bool) → leb n limit ≡ b → cond b n 0 ≤ limit
    go true t = leb-true n limit t
    go false f = omega arith

pub components_few : (head : List ℕ) → components_in head ≤ 16
unfolding components_in
components_few head = within_few 16 (get_or head 2 0)

pub keys_few : (head : List ℕ) → keys_in head ≤ 6
unfolding keys_in
keys_few head = within_few 6 (get_or head 3 0)

-- ---- the first component with a relation, from the component c on

module _ (r : ℕ) (head : List ℕ) (n c : ℕ) where
  abbrev pub first_from : ℕ
  first_from = position (starts r) (component_rows_from head c (n - c))

module _ (r : ℕ) (head : List ℕ) (n c : ℕ) where
  pub first_hit : c < n → starts r (component_row_in head c) ≡ true → first_from r head n c ≡ 0
  first_hit h e = rw (parts_next head n c h, e)

  pub first_miss : c < n → starts r (component_row_in head c) ≡ false → first_from r head n c ≡ suc (first_from r head n (c + 1))
  first_miss h e = rw (parts_next head n c h, e)

  pub first_end : n ≤ c → first_from r head n c ≡ 0
  first_end h = rw (parts_end head n c h)

-- ---- the component of each relation

-- the components from c on are written
pub record Marked (head : List ℕ) (n c : ℕ) (places₀ places : List ℕ) : Type 0 where
  pub room : length places ≡ length places₀
  pub are : places₀ ≡ pad 192 [] → (r : ℕ) → r < 64 → get_or places r 0 ≡ marked n (c + first_from r head n c)

pub marked_none : (head : List ℕ) (n c : ℕ) (places : List ℕ) → c ≡ n → Marked head n c places places
marked_none head n c places f =
    record {
      room = refl;
      are =
          λ e r h.
          let z = first_end r head n c (omega arith) in
          ap (λ (l : List ℕ). get_or l r 0) e
          ∙ get_d_fill [] 192 r 0
          ∙ sym (ap (λ (b : Bool). cond b 0 (suc (c + first_from r head n c))) (eq-eqb (c + first_from r head n c) n (omega arith)));
    }

pub marked_more : (head : List ℕ) (n c d : ℕ) (places₀ places places' : List ℕ) → c < n → d ≡ c + 1 → Marked head n d places₀ places
    → length places' ≡ length places
    → ((r : ℕ) → r < 64 → get_or places' r 0 ≡ cond (starts r (component_row_in head c)) (c + 1) (get_or places r 0))
    → Marked head n c places₀ places'
marked_more head n c d places₀ places places' h next w l f =
    record {
      room = l ∙ w.room;
      are =
          λ e r g.
          f r g ∙ go r (bool_cases (starts r (component_row_in head c))) (w.are e r g ∙ ap (λ (k : ℕ). marked n (k + first_from r head n k)) next);
    }
  where
    go : (r : ℕ) → (starts r (component_row_in head c) ≡ true) ⊎ (starts r (component_row_in head c) ≡ false)
        → get_or places r 0 ≡ marked n (c + 1 + first_from r head n (c + 1))
        → cond (starts r (component_row_in head c)) (c + 1) (get_or places r 0) ≡ marked n (c + first_from r head n c)
    go r (inl t) q =
        let z = first_hit r head n c h t in
        let e : c + first_from r head n c ≡ c = omega arith in
        ap (λ (b : Bool). cond b (c + 1) (get_or places r 0)) t
        ∙ add-one c
        ∙ sym (ap (marked n) e ∙ ap (λ (b : Bool). cond b 0 (suc c)) (ne_eqb c n (λ k. omega arith)))
    go r (inr t) q =
        let z = first_miss r head n c h t in
        let e : c + first_from r head n c ≡ c + 1 + first_from r head n (c + 1) = omega arith in
        ap (λ (b : Bool). cond b (c + 1) (get_or places r 0)) t ∙ q ∙ sym (ap (marked n) e)

pub marked_all : (head : List ℕ) (n c : ℕ) (places₀ places : List ℕ) → n ≡ components_in head → c ≡ 0 → Marked head n c places₀ places
    → places₀ ≡ pad 192 [] → FirstComponents head places
unfolding component_rows_in
marked_all head n c places₀ places e f w z r h =
    let s : n - 0 ≡ n = omega arith in
    let t : 0 + first_from r head n 0 ≡ first_from r head n 0 = omega arith in
    w.are z r h
    ∙ ap (λ (k : ℕ). marked n (k + first_from r head n k)) f
    ∙ ap (marked n) t
    ∙ ap (λ (k : ℕ). marked n (position (starts r) (component_rows_from head 0 k))) s
    ∙ ap (λ (k : ℕ). marked k (position (starts r) (component_rows_from head 0 k))) e

-- what a mark says
marked_cases : (n c : ℕ) → ((marked n c ≡ 0) × (c ≡ n)) ⊎ ((marked n c ≡ suc c) × (c ≡ n → ⊥))
marked_cases n c = go (bool_cases (eqb c n))
  where
    go : (eqb c n ≡ true) ⊎ (eqb c n ≡ false) → ((marked n c ≡ 0) × (c ≡ n)) ⊎ ((marked n c ≡ suc c) × (c ≡ n → ⊥))
    go (inl t) = inl (ap (λ (b : Bool). cond b 0 (suc c)) t, eqb-true c n t)
    go (inr f) = inr (ap (λ (b : Bool). cond b 0 (suc c)) f, eqb-false c n f)

pub mark_none : (n c : ℕ) → 0 ≡ marked n c → c ≡ n
mark_none n c e = go (marked_cases n c)
  where
    go : ((marked n c ≡ 0) × (c ≡ n)) ⊎ ((marked n c ≡ suc c) × (c ≡ n → ⊥)) → c ≡ n
    go (inl (q, s)) = s
    go (inr (q, s)) = absurd (omega arith)

pub mark_some : (n c k : ℕ) → suc k ≡ marked n c → (k ≡ c) × (k ≡ n → ⊥)
mark_some n c k e = go (marked_cases n c)
  where
    go : ((marked n c ≡ 0) × (c ≡ n)) ⊎ ((marked n c ≡ suc c) × (c ≡ n → ⊥)) → (k ≡ c) × (k ≡ n → ⊥)
    go (inl (q, s)) = absurd (omega arith)
    go (inr (q, s)) = (omega arith, λ h. s (omega arith))

-- of the place of a component, if there is one
pub marks_found : (o : Option ℕ) (n p : ℕ) → MatchOption o (p ≡ n) (λ c. (c ≡ p) × (c < n)) → mark_of o ≡ marked n p
marks_found None n p h = sym (ap (λ (b : Bool). cond b 0 (suc p)) (eq-eqb p n h))
marks_found (Some c) n p (e, l) =
    ap (λ (k : ℕ). suc k) e ∙ sym (ap (λ (b : Bool). cond b 0 (suc p)) (ne_eqb p n (λ z. absurd (omega arith))))

-- ---- the places of keys

-- the places of the first k keys of the component c stand behind those before it
pub record OwnPlaces (head : List ℕ) (c : ℕ) (places₀ places : List ℕ) (k : ℕ) : Type 0 where
  pub room : length places ≡ length places₀
  pub own : (i : ℕ) → i < k → get_or places (64 + 8 * c + i) 0 ≡ place_under (key i) (component_row_in head c)
  pub earlier : (i : ℕ) → i < 64 + 8 * c → get_or places i 0 ≡ get_or places₀ i 0

pub own_none : (head : List ℕ) (c : ℕ) (places : List ℕ) → OwnPlaces head c places places 0
own_none head c places = record { room = refl; own = λ i h. absurd (omega arith); earlier = λ i h. refl }

pub own_more : (head : List ℕ) (c : ℕ) (places₀ places : List ℕ) (k place : ℕ) → 64 + 8 * c + k < length places
    → place ≡ place_under (key k) (component_row_in head c)
    → OwnPlaces head c places₀ places k → OwnPlaces head c places₀ (set places (64 + 8 * c + k) place) (k + 1)
own_more head c places₀ places k place g e w =
    record {
      room = length-set places (64 + 8 * c + k) place ∙ w.room;
      own = λ i h. go i h (bool_cases (eqb i k));
      earlier = λ i h. get_or-set_other places (64 + 8 * c + k) i place 0 (λ f. absurd (omega arith)) ∙ w.earlier i h;
    }
  where
    go : (i : ℕ) → i < k + 1 → (eqb i k ≡ true) ⊎ (eqb i k ≡ false)
        → get_or (set places (64 + 8 * c + k) place) (64 + 8 * c + i) 0 ≡ place_under (key i) (component_row_in head c)
    go i h (inl t) = rw (eqb-true i k t) (get_or-set_same places (64 + 8 * c + k) place 0 g ∙ e)
    go i h (inr f) =
        let n = eqb-false i k f in
        get_or-set_other places (64 + 8 * c + k) (64 + 8 * c + i) place 0 (λ z. n (omega arith)) ∙ w.own i (omega arith)

-- those of the first n components
abbrev pub Places : List ℕ → List ℕ → ℕ → Type 0
Places head places n = (c k : ℕ) → c < n → k < keys_in head → get_or places (64 + 8 * c + k) 0 ≡ place_under (key k) (component_row_in head c)

pub places_none : (head places : List ℕ) → Places head places 0
places_none head places c k h g = absurd (omega arith)

pub places_more : (head places₀ places : List ℕ) (n : ℕ) → Places head places₀ n
    → ((k : ℕ) → k < keys_in head → get_or places (64 + 8 * n + k) 0 ≡ place_under (key k) (component_row_in head n))
    → ((i : ℕ) → i < 64 + 8 * n → get_or places i 0 ≡ get_or places₀ i 0) → Places head places (n + 1)
places_more head places₀ places n w own earlier c k h g = go (bool_cases (eqb c n))
  where
    go : (eqb c n ≡ true) ⊎ (eqb c n ≡ false) → get_or places (64 + 8 * c + k) 0 ≡ place_under (key k) (component_row_in head c)
    go (inl t) = rw (eqb-true c n t) (own k g)
    go (inr f) = let q = eqb-false c n f in let l : c < n = omega arith in let few = keys_few head in
        earlier (64 + 8 * c + k) (omega arith) ∙ w c k l g
