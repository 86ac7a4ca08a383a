-- The entries of the list as the code writes them: a component's payload, one entry more, and where listing stands. Assumes nothing.
use mathlib.Core.Path.{◌≡◌, refl, sym, ap, ap₂, subst, ◌∙◌}
use mathlib.Core.Bool.{Bool, true, false, ◌&&◌}
use Rattle.std.specs.Prelude.{Option, None as none, Some as some}
use mathlib.Core.List.{List, [], ◌∷◌, ◌++◌, map, map-append, flat_map, append_assoc, append-nil}
use Prim.Native.Nat.{ℕ, zero, suc, ◌+◌, ◌*◌, ◌≤◌, ◌<◌}
use native.Mathlib.Numerals.{add-one}
use native.Mathlib.Omega.{arith}
use lib.ListN.{length, get_or, take, drop, length-append}
use lib.Seq.{take_all, take_at, paste}
use borrow.Author.Tests.{eq-eqb, ne_eqb, lt-ltb, le-ltb}
use Rattle.std.proofs.lemmas.List.FromFn.{take-map-range_with_len}
use Rattle.records.specs.Lists.{all, keep_if, filter_by, numbers_from, below}
use Rattle.records.specs.Memory.{over}
use Rattle.records.proofs.Lists.{and_i, filter_append, flat_map_append}
use Rattle.records.proofs.Memory.{over_paste}
use Rattle.literals.specs.Domain.{Component, key_below, Domain, arity, bare, label_number}
use Rattle.literals.specs.Decode.{component_of, component_record, stop_of, extend}
use Rattle.literals.specs.Held.{table_bytes, relations_in, arity_in, Filled, Held}
use Rattle.literals.proofs.Bounds.{arity_six}
use Rattle.reading.specs.Held.{domain_after, HeldOver, TakesRow}
use Rattle.reading.proofs.Takes.{behind_done, held_over}
use Rattle.verdict.specs.Claims.{well_formed}
use Rattle.literals.proofs.Indices.{below_snoc}
use Rattle.templates.specs.Templates.{keys_from, labels_from, labels_with, Shape, shape, component_at, shapes_of, shapes_from, shapes}
use Rattle.templates.specs.Templates.{single, component_bytes, legal_alone, listed, place_byte, verdict_of, entry, list_bytes}
use Rattle.templates.specs.Held.{label_at, payload_of, entries_of, BareHeld, Listing, PlaceBelow, shapes_up_to}
use Rattle.templates.proofs.Labels.{with_keys}
use Rattle.templates.proofs.Legal.{component_back, legal_well_formed}

-- ---- the payload of a component

keys_numbers : (k n : ℕ) → map label_number (keys_from k n) ≡ numbers_from k n
keys_numbers k zero = refl
keys_numbers k (suc n) =
    ap {B = List ℕ} (λ l. k ∷ l) (ap (λ j. map label_number (keys_from j n)) (sym (add-one k)) ∙ keys_numbers (k + 1) n)

label_low : (b i : ℕ) → i < b → label_at (some b) i ≡ i
label_low b i h = rw (lt-ltb i b h)

label_here : (b : ℕ) → label_at (some b) b ≡ 255
label_here b = rw (le-ltb b b (omega arith), eq-eqb b b refl)

label_high : (b i : ℕ) → b ≤ i → label_at (some b) (i + 1) ≡ i
label_high b i h = rw (le-ltb (i + 1) b (omega arith), ne_eqb (i + 1) b (λ e. omega arith)) (omega arith)

labels_plain : (k n : ℕ) → map (label_at none) (numbers_from k n) ≡ numbers_from k n
labels_plain k zero = refl
labels_plain k (suc n) = ap {B = List ℕ} (λ l. k ∷ l) (labels_plain (k + 1) n)

labels_high : (b k n : ℕ) → b ≤ k → map (label_at (some b)) (numbers_from (k + 1) n) ≡ numbers_from k n
labels_high b k zero h = refl
labels_high b k (suc n) h = ap₂ ◌∷◌ (label_high b k h) (labels_high b (k + 1) n (omega arith))

labels_counted : (k n p : ℕ) → p < n → map label_number (labels_from k n p) ≡ map (label_at (some (k + p))) (numbers_from k n)
labels_counted k zero p h = absurd (omega arith)
labels_counted k (suc n) zero h =
    let z : k + 0 ≡ k = omega arith in
    ap₂ ◌∷◌ (sym (label_here k)) (keys_numbers k n ∙ sym (labels_high k k n (omega arith)))
    ∙ ap (λ (b : ℕ). map (label_at (some b)) (numbers_from k (suc n))) (sym z)
labels_counted k (suc n) (suc p) h =
    let z : k + 1 + p ≡ k + suc p = omega arith in
    ap₂ ◌∷◌ (sym (label_low (k + suc p) k (omega arith)))
    (ap (λ j. map label_number (labels_from j n p)) (sym (add-one k))
    ∙ labels_counted (k + 1) n p (omega arith) ∙ ap (λ (b : ℕ). map (label_at (some b)) (numbers_from (k + 1) n)) z)

-- the labels of n places
labels_are : (n : ℕ) (o : Option ℕ) → PlaceBelow n o → map label_number (labels_with n o) ≡ map (label_at o) (below n)
labels_are n none h = keys_numbers 0 n ∙ sym (labels_plain 0 n)
labels_are n (some p) h =
    let z : 0 + p ≡ p = omega arith in
    labels_counted 0 n p h ∙ ap (λ (k : ℕ). map (label_at (some k)) (below n)) z

pub payload_is : (D : Domain) (r : ℕ) (o : Option ℕ) (n : ℕ) → arity D r ≤ 6 → PlaceBelow (arity D r) o → n ≡ arity D r + 1
    → take n (payload_of r o) ≡ component_bytes (component_at D (shape r o))
payload_is D r o n l h e =
    ap (λ (k : ℕ). take k (payload_of r o)) (e ∙ add-one (arity D r))
    ∙ ap {B = List ℕ} (λ l. r ∷ l) (take-map-range_with_len (label_at o) 0 6 (arity D r) l ∙ sym (labels_are (arity D r) o h))

-- ---- one entry more

module _ (D : Domain) (ss : List Shape) (s : Shape) where
  abbrev legal : Shape → Bool
  legal s = legal_alone D (component_at D s)

  entries_snoc : entries_of D (ss ++ (s ∷ [])) ≡ entries_of D ss ++ entries_of D (s ∷ [])
  unfolding entries_of
  entries_snoc =
      ap (flat_map (entry D)) (filter_append legal ss (s ∷ [])) ∙ flat_map_append (entry D) (filter_by legal ss) (filter_by legal (s ∷ []))

  entries_more : legal s ≡ true → entries_of D (ss ++ (s ∷ [])) ≡ entries_of D ss ++ entry D s
  unfolding entries_of flat_map
  entries_more t =
      entries_snoc ∙ ap (λ (l : List ℕ). entries_of D ss ++ l) (ap (λ (b : Bool). flat_map (entry D) (keep_if b s [])) t)

  entries_passed : legal s ≡ false → entries_of D (ss ++ (s ∷ [])) ≡ entries_of D ss
  unfolding entries_of flat_map
  entries_passed t =
      entries_snoc ∙ ap (λ (l : List ℕ). entries_of D ss ++ l) (ap (λ (b : Bool). flat_map (entry D) (keep_if b s [])) t)
      ∙ append-nil (entries_of D ss)

  module _ {at : ℕ} {list old : List ℕ} (L : Listing D ss at list old) where
    pub listing_passed : legal s ≡ false → Listing D (ss ++ (s ∷ [])) at list old
    listing_passed t =
        let e = sym (entries_passed t) in
        record { written = L.written ∙ ap length e; bytes = L.bytes ∙ ap (λ (l : List ℕ). over l old) e }

    pub listing_more : legal s ≡ true → (r b v : ℕ) → entry D s ≡ r ∷ b ∷ v ∷ [] → {next : List ℕ}
        → next ≡ paste list at (r ∷ b ∷ v ∷ []) 3 → Listing D (ss ++ (s ∷ [])) (at + 3) next old
    listing_more t r b v e q =
        record {
          written = (let l = length-append new (r ∷ b ∷ v ∷ []) in let w = L.written in
              let g : length (new ++ (r ∷ b ∷ v ∷ [])) ≡ at + 3 = omega arith in sym g) ∙ ap length (sym same);
          bytes = q ∙ ap (λ (l : List ℕ). paste l at (r ∷ b ∷ v ∷ []) 3) L.bytes
              ∙ over_paste new old (r ∷ b ∷ v ∷ []) at 3 (sym L.written) refl ∙ ap (λ (l : List ℕ). over l old) (sym same);
        }
      where
        new : List ℕ
        new = entries_of D ss

        same : entries_of D (ss ++ (s ∷ [])) ≡ new ++ (r ∷ b ∷ v ∷ [])
        same = entries_more t ∙ ap (λ (l : List ℕ). new ++ l) e

-- ---- a component that reading takes into the head without a template

module _ {D : Domain} {head table : List ℕ} (B : BareHeld D head table) (r : ℕ) (o : Option ℕ) (P : PlaceBelow (arity D r) o) where
  few : arity D r ≤ 6
  few = arity_six D B.holds.filled.says.bounded.arities r

  abbrev component : Component
  component = component_at D (shape r o)

  keys : all (key_below 255) component.labels ≡ true
  keys = with_keys (arity D r) o few P

  module _ {n k : ℕ} {p after : List ℕ} (e : n ≡ arity_in head r) (q : p ≡ take (n + 1) (payload_of r o))
      (T : TakesRow component_record p k head table after table) where
    payload : p ≡ component_bytes component
    payload = q ∙ payload_is D r o (n + 1) few P (ap (λ (m : ℕ). m + 1) (e ∙ B.holds.filled.says.arities r))

    stopped : k ≡ stop_of (bare D) component_record (component_bytes component)
    stopped = (T (bare D) B.old B.holds).0 ∙ ap (stop_of (bare D) component_record) payload

    pub refused_entry : (k ≡ 0 → ⊥) → legal_alone D component ≡ false
    unfolding legal_alone
    refused_entry z = ap (λ (t : Bool). t && all (key_below 255) component.labels) (ne_eqb _ 0 (λ y. z (stopped ∙ y)))

    pub taken_entry : k ≡ 0 → legal_alone D component ≡ true
    unfolding legal_alone
    taken_entry z = and_i (eq-eqb _ 0 (sym stopped ∙ z)) keys

    pub taken_held : k ≡ 0 → Held (single D component) after table
    unfolding extend
    taken_held z =
        let K = T (bare D) B.old B.holds in
        let e : domain_after (bare D) component_record p ≡ single D component = behind_done (bare D) component_record p (sym K.0 ∙ z)
        ∙ ap (λ (c : Component). single D c) (ap component_of payload ∙ component_back component keys) in
        held_over (subst (λ (E : Domain). HeldOver B.old E after table) e K.1)

    pub taken_formed : k ≡ 0 → well_formed (single D component) ≡ true
    taken_formed z = legal_well_formed D component B.formed (taken_entry z)

-- the bytes of an entry
pub entry_is : (D : Domain) (r : ℕ) (o : Option ℕ) (b v : ℕ) → b ≡ place_byte o → v ≡ verdict_of D (component_at D (shape r o))
    → entry D (shape r o) ≡ r ∷ b ∷ v ∷ []
entry_is D r o b v h e = λ i. r ∷ sym h i ∷ sym e i ∷ []

-- ---- the places of a relation

-- after the first k of them
pub record InPlaces (head table : List ℕ) (r : ℕ) (list₀ : List ℕ) (end₀ : ℕ) (list : List ℕ) (end k : ℕ) : Type 0 where
  pub reach : k ≤ arity_in head r
  pub few : end ≤ end₀ + 3 * k
  pub same : length list ≡ length list₀
  pub listing : (D : Domain) (ss : List Shape) (old : List ℕ) → BareHeld D head table → r < length D.arities
      → Listing D ss end₀ list₀ old
      → Listing D (ss ++ map (λ p. shape r (some p)) (below k)) end list old

pub places_none : {D : Domain} (ss : List Shape) (r : ℕ) {end : ℕ} {list old : List ℕ} → Listing D ss end list old
    → Listing D (ss ++ map (λ p. shape r (some p)) (below 0)) end list old
places_none {D} ss r {end} {list} {old} L = subst (λ (l : List Shape). Listing D l end list old) (sym (append-nil ss)) L

module _ {D : Domain} (ss : List Shape) (r : ℕ) {end : ℕ} {list old : List ℕ} where
  pub places_next : (k : ℕ) → Listing D ((ss ++ map (λ p. shape r (some p)) (below k)) ++ (shape r (some k) ∷ [])) end list old
      → Listing D (ss ++ map (λ p. shape r (some p)) (below (k + 1))) end list old
  places_next k L =
      subst (λ (l : List Shape). Listing D l end list old)
      (append_assoc ss (map place (below k)) (shape r (some k) ∷ []) ∙ ap (λ (l : List Shape). ss ++ l) more) L
    where
      place : ℕ → Shape
      place p = shape r (some p)

      more : map place (below k) ++ (shape r (some k) ∷ []) ≡ map place (below (k + 1))
      more = sym (ap (λ (n : ℕ). map place (below n)) (add-one k) ∙ ap (map place) (below_snoc k) ∙ map-append place (below k) (k ∷ []))

  -- with the one without a counted place, all of the relation
  pub places_all : (k : ℕ) → k ≡ arity D r → Listing D ((ss ++ (shape r none ∷ [])) ++ map (λ p. shape r (some p)) (below k)) end list old
      → Listing D (ss ++ shapes_of r (arity D r)) end list old
  places_all k e L =
      subst (λ (l : List Shape). Listing D l end list old)
      (append_assoc ss (shape r none ∷ []) (map (λ p. shape r (some p)) (below k)) ∙ ap (λ (n : ℕ). ss ++ shapes_of r n) e) L

-- ---- the relations

-- after the first k of them
pub record InRelations (head table list₀ list : List ℕ) (end k : ℕ) : Type 0 where
  pub reach : k ≤ relations_in head
  pub few : end ≤ 21 * k
  pub same : length list ≡ length list₀
  pub listing : (D : Domain) (old : List ℕ) → BareHeld D head table → Listing D [] 0 list₀ old → Listing D (shapes_up_to D k) end list old

shapes_snoc : (r k : ℕ) (ns : List ℕ) → k < length ns
    → shapes_from r (take (suc k) ns) ≡ shapes_from r (take k ns) ++ shapes_of (r + k) (get_or ns k 0)
shapes_snoc r k [] h = absurd (omega arith)
shapes_snoc r zero (n ∷ ns) h = let z : r ≡ r + 0 = omega arith in append-nil (shapes_of r n) ∙ ap (λ (m : ℕ). shapes_of m n) z
shapes_snoc r (suc k) (n ∷ ns) h =
    let z : suc r + k ≡ r + suc k = omega arith in
    ap (λ (l : List Shape). shapes_of r n ++ l)
    (shapes_snoc (suc r) k ns (omega arith) ∙ ap (λ (m : ℕ). shapes_from (suc r) (take k ns) ++ shapes_of m (get_or ns k 0)) z)
    ∙ sym (append_assoc (shapes_of r n) (shapes_from (suc r) (take k ns)) (shapes_of (r + suc k) (get_or ns k 0)))

pub relations_next : (D : Domain) (k : ℕ) {end : ℕ} {list old : List ℕ} → k < length D.arities
    → Listing D (shapes_up_to D k ++ shapes_of k (arity D k)) end list old → Listing D (shapes_up_to D (k + 1)) end list old
relations_next D k {end} {list} {old} h L =
    let z : 0 + k ≡ k = omega arith in
    subst (λ (l : List Shape). Listing D l end list old)
    (sym (ap (λ (n : ℕ). shapes_up_to D n) (add-one k) ∙ shapes_snoc 0 k D.arities h
    ∙ ap (λ (m : ℕ). shapes_up_to D k ++ shapes_of m (arity D k)) z)) L

pub relations_all : (D : Domain) (k : ℕ) {end : ℕ} {list old : List ℕ} → length D.arities ≤ k → Listing D (shapes_up_to D k) end list old
    → Listing D (shapes D) end list old
unfolding shapes
relations_all D k {end} {list} {old} h L = subst (λ (ns : List ℕ). Listing D (shapes_from 0 ns) end list old) (take_all k D.arities h) L

-- ---- the list

-- of all shapes it is the list of the domain
pub list_is : (D : Domain) → entries_of D (shapes D) ≡ list_bytes D
unfolding entries_of list_bytes listed
list_is D = refl

-- before the first entry
pub listing_none : (D : Domain) (list : List ℕ) → Listing D [] 0 list list
unfolding entries_of flat_map over
listing_none D list = record { written = refl; bytes = refl }

-- what is written of it
pub made_is : {D : Domain} {n : ℕ} {list old : List ℕ} → Listing D (shapes D) n list old → take n list ≡ list_bytes D
unfolding over
made_is {D} {n} {list} {old} L =
    ap (take n) L.bytes
    ∙ take_at (entries_of D (shapes D)) (drop (length (entries_of D (shapes D))) old) n (sym L.written)
    ∙ list_is D

-- the head without its template, beside the table
pub bare_held : {D : Domain} {head after table : List ℕ} → Held D head table → Filled (bare D) after → well_formed D ≡ true
    → BareHeld D after table
unfolding table_bytes
bare_held H F wf = record { old = H.old; holds = record { filled = F; rows = H.rows }; formed = wf }

-- what is handed over is the list
