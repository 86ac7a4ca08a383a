-- What the bytes of the list say: an accepted entry is safe, and nothing legal is missing. Assumes nothing.
use mathlib.Core.Path.{◌≡◌, refl, sym, ap, ap₂, subst, ◌∙◌}
use mathlib.Core.Bool.{Bool, true, false, cond}
use mathlib.Core.Logic.{◌⊎◌, inl, inr}
use Rattle.std.specs.Prelude.{Option, None as none, Some as some}
use mathlib.Core.List.{List, [], ◌∷◌, ◌++◌, flat_map}
use Prim.Native.Nat.{ℕ, zero, suc, ◌+◌, ◌*◌, ◌≤◌, ◌<◌}
use native.Mathlib.Omega.{arith}
use lib.Dec.{ltb}
use lib.ListN.{get_or, length, drop}
use borrow.Author.Tests.{ltb-true, ltb-false, ne_eqb}
use Rattle.records.specs.Memory.{over}
use Rattle.records.proofs.Lists.{bool_cases, get_d_in, in_get_d}
use Rattle.literals.specs.Domain.{Domain, arity, bare}
use Rattle.literals.specs.Decode.{byte, component_of, component_record, field_stop, domain, decode}
use Rattle.literals.proofs.Bounds.{decoded_bounded, arity_six}
use Rattle.literals.proofs.Stops.{passes, component_passes}
use Rattle.verdict.specs.Judged.{Answer}
use Rattle.verdict.specs.Claims.{Safe}
use Rattle.verdict.proofs.Decodes.{decoded_well_formed}
use Rattle.services.proofs.Answers.{served_short, served_done}
use Rattle.templates.specs.Templates.{Shape, shape, component_at, single, listed, place_byte, verdict_of, entry, list_bytes, list_file}
use Rattle.templates.specs.Templates.{list_after}
use Rattle.templates.specs.Claims.{Limited, shape_in, EntriesSafe, NothingMissing, same_shape}
use Rattle.templates.specs.Held.{PlaceBelow, place_of_byte}
use Rattle.templates.proofs.Legal.{legal_is_read}
use Rattle.templates.proofs.Listed.{listed_place}
use Rattle.templates.proofs.Written.{count_of, verdict_listed, entry_safe}

-- ---- the entries in their bytes

pub record EntryAt (D : Domain) (s : Shape) (list : List ℕ) (i : ℕ) : Type 0 where
  pub relation : byte list (3 * i) ≡ s.rel
  pub place : byte list (3 * i + 1) ≡ place_byte s.place
  pub verdict : byte list (3 * i + 2) ≡ verdict_of D (component_at D s)

entry_at : (D : Domain) (l : List Shape) (rest : List ℕ) (d : Shape) (i : ℕ) → i < length l
    → EntryAt D (get_or l i d) (flat_map (entry D) l ++ rest) i
unfolding flat_map
entry_at D [] rest d i h = absurd (omega arith)
entry_at D (s ∷ ss) rest d zero h = record { relation = refl; place = refl; verdict = refl }
entry_at D (s ∷ ss) rest d (suc i) h =
    let r = entry_at D ss rest d i (omega arith) in
    let e : 3 * suc i ≡ suc (suc (suc (3 * i))) = omega arith in
    let f : 3 * suc i + 1 ≡ suc (suc (suc (3 * i + 1))) = omega arith in
    let g : 3 * suc i + 2 ≡ suc (suc (suc (3 * i + 2))) = omega arith in
    let bytes = flat_map (entry D) (s ∷ ss) ++ rest in
    record {
      relation = ap (byte bytes) e ∙ r.relation;
      place = ap (byte bytes) f ∙ r.place;
      verdict = ap (byte bytes) g ∙ r.verdict;
    }

-- the shape of an entry is read back
place_back : (n : ℕ) (o : Option ℕ) → n ≤ 6 → PlaceBelow n o → place_of_byte (place_byte o) ≡ o
place_back n none h b = refl
place_back n (some p) h b = ap (λ (t : Bool). cond t none (some p)) (ne_eqb p 255 (λ e. omega arith))

shape_back : {D : Domain} {s : Shape} {list : List ℕ} {i : ℕ} → EntryAt D s list i → arity D s.rel ≤ 6
    → PlaceBelow (arity D s.rel) s.place → shape_in list i ≡ s
shape_back {D} {s} E h b =
    ap₂ (λ (r : ℕ) (o : Option ℕ). shape r o) E.relation (ap place_of_byte E.place ∙ place_back (arity D s.rel) s.place h b)

-- ---- of an answer

module _ (f out : List ℕ) (n k : ℕ) (list : List ℕ) (en : n ≡ (list_file f out).number) (ek : k ≡ (list_file f out).first)
    (el : list ≡ list_after f out) where
  module _ (D : Domain) (e : decode f ≡ domain D) (z : n ≡ 0) where
    -- the list is whole
    done : (k ≡ 3 * length (listed D)) × (list ≡ over (list_bytes D) out)
    unfolding list_file list_after
    done = go (bool_cases (ltb (length out) (length (list_bytes D))))
      where
        go : (ltb (length out) (length (list_bytes D)) ≡ true) ⊎ (ltb (length out) (length (list_bytes D)) ≡ false)
            → (k ≡ 3 * length (listed D)) × (list ≡ over (list_bytes D) out)
        go (inl t) =
            let s = (served_short list_bytes f out D e (ltb-true _ _ t)).0 in
            let q : ◌≡◌ {A = ℕ} 0 30 = sym z ∙ en ∙ ap (λ (a : Answer). a.number) s in
            absurd (omega arith)
        go (inr t) =
            let s = served_done list_bytes f out D e (ltb-false _ _ t) in
            (ek ∙ ap (λ (a : Answer). a.first) s.0 ∙ count_of D, el ∙ s.1)

    limited : Limited D
    limited r = arity_six D (decoded_bounded f D e).arities r

    abbrev no_shape : Shape
    no_shape = shape 0 none

    at : (i : ℕ) → i < length (listed D) → EntryAt D (get_or (listed D) i no_shape) list i
    unfolding over list_bytes
    at i h =
        subst (λ (l : List ℕ). EntryAt D (get_or (listed D) i no_shape) l i) (sym done.1)
        (entry_at D (listed D) (drop (length (list_bytes D)) out) no_shape i h)

    told : (i : ℕ) → i < length (listed D) → shape_in list i ≡ get_or (listed D) i no_shape
    told i h =
        let s = get_or (listed D) i no_shape in
        shape_back (at i h) (limited s.rel) (listed_place D s (get_d_in (listed D) i no_shape h))

    inside : (i : ℕ) → 3 * i < k → i < length (listed D)
    inside i h = let q = done.0 in omega arith

  pub entries_safe : EntriesSafe f n k list
  entries_safe D e z i h v =
      let l = inside D e z i h in
      let s = get_or (listed D) i (shape 0 none) in
      let same = (at D e z i l).verdict in
      subst (λ (t : Shape). Safe (single D (component_at D t))) (sym (told D e z i l))
      (entry_safe D (decoded_well_formed f D e) s (get_d_in (listed D) i (shape 0 none) l) (by same v))
    where
      by : {a b : ℕ} → a ≡ b → (a ≡ 0) ⊎ (a ≡ 1) → (b ≡ 0) ⊎ (b ≡ 1)
      by q (inl y) = inl (sym q ∙ y)
      by q (inr y) = inr (sym q ∙ y)

  pub nothing_missing : NothingMissing f n k list
  unfolding field_stop
  nothing_missing D e z p b t =
      let long = (component_passes (bare D) p (passes (bare D) component_record p t).fields).long in
      let r = verdict_listed D (limited D e z) (component_of p) ((legal_is_read D p b long).0 t) in
      let j = in_get_d (listed D) (shape 0 none) r.1 in
      let h = j.1 in
      let q = (done D e z).0 in
      let same : shape_in list j.0 ≡ r.0 = told D e z j.0 h ∙ j.2 in (
        j.0,
        omega arith,
        ap (λ (s : Shape). same_shape (component_of p) (component_at D s)) same ∙ r.2,
        (at D e z j.0 h).verdict ∙ ap (λ (s : Shape). verdict_of D (component_at D s)) j.2 ∙ sym r.3,
      )
