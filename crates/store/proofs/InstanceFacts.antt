-- The facts of an instance: the bytes that the code writes are those of the instance fact. Assumes nothing.
use mathlib.Core.Path.{◌≡◌, refl, sym, ap, ap₂, subst, ◌∙◌}
use mathlib.Core.Bool.{Bool, true, false, cond}
use mathlib.Core.Logic.{◌⊎◌, inl, inr}
use lib.Dec.{eqb}
use denote.Param.Members.{Mut, Called}
use Rattle.std.specs.Array.{IsFromFnResultFrom, IsFromFnResult}
use mathlib.Core.List.{List, [], ◌∷◌, ◌++◌, map}
use Prim.Native.Nat.{ℕ, zero, suc, ◌+◌, ◌-◌, ◌≤◌, ◌<◌}
use native.Mathlib.Omega.{arith}
use lib.ListN.{length, get_or, take, drop, replicate, length-append, length-map, length-drop, length-replicate, get_or-replicate}
use lib.ListN.{get_or-append}
use lib.Seq.{ext_get_or, get_or-take, get_or-drop, get_or-append-add, length-take-le, take_at}
use borrow.Author.Tests.{ltb-true, ne_eqb, eqb-true, eqb-false}
use Rattle.records.specs.Lists.{In, all}
use Rattle.records.proofs.Lists.{and_l, and_r, get_d_in, bool_cases}
use Rattle.literals.specs.declared.Object.{Object}
use Rattle.literals.specs.declared.Label.{Label}
use Rattle.literals.specs.declared.Label.TheVariants.{Key as keyed, Counted}
use Rattle.literals.specs.Domain.{object, Component, key_below, keys_of, Domain, label_number}
use Rattle.literals.specs.Decode.{label_of}
use Rattle.literals.specs.Held.{component_row, arity_in, component_row_in, TemplateOf}
use Rattle.literals.proofs.Bytes.{keys_below_lem}
use Rattle.literals.proofs.Rows.{row_inside}
use Rattle.literals.proofs.Held.{keys_few}
use Rattle.literals.proofs.Heads.{part_length, part_is}
use Rattle.literals.proofs.Indices.{get_d_map}
use Rattle.verdict.specs.Decision.{object_under, instance_fact}
use Rattle.verdict.specs.Judged.{object_numbers}
use Rattle.verdict.specs.Held.{fact_row}
use Rattle.store.specs.Held.{object_at, object_byte, instance_bytes, instance_bytes_in}
use Rattle.store.proofs.InstanceRows.{objects_row}

-- ---- its bytes

module _ (arity counted : ℕ) (instance row : List ℕ) (h : length row ≡ 8) (g : arity ≤ 6) where
  abbrev labels : List ℕ
  labels = take arity (drop 1 row)

  length_labels : length labels ≡ arity
  length_labels = length-take-le arity (drop 1 row) (simp length-drop (omega arith))

  length_objects : length (map (object_byte counted instance) labels) ≡ arity
  length_objects = length-map labels (object_byte counted instance) ∙ length_labels

  length_instance : length (instance_bytes arity counted instance row) ≡ 8
  length_instance =
      let l = length_objects in
      let a = length-append (map (object_byte counted instance) labels) (replicate (6 - arity) 255) in
      let r = length-replicate {A = ℕ} (6 - arity) 255 in
      omega arith

  object_at_lem : (k : ℕ) → k < arity
      → get_or (map (object_byte counted instance) labels ++ replicate (6 - arity) 255) k 0 ≡ object_byte counted instance (get_or row (1 + k) 0)
  object_at_lem k l =
      let n = length_objects in
      let m = length_labels in
      get_or-append (map (object_byte counted instance) labels) (replicate (6 - arity) 255) 0 k (omega arith)
      ∙ get_d_map (object_byte counted instance) labels k 0 0 (omega arith)
      ∙ ap (object_byte counted instance) (get_or-take arity (drop 1 row) k 0 l ∙ get_or-drop 1 row k 0)

  fill_at : (k : ℕ) → k < 6 → arity ≤ k → get_or (map (object_byte counted instance) labels ++ replicate (6 - arity) 255) k 0 ≡ 255
  fill_at k l n =
      let m = length_objects in
      let e : k ≡ length (map (object_byte counted instance) labels) + (k - arity) = omega arith in
      ap (λ (i : ℕ). get_or (map (object_byte counted instance) labels ++ replicate (6 - arity) 255) i 0) e
      ∙ get_or-append-add (map (object_byte counted instance) labels) (replicate (6 - arity) 255) (k - arity) 0
      ∙ get_or-replicate (6 - arity) (k - arity) 255 0 (omega arith)

-- of the component c of a head
module _ (arity counted : ℕ) (instance head : List ℕ) (c : ℕ) (g : arity ≤ 6) where
  pub instance_object : (i r : ℕ) → (i ≡ 0 → ⊥) → (i ≡ 1 → ⊥) → i < 2 + arity
      → r ≡ object_byte counted instance (get_or (component_row_in head c) (i - 1) 0)
      → r ≡ get_or (instance_bytes arity counted instance (component_row_in head c)) i 0
  instance_object zero r n o l e = absurd (n refl)
  instance_object (suc zero) r n o l e = absurd (o refl)
  instance_object (suc (suc k)) r n o l e =
      let z : suc (suc k) - 1 ≡ 1 + k = omega arith in
      e
      ∙ ap (λ (i : ℕ). object_byte counted instance (get_or (component_row_in head c) i 0)) z
      ∙ sym (object_at_lem arity counted instance (component_row_in head c) (part_length head c) g k (omega arith))

  pub instance_fill : (i : ℕ) → i < 8 → (i ≡ 0 → ⊥) → (i ≡ 1 → ⊥) → 2 + arity ≤ i
      → 255 ≡ get_or (instance_bytes arity counted instance (component_row_in head c)) i 0
  instance_fill zero l n o m = absurd (n refl)
  instance_fill (suc zero) l n o m = absurd (o refl)
  instance_fill (suc (suc k)) l n o m =
      sym (fill_at arity counted instance (component_row_in head c) (part_length head c) g k (omega arith) (omega arith))

  pub length_instance_at : length (instance_bytes arity counted instance (component_row_in head c)) ≡ 8
  length_instance_at = length_instance arity counted instance (component_row_in head c) (part_length head c) g

-- eight bytes that a function gave, one for each number below 8
module _ {F : Type 0} {g : Mut F (ℕ × Unit {0}) ℕ} (f : F) (fact ys : List ℕ) where
  made_from : (n i : ℕ) → i + n ≡ 8 → IsFromFnResultFrom g f ys i n
      → ((i y : ℕ) (q : F) → i < 8 → Called g f (i, tt) y q → (q ≡ f) × (y ≡ get_or fact i 0)) → (j : ℕ) → i ≤ j → j < i + n → get_or ys j 0 ≡ get_or fact j 0
  made_from zero i e ran k j a b = absurd (omega arith)
  made_from (suc n) i e (q, y, here, called, rest) k j a b =
      let told = k i y q (omega arith) called in
      go told.1 (λ l. made_from n (i + 1) (omega arith) (subst (λ (p : F). IsFromFnResultFrom g p ys (i + 1) n) told.0 rest) k j l (omega arith)) (bool_cases (eqb j i))
    where
      go : y ≡ get_or fact i 0 → (i + 1 ≤ j → get_or ys j 0 ≡ get_or fact j 0) → (eqb j i ≡ true) ⊎ (eqb j i ≡ false) → get_or ys j 0 ≡ get_or fact j 0
      go f next (inl t) = let z = eqb-true j i t in ap (λ (m : ℕ). get_or ys m 0) z ∙ here.1 0 ∙ f ∙ ap (λ (m : ℕ). get_or fact m 0) (sym z)
      go f next (inr t) = let z = eqb-false j i t in next (omega arith)

  pub made_bytes : length fact ≡ 8 → IsFromFnResult g f ys 8
      → ((i y : ℕ) (q : F) → i < 8 → Called g f (i, tt) y q → (q ≡ f) × (y ≡ get_or fact i 0)) → ys ≡ fact
  made_bytes n ran k = ext_get_or 0 ys fact (ran.long ∙ sym n) (λ j h. let l = ran.long in made_from 8 0 (omega arith) ran.each k j (omega arith) (omega arith))

-- ---- they are those of the instance fact

module _ (y : List Object) (n : ℕ) (e : length y ≡ n) (f : n ≤ 8) (o : ℕ) where
  label_object : (l : Label) → key_below n l ≡ true → object_byte o (objects_row y) (label_number l) ≡ (object_under (object o) y l).0
  label_object Counted t = refl
  label_object (keyed k) t =
      let b : k.0 < n = ltb-true _ _ t in
      let m = length-map y (λ (o : Object). o.0) in
      let told : label_of k.0 ≡ keyed k = ap (λ (b : Bool). cond b Counted (keyed k)) (ne_eqb k.0 255 (λ z. omega arith)) in
      ap (λ (l : Label). (object_at (object o) (objects_row y) l).0) told
      ∙ sym (row_inside (object_numbers y) k.0 (omega arith))
      ∙ get_d_map (λ (o : Object). o.0) y k.0 (object 0) 0 (omega arith)

  label_objects : (ls : List Label) → all (key_below n) ls ≡ true
      → map (object_byte o (objects_row y)) (map label_number ls) ≡ object_numbers (map (object_under (object o) y) ls)
  label_objects [] t = refl
  label_objects (l ∷ ls) t = ap₂ ◌∷◌ (label_object l (and_l _ _ t)) (label_objects ls (and_r (key_below n l) _ t))

  instance_row : (c : Component) → all (key_below n) c.labels ≡ true
      → instance_bytes (length c.labels) o (objects_row y) (component_row c) ≡ fact_row (instance_fact (object o) y c)
  instance_row c t =
      let ns : List ℕ = map label_number c.labels in
      let m = length-map c.labels label_number in
      let k = length-map c.labels (object_under (object o) y) in
      ap₂ (λ (j : ℕ) (r : List ℕ). c.rel ∷ j ∷ r) (sym k)
      (ap₂ (λ (r : List ℕ) (j : ℕ). map (object_byte o (objects_row y)) r ++ replicate (6 - j) 255)
      (take_at ns (replicate (8 - suc (length ns)) 255) (length c.labels) m) (sym k)
      ∙ ap (λ (r : List ℕ). r ++ replicate (6 - length (map (object_under (object o) y) c.labels)) 255) (label_objects c.labels t))

abbrev pub no_component : Component
no_component = record { rel = 0; labels = [] }

-- of the component c of a head
pub instance_is : {D : Domain} {head : List ℕ} → TemplateOf D head → (c : ℕ) → c < length D.template
    → (y : List Object) → length y ≡ keys_of D.template → (o : ℕ)
    → instance_bytes_in head c o (objects_row y) ≡ fact_row (instance_fact (object o) y (get_or D.template c no_component))
instance_is {D} {head} H c h y e o =
    let u : Component = get_or D.template c no_component in
    let m : In u D.template = get_d_in D.template c no_component h in
    let row : component_row_in head c ≡ component_row u = part_is H no_component c h in
    let n = keys_few D.template H.bounded.labels in
    ap₂ (λ (k : ℕ) (r : List ℕ). instance_bytes k o (objects_row y) r)
    (ap (λ (r : List ℕ). arity_in head (get_or r 0 0)) row ∙ H.arities u.rel ∙ sym (H.bounded.component_arity u m)) row
    ∙ instance_row y (keys_of D.template) e (omega arith) o u (keys_below_lem _ _ (H.bounded.keys_fit u m))
