-- The number that stops a record, and the literals of all actions. Assumes nothing.
use mathlib.Core.Path.{◌≡◌, refl, sym, ap, ◌∙◌}
use mathlib.Core.Bool.{true, false, not}
use mathlib.Core.List.Memᴰ
use mathlib.Core.List.{List, [], ◌∷◌, ◌++◌, flat_map, append-nil, append_assoc}
use Prim.Native.Nat.{ℕ, ◌*◌, ◌≤◌, ◌<◌}
use native.Mathlib.Omega.{arith}
use lib.ListN.{length, length-append}
use Rattle.records.specs.Lists.{In}
use Rattle.records.proofs.Lists.{flat_map_in, flat_map_snoc, count_le}
use Rattle.literals.specs.Domain.{Literal, Action, Component, is_counted, keys_of, Domain}
use Rattle.literals.specs.Decode.{RecordStop}
use Rattle.literals.specs.Decode.{RecordKind, latest, head_stop, with_literal, field_stop, field_place, stop_of, stop_place, max_arguments}
use Rattle.literals.specs.Decode.{max_literals}
use Rattle.literals.specs.Held.{all_literals}
use Rattle.literals.proofs.Stops.{is_unknown, out_of_order, at_limit, head_number, stop_by_head}

-- ---- the number that stops a record

module _ (D : Domain) (k : RecordKind) (p : List ℕ) (known : is_unknown k ≡ false) where
  late : out_of_order D k ≡ true → head_stop D k ≡ 13
  late o = head_number D k ∙ rw (known, o)

  full : out_of_order D k ≡ false → at_limit D k ≡ true → head_stop D k ≡ 14
  full o l = head_number D k ∙ rw (known, o, l)

  none : out_of_order D k ≡ false → at_limit D k ≡ false → head_stop D k ≡ 0
  none o l = head_number D k ∙ rw (known, o, l)

  pub stop_order : out_of_order D k ≡ true → stop_of D k p ≡ 13
  unfolding stop_of
  stop_order o = ap (λ (f : RecordStop). f.number) (stop_by_head D k p (late o))

  pub stop_limit : out_of_order D k ≡ false → at_limit D k ≡ true → stop_of D k p ≡ 14
  unfolding stop_of
  stop_limit o l = ap (λ (f : RecordStop). f.number) (stop_by_head D k p (full o l))

  pub stop_field : out_of_order D k ≡ false → at_limit D k ≡ false → stop_of D k p ≡ field_stop D k p
  unfolding stop_of field_stop
  stop_field o l = ap (λ (f : RecordStop). f.number) (stop_by_head D k p (none o l))

  -- and its place
  pub place_limit : out_of_order D k ≡ false → at_limit D k ≡ true → stop_place D k p ≡ 0
  unfolding stop_place
  place_limit o l = ap (λ (f : RecordStop). f.within) (stop_by_head D k p (full o l))

  pub place_field : out_of_order D k ≡ false → at_limit D k ≡ false → stop_place D k p ≡ field_place D k p
  unfolding stop_place field_place
  place_field o l = ap (λ (f : RecordStop). f.within) (stop_by_head D k p (none o l))

-- ---- the literals of all actions

pub literals_snoc : (as' : List Action) (a : Action) → all_literals (as' ++ (a ∷ [])) ≡ all_literals as' ++ a.lits
unfolding all_literals
literals_snoc as' a = flat_map_snoc (λ (a : Action). a.lits) as' a

pub literals_more : (l : Literal) (as' : List Action) → 0 < length as' → all_literals (with_literal l as') ≡ all_literals as' ++ (l ∷ [])
unfolding all_literals flat_map
literals_more l [] h = absurd (omega arith)
literals_more l (a ∷ []) h = append_assoc a.lits (l ∷ []) [] ∙ sym (ap (λ r. r ++ (l ∷ [])) (append-nil a.lits))
literals_more l (a ∷ b ∷ bs) h = ap (λ r. a.lits ++ r) (literals_more l (b ∷ bs) (omega arith)) ∙ sym (append_assoc a.lits (all_literals (b ∷ bs)) (l ∷ []))

-- a literal of all is one of some action's
pub literals_in_lem : (as' : List Action) {l : Literal} → In l (all_literals as') → (a : Action) × In a as' × In l a.lits
unfolding all_literals
literals_in_lem as' m = flat_map_in (λ (a : Action). a.lits) as' m

-- at most so many literals an action
pub rows_few : (as' : List Action) → ((a : Action) → In a as' → length a.lits ≤ max_literals) → length (all_literals as') ≤ max_literals * length as'
unfolding all_literals flat_map
rows_few [] h = omega arith
rows_few (a ∷ as') h =
    let l = length-append a.lits (all_literals as') in
    let r = rows_few as' (λ b m. h b (Memᴰ.tail m)) in
    let k = h a (Memᴰ.head refl) in
    omega arith

-- and fewer where the latest has fewer
pub rows_fewer : (as' : List Action) → 0 < length as' → ((a : Action) → In a as' → length a.lits ≤ max_literals) → length (latest as').lits < max_literals
    → length (all_literals as') < max_literals * length as'
unfolding all_literals flat_map
rows_fewer [] g h l = absurd (omega arith)
rows_fewer (a ∷ []) g h l = let e = length-append a.lits [] in omega arith
rows_fewer (a ∷ b ∷ bs) g h l =
    let e = length-append a.lits (all_literals (b ∷ bs)) in
    let r = rows_fewer (b ∷ bs) (omega arith) (λ c m. h c (Memᴰ.tail m)) l in
    let k = h a (Memᴰ.head refl) in
    omega arith

pub keys_few : (cs : List Component) → ((c : Component) → In c cs → length c.labels ≤ max_arguments) → keys_of cs ≤ max_arguments
keys_few [] h = omega arith
keys_few (c ∷ cs) h =
    let k = h c (Memᴰ.head refl) in
    let n = count_le (λ l. not (is_counted l)) c.labels in
    omega arith
