-- What head and table say of a domain that they hold, in the forms that the code's functions need. Assumes nothing.
use mathlib.Core.Path.{◌≡◌, refl, sym, ap, ap₂, ◌∙◌}
use mathlib.Core.Bool.{Bool, true, false, cond}
use mathlib.Core.Logic.{◌⊎◌, inl, inr}
use mathlib.Core.List.{List, [], ◌∷◌, ◌++◌, map, flat_map}
use Prim.Native.Nat.{ℕ, zero, suc, ◌+◌, ◌-◌, ◌*◌, ◌≤◌, ◌<◌}
use native.Mathlib.Numerals.{add-one}
use native.Mathlib.Omega.{arith}
use lib.Dec.{ltb, leb}
use lib.ListN.{length, take, drop, get_or, length-append}
use borrow.Author.Tests.{le-leb, lt-leb, leb-true, leb-false}
use Rattle.records.specs.Lists.{In}
use Rattle.records.specs.Memory.{over}
use Rattle.records.proofs.Lists.{bool_cases, get_d_in, flat_map_in}
use Rattle.literals.specs.Decode.{max_relations, max_arguments, max_variables}
use Rattle.literals.specs.Domain.{Literal, Action, Component, Domain, no_action, action}
use Rattle.literals.specs.Held.{literal_row, component_row, all_literals, table_bytes, rows_in, Bounded, within, components_in}
use Rattle.literals.specs.Held.{arity_in, bytes_from, component_row_in, component_rows_from, component_rows_in, variables_in, size_in, first_in}
use Rattle.literals.specs.Held.{HeadOf, TemplateOf, Held, SpanOf, at_arities, at_components, at_variables}
use Rattle.literals.proofs.Tables.{length_literal_row, length_flat, length_literals, rows_flat}
use Rattle.literals.proofs.Held.{literals_in_lem}
use Rattle.literals.proofs.Spans.{part_flat, literals_split, literals_next}

-- ---- a number within its limit

module _ (limit n : ℕ) where
  pub within_is : n ≤ limit → within limit n ≡ n
  within_is h = rw (le-leb n limit h)

  pub within_none : limit < n → within limit n ≡ 0
  within_none h = rw (lt-leb n limit h)

pub within_le : (limit n : ℕ) → within limit n ≤ limit
within_le limit n = go (bool_cases (leb n limit))
  where
    go : (leb n limit ≡ true) ⊎ (leb n limit ≡ false) → within limit n ≤ limit
    go (inl t) = let h : n ≤ limit = leb-true n limit t in let e = within_is limit n h in omega arith
    go (inr t) = let h : limit < n = leb-false n limit t in let e = within_none limit n h in omega arith

-- ---- components

pub length_bytes : (t : List ℕ) (k n : ℕ) → length (bytes_from t k n) ≡ n
length_bytes t k zero = refl
length_bytes t k (suc n) = ap suc (length_bytes t (suc k) n)

bytes_at : (t : List ℕ) (k n i : ℕ) → i < n → get_or (bytes_from t k n) i 0 ≡ get_or t (k + i) 0
bytes_at t k zero i h = absurd (omega arith)
bytes_at t k (suc n) zero h = let e : k ≡ k + 0 = omega arith in ap (λ (j : ℕ). get_or t j 0) e
bytes_at t k (suc n) (suc i) h = let e : suc k + i ≡ k + suc i = omega arith in bytes_at t (suc k) n i (omega arith) ∙ ap (λ (j : ℕ). get_or t j 0) e

-- one more
pub bytes_more : (t : List ℕ) (k n : ℕ) → bytes_from t k (suc n) ≡ bytes_from t k n ++ (get_or t (k + n) 0 ∷ [])
bytes_more t k zero = let e : k ≡ k + 0 = omega arith in ap (λ (j : ℕ). get_or t j 0 ∷ []) e
bytes_more t k (suc n) =
    let e : suc k + n ≡ k + suc n = omega arith in
    ap {B = List ℕ} (λ r. get_or t k 0 ∷ r) (bytes_more t (suc k) n ∙ ap (λ (j : ℕ). bytes_from t (suc k) n ++ (get_or t j 0 ∷ [])) e)

bytes_behind : (x : ℕ) (t : List ℕ) (k n : ℕ) → bytes_from (x ∷ t) (suc k) n ≡ bytes_from t k n
bytes_behind x t k zero = refl
bytes_behind x t k (suc n) = ap {B = List ℕ} (λ r. get_or t k 0 ∷ r) (bytes_behind x t (suc k) n)

-- all of a list that more follows
pub bytes_front : (l rest : List ℕ) → bytes_from (l ++ rest) 0 (length l) ≡ l
bytes_front [] rest = refl
bytes_front (x ∷ xs) rest = ap {B = List ℕ} (λ r. x ∷ r) (bytes_behind x (xs ++ rest) 0 (length xs) ∙ bytes_front xs rest)

pub part_length : (head : List ℕ) (c : ℕ) → length (component_row_in head c) ≡ 8
unfolding component_row_in
part_length head c = length_bytes head (at_components + 8 * c) 8

pub part_at : (head : List ℕ) (c i : ℕ) → i < 8 → get_or (component_row_in head c) i 0 ≡ get_or head (at_components + 8 * c + i) 0
unfolding component_row_in
part_at head c i h = bytes_at head (at_components + 8 * c) 8 i h

-- one by one
module _ (head : List ℕ) (n c : ℕ) where
  pub parts_next : c < n → component_rows_from head c (n - c) ≡ component_row_in head c ∷ component_rows_from head (c + 1) (n - (c + 1))
  parts_next h =
      let e : n - c ≡ suc (n - (c + 1)) = omega arith in
      ap (component_rows_from head c) e ∙ ap (λ (k : ℕ). component_row_in head c ∷ component_rows_from head k (n - (c + 1))) (sym (add-one c))

  pub parts_end : n ≤ c → component_rows_from head c (n - c) ≡ []
  parts_end h = let e : n - c ≡ 0 = omega arith in ap (component_rows_from head c) e

parts_length_from : (head : List ℕ) (c n : ℕ) → length (component_rows_from head c n) ≡ n
parts_length_from head c zero = refl
parts_length_from head c (suc n) = ap suc (parts_length_from head (suc c) n)

pub parts_length : (head : List ℕ) → length (component_rows_in head) ≡ components_in head
unfolding component_rows_in
parts_length head = parts_length_from head 0 (components_in head)

part_from : (head : List ℕ) (c n k : ℕ) → k < n → get_or (component_rows_from head c n) k [] ≡ component_row_in head (c + k)
part_from head c zero k h = absurd (omega arith)
part_from head c (suc n) zero h = let e : c ≡ c + 0 = omega arith in ap (component_row_in head) e
part_from head c (suc n) (suc k) h = let e : suc c + k ≡ c + suc k = omega arith in part_from head (suc c) n k (omega arith) ∙ ap (component_row_in head) e

-- a row by its number
pub part_row : (head : List ℕ) (c : ℕ) → c < components_in head → get_or (component_rows_in head) c [] ≡ component_row_in head c
unfolding component_rows_in
part_row head c h = let e : 0 + c ≡ c = omega arith in part_from head 0 (components_in head) c h ∙ ap (component_row_in head) e

get_d_rows : (cs : List Component) (d : Component) (c : ℕ) → c < length cs → get_or (map component_row cs) c [] ≡ component_row (get_or cs c d)
get_d_rows [] d c h = absurd (omega arith)
get_d_rows (x ∷ cs) d zero h = refl
get_d_rows (x ∷ cs) d (suc c) h = get_d_rows cs d c (omega arith)

pub template_of : {D : Domain} {head : List ℕ} → HeadOf D head → TemplateOf D head
template_of H = record { bounded = H.bounded; keys = H.keys; arities = H.arities; components = H.components; component_rows = H.component_rows; plain = λ f. sym H.clears ∙ f }

pub part_is : {D : Domain} {head : List ℕ} → TemplateOf D head → (d : Component) (c : ℕ) → c < length D.template → component_row_in head c ≡ component_row (get_or D.template c d)
part_is {D} {head} H d c h =
    let n = H.components in
    sym (part_row head c (omega arith)) ∙ ap (λ (rs : List (List ℕ)). get_or rs c []) H.component_rows ∙ get_d_rows D.template d c h

-- ---- the literals of an action

pub literals_after : (D : Domain) (i : ℕ) → i < length D.actions → length (all_literals (take (suc i) D.actions)) ≡ length (all_literals (take i D.actions)) + length (action D i).lits
unfolding action
literals_after D i h = literals_next D.actions i h

module _ {D : Domain} {head table : List ℕ} (H : Held D head table) (i : ℕ) (h : i < length D.actions) where
  pub action_in : In (action D i) D.actions
  unfolding action
  action_in = get_d_in D.actions i no_action h

  abbrev before : List Literal
  before = all_literals (take i D.actions)

  abbrev behind : List Literal
  behind = all_literals (drop (suc i) D.actions)

  split : all_literals D.actions ≡ before ++ ((action D i).lits ++ behind)
  unfolding action
  split = literals_split D.actions i h

  eights : (l : Literal) → In l (before ++ ((action D i).lits ++ behind)) → length (literal_row l) ≡ 8
  unfolding all_literals
  eights l m =
      let n : In l (all_literals D.actions) = rw split m in
      let o = flat_map_in (λ (a : Action). a.lits) D.actions n in
      length_literal_row l (H.says.bounded.arguments o.0 o.1 l o.2)

  -- the table has room for them
  room_of : 8 * (length before + length (action D i).lits) ≤ length table
  unfolding table_bytes over
  room_of =
      let e = ap length H.rows ∙ length-append (flat_map literal_row (all_literals D.actions)) (drop (length (flat_map literal_row (all_literals D.actions))) H.old) in
      let f = ap (λ (ls : List Literal). length (flat_map literal_row ls)) split ∙ length_flat literal_row (before ++ ((action D i).lits ++ behind)) eights in
      let g = length-append before ((action D i).lits ++ behind) in
      let k = length-append (action D i).lits behind in
      omega arith

  pub span_held : (from to n : ℕ) → from ≡ first_in head i → n ≡ size_in head i → to ≡ from + n → (8 * to ≤ length table) × SpanOf D i table record { from = from; to = to }
  unfolding table_bytes
  span_held from to n e f g =
      let p = H.says.firsts i h in
      let q = H.says.sizes i h in
      let z : 8 * to - 8 * from ≡ 8 * length (action D i).lits = omega arith in
      let y : from ≡ length before = e ∙ p in
      let r = room_of in (
        omega arith,
        record {
          first = y;
          size = omega arith;
          literals =
              ap₂ (λ (k j : ℕ). take k (drop (8 * j) table)) z y
              ∙ ap (λ (t : List ℕ). take (8 * length (action D i).lits) (drop (8 * length before) t)) (H.rows ∙ ap (λ (ls : List Literal). over (flat_map literal_row ls) H.old) split)
              ∙ part_flat literal_row before (action D i).lits behind H.old eights;
        },
      )

-- ---- the literals of all actions

-- 8 bytes a literal
pub length_table : {D : Domain} → Bounded D → length (table_bytes D) ≡ 8 * length (all_literals D.actions)
unfolding table_bytes
length_table {D} B =
    length_literals (all_literals D.actions) (λ l m. let o = literals_in_lem D.actions m in B.arguments o.0 o.1 l o.2)

-- the table has room for them, and their rows
module _ {D : Domain} {head table : List ℕ} (H : Held D head table) where
  pub all_room : 8 * length (all_literals D.actions) ≤ length table
  unfolding over
  all_room =
      let n = length_table H.says.bounded in
      let e = ap length H.rows ∙ length-append (table_bytes D) (drop (length (table_bytes D)) H.old) in
      omega arith

  pub all_rows_lem : rows_in (length (all_literals D.actions)) table ≡ map literal_row (all_literals D.actions)
  unfolding table_bytes over
  all_rows_lem =
      ap (rows_in (length (all_literals D.actions))) H.rows
      ∙ rows_flat literal_row (all_literals D.actions) (drop (length (table_bytes D)) H.old)
      (λ l m. let o = literals_in_lem D.actions m in length_literal_row l (H.says.bounded.arguments o.0 o.1 l o.2))

-- ---- limits of what a head says, whatever its bytes are

pub arity_limit : (head : List ℕ) (r : ℕ) → arity_in head r ≤ max_arguments
unfolding arity_in
arity_limit head r = go (ltb r max_relations)
  where
    go : (b : Bool) → cond b (within max_arguments (get_or head (at_arities + r) 0)) 0 ≤ max_arguments
    go true = within_le max_arguments (get_or head (at_arities + r) 0)
    go false = omega arith

pub variables_limit : (head : List ℕ) (i : ℕ) → variables_in head i ≤ max_variables
unfolding variables_in
variables_limit head i = within_le max_variables (get_or head (at_variables + i) 0)
