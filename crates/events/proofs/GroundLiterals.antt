-- Ground literals in memory: how they are put there one by one, where those of each event stand, and that they are those of the
-- domain. Assumes nothing.
use mathlib.Core.Path.{◌≡◌, refl, sym, ap, ap₂, ◌∙◌, subst}
use mathlib.Core.Bool.{Bool, true, false, not}
use mathlib.Core.List.Memᴰ
use mathlib.Core.List.{List, [], ◌∷◌, ◌++◌, map, flat_map, map-append, append-nil, append_assoc}
use Prim.Native.Nat.{ℕ, zero, suc, ◌+◌, ◌-◌, ◌*◌, ◌≤◌, ◌<◌}
use native.Mathlib.Numerals.{add-one}
use native.Mathlib.Omega.{arith}
use lib.Dec.{eqb, ltb}
use lib.ListN.{length, get_or, set, take, drop, length-append, length-map, get_or-append}
use lib.Seq.{paste, length-paste, length_paste_head, take-paste, drop-paste, take_all, take-suc, take-add, take-take, take-append-le}
use lib.Seq.{take-set-le}
use lib.Seq.{drop_at, drop-drop, drop-set-add, drop-set-lt, get_or_at, get_or-drop, get_or-set_same, get_or-set_other, length-take-le}
use borrow.Author.Tests.{eq-eqb, ne_eqb, eqb-true, eqb-false, ltb-true, ltb-false}
use Rattle.records.specs.Lists.{In, keep_if, filter_by}
use Rattle.records.proofs.Lists.{filter_append, filter_few, filter_in, flat_map_in, flat_map_snoc, get_d_in}
use Rattle.literals.specs.declared.span.Span.{Span}
use Rattle.literals.specs.declared.Time.{Time}
use Rattle.literals.specs.Domain.{role_number, Literal, Domain, action}
use Rattle.literals.specs.Decode.{byte, max_literals}
use Rattle.literals.specs.Held.{literal_row, rows_in, arity_in, HeadOf, Held, SpanOf, usage_for}
use Rattle.literals.proofs.Indices.{get_d_map}
use Rattle.literals.proofs.KeyRows.{length_rows}
use Rattle.literals.proofs.Rows.{part_first, rows_snoc}
use Rattle.verdict.specs.Held.{pattern_row}
use Rattle.verdict.specs.Machine.{GroundAction, Event}
use Rattle.events.specs.Held.{ground_row, Waiting, waiting_of, GroundFits, EventsFit, bound_row, GroundLiteral, ground_literals}
use Rattle.events.specs.Held.{event_literals, row_literals, max_ground, usages_at, counts_at, grounded_bytes, ground_at, ground_in, in_one}
use Rattle.events.specs.Held.{Laid, Grounded, EachSized}
use Rattle.events.proofs.FactRows.{listed_in, held_bound, held_rows, no_event}
use Rattle.events.proofs.Members.{map_in}
use Rattle.events.proofs.Meeting.{Formed, formed_pattern}

-- ---- a part of a memory, when a byte or a row is written beside it

part_front : (t : List ℕ) (at w : ℕ) → at ≤ length t → take w (drop at t) ≡ drop at (take (at + w) t)
part_front t at w h = sym (ap (drop at) (take-add at w t) ∙ drop_at (take at t) (take w (drop at t)) at (length-take-le at t h))

pub part_set : (t : List ℕ) (at w k v : ℕ) → at + w ≤ k → take w (drop at (set t k v)) ≡ take w (drop at t)
part_set t at w k v h =
    let z : k ≡ at + (k - at) = omega arith in
    ap (λ (j : ℕ). take w (drop at (set t j v))) z
    ∙ ap (take w) (drop-set-add at t (k - at) v)
    ∙ take-set-le w (drop at t) (k - at) v (omega arith)

module _ (t : List ℕ) (k : ℕ) (s : List ℕ) (n : ℕ) (room : k + n ≤ length t) (long : n ≤ length s) where
  pub part_paste : (at w : ℕ) → at + w ≤ k → take w (drop at (paste t k s n)) ≡ take w (drop at t)
  part_paste at w h =
      let l = length-paste t k s n room long in
      let m = length_paste_head t k s n (omega arith) long in
      let f = length-take-le k t (omega arith) in
      part_front (paste t k s n) at w (omega arith)
      ∙ ap (drop at)
      (take-append-le (at + w) (take k t ++ take n s) (drop (k + n) t) (omega arith)
      ∙ take-append-le (at + w) (take k t) (take n s) (omega arith)
      ∙ take-take (at + w) k t h)
      ∙ sym (part_front t at w (omega arith))

  pub part_new : take n (drop k (paste t k s n)) ≡ take n s
  part_new =
      let l = length-paste t k s n room long in
      part_front (paste t k s n) k n (omega arith)
      ∙ ap (drop k) (take-paste t k s n (omega arith) long)
      ∙ drop_at (take k t) (take n s) k (length-take-le k t (omega arith))

  pub rest_paste : (m : ℕ) → k + n ≤ m → drop m (paste t k s n) ≡ drop m t
  rest_paste m h =
      let z : k + n + (m - (k + n)) ≡ m = omega arith in
      ap (λ (j : ℕ). drop j (paste t k s n)) (sym z)
      ∙ sym (drop-drop (m - (k + n)) (k + n) (paste t k s n))
      ∙ ap (drop (m - (k + n))) (drop-paste t k s n (omega arith) long)
      ∙ drop-drop (m - (k + n)) (k + n) t
      ∙ ap (λ (j : ℕ). drop j t) z

  pub byte_paste : (m : ℕ) → k + n ≤ m → get_or (paste t k s n) m 0 ≡ get_or t m 0
  byte_paste m h =
      let z : m + 0 ≡ m = omega arith in
      ap (λ (j : ℕ). get_or (paste t k s n) j 0) (sym z)
      ∙ sym (get_or-drop m (paste t k s n) 0 0)
      ∙ ap (λ (l : List ℕ). get_or l 0 0) (rest_paste m h)
      ∙ get_or-drop m t 0 0
      ∙ ap (λ (j : ℕ). get_or t j 0) z

-- ---- the first n in memory

-- what an index beyond the last reads
abbrev pub no_literal : GroundLiteral
no_literal = record { usage = 0; row = [] }

module _ (memory : List ℕ) where
  pub length_ground : (n : ℕ) → length (ground_in n memory) ≡ n
  length_ground zero = refl
  length_ground (suc n) =
      length-append (ground_in n memory) (ground_at memory n ∷ []) ∙ ap (λ (k : ℕ). k + 1) (length_ground n) ∙ add-one n

  -- that at an index
  pub ground_at_lem : (n i : ℕ) → i < n → get_or (ground_in n memory) i no_literal ≡ ground_at memory i
  ground_at_lem zero i h = absurd (omega arith)
  ground_at_lem (suc n) i h = go (ltb i n) refl (λ l. ground_at_lem n i l)
    where
      go : (b : Bool) → ltb i n ≡ b → (i < n → get_or (ground_in n memory) i no_literal ≡ ground_at memory i)
          → get_or (ground_in (suc n) memory) i no_literal ≡ ground_at memory i
      go true t f =
          let l = ltb-true i n t in
          let k = length_ground n in
          get_or-append (ground_in n memory) (ground_at memory n ∷ []) no_literal i (omega arith) ∙ f l
      go false t f =
          let l = ltb-false i n t in
          let k = length_ground n in
          let e : n ≡ i = omega arith in
          get_or_at (ground_in n memory) (ground_at memory n) [] no_literal i (k ∙ e) ∙ ap (ground_at memory) e

  pub ground_in_lem : (n i : ℕ) → i < n → In (ground_at memory i) (ground_in n memory)
  ground_in_lem n i h =
      let k = length_ground n in
      subst (λ (l : GroundLiteral). In l (ground_in n memory)) (ground_at_lem n i h) (get_d_in (ground_in n memory) i no_literal (omega arith))

  -- as a test sees it
  pub ground_test : (n i : ℕ) → i < n → (test : GroundLiteral → Bool) (r : Bool) → r ≡ test (ground_at memory i)
      → test (get_or (ground_in n memory) i no_literal) ≡ r
  ground_test n i h test r e = ap test (ground_at_lem n i h) ∙ sym e

  -- fewer of them
  pub take_ground : (n m : ℕ) → n ≤ m → take n (ground_in m memory) ≡ ground_in n memory
  take_ground n zero h = let e : n ≡ 0 = omega arith in ap (λ (k : ℕ). take k []) e ∙ ap (λ (k : ℕ). ground_in k memory) (sym e)
  take_ground n (suc m) h = go (ltb m n) refl (λ l. take_ground n m l)
    where
      go : (b : Bool) → ltb m n ≡ b → (n ≤ m → take n (ground_in m memory) ≡ ground_in n memory)
          → take n (ground_in (suc m) memory) ≡ ground_in n memory
      go true t f =
          let l = ltb-true m n t in
          let k = length_ground (suc m) in
          let e : suc m ≡ n = omega arith in
          take_all n (ground_in (suc m) memory) (omega arith) ∙ ap (λ (k : ℕ). ground_in k memory) e
      go false t f =
          let l = ltb-false m n t in
          let k = length_ground m in
          take-append-le n (ground_in m memory) (ground_at memory m ∷ []) (omega arith) ∙ f l

-- ---- one more

module _ (memory row : List ℕ) (n c : ℕ) (size : length memory ≡ grounded_bytes) (few : n < max_ground) (whole : length row ≡ 8) where
  abbrev pub with_row : List ℕ
  with_row = paste memory (8 * n) row (length row)

  abbrev pub written : List ℕ
  written = set with_row (usages_at + n) c

  room : 8 * n + length row ≤ length memory
  room = omega arith

  row_kept : (i : ℕ) → i < n → take 8 (drop (8 * i) written) ≡ take 8 (drop (8 * i) memory)
  row_kept i h =
      part_set with_row (8 * i) 8 (usages_at + n) c (omega arith)
      ∙ part_paste memory (8 * n) row (length row) room (omega arith) (8 * i) 8 (omega arith)

  row_new : take 8 (drop (8 * n) written) ≡ row
  row_new =
      part_set with_row (8 * n) 8 (usages_at + n) c (omega arith)
      ∙ ap (λ (k : ℕ). take k (drop (8 * n) with_row)) (sym whole)
      ∙ part_new memory (8 * n) row (length row) room (omega arith)
      ∙ take_all (length row) row (omega arith)

  usage_kept : (i : ℕ) → i < n → get_or written (usages_at + i) 0 ≡ get_or memory (usages_at + i) 0
  usage_kept i h =
      get_or-set_other with_row (usages_at + n) (usages_at + i) c 0 (λ e. omega arith)
      ∙ byte_paste memory (8 * n) row (length row) room (omega arith) (usages_at + i) (omega arith)

  length_row : length with_row ≡ grounded_bytes
  length_row = length-paste memory (8 * n) row (length row) room (omega arith) ∙ size

  kept_so_far : (i : ℕ) → i ≤ n → ground_in i written ≡ ground_in i memory
  kept_so_far zero h = refl
  kept_so_far (suc i) h = ap₂ (λ (l : List GroundLiteral) (g : GroundLiteral). l ++ (g ∷ [])) (kept_so_far i (omega arith)) at_i
    where
      at_i : ground_at written i ≡ ground_at memory i
      at_i = λ j. record { usage = usage_kept i (omega arith) j; row = row_kept i (omega arith) j }

  pub ground_more : ground_in (n + 1) written ≡ ground_in n memory ++ (record { usage = c; row = row } ∷ [])
  ground_more =
      ap (λ (k : ℕ). ground_in k written) (add-one n)
      ∙ ap₂ (λ (l : List GroundLiteral) (g : GroundLiteral). l ++ (g ∷ [])) (kept_so_far n (omega arith)) at_n
    where
      at_n : ground_at written n ≡ record { usage = c; row = row }
      at_n = λ j. record { usage = get_or-set_same with_row (usages_at + n) c 0 (let l = length_row in omega arith) j; row = row_new j }

  pub counts_kept : drop counts_at written ≡ drop counts_at memory
  counts_kept =
      drop-set-lt counts_at with_row (usages_at + n) c (omega arith)
      ∙ rest_paste memory (8 * n) row (length row) room (omega arith) counts_at (omega arith)

  -- both, of the memory with the row in it
  pub put_ground : (mid : List ℕ) → mid ≡ with_row
      → (ground_in (n + 1) (set mid (usages_at + n) c) ≡ ground_in n memory ++ (record { usage = c; row = row } ∷ []))
      × (drop counts_at (set mid (usages_at + n) c) ≡ drop counts_at memory)
  put_ground mid e = (
    ap (λ (t : List ℕ). ground_in (n + 1) (set t (usages_at + n) c)) e ∙ ground_more,
    ap (λ (t : List ℕ). drop counts_at (set t (usages_at + n) c)) e ∙ counts_kept,
  )

-- how many there are then
pub ground_count : (memory : List ℕ) (n : ℕ) (memory₀ : List ℕ) (at : ℕ) (ls : List GroundLiteral)
    → ground_in n memory ≡ ground_in at memory₀ ++ ls → n ≡ at + length ls
ground_count memory n memory₀ at ls e =
    let a = length_ground memory n in
    let b = length_ground memory₀ at in
    let c = length-append (ground_in at memory₀) ls in
    let d = ap length e in
    omega arith

-- ---- the row of one literal

abbrev row_literal : Time → List ℕ → List ℕ → List ℕ → GroundLiteral
row_literal t head act row = record { usage = usage_for t (byte row 0); row = bound_row head act row }

abbrev row_counts : Time → List ℕ → Bool
row_counts t row = not (eqb (usage_for t (byte row 0)) 0)

module _ (t : Time) (head act rows : List ℕ) (at k : ℕ) (e : k ≡ usage_for t (get_or rows at 0)) (first : List GroundLiteral) where
  abbrev one : List GroundLiteral
  one = row_literals t head act (take 8 (drop at rows) ∷ [])

  abbrev one_if : Bool → List GroundLiteral
  one_if b = map (row_literal t head act) (keep_if (not b) (take 8 (drop at rows)) [])

  usage_is : usage_for t (byte (take 8 (drop at rows)) 0) ≡ k
  usage_is = ap (usage_for t) (part_first rows at) ∙ sym e

  one_is : one ≡ one_if (eqb k 0)
  unfolding row_literals
  one_is = ap (λ (c : ℕ). one_if (eqb c 0)) usage_is

  pub row_none : k ≡ 0 → first ≡ first ++ one
  row_none h = sym (ap (λ (l : List GroundLiteral). first ++ l) (one_is ∙ ap one_if (eq-eqb k 0 h)) ∙ append-nil first)

  pub row_one : (k ≡ 0 → ⊥) → (row : List ℕ) → row ≡ bound_row head act (take 8 (drop at rows)) → {next : List GroundLiteral}
      → next ≡ first ++ (record { usage = k; row = row } ∷ []) → next ≡ first ++ one
  row_one h row f g =
      g
      ∙ ap (λ (l : List GroundLiteral). first ++ l)
      (ap₂ {C = List GroundLiteral} (λ c r. record { usage = c; row = r } ∷ []) (sym usage_is) f
      ∙ sym (one_is ∙ ap one_if (ne_eqb k 0 h)))

-- ---- the rows of an action's literals

module _ (t : Time) (head act : List ℕ) where
  row_literals_few : (l : List (List ℕ)) → length (row_literals t head act l) ≤ length l
  unfolding row_literals
  row_literals_few l =
      let f = filter_few (row_counts t) l in
      let m = length-map (filter_by (row_counts t) l) (row_literal t head act) in
      omega arith

  row_literals_snoc : (l : List (List ℕ)) (row : List ℕ)
      → row_literals t head act (l ++ (row ∷ [])) ≡ row_literals t head act l ++ row_literals t head act (row ∷ [])
  unfolding row_literals
  row_literals_snoc l row =
      ap (map (row_literal t head act)) (filter_append (row_counts t) l (row ∷ []))
      ∙ map-append (row_literal t head act) (filter_by (row_counts t) l) (filter_by (row_counts t) (row ∷ []))

  -- before the first, and one row more
  module _ (first : List GroundLiteral) (rows : List ℕ) where
    pub rows_begin : first ≡ first ++ row_literals t head act (rows_in 0 rows)
    unfolding row_literals
    rows_begin = sym (append-nil first)

    pub rows_more : (j : ℕ) {before after : List GroundLiteral} → before ≡ first ++ row_literals t head act (rows_in j rows)
        → after ≡ before ++ row_literals t head act (take 8 (drop (8 * j) rows) ∷ [])
        → after ≡ first ++ row_literals t head act (rows_in (j + 1) rows)
    rows_more j e f =
        let row : List ℕ = take 8 (drop (8 * j) rows) in
        f
        ∙ ap (λ (l : List GroundLiteral). l ++ row_literals t head act (row ∷ [])) e
        ∙ append_assoc first (row_literals t head act (rows_in j rows)) (row_literals t head act (row ∷ []))
        ∙ ap (λ (l : List GroundLiteral). first ++ l)
        (sym (ap (row_literals t head act) (rows_snoc j rows) ∙ row_literals_snoc (rows_in j rows) row))

-- where the loop over an action's rows stands
pub record InRows (t : Time) (head act rows : List ℕ) (at k : ℕ) (memory₀ memory : List ℕ) (n i : ℕ) : Type 0 where
  pub reach : i ≤ k
  pub sized : length memory ≡ length memory₀
  pub literals : ground_in n memory ≡ ground_in at memory₀ ++ row_literals t head act (rows_in i rows)
  pub counts : drop counts_at memory ≡ drop counts_at memory₀

-- each row is one at most
pub rows_few : (t : Time) (head act rows : List ℕ) (i at : ℕ) (memory₀ memory : List ℕ) (n : ℕ)
    → ground_in n memory ≡ ground_in at memory₀ ++ row_literals t head act (rows_in i rows) → (at ≤ n) × (n ≤ at + i)
rows_few t head act rows i at memory₀ memory n e =
    let c = ground_count memory n memory₀ at (row_literals t head act (rows_in i rows)) e in
    let f = row_literals_few t head act (rows_in i rows) in
    let l = length_rows 8 i rows in
    (omega arith, omega arith)

-- ---- of a domain that was read

-- the ground literals of an action's rows are those of its literals
row_ground : (t : Time) (head : List ℕ) (g : GroundAction) (ls : List Literal)
    → ((l : Literal) → In l ls → bound_row head (ground_row g) (literal_row l) ≡ pattern_row g.binding l.atom)
    → row_literals t head (ground_row g) (map literal_row ls)
    ≡ map (λ (l : Literal). record { usage = usage_for t (role_number l.role); row = pattern_row g.binding l.atom })
    (filter_by (λ (l : Literal). not (eqb (usage_for t (role_number l.role)) 0)) ls)
unfolding row_literals
row_ground t head g [] h = refl
row_ground t head g (l ∷ ls) h =
    go (not (eqb (usage_for t (role_number l.role)) 0)) (row_ground t head g ls (λ l m. h l (Memᴰ.tail m)))
  where
    by_literal : Literal → GroundLiteral
    by_literal l = record { usage = usage_for t (role_number l.role); row = pattern_row g.binding l.atom }

    rows : List (List ℕ)
    rows = filter_by (row_counts t) (map literal_row ls)

    literals : List Literal
    literals = filter_by (λ (l : Literal). not (eqb (usage_for t (role_number l.role)) 0)) ls

    go : (b : Bool) → map (row_literal t head (ground_row g)) rows ≡ map by_literal literals
        → map (row_literal t head (ground_row g)) (keep_if b (literal_row l) rows) ≡ map by_literal (keep_if b l literals)
    go true e =
        ap₂ (λ (r : List ℕ) (ms : List GroundLiteral). record { usage = usage_for t (role_number l.role); row = r } ∷ ms)
        (h l (Memᴰ.head refl)) e
    go false e = e

module _ {D : Domain} {head table : List ℕ} (H : Held D head table) where
  -- the rows of its action, as the code finds them, behind others
  pub held_ground : (g : GroundAction) → GroundFits D g → (t : Time) (act : List ℕ) → act ≡ ground_row g
      → (r : Span) → SpanOf D g.action table r → (first : List GroundLiteral) {whole : List GroundLiteral}
      → whole ≡ first ++ row_literals t head act (rows_in (r.to - r.from) (take (8 * r.to - 8 * r.from) (drop (8 * r.from) table)))
      → whole ≡ first ++ ground_literals D t g
  unfolding ground_literals
  held_ground g F t act f r S first e =
      let part : List ℕ = take (8 * r.to - 8 * r.from) (drop (8 * r.from) table) in
      e
      ∙ ap (λ (l : List GroundLiteral). first ++ l)
      (ap (λ (x : List ℕ). row_literals t head x (rows_in (r.to - r.from) part)) f
      ∙ ap (row_literals t head (ground_row g)) (held_rows H g.action F.listed r S)
      ∙ row_ground t head g (action D g.action).lits (held_bound H g F))

-- ---- each is a literal of its action, so bound

pub record GroundOf (D : Domain) (g : GroundAction) (x : GroundLiteral) : Type 0 where
  pub literal : Literal
  pub listed : In literal (action D g.action).lits
  pub row_is : x.row ≡ pattern_row g.binding literal.atom

pub ground_of_lem : (D : Domain) (t : Time) (g : GroundAction) (x : GroundLiteral) → In x (ground_literals D t g) → GroundOf D g x
unfolding ground_literals
ground_of_lem D t g x m =
    let r = map_in _ _ m in
    record {
      literal = r.0;
      listed = (filter_in _ (action D g.action).lits r.1).0;
      row_is = ap (λ (x : GroundLiteral). x.row) r.2;
    }

pub formed_of : {D : Domain} {head : List ℕ} → HeadOf D head → (g : GroundAction) → GroundFits D g → {x : GroundLiteral} → GroundOf D g x
    → Formed head x.row
formed_of {D} {head} H g F r =
    subst (Formed head) (sym r.row_is)
    (formed_pattern head g.binding r.literal.atom
    (H.bounded.literal_arity (action D g.action) (listed_in D g.action F.listed) r.literal r.listed
    ∙ sym (H.arities r.literal.atom.rel)))

-- of an event of the step
pub step_of : {D : Domain} {head : List ℕ} {es : List Event} {memory : List ℕ} {total : ℕ} → Grounded D head es memory total
    → (x : GroundLiteral) → In x (ground_in total memory) → (e : Event) × In e es × GroundOf D e.act x
step_of {D} G x m =
    let p = flat_map_in (λ (part : List GroundLiteral). part) _ (subst (In x) G.laid.filled m) in
    let e = map_in _ _ p.1 in
    (e.0, e.1, ground_of_lem D _ e.0.act x (subst (In x) e.2 p.2))

pub step_formed : {D : Domain} {head : List ℕ} {es : List Event} {memory : List ℕ} {total : ℕ} → Grounded D head es memory total
    → (x : GroundLiteral) → In x (ground_in total memory) → Formed head x.row
step_formed G x m = let r = step_of G x m in formed_of G.says r.0.act (G.fit r.0 r.1) r.2

-- ---- each row has the arity of its relation

module _ {D : Domain} {head : List ℕ} (H : HeadOf D head) where
  pub ground_sized : (t : Time) (g : GroundAction) → GroundFits D g → EachSized head (ground_literals D t g)
  unfolding ground_literals pattern_row
  ground_sized t g F x m =
      let r = map_in _ _ m in
      let l = r.0 in
      let i = (filter_in _ (action D g.action).lits r.1).0 in
      ap (λ (x : GroundLiteral). byte x.row 1) r.2
      ∙ H.bounded.literal_arity (action D g.action) (listed_in D g.action F.listed) l i
      ∙ sym (H.arities l.atom.rel)
      ∙ sym (ap (λ (x : GroundLiteral). arity_in head (byte x.row 0)) r.2)

-- in memory
pub step_sized : {D : Domain} {head : List ℕ} {es : List Event} {memory : List ℕ} {total : ℕ} → Grounded D head es memory total
    → EachSized head (ground_in total memory)
step_sized {D} {head} G x m =
    let p = flat_map_in (λ (part : List GroundLiteral). part) _ (subst (In x) G.laid.filled m) in
    let e = map_in _ _ p.1 in
    ground_sized G.says _ e.0.act (G.fit e.0 e.1) x (subst (In x) e.2 p.2)

-- ---- the events' one behind the other

pub laid_none : (memory : List ℕ) → Laid [] memory 0
unfolding flat_map
laid_none memory = record { filled = refl; counted = λ i h. absurd (omega arith) }

-- a count is a byte behind the others
count_at : (t u : List ℕ) → drop counts_at u ≡ drop counts_at t → (i : ℕ) → get_or u (counts_at + i) 0 ≡ get_or t (counts_at + i) 0
count_at t u e i = sym (get_or-drop counts_at u i 0) ∙ ap (λ (l : List ℕ). get_or l i 0) e ∙ get_or-drop counts_at t i 0

-- a store behind all of them leaves them
pub ground_beside : (memory : List ℕ) (k v : ℕ) → counts_at ≤ k → (n : ℕ) → n ≤ max_ground → ground_in n (set memory k v) ≡ ground_in n memory
ground_beside memory k v h zero l = refl
ground_beside memory k v h (suc n) l =
    ap₂ (λ (l : List GroundLiteral) (g : GroundLiteral). l ++ (g ∷ [])) (ground_beside memory k v h n (omega arith)) at_n
  where
    at_n : ground_at (set memory k v) n ≡ ground_at memory n
    at_n =
        λ j. record {
          usage = get_or-set_other memory k (usages_at + n) v 0 (λ e. omega arith) j;
          row = part_set memory (8 * n) 8 k v (omega arith) j;
        }

-- an event more, whose count is stored behind those before it
pub laid_more : {parts : List (List GroundLiteral)} {memory : List ℕ} {n : ℕ} → Laid parts memory n → (part : List GroundLiteral) (i : ℕ)
    → length parts ≡ i → (next : List ℕ) (m : ℕ) → counts_at + i < length next → m ≤ max_ground
    → ground_in m next ≡ ground_in n memory ++ part → drop counts_at next ≡ drop counts_at memory
    → Laid (parts ++ (part ∷ [])) (set next (counts_at + i) (m - n)) m
laid_more {parts} {memory} {n} L part i e next m h l f g = record { filled = in_all; counted = λ j k. go j k (eqb j i) refl }
  where
    in_all : ground_in m (set next (counts_at + i) (m - n)) ≡ in_one (parts ++ (part ∷ []))
    in_all =
        ground_beside next (counts_at + i) (m - n) (omega arith) m l
        ∙ f
        ∙ ap (λ (l : List GroundLiteral). l ++ part) L.filled
        ∙ sym (flat_map_snoc (λ (part : List GroundLiteral). part) parts part)

    go : (j : ℕ) → j < length (parts ++ (part ∷ [])) → (b : Bool) → eqb j i ≡ b
        → get_or (set next (counts_at + i) (m - n)) (counts_at + j) 0 ≡ length (get_or (parts ++ (part ∷ [])) j [])
    go j k true t =
        let q = eqb-true j i t in
        let c = ground_count next m memory n part f in
        let d : m - n ≡ length part = omega arith in
        ap (λ (k : ℕ). get_or (set next (counts_at + i) (m - n)) (counts_at + k) 0) q
        ∙ get_or-set_same next (counts_at + i) (m - n) 0 h
        ∙ d
        ∙ sym (ap length (get_or_at parts part [] [] j (e ∙ sym q)))
    go j k false t =
        let q = eqb-false j i t in
        let s = length-append parts (part ∷ []) in
        get_or-set_other next (counts_at + i) (counts_at + j) (m - n) 0 (λ z. q (omega arith))
        ∙ count_at memory next g j
        ∙ L.counted j (omega arith)
        ∙ sym (ap length (get_or-append parts (part ∷ []) [] j (omega arith)))

module _ (D : Domain) (es : List Event) (i : ℕ) {memory : List ℕ} {n : ℕ} where
  pub laid_event : i < length es → Laid (take i (map (event_literals D) es)) memory n
      → (next : List ℕ) (m : ℕ) → counts_at + i < length next → m ≤ max_ground
      → ground_in m next ≡ ground_in n memory ++ event_literals D (get_or es i no_event) → drop counts_at next ≡ drop counts_at memory
      → Laid (take (i + 1) (map (event_literals D) es)) (set next (counts_at + i) (m - n)) m
  laid_event h L next m r l f g =
      let k = length-map es (event_literals D) in
      subst (λ (parts : List (List GroundLiteral)). Laid parts (set next (counts_at + i) (m - n)) m)
      (ap (λ (part : List GroundLiteral). take i (map (event_literals D) es) ++ (part ∷ []))
      (sym (get_d_map (event_literals D) es i no_event [] h))
      ∙ sym (ap (λ (k : ℕ). take k (map (event_literals D) es)) (add-one i) ∙ take-suc (map (event_literals D) es) i [] (omega arith)))
      (laid_more L (event_literals D (get_or es i no_event)) i (length-take-le i (map (event_literals D) es) (omega arith)) next m r l f g)

  pub laid_all : length es ≤ i → Laid (take i (map (event_literals D) es)) memory n → Laid (map (event_literals D) es) memory n
  laid_all h L =
      let l = length-map es (event_literals D) in
      subst (λ (parts : List (List GroundLiteral)). Laid parts memory n) (take_all i (map (event_literals D) es) (omega arith)) L

-- where the loop over the waiting events stands
pub record InStep (head table : List ℕ) (w : Waiting) (memory₀ memory : List ℕ) (n i : ℕ) : Type 0 where
  pub reach : i ≤ w.count
  pub few : n ≤ max_literals * i
  pub sized : length memory ≡ length memory₀
  pub laid : (D : Domain) (es : List Event) → Held D head table → w ≡ waiting_of es → EventsFit D es
      → Laid (take i (map (event_literals D) es)) memory n
