-- Memories that are filled row by row, 8 bytes a row: laws of the functions that keep, join and put rows. Assumes nothing.
use mathlib.Core.Path.{◌≡◌, refl, sym, ap, ap₂, ◌∙◌, subst}
use mathlib.Core.Bool.{Bool, true, false, ◌||◌, not, cond}
use mathlib.Core.List.Memᴰ
use mathlib.Core.List.{List, [], ◌∷◌, ◌++◌, map, flat_map, append-nil}
use Prim.Native.Nat.{ℕ, zero, suc, ◌+◌, ◌-◌, ◌*◌, ◌≤◌, ◌<◌}
use native.Mathlib.Nat.{zero-add}
use native.Mathlib.Omega.{arith}
use lib.Dec.{eqb, ltb}
use lib.ListN.{length, take, drop, length-append, length-drop, take-append-drop}
use lib.Seq.{take_all, take-add, take-take, take-append-le, take-append-add, take_at, drop_at, drop-drop, drop-append-add, length-take-le}
use lib.Seq.{paste}
use borrow.Author.Tests.{lt-ltb, le-ltb, ltb-true, ltb-false}
use Rattle.std.specs.Prelude.{Option, Some, None, IfSome, unwrap_or}
use Rattle.std.specs.Bool.{MatchBool}
use Rattle.std.specs.List.{HoldsAt, AllWithin}
use Rattle.std.proofs.lemmas.List.FromFn.{get_or-range_with_len, length-range_with_len}
use Rattle.records.specs.Lists.{In, any, keep_if, filter_by, same_list, dedup, below}
use Rattle.records.specs.Memory.{over}
use Rattle.records.proofs.Lists.{off, clash, in_any, any_in, in_snoc, any_append, filter_append, filter_in, filter_few, dedup_in, flat_map_append, flat_map_snoc}
use Rattle.records.proofs.Memory.{length_over, over_paste}
use Rattle.literals.specs.Held.{rows_in}
use Rattle.literals.proofs.Indices.{below_snoc, below_in, below_less}
use Rattle.literals.proofs.Rows.{length_part, rows_last, rows_snoc, rows_whole}
use Rattle.literals.proofs.Tables.{length_flat, rows_flat}
use Rattle.literals.proofs.KeyRows.{length_rows}
use Rattle.run_semantics.specs.RunFile.{max_facts}
use Rattle.run_semantics.specs.Play.{work_bytes}
use Rattle.store.specs.Held.{has_row}
use Rattle.events.specs.Held.{is_pattern, grounded_bytes}
use Rattle.effects.specs.Held.{scratch_bytes, effects_in, literals_in, flat, join_row, join_rows, at_most, any_meets, is_struck, stays, count_of}
use Rattle.effects.specs.Held.{kept_of}
use Rattle.effects.proofs.Joins.{joined_rows, join_snoc, join_append}

-- ---- the first rows of a memory

-- every row has 8 bytes
abbrev pub Whole : List (List ℕ) → Type 0
Whole rows = (row : List ℕ) → In row rows → length row ≡ 8

-- and those from it on
pub rows_rest : (n i : ℕ) (t : List ℕ) → i ≤ n → rows_in n t ≡ rows_in i t ++ rows_in (n - i) (drop (8 * i) t)
rows_rest n zero t h = let e : n ≡ n - 0 = omega arith in ap (λ (k : ℕ). rows_in k t) e
rows_rest zero (suc i) t h = absurd (omega arith)
rows_rest (suc n) (suc i) t h =
    let e : 8 + 8 * i ≡ 8 * suc i = omega arith in
    let f : n - i ≡ suc n - suc i = omega arith in
    ap {B = List (List ℕ)} (λ l. take 8 t ∷ l)
    (rows_rest n i (drop 8 t) (omega arith)
    ∙ ap₂ (λ (k : ℕ) (r : List ℕ). rows_in i (drop 8 t) ++ rows_in k r) f (drop-drop (8 * i) 8 t ∙ ap (λ (k : ℕ). drop k t) e))

-- a test of the numbers below a bound, as it is told of each
pub any_told : (p : ℕ → Bool) (n : ℕ) (r : Bool)
    → MatchBool r ((k : ℕ) × (k < length (below n)) × HoldsAt (λ j. p j ≡ true) (below n) k) (AllWithin (λ j. p j ≡ false) (below n) 0 (length (below n)))
    → r ≡ any p (below n)
any_told p n true h =
    let l : h.0 < n = omega (arith, length-range_with_len 0 n, h.1) in
    sym (in_any p (below_in n l) (ap p (sym (get_or-range_with_len 0 n h.0 0 l ∙ zero-add h.0)) ∙ h.2 0))
any_told p n false h =
    sym (off (any p (below n)) (λ t.
    let m = any_in p (below n) t in
    let l = below_less n m.1 in
    let e = length-range_with_len 0 n in
    clash m.2 (ap p (sym (get_or-range_with_len 0 n m.0 0 l ∙ zero-add m.0)) ∙ h m.0 0 (omega arith) (omega arith))))

-- a test of the first rows, by their numbers
pub any_rows : (p : List ℕ → Bool) (n : ℕ) (t : List ℕ) → any (λ j. p (take 8 (drop (8 * j) t))) (below n) ≡ any p (rows_in n t)
any_rows p zero t = refl
any_rows p (suc n) t =
    ap (any (λ j. p (take 8 (drop (8 * j) t)))) (below_snoc n)
    ∙ any_append (λ j. p (take 8 (drop (8 * j) t))) (below n) (n ∷ [])
    ∙ ap (λ (b : Bool). b || any p (take 8 (drop (8 * n) t) ∷ [])) (any_rows p n t)
    ∙ sym (any_append p (rows_in n t) (take 8 (drop (8 * n) t) ∷ []))
    ∙ ap (any p) (sym (rows_last n t))

pub flat_rows : (n : ℕ) (t : List ℕ) → flat (rows_in n t) ≡ take (8 * n) t
unfolding flat_map
flat_rows zero t = refl
flat_rows (suc n) t =
    let e : 8 + 8 * n ≡ 8 * suc n = omega arith in
    ap (λ (l : List ℕ). take 8 t ++ l) (flat_rows n (drop 8 t)) ∙ sym (take-add 8 (8 * n) t) ∙ ap (λ (k : ℕ). take k t) e

pub whole_append : (xs ys : List (List ℕ)) → Whole xs → Whole ys → Whole (xs ++ ys)
whole_append [] ys v w row m = w row m
whole_append (x ∷ xs) ys v w row (Memᴰ.head e) = v row (Memᴰ.head e)
whole_append (x ∷ xs) ys v w row (Memᴰ.tail m) = whole_append xs ys (λ r k. v r (Memᴰ.tail k)) w row m

pub length_whole : (rows : List (List ℕ)) → Whole rows → length (flat rows) ≡ 8 * length rows
length_whole rows w = length_flat (λ (row : List ℕ). row) rows w

-- a memory has its own rows
pub rows_own : (n : ℕ) (t : List ℕ) → 8 * n ≤ length t → t ≡ over (flat (rows_in n t)) t
unfolding over
rows_own n t h =
    sym (ap (λ (l : List ℕ). l ++ drop (length l) t) (flat_rows n t)
    ∙ ap (λ (k : ℕ). take (8 * n) t ++ drop k t) (length-take-le (8 * n) t h)
    ∙ take-append-drop (8 * n) t)

-- ---- a row read, and a row put behind others

pub append_row : (n : ℕ) (out row : List ℕ) → 8 * n + 8 ≤ length out → length row ≡ 8 → paste out (8 * n) row 8 ≡ over (flat (rows_in n out ++ (row ∷ []))) out
append_row n out row h e =
    let l = length_rows 8 n out in
    let k = length_whole (rows_in n out) (rows_whole n out (omega arith)) in
    let z : length (flat (rows_in n out)) ≡ 8 * n = omega arith in
    ap (λ (t : List ℕ). paste t (8 * n) row 8) (rows_own n out (omega arith))
    ∙ over_paste (flat (rows_in n out)) out row (8 * n) 8 z e
    ∙ ap (λ (l : List ℕ). over l out) (sym (flat_map_snoc (λ (row : List ℕ). row) (rows_in n out) row))

-- ---- filled

over_again : (new more old : List ℕ) → over (new ++ more) (over new old) ≡ over (new ++ more) old
unfolding over
over_again new more old = ap (λ (l : List ℕ). (new ++ more) ++ l) behind
  where
    behind : drop (length (new ++ more)) (new ++ drop (length new) old) ≡ drop (length (new ++ more)) old
    behind = rw (length-append, drop-append-add, drop-drop)

pub fill_again : (rows more : List (List ℕ)) (old : List ℕ) → over (flat (rows ++ more)) (over (flat rows) old) ≡ over (flat (rows ++ more)) old
fill_again rows more old =
    let e = flat_map_append (λ (row : List ℕ). row) rows more in
    ap (λ (l : List ℕ). over l (over (flat rows) old)) e
    ∙ over_again (flat rows) (flat more) old
    ∙ ap (λ (l : List ℕ). over l old) (sym e)

-- what is new at the front of a scratch memory leaves its other sections
pub section_over : (new old : List ℕ) (at w : ℕ) → length new ≤ at → take w (drop at (over new old)) ≡ take w (drop at old)
unfolding over
section_over new old at w h =
    let e : at ≡ length new + (at - length new) = omega arith in
    ap (take w)
    (ap (λ (k : ℕ). drop k (new ++ drop (length new) old)) e
    ∙ drop-append-add new (drop (length new) old) (at - length new)
    ∙ drop-drop (at - length new) (length new) old
    ∙ ap (λ (k : ℕ). drop k old) (sym e))

pub effects_over : (new old : List ℕ) → length new ≤ work_bytes → effects_in (over new old) ≡ effects_in old
effects_over new old h = section_over new old grounded_bytes work_bytes (omega arith)

-- a part of a section, by its place in the whole memory
pub section_part : (t : List ℕ) (at w j k : ℕ) → at + w ≤ length t → j + k ≤ w
    → take k (drop (at + j) t) ≡ take k (drop j (take w (drop at t)))
section_part t at w j k l h =
    let m = drop at t in
    let e : w ≡ j + (w - j) = omega arith in
    let d = length-drop at t in
    sym
    (ap (λ (t : List ℕ). take k (drop j t)) (ap (λ (i : ℕ). take i m) e ∙ take-add j (w - j) m)
    ∙ ap (take k) (drop_at (take j m) (take (w - j) (drop j m)) j (length-take-le j m (omega arith)))
    ∙ take-take k (w - j) (drop j m) (omega arith)
    ∙ ap (take k) (drop-drop j at t))

-- so does a row behind the first n
pub row_others : (n : ℕ) (out row : List ℕ) {next : List ℕ} → 8 * n ≤ length out → length row ≡ 8 → n < max_facts
    → next ≡ over (flat (rows_in n out ++ (row ∷ []))) out → effects_in next ≡ effects_in out
row_others n out row h e g f =
    let w = length_whole (rows_in n out ++ (row ∷ [])) (whole_append (rows_in n out) (row ∷ []) (rows_whole n out h) (λ r i. ap length (Memᴰ.eq_of_singleton i) ∙ e)) in
    let c = length-append (rows_in n out) (row ∷ []) in
    let r = length_rows 8 n out in
    ap effects_in f ∙ effects_over (flat (rows_in n out ++ (row ∷ []))) out (omega arith)

pub effects_length : (scratch : List ℕ) → length scratch ≡ scratch_bytes → length (effects_in scratch) ≡ work_bytes
effects_length scratch l = length-take-le work_bytes (drop grounded_bytes scratch) (omega (arith, length-drop grounded_bytes scratch))

pub literals_length : (scratch : List ℕ) → length scratch ≡ scratch_bytes → length (literals_in scratch) ≡ grounded_bytes
literals_length scratch l = length-take-le grounded_bytes scratch (omega arith)

-- a section, written anew, and the other one then
module _ (scratch effects rest : List ℕ) (size : length scratch ≡ scratch_bytes) where
  pub effects_put : length effects ≡ work_bytes → effects_in (take grounded_bytes scratch ++ (effects ++ rest)) ≡ effects
  effects_put whole =
      ap (take work_bytes) (drop_at (take grounded_bytes scratch) (effects ++ rest) grounded_bytes (literals_length scratch size))
      ∙ take_at effects rest work_bytes whole

  pub literals_still : literals_in (take grounded_bytes scratch ++ (effects ++ rest)) ≡ literals_in scratch
  literals_still = take_at (take grounded_bytes scratch) (effects ++ rest) grounded_bytes (literals_length scratch size)

pub literals_put : (literals rest : List ℕ) → length literals ≡ grounded_bytes → literals_in (literals ++ rest) ≡ literals
literals_put literals rest whole = take_at literals rest grounded_bytes whole

-- the first n rows of out are these; behind them it is as before
pub record Filled (rows : List (List ℕ)) (n : ℕ) (out old : List ℕ) : Type 0 where
  pub count : n ≡ length rows
  pub room : 8 * n ≤ length old
  pub whole : Whole rows
  pub bytes : out ≡ over (flat rows) old

same_rows : (rows : List (List ℕ)) → map (λ (row : List ℕ). row) rows ≡ rows
same_rows [] = refl
same_rows (row ∷ rows) = ap {B = List (List ℕ)} (λ l. row ∷ l) (same_rows rows)

module _ {rows : List (List ℕ)} {n : ℕ} {out old : List ℕ} (F : Filled rows n out old) where
  pub filled_length : length out ≡ length old
  filled_length =
      let l = length_whole rows F.whole in
      let c = F.count in
      let r = F.room in
      ap length F.bytes ∙ length_over (flat rows) old (omega arith)

  pub filled_effects : n ≤ max_facts → effects_in out ≡ effects_in old
  filled_effects g =
      let l = length_whole rows F.whole in
      let c = F.count in
      ap effects_in F.bytes ∙ effects_over (flat rows) old (omega arith)

  pub filled_rows : rows_in n out ≡ rows
  unfolding over
  filled_rows =
      ap₂ rows_in F.count F.bytes
      ∙ rows_flat (λ (row : List ℕ). row) rows (drop (length (flat rows)) old) F.whole
      ∙ same_rows rows

  pub filled_more : (more : List (List ℕ)) → Whole more → {m : ℕ} {next : List ℕ} → m ≡ n + length more → 8 * m ≤ length old
      → next ≡ over (flat (rows_in n out ++ more)) out → Filled (rows ++ more) m next old
  filled_more more w {m} {next} e h f =
      record {
        count = let l = length-append rows more in let c = F.count in omega arith;
        room = h;
        whole = whole_append rows more F.whole w;
        bytes =
            f
            ∙ ap₂ (λ (rs : List (List ℕ)) (t : List ℕ). over (flat (rs ++ more)) t) filled_rows F.bytes
            ∙ fill_again rows more old;
      }

pub filled_own : (n : ℕ) (out : List ℕ) → 8 * n ≤ length out → Filled (rows_in n out) n out out
filled_own n out h = record { count = sym (length_rows 8 n out); room = h; whole = rows_whole n out h; bytes = rows_own n out h }

-- ---- rows that are kept

-- which are struck, by whether there is a pattern
pub struck_by : (struck : List (List ℕ)) (row : List ℕ) {b : Bool} → any is_pattern struck ≡ b
    → is_struck struck row ≡ cond b (any_meets struck row) (has_row row struck)
unfolding is_struck
struck_by struck row e = ap (λ (b : Bool). cond b (any_meets struck row) (has_row row struck)) e

module _ (struck : List (List ℕ)) (row : List ℕ) where
  pub left_out : is_struck struck row ≡ true → filter_by (stays struck) (row ∷ []) ≡ []
  left_out t = ap (λ (b : Bool). keep_if (not b) row []) t

  pub kept_in : is_struck struck row ≡ false → filter_by (stays struck) (row ∷ []) ≡ row ∷ []
  kept_in t = ap (λ (b : Bool). keep_if (not b) row []) t

  module _ (k : ℕ) (out : List ℕ) where
    pub left_count : is_struck struck row ≡ true → k ≡ k + length (filter_by (stays struck) (row ∷ []))
    left_count t = let l = ap length (left_out t) in omega arith

    pub left_rows : is_struck struck row ≡ true → 8 * k ≤ length out → out ≡ over (flat (rows_in k out ++ filter_by (stays struck) (row ∷ []))) out
    left_rows t h =
        rows_own k out h
        ∙ ap (λ (l : List (List ℕ)). over (flat l) out) (sym (ap (λ (l : List (List ℕ)). rows_in k out ++ l) (left_out t) ∙ append-nil (rows_in k out)))

-- those kept of the first i rows
pub kept_few : (struck : List (List ℕ)) (work : List ℕ) (i : ℕ) → length (kept_of struck work i) ≤ i
kept_few struck work i =
    let f = filter_few (stays struck) (rows_in i work) in
    let l = length_rows 8 i work in
    omega arith

-- they leave what is struck and added
pub kept_effects : (struck : List (List ℕ)) (work : List ℕ) (n : ℕ) → n ≤ max_facts → 8 * n ≤ length work → (old : List ℕ) {out : List ℕ}
    → out ≡ over (flat (kept_of struck work n)) old → effects_in out ≡ effects_in old
kept_effects struck work n small h old e =
    let q = kept_few struck work n in
    let l = length_whole (kept_of struck work n) (λ row i. rows_whole n work h row (filter_in (stays struck) (rows_in n work) i).0) in
    ap effects_in e ∙ effects_over (flat (kept_of struck work n)) old (omega arith)

-- the first m of some rows are these, and the others those
pub rows_split : (t : List ℕ) (m end : ℕ) (xs ys : List (List ℕ)) → m ≤ end → length xs ≡ m → rows_in end t ≡ xs ++ ys
    → (rows_in m t ≡ xs) × (rows_in (end - m) (drop (8 * m) t) ≡ ys)
rows_split t m end xs ys h l e =
    let rest : List (List ℕ) = rows_in (end - m) (drop (8 * m) t) in
    let f = sym (rows_rest end m t h) ∙ e in
    let k = length_rows 8 m t in (
      sym (take_at (rows_in m t) rest m k) ∙ ap (take m) f ∙ take_at xs ys m l,
      sym (drop_at (rows_in m t) rest m k) ∙ ap (drop m) f ∙ drop_at xs ys m l,
    )

one_few : {A : Type 0} (p : A → Bool) (x : A) → length (filter_by p (x ∷ [])) ≤ 1
one_few p x = go (p x)
  where
    go : (b : Bool) → length (keep_if b x []) ≤ 1
    go true = omega arith
    go false = omega arith

-- one row more
pub kept_next : (struck : List (List ℕ)) (work : List ℕ) (i : ℕ) → kept_of struck work (i + 1) ≡ kept_of struck work i ++ filter_by (stays struck) (take 8 (drop (8 * i) work) ∷ [])
kept_next struck work i = ap (filter_by (stays struck)) (rows_snoc i work) ∙ filter_append (stays struck) (rows_in i work) (take 8 (drop (8 * i) work) ∷ [])

pub kept_more : (struck : List (List ℕ)) (work : List ℕ) (i k : ℕ) {out old : List ℕ} → 8 * i + 8 ≤ length work → k ≤ i → 8 * i + 8 ≤ length old → Filled (kept_of struck work i) k out old
    → {m : ℕ} {next : List ℕ} → m ≡ k + length (filter_by (stays struck) (take 8 (drop (8 * i) work) ∷ []))
    → next ≡ over (flat (rows_in k out ++ filter_by (stays struck) (take 8 (drop (8 * i) work) ∷ []))) out
    → Filled (kept_of struck work (i + 1)) m next old
kept_more struck work i k {out} {old} h g r F {m} {next} e f =
    let o = one_few (stays struck) (take 8 (drop (8 * i) work)) in
    subst (λ (l : List (List ℕ)). Filled l m next old)
    (sym (kept_next struck work i))
    (filled_more F (filter_by (stays struck) (take 8 (drop (8 * i) work) ∷ [])) whole e (omega arith) f)
  where
    whole : Whole (filter_by (stays struck) (take 8 (drop (8 * i) work) ∷ []))
    whole row w = in_snoc {P = λ (r : List ℕ). length r ≡ 8} [] (take 8 (drop (8 * i) work)) (λ a n. absurd (Memᴰ.not-nil n)) (length_part 8 work (8 * i) h) row (filter_in (stays struck) (take 8 (drop (8 * i) work) ∷ []) w).0

-- ---- rows that join

pub most_inside : (n : ℕ) → n ≤ 1024 → n ≡ at_most 1024 n
most_inside n h = rw (le-ltb 1024 n h)

most_beyond : (n : ℕ) → 1024 < n → 1025 ≡ at_most 1024 n
most_beyond n h = rw (lt-ltb 1024 n h)

-- and the other way round
most_least : (r n : ℕ) → r ≡ at_most 1024 n → r ≤ 1024 → (n ≤ 1024) × (r ≡ n)
most_least r n e h = go (ltb 1024 n) refl e
  where
    go : (b : Bool) → ltb 1024 n ≡ b → r ≡ cond b 1025 n → (n ≤ 1024) × (r ≡ n)
    go true t f = absurd (omega arith)
    go false t f = (ltb-false 1024 n t, f)

most_more : (r n : ℕ) → r ≡ at_most 1024 n → 1024 < r → (1024 < n) × (r ≡ 1025)
most_more r n e h = go (ltb 1024 n) refl e
  where
    go : (b : Bool) → ltb 1024 n ≡ b → r ≡ cond b 1025 n → (1024 < n) × (r ≡ 1025)
    go true t f = (ltb-true 1024 n t, f)
    go false t f = let k = ltb-false 1024 n t in absurd (omega arith)

-- a count that is told fits
pub told_few : (n : ℕ) (r : Option ℕ) → n ≤ 1024 → IfSome r (λ count. (n ≤ count) × (count ≤ 1024)) → (n ≤ count_of r) × (count_of r ≤ 1025)
told_few n None g h = (omega arith, omega arith)
told_few n (Some count) g h = (h.0, omega arith)

pub told_or : (r : Option ℕ) → unwrap_or r 1025 ≡ count_of r
told_or None = refl
told_or (Some n) = refl

pub told_is : (k n : ℕ) (r : Option ℕ) → r ≡ Some n → IfSome r (λ count. (k ≤ count) × (count ≤ 1024)) → (k ≤ n) × (n ≤ 1024)
told_is k n r e h = subst (λ r. IfSome r (λ count. (k ≤ count) × (count ≤ 1024))) e h

module _ (n : ℕ) (out : List ℕ) (g : n ≤ 1024) (h : 8192 ≤ length out) {row at : List ℕ} (e : row ≡ at) where
  joined_there : has_row row (rows_in n out) ≡ true → join_row (rows_in n out) at ≡ rows_in n out
  joined_there t = ap (λ (b : Bool). cond b (rows_in n out) (rows_in n out ++ (at ∷ []))) (ap (λ (r : List ℕ). has_row r (rows_in n out)) (sym e) ∙ t)

  joined_new : has_row row (rows_in n out) ≡ false → join_row (rows_in n out) at ≡ rows_in n out ++ (at ∷ [])
  joined_new t = ap (λ (b : Bool). cond b (rows_in n out) (rows_in n out ++ (at ∷ []))) (ap (λ (r : List ℕ). has_row r (rows_in n out)) (sym e) ∙ t)

  length_new : length (rows_in n out ++ (at ∷ [])) ≡ n + 1
  length_new = let l = length-append (rows_in n out) (at ∷ []) in let k = length_rows 8 n out in omega arith

  pub there_count : has_row row (rows_in n out) ≡ true → n ≡ at_most 1024 (length (join_row (rows_in n out) at))
  there_count t = most_inside n g ∙ ap (at_most 1024) (sym (ap length (joined_there t) ∙ length_rows 8 n out))

  pub there_rows : has_row row (rows_in n out) ≡ true → out ≡ over (flat (take 1024 (join_row (rows_in n out) at))) out
  there_rows t =
      let k = length_rows 8 n out in
      rows_own n out (omega arith)
      ∙ ap (λ (l : List (List ℕ)). over (flat l) out) (sym (ap (take 1024) (joined_there t) ∙ take_all 1024 (rows_in n out) (omega arith)))

  pub full_count : has_row row (rows_in n out) ≡ false → 1024 ≤ n → 1025 ≡ at_most 1024 (length (join_row (rows_in n out) at))
  full_count t m = let k = ap length (joined_new t) ∙ length_new in most_beyond (length (join_row (rows_in n out) at)) (omega arith)

  pub full_rows : has_row row (rows_in n out) ≡ false → 1024 ≤ n → out ≡ over (flat (take 1024 (join_row (rows_in n out) at))) out
  full_rows t m =
      let k = length_rows 8 n out in
      let z : length (rows_in n out) ≡ 1024 = omega arith in
      rows_own n out (omega arith)
      ∙ ap (λ (l : List (List ℕ)). over (flat l) out) (sym (ap (take 1024) (joined_new t) ∙ take_at (rows_in n out) (at ∷ []) 1024 z))

  pub new_count : has_row row (rows_in n out) ≡ false → n < 1024 → n + 1 ≡ at_most 1024 (length (join_row (rows_in n out) at))
  new_count t m = most_inside (n + 1) (omega arith) ∙ ap (at_most 1024) (sym (ap length (joined_new t) ∙ length_new))

  pub new_rows_lem : has_row row (rows_in n out) ≡ false → n < 1024 → {next : List ℕ} → next ≡ over (flat (rows_in n out ++ (row ∷ []))) out
      → next ≡ over (flat (take 1024 (join_row (rows_in n out) at))) out
  new_rows_lem t m f =
      let k = length_new in
      f
      ∙ ap (λ (r : List ℕ). over (flat (rows_in n out ++ (r ∷ []))) out) e
      ∙ ap (λ (l : List (List ℕ)). over (flat l) out) (sym (ap (take 1024) (joined_new t) ∙ take_all 1024 (rows_in n out ++ (at ∷ [])) (omega arith)))

-- those joined after j of the rows that are added
abbrev pub joined_of : List (List ℕ) → List ℕ → ℕ → List (List ℕ)
joined_of rows adds j = join_rows rows (rows_in j adds)

-- what joins stands behind
abbrev pub behind : List (List ℕ) → List (List ℕ) → List (List ℕ)
behind rows more = filter_by (λ (row : List ℕ). not (has_row row rows)) (dedup (same_list eqb) more)

pub joined_next : (rows : List (List ℕ)) (adds : List ℕ) (j : ℕ) → joined_of rows adds (j + 1) ≡ join_row (joined_of rows adds j) (take 8 (drop (8 * j) adds))
joined_next rows adds j = ap (join_rows rows) (rows_snoc j adds) ∙ join_snoc rows (rows_in j adds) (take 8 (drop (8 * j) adds))

joined_rest : (rows : List (List ℕ)) (adds : List ℕ) (m j : ℕ) → j ≤ m → joined_of rows adds m ≡ join_rows (joined_of rows adds j) (rows_in (m - j) (drop (8 * j) adds))
joined_rest rows adds m j h = ap (join_rows rows) (rows_rest m j adds h) ∙ join_append rows (rows_in j adds) (rows_in (m - j) (drop (8 * j) adds))

-- a row joins
module _ (rows : List (List ℕ)) (adds : List ℕ) (j n : ℕ) {out old : List ℕ} (h : 8 * j + 8 ≤ length adds) (g : n ≤ 1024) (w : 8192 ≤ length old) (F : Filled (joined_of rows adds j) n out old)
    {r : ℕ} {next : List ℕ} (e : r ≡ at_most 1024 (length (join_row (rows_in n out) (take 8 (drop (8 * j) adds)))))
    (f : next ≡ over (flat (take 1024 (join_row (rows_in n out) (take 8 (drop (8 * j) adds))))) out) where
  again : join_row (rows_in n out) (take 8 (drop (8 * j) adds)) ≡ joined_of rows adds (j + 1)
  again = ap (λ (l : List (List ℕ)). join_row l (take 8 (drop (8 * j) adds))) (filled_rows F) ∙ sym (joined_next rows adds j)

  -- the row, where it is new
  abbrev new : List (List ℕ)
  new = behind (joined_of rows adds j) (take 8 (drop (8 * j) adds) ∷ [])

  again_new : joined_of rows adds (j + 1) ≡ joined_of rows adds j ++ new
  again_new = joined_next rows adds j ∙ joined_rows (joined_of rows adds j) (take 8 (drop (8 * j) adds) ∷ [])

  whole_new : Whole new
  whole_new row w =
      in_snoc {P = λ (r : List ℕ). length r ≡ 8} [] (take 8 (drop (8 * j) adds)) (λ a n. absurd (Memᴰ.not-nil n)) (length_part 8 adds (8 * j) h) row
      (dedup_in (same_list eqb) (take 8 (drop (8 * j) adds) ∷ []) (filter_in (λ (row : List ℕ). not (has_row row (joined_of rows adds j))) (dedup (same_list eqb) (take 8 (drop (8 * j) adds) ∷ [])) w).0)

  joined_count : r ≡ at_most 1024 (length (joined_of rows adds (j + 1)))
  joined_count = e ∙ ap (λ (l : List (List ℕ)). at_most 1024 (length l)) again

  joined_bytes : next ≡ over (flat (take 1024 (joined_of rows adds (j + 1)))) out
  joined_bytes = f ∙ ap (λ (l : List (List ℕ)). over (flat (take 1024 l)) out) again

  -- with room for it
  pub joined_on : r ≤ 1024 → Filled (joined_of rows adds (j + 1)) r next old
  joined_on k =
      let z = most_least r (length (joined_of rows adds (j + 1))) joined_count k in
      let l = ap length again_new ∙ length-append (joined_of rows adds j) new in
      let c = F.count in
      subst (λ (l : List (List ℕ)). Filled l r next old) (sym again_new)
      (filled_more F new whole_new (omega arith) (omega arith)
      (joined_bytes
      ∙ ap (λ (l : List (List ℕ)). over (flat l) out)
      (take_all 1024 (joined_of rows adds (j + 1)) (omega arith) ∙ again_new ∙ ap (λ (l : List (List ℕ)). l ++ new) (sym (filled_rows F)))))

  module _ (m : ℕ) (i : j + 1 ≤ m) (k : 1024 < r) where
    abbrev rest : List (List ℕ)
    rest = behind (joined_of rows adds (j + 1)) (rows_in (m - (j + 1)) (drop (8 * (j + 1)) adds))

    again_rest : joined_of rows adds m ≡ joined_of rows adds (j + 1) ++ rest
    again_rest = joined_rest rows adds m (j + 1) i ∙ joined_rows (joined_of rows adds (j + 1)) (rows_in (m - (j + 1)) (drop (8 * (j + 1)) adds))

    -- without room: whatever comes later does not change the answer
    pub stopped_count : r ≡ at_most 1024 (length (joined_of rows adds m))
    stopped_count =
        let z = most_more r (length (joined_of rows adds (j + 1))) joined_count k in
        let l = ap length again_rest ∙ length-append (joined_of rows adds (j + 1)) rest in
        z.1 ∙ most_beyond (length (joined_of rows adds m)) (omega arith)

    pub stopped_rows : next ≡ over (flat (take 1024 (joined_of rows adds m))) old
    stopped_rows =
        let z = most_more r (length (joined_of rows adds (j + 1))) joined_count k in
        let c = F.count in
        let q : 1024 ≡ length (joined_of rows adds j) + (1024 - length (joined_of rows adds j)) = omega arith in
        let first = ap (take 1024) again_new ∙ ap (λ (k : ℕ). take k (joined_of rows adds j ++ new)) q ∙ take-append-add (joined_of rows adds j) new (1024 - length (joined_of rows adds j)) in
        joined_bytes
        ∙ ap₂ (λ (l : List (List ℕ)) (t : List ℕ). over (flat l) t) first F.bytes
        ∙ fill_again (joined_of rows adds j) (take (1024 - length (joined_of rows adds j)) new) old
        ∙ ap (λ (l : List (List ℕ)). over (flat l) old)
        (sym (ap (take 1024) again_rest ∙ take-append-le 1024 (joined_of rows adds (j + 1)) rest (omega arith) ∙ first))

-- all have joined
module _ {rows : List (List ℕ)} {n : ℕ} {out old : List ℕ} (g : n ≤ 1024) (F : Filled rows n out old) where
  pub joined_all : n ≡ at_most 1024 (length rows)
  joined_all = most_inside n g ∙ ap (at_most 1024) F.count

  pub joined_out : out ≡ over (flat (take 1024 rows)) old
  joined_out = let c = F.count in F.bytes ∙ ap (λ (l : List (List ℕ)). over (flat l) old) (sym (take_all 1024 rows (omega arith)))
