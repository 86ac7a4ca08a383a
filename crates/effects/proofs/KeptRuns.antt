-- Rows that are kept, a run of them at a time: those between two that are struck. Assumes nothing.
use mathlib.Core.Path.{◌≡◌, refl, sym, ap, ap₂, ◌∙◌, subst}
use mathlib.Core.Bool.{true, false}
use mathlib.Core.List.{List, [], ◌∷◌, ◌++◌, append-nil, append_assoc}
use Prim.Native.Nat.{ℕ, zero, suc, ◌+◌, ◌-◌, ◌*◌, ◌≤◌, ◌<◌}
use native.Mathlib.Omega.{arith}
use lib.Dec.{eqb}
use lib.ListN.{length, get_or, take, drop, length-drop}
use lib.Seq.{drop-drop, paste}
use Rattle.std.specs.Prelude.{Option, Some, None, IfSome, MatchOption}
use Rattle.records.specs.Lists.{In, any, same_list}
use Rattle.records.specs.Memory.{over}
use Rattle.records.proofs.Lists.{get_d_in, count_filter, count_not, filter_agree, flat_map_append}
use Rattle.records.proofs.Memory.{over_paste}
use Rattle.literals.specs.Held.{rows_in}
use Rattle.literals.proofs.Rows.{rows_last, rows_whole}
use Rattle.literals.proofs.KeyRows.{length_rows, rows_at}
use Rattle.store.specs.Held.{has_row, note_at, Indexed}
use Rattle.events.specs.Held.{is_pattern}
use Rattle.effects.specs.Held.{Once, is_struck, struck_of, FirstStruck, flat, stays, kept_of, place_or}
use Rattle.effects.proofs.Joins.{none_left, row_sound, row_self}
use Rattle.effects.proofs.FilledRows.{rows_rest, flat_rows, length_whole, rows_own, Filled, filled_length, filled_more}
use Rattle.effects.proofs.FilledRows.{struck_by, kept_in, left_count, left_rows, kept_next}
use Rattle.effects.proofs.IndexedRows.{left_indexed, Keeping, keeping_more}

-- ---- the first struck row

-- as it is looked for
pub first_told : (struck : List (List ℕ)) (work : List ℕ) (n from : ℕ) → from ≤ n → (r : Option ℕ)
    → MatchOption r ((j : ℕ) → from ≤ j → j < n → is_struck struck (take 8 (drop (8 * j) work)) ≡ false)
    (λ i. (from ≤ i) × (i < n) × (is_struck struck (take 8 (drop (8 * i) work)) ≡ true)
    × ((j : ℕ) → from ≤ j → j < i → is_struck struck (take 8 (drop (8 * j) work)) ≡ false))
    → IfSome r (λ i. i < n) × FirstStruck struck work n from (place_or n r)
first_told struck work n from b None h = (tt, record { behind = b; within = omega arith; others = h; found = λ l. absurd (omega arith) })
first_told struck work n from b (Some i) h = let l = h.1 in (l, record { behind = h.0; within = omega arith; others = h.3; found = λ l. h.2 })

-- ---- all that are struck are gone

-- a row behind the first ones is one of the rest
later_row : (work : List ℕ) (n from j : ℕ) → from ≤ j → j < n → In (take 8 (drop (8 * j) work)) (rows_in (n - from) (drop (8 * from) work))
later_row work n from j a b =
    let e : 8 * from + 8 * (j - from) ≡ 8 * j = omega arith in
    let l = length_rows 8 (n - from) (drop (8 * from) work) in
    subst (λ (row : List ℕ). In row (rows_in (n - from) (drop (8 * from) work)))
    (rows_at 8 (n - from) (drop (8 * from) work) (j - from) [] (omega arith)
    ∙ ap (take 8) (drop-drop (8 * (j - from)) (8 * from) work ∙ ap (λ (k : ℕ). drop k work) e))
    (get_d_in (rows_in (n - from) (drop (8 * from) work)) (j - from) [] (omega arith))

-- no row stands twice, as many are gone as are struck, and none of these is a pattern: none of the rest is struck
pub all_gone : (struck : List (List ℕ)) (work : List ℕ) (n from : ℕ) → from ≤ n → Once (rows_in n work) → any is_pattern struck ≡ false
    → length struck ≤ struck_of struck work from → FirstStruck struck work n from n
all_gone struck work n from h o plain g =
    let c = count_filter (is_struck struck) (rows_in from work) in
    let d = count_filter (λ (row : List ℕ). has_row row struck) (rows_in from work) in
    let e = ap length
    (filter_agree (is_struck struck) (λ (row : List ℕ). has_row row struck) (rows_in from work) (λ row m. struck_by struck row plain)) in
    record {
      behind = h;
      within = omega arith;
      others =
          λ j a b.
          struck_by struck (take 8 (drop (8 * j) work)) plain
          ∙ none_left (same_list eqb) row_sound row_self (rows_in from work) (rows_in (n - from) (drop (8 * from) work)) struck
          (subst Once (rows_rest n from work h) o) (omega arith) (take 8 (drop (8 * j) work)) (later_row work n from j a b);
      found = λ l. absurd (omega arith);
    }

-- those that are not kept are gone
pub gone_count : {struck : List (List ℕ)} {work : List ℕ} {n : ℕ} {head out₀ index₀ out index : List ℕ} {k i : ℕ} → Keeping struck work n head out₀ index₀ out index k i
    → i - k ≡ struck_of struck work i
gone_count {struck} {work} {i = i} K =
    let c = K.filled.count in
    let f = count_filter (stays struck) (rows_in i work) in
    let s = count_not (is_struck struck) (rows_in i work) in
    let l = length_rows 8 i work in
    omega arith

-- ---- a run of rows

-- none of them is struck, so all are kept
run_kept : (struck : List (List ℕ)) (work : List ℕ) (i q : ℕ) → ((j : ℕ) → i ≤ j → j < i + q → is_struck struck (take 8 (drop (8 * j) work)) ≡ false)
    → kept_of struck work (i + q) ≡ kept_of struck work i ++ rows_in q (drop (8 * i) work)
run_kept struck work i zero h =
    let e : i + 0 ≡ i = omega arith in
    ap (kept_of struck work) e ∙ sym (append-nil (kept_of struck work i))
run_kept struck work i (suc q) h =
    let e : i + suc q ≡ i + q + 1 = omega arith in
    let f : 8 * i + 8 * q ≡ 8 * (i + q) = omega arith in
    let row : List ℕ = take 8 (drop (8 * (i + q)) work) in
    ap (kept_of struck work) e
    ∙ kept_next struck work (i + q)
    ∙ ap₂ (λ (x y : List (List ℕ)). x ++ y) (run_kept struck work i q (λ j a b. h j a (omega arith))) (kept_in struck row (h (i + q) (omega arith) (omega arith)))
    ∙ append_assoc (kept_of struck work i) (rows_in q (drop (8 * i) work)) (row ∷ [])
    ∙ ap (λ (l : List (List ℕ)). kept_of struck work i ++ l)
    (sym (rows_last q (drop (8 * i) work) ∙ ap (λ (r : List ℕ). rows_in q (drop (8 * i) work) ++ (take 8 r ∷ [])) (drop-drop (8 * q) (8 * i) work ∙ ap (λ (n : ℕ). drop n work) f)))

-- their bytes, put behind k rows
put_run : (k q : ℕ) (out t : List ℕ) → 8 * k ≤ length out
    → paste out (8 * k) (take (8 * q) t) (length (take (8 * q) t)) ≡ over (flat (rows_in k out ++ rows_in q t)) out
put_run k q out t h =
    let l = length_rows 8 k out in
    let w = length_whole (rows_in k out) (rows_whole k out h) in
    let z : length (flat (rows_in k out)) ≡ 8 * k = omega arith in
    let s : List ℕ = take (8 * q) t in
    ap (λ (o : List ℕ). paste o (8 * k) s (length s)) (rows_own k out h)
    ∙ over_paste (flat (rows_in k out)) out s (8 * k) (length s) z refl
    ∙ ap (λ (b : List ℕ). over (flat (rows_in k out) ++ b) out) (sym (flat_rows q t))
    ∙ ap (λ (b : List ℕ). over b out) (sym (flat_map_append (λ (row : List ℕ). row) (rows_in k out) (rows_in q t)))

module _ {struck : List (List ℕ)} {work : List ℕ} {n : ℕ} {head out₀ index₀ out index : List ℕ} {k i : ℕ} (K : Keeping struck work n head out₀ index₀ out index k i)
    (p : ℕ) (S : FirstStruck struck work n i p) (w : 8 * n ≤ length work) (o : 8 * n ≤ length out₀) {m : ℕ} {next : List ℕ} (c : m ≡ k + (p - i))
    (f : next ≡ paste out (8 * k) (take (8 * p - 8 * i) (drop (8 * i) work)) (length (take (8 * p - 8 * i) (drop (8 * i) work)))) where
  abbrev rest : List ℕ
  rest = drop (8 * i) work

  run_all : kept_of struck work i ++ rows_in (p - i) rest ≡ kept_of struck work p
  run_all =
      let b = S.behind in
      let u : i + (p - i) ≡ p = omega arith in
      sym (run_kept struck work i (p - i) (λ j x y. S.others j x (omega arith))) ∙ ap (kept_of struck work) u

  -- the rows up to the first that is struck
  pub keeping_run : Keeping struck work n head out₀ index₀ next index m p
  keeping_run =
      let b = S.behind in
      let e = S.within in
      let g = K.few in
      let v : 8 * p - 8 * i ≡ 8 * (p - i) = omega arith in
      let d = length-drop (8 * i) work in
      let l = length_rows 8 (p - i) rest in
      let r = filled_length K.filled in
      let x : n - i - (p - i) ≡ n - p = omega arith in
      let y : 8 * i + 8 * (p - i) ≡ 8 * p = omega arith in
      record {
        reach = e;
        few = omega arith;
        filled =
            subst (λ (l : List (List ℕ)). Filled l m next out₀) run_all
            (filled_more K.filled (rows_in (p - i) rest) (rows_whole (p - i) rest (omega arith)) (omega arith) (omega arith)
            (f ∙ ap (λ (z : ℕ). paste out (8 * k) (take z rest) (length (take z rest))) v ∙ put_run k (p - i) out rest (omega arith)));
        indexed =
            λ I.
            subst (Indexed head index)
            (ap (λ (l : List (List ℕ)). kept_of struck work i ++ l) (rows_rest (n - i) (p - i) rest (omega arith))
            ∙ sym (append_assoc (kept_of struck work i) (rows_in (p - i) rest) (rows_in (n - i - (p - i)) (drop (8 * (p - i)) rest)))
            ∙ ap₂ (λ (l r : List (List ℕ)). l ++ r) run_all (ap₂ rows_in x (drop-drop (8 * (p - i)) (8 * i) work ∙ ap (λ (z : ℕ). drop z work) y)))
            (K.indexed I);
        beside = K.beside;
      }

  -- and that one, which leaves the index
  pub keeping_struck : p < n → {index' : List ℕ}
      → ((before after : List (List ℕ)) → Indexed head index (before ++ (take 8 (drop (8 * p) work) ∷ after)) → Indexed head index' (before ++ after))
      → get_or index' note_at 0 ≡ get_or index note_at 0 → Keeping struck work n head out₀ index₀ next index' m (p + 1)
  keeping_struck h x b =
      let row : List ℕ = take 8 (drop (8 * p) work) in
      let t = S.found h in
      let g = keeping_run.few in
      let r = filled_length keeping_run.filled in
      keeping_more keeping_run h w o (left_count struck row m next t) (left_rows struck row m next t (omega arith))
      (λ before after I. left_indexed struck row before after t (x before after I)) b
