-- What the loops keep: names counted row by row, totals written one by one. Assumes nothing.
use mathlib.Core.Path.{◌≡◌, refl, sym, ap, ap₂, ◌∙◌}
use mathlib.Core.List.Memᴰ
use mathlib.Core.List.{List, [], ◌∷◌, ◌++◌, map, flat_map}
use Prim.Native.Nat.{ℕ, suc, ◌+◌, ◌-◌, ◌*◌, ◌≤◌, ◌<◌}
use native.Mathlib.Numerals.{add-one}
use native.Mathlib.Omega.{arith}
use lib.ListN.{length, get_or, take, drop, replicate, length-drop, length-replicate}
use lib.Seq.{take-suc, length-take-le, paste}
use Rattle.std.specs.Int.{w64, to_le_bytes}
use Rattle.records.specs.Lists.{In}
use Rattle.records.specs.Memory.{over}
use Rattle.records.proofs.Lists.{flat_map_snoc}
use Rattle.records.proofs.Memory.{over_paste}
use Rattle.totals.specs.Totals.{name_mark, low_bytes, total_bytes}
use Rattle.totals.specs.Held.{one_more, one_more_each, names_in, Room}
use Rattle.totals.proofs.Answers.{low_length, bytes_length, bytes_are}
use Rattle.totals.proofs.Reported.{front_some}
use Rattle.totals.proofs.Tallied.{more_length, room_less, room_more}

-- ---- names

-- the names in the rows before what is left are counted
pub record Counted (report counts₀ rest counts : List ℕ) : Type 0 where
  pub within : length rest ≤ length report
  pub sized : length counts ≡ 71
  pub names : (k : ℕ) → In k (names_in rest) → k ≤ 7
  pub room : Room counts (length (names_in rest))
  pub rows : length report - length rest + 4 * length (names_in rest) ≡ 4 * length (names_in report)
  pub same : one_more_each counts (map name_mark (names_in rest)) ≡ one_more_each counts₀ (map name_mark (names_in report))

pub none_counted : (report counts : List ℕ) → length counts ≡ 71 → ((k : ℕ) → In k (names_in report) → k ≤ 7) → Room counts (length (names_in report)) → Counted report counts report counts
none_counted report counts l h r = record { within = omega arith; sized = l; names = h; room = r; rows = omega arith; same = refl }

module _ {report counts₀ rest counts : List ℕ} (C : Counted report counts₀ rest counts) where
  -- a clear row, or no room for one: these were all
  pub all_counted : names_in rest ≡ []
      → (length report - length rest ≡ 4 * length (names_in report)) × (counts ≡ one_more_each counts₀ (map name_mark (names_in report)))
  all_counted e =
      let r = C.rows in
      let z : length (names_in rest) ≡ 0 = ap length e in (
        omega arith,
        ap (λ (ns : List ℕ). one_more_each counts (map name_mark ns)) (sym e) ∙ C.same,
      )

  module _ (name : ℕ) (here : name ≡ get_or rest 3 0) (some : name ≡ 0 → ⊥) where
    front : names_in rest ≡ name ∷ names_in (drop 4 rest)
    front = front_some rest (λ e. some (here ∙ e)) ∙ ap (λ (n : ℕ). n ∷ names_in (drop 4 rest)) (sym here)

    pub name_known : name ≤ 7
    name_known = C.names name (rw front (Memᴰ.head refl))

    front_length : length (names_in rest) ≡ suc (length (names_in (drop 4 rest)))
    front_length = ap length front

    pub name_room : Room counts 1
    name_room = room_less counts (length (names_in rest)) 1 (let l = front_length in omega arith) C.room

    pub one_counted : 4 ≤ length rest → (after : List ℕ) → after ≡ one_more counts (63 + name) → Counted report counts₀ (drop 4 rest) after
    one_counted h after e =
        let w = C.within in
        let d = length-drop 4 rest in
        let l = front_length in
        let k = name_known in
        let s = C.sized in
        let r = C.rows in
        record {
          within = omega arith;
          sized = ap length e ∙ more_length counts (63 + name) ∙ s;
          names = λ n m. C.names n (rw front (Memᴰ.tail m));
          room = λ n. rw e (room_more counts (63 + name) (length (names_in (drop 4 rest))) (omega arith)
              (room_less counts (length (names_in rest)) (1 + length (names_in (drop 4 rest))) (omega arith) C.room) n);
          rows = omega arith;
          same = ap (λ (ts : List ℕ). one_more_each ts (map name_mark (names_in (drop 4 rest)))) e
              ∙ ap (λ (ns : List ℕ). one_more_each counts (map name_mark ns)) (sym front) ∙ C.same;
        }

-- ---- bytes cleared

pub all_clear : (n : ℕ) → ◌≡◌ {A = List ℕ} (replicate n 0) (replicate (length {A = ℕ} (replicate n 0)) 0)
all_clear n = ap (λ (k : ℕ). replicate k 0) (sym (length-replicate n 0))

-- ---- all totals

pub bytes_more : (ts : List ℕ) (n : ℕ) → n < length ts → total_bytes (take (n + 1) ts) ≡ total_bytes (take n ts) ++ low_bytes 8 (get_or ts n 0)
unfolding total_bytes
bytes_more ts n h = ap (λ (l : List ℕ). flat_map (low_bytes 8) l) (ap (λ (k : ℕ). take k ts) (add-one n) ∙ take-suc ts n 0 h) ∙ flat_map_snoc (low_bytes 8) (take n ts) (get_or ts n 0)

pub bytes_of : (ts : List ℕ) (n : ℕ) → n ≤ length ts → length (total_bytes (take n ts)) ≡ 8 * n
bytes_of ts n h = let l = length-take-le n ts h in bytes_length (take n ts) ∙ (let z : 8 * length (take n ts) ≡ 8 * n = omega arith in z)

pub one_written : (ts old out : List ℕ) (n : ℕ) → n < length ts → out ≡ over (total_bytes (take n ts)) old
    → paste out (8 * n) (to_le_bytes w64 (get_or ts n 0)) 8 ≡ over (total_bytes (take (n + 1) ts)) old
one_written ts old out n h e =
    ap₂ (λ (o b : List ℕ). paste o (8 * n) b 8) e (bytes_are (get_or ts n 0))
    ∙ over_paste (total_bytes (take n ts)) old (low_bytes 8 (get_or ts n 0)) (8 * n) 8 (bytes_of ts n (omega arith)) (low_length 8 (get_or ts n 0))
    ∙ ap (λ (b : List ℕ). over b old) (sym (bytes_more ts n h))

pub none_written : (ts old : List ℕ) → old ≡ over (total_bytes (take 0 ts)) old
unfolding total_bytes over flat_map
none_written ts old = refl
