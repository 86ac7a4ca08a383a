-- `join_row` meets its contract: the index tells whether the row is there. Assumes nothing.
use mathlib.Core.Path.{◌≡◌, refl, sym, ◌∙◌}
use mathlib.Core.Bool.{true, false}
use Prim.Native.Nat.{◌≤◌, ◌<◌}
use native.Mathlib.Omega.{arith}
use lib.ListN.{length, take, drop}
use borrow.Author.Rules.{rules}
use Rattle.literals.specs.Held.{rows_in}
use Rattle.run_semantics.specs.Play.{work_bytes}
use Rattle.store.specs.Held.{Indexed, SizedRow, has_row}
use Rattle.effects.proofs.FilledRows.{row_others, there_count, there_rows, full_count, full_rows, new_count, new_rows_lem}
use Rattle.effects.proofs.IndexedRows.{sized_as, there_indexed, new_indexed}
use Rattle.effects.proofs.join_row.Goals as goal

pub returns-then-is_held : goal.returns-then-is_held
returns-then-is_held c =
    let a = c.args in
    let p = c.requires in
    let rows = rows_in a.n a.scratch.now in
    let e = c.row_at-row.ensures in
    let g = p.few in
    let l = p.scratch in
    let w : work_bytes ≤ length a.scratch.now = omega arith in
    let t : Indexed a.head.now a.index.now rows → SizedRow a.head.now (take 8 (drop a.at a.scratch.now)) → has_row c.row_at-row.result rows ≡ true
    = λ I b. sym (c.is_held.ensures a.head.now I (sized_as a.head.now e b)) ∙ c.if-is_held.true in record {
      few = (omega arith, omega arith);
      joined = λ I b. record {
        count = there_count a.n a.scratch.now g w e (t I b);
        bytes = there_rows a.n a.scratch.now g w e (t I b);
        indexed = λ q. there_indexed rows e (t I b) I;
      };
      beside = refl;
      others = refl;
    }

pub returns-then-n-ge-MAX_FACTS : goal.returns-then-n-ge-MAX_FACTS
returns-then-n-ge-MAX_FACTS c =
    let back8 = c in
    let row-at = c.row_at-row in
    let a = back8.args in
    let p = back8.requires in
    let rows = rows_in a.n a.scratch.now in
    let e = row-at.ensures in
    let g = p.few in
    let l = p.scratch in
    let w : work_bytes ≤ length a.scratch.now = omega arith in
    let f : 1024 ≤ a.n = c.if-n-ge-MAX_FACTS.true in
    let t : Indexed a.head.now a.index.now rows → SizedRow a.head.now (take 8 (drop a.at a.scratch.now)) → has_row
    row-at.result rows ≡ false
    = λ I b. sym (c.is_held.ensures a.head.now I (sized_as a.head.now e b)) ∙ c.if-is_held.false in record {
      few = tt;
      joined = λ I b. record {
        count = full_count a.n a.scratch.now g w e (t I b) f;
        bytes = full_rows a.n a.scratch.now g w e (t I b) f;
        indexed = λ q. absurd (omega arith);
      };
      beside = refl;
      others = refl;
    }

pub returns : goal.returns
returns c =
    let back8 = c in
    let row-at = back8.row_at-row in
    let append-row = c.append_row in
    let a = back8.args in
    let p = back8.requires in
    let rows = rows_in a.n a.scratch.now in
    let e = row-at.ensures in
    let g = p.few in
    let l = p.scratch in
    let w : work_bytes ≤ length a.scratch.now = omega arith in
    let f : a.n < 1024 = c.if-n-ge-MAX_FACTS.false in
    let v = c.enter.ensures in
    let t : Indexed a.head.now a.index.now rows → SizedRow a.head.now (take 8 (drop a.at a.scratch.now)) → has_row
    row-at.result rows ≡ false
    = λ I b. sym (back8.is_held.ensures a.head.now I (sized_as a.head.now e b)) ∙ back8.if-is_held.false in record {
      few = (omega arith, omega arith);
      joined = λ I b. record {
        count = new_count a.n a.scratch.now g w e (t I b) f;
        bytes = new_rows_lem a.n a.scratch.now g w e (t I b) f append-row.ensures;
        indexed = λ q. new_indexed rows e (t I b) (v.indexed rows I b);
      };
      beside = v.beside;
      others = row_others a.n a.scratch.now row-at.result (omega arith) (search rules) f append-row.ensures;
    }
