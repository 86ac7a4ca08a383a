-- `settle` meets its contract: the rows go to the front, and the zeros to the seam behind them. Assumes nothing.
use mathlib.Core.Path.{◌≡◌, refl, sym, ap, ◌∙◌}
use mathlib.Core.List.{List, ◌++◌, append-nil}
use Prim.Native.Nat.{ℕ, ◌-◌, ◌*◌}
use native.Mathlib.Omega.{arith}
use lib.ListN.{take, replicate, length-replicate}
use lib.Seq.{paste, length-take-le}
use Rattle.records.specs.Memory.{over}
use Rattle.records.proofs.Memory.{over_paste, paste_front}
use Rattle.machine.proofs.step.settle.Goals as goal

pub slice_bounds-put_bytes-end : goal.slice_bounds-put_bytes-end
slice_bounds-put_bytes-end c =
    let a = c.args in
    let p = c.requires in
    let l = length-take-le (8 * a.n) a.rows.now p.rows in
    omega arith

pub put_bytes-requires : goal.put_bytes-requires
put_bytes-requires c =
    let a = c.args in
    let p = c.requires in
    let l = length-take-le (8 * a.n) a.rows.now p.rows in
    let r = p.room in
    omega arith

pub returns-then-n-held : goal.returns-then-n-held
returns-then-n-held c =
    let a = c.args in
    let p = c.requires in
    let rows : List ℕ = take (8 * a.n) a.rows.now in
    let more : ℕ = 8 * a.held - 8 * a.n in
    let l = length-take-le (8 * a.n) a.rows.now p.rows in
    c.put_zeros.ensures
    ∙ ap (λ (w : List ℕ). paste w (8 * a.n) (replicate more 0) more)
    (c.put_bytes.ensures ∙ paste_front rows a.work.now _ refl)
    ∙ over_paste rows a.work.now (replicate more 0) (8 * a.n) more l (length-replicate more 0)

pub returns-else-n-held : goal.returns-else-n-held
returns-else-n-held c =
    let a = c.args in
    let rows : List ℕ = take (8 * a.n) a.rows.now in
    let none : 0 ≡ 8 * a.held - 8 * a.n = omega arith in
    c.put_bytes.ensures ∙ paste_front rows a.work.now _ refl
    ∙ ap (λ (front : List ℕ). over front a.work.now) (sym (append-nil rows) ∙ ap (λ (k : ℕ). rows ++ replicate k 0) none)
