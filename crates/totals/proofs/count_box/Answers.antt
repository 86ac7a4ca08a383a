-- `count_box` meets its contract: what the equations of `count_opened` mean. Assumes nothing.
use mathlib.Core.Path.{sym, ap, ◌∙◌}
use Prim.Native.Nat.{◌<◌}
use native.Mathlib.Omega.{arith}
use lib.ListN.{length}
use Rattle.verdict.specs.Judged.{Answer}
use Rattle.totals.specs.Held.{uncounted}
use Rattle.totals.proofs.Calls.{counts_files, adds_up}
use Rattle.totals.proofs.count_box.Goals as goal

pub returns-in-Ok : goal.returns-in-Ok
returns-in-Ok c =
    let e = c.in-Ok.ensures.answer in
    let number = ap (λ (a : Answer). a.number) e in
    let memory = c.count_opened.ensures.totals in
    let b = c.args.packed.now in
    let out = c.args.totals.now in
    let small : length b < 18446744073709551616 = omega arith in
    record { number = number; first = ap (λ (a : Answer). a.first) e; totals = memory; counts = counts_files b out small number memory; sums = adds_up b out small number memory }

pub returns-in-Err-Short : goal.returns-in-Err-Short
returns-in-Err-Short c =
    let e = ap uncounted (sym c.in-Err-Short.field-0-is) ∙ c.in-Err-Short.ensures.answer in
    let number = ap (λ (a : Answer). a.number) e in
    let memory = c.count_opened.ensures.totals in
    let b = c.args.packed.now in
    let out = c.args.totals.now in
    let small : length b < 18446744073709551616 = omega arith in
    record { number = number; first = ap (λ (a : Answer). a.first) e; totals = memory; counts = counts_files b out small number memory; sums = adds_up b out small number memory }

pub returns-in-Err-Cut : goal.returns-in-Err-Cut
returns-in-Err-Cut c =
    let e = ap uncounted (sym c.in-Err-Cut.field-0-is) ∙ c.in-Err-Cut.ensures.answer in
    let number = ap (λ (a : Answer). a.number) e in
    let memory = c.count_opened.ensures.totals in
    let b = c.args.packed.now in
    let out = c.args.totals.now in
    let small : length b < 18446744073709551616 = omega arith in
    record { number = number; first = ap (λ (a : Answer). a.first) e; totals = memory; counts = counts_files b out small number memory; sums = adds_up b out small number memory }
