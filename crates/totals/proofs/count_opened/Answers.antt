-- `count_opened` meets its contract: cut, short, or all totals written. Assumes nothing.
use mathlib.Core.Path.{◌≡◌, refl, sym, ap, ◌∙◌}
use native.Mathlib.Omega.{arith}
use Rattle.std.proofs.Common.{rules, Err}
use Rattle.totals.specs.Held.{answer_to}
use Rattle.totals.proofs.Calls.{opened_whole, cut_is, short_is, done_is}
use Rattle.totals.proofs.count_opened.Goals as goal

pub returns-in_err-open_box : goal.returns-in_err-open_box
returns-in_err-open_box c =
    let stop = c.in_err-open_box.field-0.0 in
    let e : c.from_residual.result ≡ Err stop = search rules in
    let all = cut_is c.args.packed.now c.args.totals.now (sym c.in_err-open_box.was ∙ c.open_box.ensures) in
    record { answer = ap answer_to e ∙ all.0; totals = all.1 }

pub returns-then-totals-lt-TOTALS_SIZE : goal.returns-then-totals-lt-TOTALS_SIZE
returns-then-totals-lt-TOTALS_SIZE c =
    let all = short_is c.args.packed.now c.args.totals.now (opened_whole c.args.packed.now c.args.totals.now (sym c.in_ok-open_box.was ∙ c.open_box.ensures)) (omega arith) in
    record { answer = all.0; totals = all.1 }

pub count_files-requires : goal.count_files-requires
count_files-requires c = record { whole = opened_whole c.args.packed.now c.args.totals.now (sym c.in_ok-open_box.was ∙ c.open_box.ensures); none = refl }

pub returns : goal.returns
returns c =
    let w = opened_whole c.args.packed.now c.args.totals.now (sym c.in_ok-open_box.was ∙ c.open_box.ensures) in
    let all = done_is c.args.packed.now c.args.totals.now w (omega arith) c.count_files.ensures c.put_totals.ensures in
    record { answer = all.0; totals = all.1 }
