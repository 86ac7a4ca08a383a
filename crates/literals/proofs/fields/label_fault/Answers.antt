-- `label_fault` meets its contract: a law of proofs/Bytes for each return. Assumes nothing.
use mathlib.Core.Path.{sym, ap, ◌∙◌}
use mathlib.Core.Bool.{true, false}
use lib.ListN.{drop}
use Rattle.literals.specs.Faults.{told_stop}
use native.Mathlib.Omega.{arith}
use Rattle.literals.specs.Held.{again}
use Rattle.literals.proofs.Bytes.{found_within, places_found, high_found, second_counted, repeated_key, first_high, missing_key}
use Rattle.literals.proofs.fields.label_fault.Goals as goal

pub overflow_cast-result : goal.overflow_cast-result
overflow_cast-result c = let p = c.args.p.now in let w = found_within c.args.n p (again true) (sym (places_found true p) ∙ sym c.in-Some.ensures) in omega arith

pub overflow_add-result : goal.overflow_add-result
overflow_add-result c = let p = c.args.p.now in let w = found_within c.args.n p (again true) (sym (places_found true p) ∙ sym c.in-Some.ensures) in omega arith

pub overflow_cast-result-in-Some-first_again : goal.overflow_cast-result-in-Some-first_again
overflow_cast-result-in-Some-first_again c =
    let p = c.args.p.now in
    let w = found_within c.args.n p (again false) (sym (places_found false p) ∙ sym c.in-Some-first_again.ensures) in omega arith

pub overflow_add-result-in-Some-first_again : goal.overflow_add-result-in-Some-first_again
overflow_add-result-in-Some-first_again c =
    let p = c.args.p.now in
    let w = found_within c.args.n p (again false) (sym (places_found false p) ∙ sym c.in-Some-first_again.ensures) in omega arith

pub returns-in-Some : goal.returns-in-Some
returns-in-Some c = let p = c.args.p.now in second_counted c.args.n p (sym (places_found true p) ∙ sym c.in-Some.ensures)

pub returns-in-Some-first_again : goal.returns-in-Some-first_again
returns-in-Some-first_again c =
    let p = c.args.p.now in
    repeated_key c.args.n p (sym (places_found true p) ∙ sym c.in_default.ensures) (sym (places_found false p) ∙ sym c.in-Some-first_again.ensures)

pub returns-in-Some-first_high : goal.returns-in-Some-first_high
returns-in-Some-first_high c =
    let p = c.args.p.now in
    first_high c.args.n p (sym (places_found true p) ∙ sym c.in_default.ensures) (sym (places_found false p) ∙ sym c.in_default-first_again.ensures)
    (sym (high_found c.args.n (drop 1 p)) ∙ sym c.in-Some-first_high.ensures)

pub returns : goal.returns
returns c =
    let p = c.args.p.now in
    ap told_stop c.from.ensures
    ∙ missing_key c.args.n p (sym (places_found true p) ∙ sym c.in_default.ensures)
    (sym (places_found false p) ∙ sym c.in_default-first_again.ensures)
    (sym (high_found c.args.n (drop 1 p)) ∙ sym c.in_default-first_high.ensures)
    c.requires.wrong
