-- `fact_stop` meets its contract. Assumes nothing.
use borrow.Author.Rules.{rules}
use mathlib.Core.Path.{◌≡◌, refl, sym, ◌∙◌}
use native.Mathlib.Omega.{arith}
use Rattle.run_semantics.specs.RunFile.{fact_of}
use Rattle.run_semantics.specs.Numbers.{stopped_by}
use Rattle.run_semantics.proofs.Numbers.{err_stops}
use Rattle.run_fields.specs.Held.{objects_or_0}
use Rattle.run_fields.specs.Held.{fact_fields}
use Rattle.run_fields.proofs.RunFields.{fact_short_row, fact_found, fact_stopped, fact_known, fact_full, fact_room}
use Rattle.run_fields.proofs.fact_stop.Goals.{then-n-lt-MAX_FACTS-via-then-n-lt-MAX_FACTS, then-n-lt-MAX_FACTS-via-else-n-lt-MAX_FACTS+then-has_row}
use Rattle.run_fields.proofs.fact_stop.Goals as goal

pub returns-in_err-fact_fields-clause-is : goal.returns-in_err-fact_fields-clause-is
returns-in_err-fact_fields-clause-is c D fs H r l few =
    let a = c.args in
    let e = c.from_residual in
    let s : stopped_by e.result ≡ fact_fields a.head.now (objects_or_0 a.objects) a.begun a.p.now = search rules in
    fact_stopped D fs _ H _ _ _ _ s (err_stops e.result e.ensures.0)

pub fact_row-requires-clause-relation : goal.fact_row-requires-clause-relation
fact_row-requires-clause-relation c = (fact_short_row _ _ _ _ (sym c.in_ok-fact_fields.ensures)).0

pub fact_row-requires-clause-objects : goal.fact_row-requires-clause-objects
fact_row-requires-clause-objects c = (fact_short_row _ _ _ _ (sym c.in_ok-fact_fields.ensures)).1

pub returns-then-n-lt-MAX_FACTS-clause-is : goal.returns-then-n-lt-MAX_FACTS-clause-is
returns-then-n-lt-MAX_FACTS-clause-is c D fs H r l few =
    let f = c.in_ok-fact_fields.ensures in
    elim c.then-n-lt-MAX_FACTS.branch [
      | then-n-lt-MAX_FACTS-via-then-n-lt-MAX_FACTS w ↦ let k = w.if-n-lt-MAX_FACTS.true in fact_room D fs _ H _ _ _ _ f refl (omega arith)
      | then-n-lt-MAX_FACTS-via-else-n-lt-MAX_FACTS+then-has_row w ↦ fact_known D fs _ H _ _ _ _ f refl
          (fact_found (fact_of c.args.p.now) fs _ _ _ w.fact_row.ensures r w.has_row.ensures ∙ w.if-has_row.true)
    ]

pub returns-then-n-lt-MAX_FACTS-clause-fits : goal.returns-then-n-lt-MAX_FACTS-clause-fits
returns-then-n-lt-MAX_FACTS-clause-fits c = fact_short_row _ _ _ _ (sym c.in_ok-fact_fields.ensures)

pub returns-clause-is : goal.returns-clause-is
returns-clause-is c D fs H r l few =
    let k = c.if-n-lt-MAX_FACTS.false in
    fact_full D fs _ H _ _ _ _ c.in_ok-fact_fields.ensures refl
    (fact_found (fact_of c.args.p.now) fs _ _ _ c.fact_row.ensures r c.has_row.ensures ∙ c.if-has_row.false) (omega arith)
