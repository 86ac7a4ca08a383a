-- `counting::count_names` meets its contract: a row that is clear, or too little for one, ends the names. Assumes nothing.
use mathlib.Core.Path.{◌≡◌, sym, ap, ◌∙◌}
use mathlib.Core.List.{List, []}
use Prim.Native.Nat.{ℕ}
use native.Mathlib.Omega.{arith}
use lib.ListN.{get_or}
use lib.Seq.{get_or-take}
use Rattle.totals.specs.Held.{names_in}
use Rattle.totals.proofs.Reported.{front_none, front_short}
use Rattle.totals.proofs.Walks.{none_counted, all_counted, name_known, name_room, one_counted}
use Rattle.totals.proofs.counting.count_names.Goals.{in-Some+then-name-eq0, in_default}
use Rattle.totals.proofs.counting.count_names.Goals as goal

pub loop-row-init : goal.loop-row-init
loop-row-init c = none_counted c.args.report.now c.args.counts.now (omega arith) c.requires.names c.requires.room

pub add_one-requires : goal.add_one-requires
add_one-requires c =
    let s = c.in-Some.ensures.cases in
    let here = c.from.ensures ∙ ap (λ (l : List ℕ). get_or l 3 0) s.0 ∙ get_or-take 4 c.loop-row.rest.now 3 0 (omega arith) in
    let some = λ (e : c.from.result ≡ 0). c.if-name-eq0.false (sym c.from.ensures ∙ e) in
    let h = name_known c.loop-row.invariant c.from.result here some in
    record { within = omega arith; room = name_room c.loop-row.invariant c.from.result here some }

pub loop-row-preserved : goal.loop-row-preserved
loop-row-preserved c =
    let s = c.in-Some.ensures.cases in
    let here = c.from.ensures ∙ ap (λ (l : List ℕ). get_or l 3 0) s.0 ∙ get_or-take 4 c.loop-row.rest.now 3 0 (omega arith) in
    let some = λ (e : c.from.result ≡ 0). c.if-name-eq0.false (sym c.from.ensures ∙ e) in
    rw s.1 (one_counted c.loop-row.invariant c.from.result here some (omega arith) _ c.add_one.ensures)

pub returns : goal.returns
returns c =
    let over : names_in c.loop-row.rest.now ≡ [] = elim c.match-split_first_chunk.branch [
      | in-Some+then-name-eq0 w ↦
          let s = w.in-Some.ensures.cases in
          front_none c.loop-row.rest.now (sym (ap (λ (l : List ℕ). get_or l 3 0) s.0 ∙ get_or-take 4 c.loop-row.rest.now 3 0 (omega arith)) ∙ w.if-name-eq0.true)
      | in_default w ↦ front_short c.loop-row.rest.now w.in_default.ensures.cases
    ] in
    let all = all_counted c.loop-row.invariant over in record { rows = all.0; counted = all.1 }
