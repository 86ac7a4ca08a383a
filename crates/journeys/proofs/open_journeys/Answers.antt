use mathlib.Core.Path.{sym, ◌∙◌}
use Prim.Native.Nat.{◌+◌, ◌*◌, ◌≤◌, ◌<◌}
use native.Mathlib.Omega.{arith}
use lib.ListN.{length, get_or}
use Rattle.std.specs.Slice.Iter.{chunks_exact_rest}
use Rattle.verdict.specs.Claims.{journeys_for}
use Rattle.events.proofs.FactRows.{no_ground, open_count}
use Rattle.events.proofs.Listed.{entry_fits, entry_row}
use Rattle.journeys.proofs.Belonging.{entry_more, entries_end, entries_done, entry_left, entry_next, entry_bytes}
use Rattle.journeys.proofs.open_journeys.Goals as goal

pub loop-act-preserved : goal.loop-act-preserved
loop-act-preserved c =
    let entries = c.args.entries.now in
    let n = c.args.n in
    let few = c.requires.few in
    let whole = c.requires.entries in
    let l = c.loop-act in
    let size = l.invariant.2 in
    let passed = l.invariant.3 in
    let i = passed.0 in
    let reach = passed.1 in
    let found = passed.3 in
    let rest = chunks_exact_rest l.act-iterator in
    let next = chunks_exact_rest c.next.new.self in
    let act = c.in-Some.act.now in
    let step = c.in-Some.ensures.steps in
    let same = step.0 in
    let room : 17 * n ≤ length entries = omega arith in
    let h : i < n = entry_left entries n i rest room reach passed.2 act next step.1.0 (step.1.1 ∙ size) in
    let e = c.entry_journeys-found in
    let most = e.ensures.few in (
      omega arith,
      tt,
      same ∙ size,
      (
        i + 1,
        omega arith,
        entry_next entries n i rest room reach passed.2 act next step.1.0 (step.1.1 ∙ size),
        omega arith,
        λ D gs y H wf F o sized re.
            let m = open_count gs _ o in
            let b : i < length gs = omega arith in
            entry_more (journeys_for D y) gs i l.found e.result b
            (e.ensures.counts D (get_or gs i no_ground) y H wf (entry_fits H.says i gs F b)
            (entry_bytes entries n i rest room reach passed.2 act next step.1.0 (step.1.1 ∙ size) ∙ entry_row H.says i gs F b _ o) sized re)
            ∙ passed.4 D gs y H wf F o sized re,
      ),
    )

pub returns-clause-counts : goal.returns-clause-counts
returns-clause-counts c D gs y H wf F o sized re =
    let entries = c.args.entries.now in
    let n = c.args.n in
    let few = c.requires.few in
    let whole = c.requires.entries in
    let l = c.loop-act in
    let size = l.invariant.2 in
    let passed = l.invariant.3 in
    let short = c.in-None.ensures.steps.1.0 in
    let room : 17 * n ≤ length entries = omega arith in
    let d = entries_done entries n passed.0 (chunks_exact_rest l.act-iterator) room passed.1 passed.2 (omega arith) in
    let m = open_count gs _ o in
    sym (entries_end (journeys_for D y) gs passed.0 l.found (omega arith)) ∙ passed.4 D gs y H wf F o sized re
