-- `rows_stop` meets its contract. Assumes nothing.
use Rattle.literals.specs.Held.{row_of}
use Rattle.reading.specs.Held.{rows_of}
use Rattle.reading.proofs.Takes.{rows_same, rows_opposed, rows_free}
use Rattle.reading.proofs.take.rows_stop.Goals as goal

pub returns-then-any_same : goal.returns-then-any_same
returns-then-any_same c =
    let s = c in
    rows_same (row_of s.args.p.now) (rows_of s.args.span s.args.table.now)
    (c.any_same.ensures (row_of s.args.p.now) s.requires.word) c.if-any_same.true

pub returns-then-any_contradicts : goal.returns-then-any_contradicts
returns-then-any_contradicts c =
    let s = c in
    rows_opposed (row_of s.args.p.now) (rows_of s.args.span s.args.table.now)
    (c.any_same.ensures (row_of s.args.p.now) s.requires.word) c.if-any_same.false
    c.any_contradicts.ensures c.if-any_contradicts.true

pub returns : goal.returns
returns c =
    let s = c in
    rows_free (row_of s.args.p.now) (rows_of s.args.span s.args.table.now)
    (c.any_same.ensures (row_of s.args.p.now) s.requires.word) c.if-any_same.false
    c.any_contradicts.ensures c.if-any_contradicts.false
