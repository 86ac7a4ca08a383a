-- `close` meets its contract: by the place of the first entry that is this one. Assumes nothing.
use mathlib.Core.Path.{sym, ◌∙◌}
use native.Mathlib.Omega.{arith}
use Rattle.events.proofs.GroundRows.{place_few, close_none, close_some}
use Rattle.events.proofs.openings.close.Goals as goal

pub returns-in_default : goal.returns-in_default
returns-in_default c = let a = c.args in close_none (record { count = a.n; rows = a.rows.now }) a.act.now (sym c.entry_of.ensures ∙ c.in_default.is)

pub without-requires : goal.without-requires
without-requires c =
    let a = c.args in
    let h = place_few (record { count = a.n; rows = a.rows.now }) a.act.now (sym c.entry_of.ensures ∙ c.in-Some.is) in
    record { entries = c.requires.entries; entry = omega arith }

pub overflow_sub-result : goal.overflow_sub-result
overflow_sub-result c =
    let a = c.args in
    let h = place_few (record { count = a.n; rows = a.rows.now }) a.act.now (sym c.entry_of.ensures ∙ c.in-Some.is) in
    omega arith

pub returns : goal.returns
returns c =
    let a = c.args in
    close_some (record { count = a.n; rows = a.rows.now }) a.act.now (sym c.entry_of.ensures ∙ c.in-Some.is) c.without.new.rows c.without.ensures
