-- `objects_given` meets its contract: by what stands at the start of the file. Assumes nothing.
use Prim.{tt}
use mathlib.Core.Path.{refl, sym, ◌∙◌}
use native.Mathlib.Omega.{arith}
use Rattle.records.proofs.Laws.{whole_within}
use Rattle.player.proofs.TrackCalls.{given_whole, given_none}
use Rattle.player.proofs.track.objects_given.Goals as goal

pub overflow_add-end : goal.overflow_add-end
overflow_add-end c = let w = whole_within _ _ (sym c.record_at.ensures ∙ c.in-Whole.is) in omega arith

pub slice_bounds-count_of-end : goal.slice_bounds-count_of-end
slice_bounds-count_of-end c = let w = whole_within _ _ (sym c.record_at.ensures ∙ c.in-Whole.is) in omega
    arith

pub returns-clause-is : goal.returns-clause-is
returns-clause-is c = given_whole c.args.run.now _ _ _ (sym c.record_at.ensures ∙ c.in-Whole.is) _ refl _ c.count_of.ensures.is

pub returns-in_default : goal.returns-in_default
returns-in_default c = record { is = given_none c.args.run.now _ c.record_at.ensures c.in_default.not-Whole; some = tt }
