-- `all_apart` meets its contract: no part before i clashes with a later one, so the test is that of the parts from i on. Assumes nothing.
use mathlib.Core.Path.{◌≡◌}
use mathlib.Core.Bool.{not}
use mathlib.Core.List.{List}
use Prim.Native.Nat.{◌≤◌}
use lib.ListN.{length, take, drop}
use Rattle.records.specs.Lists.{pairwise}
use Rattle.events.specs.Held.{GroundLiteral, in_one, Laid}
use Rattle.applicability.specs.Held.{literals_clash, AllTold}
use Rattle.applicability.proofs.interference.Compared.all_apart.Given as goal

abbrev pub invariant-loop-i : goal.invariant-loop-i
invariant-loop-i l =
    (l.i ≤ l.count) × (l.from ≤ l.total) × ((parts : List (List GroundLiteral)) → length parts ≡ l.count → Laid parts l.self.memory.now l.total
    → AllTold l.self.patterns l.total l.self.memory.now
    → (l.from ≡ length (in_one (take l.i parts)))
    × (pairwise (λ first later. not (literals_clash first later)) (drop l.i parts) ≡ pairwise (λ first later. not
    (literals_clash first later)) parts))
