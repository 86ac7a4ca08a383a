-- Two wrong players that the claim of playing (runs/Claims `PlaysAsMachine`) rules out by itself, without the equations that say what a
-- call answers. Assumes nothing.
use Rattle.std.specs.Prelude.{◌≡◌, refl, List, [], ◌∷◌, ◌++◌, ℕ, ◌≤◌, length}
use Rattle.std.proofs.Common.{arith}
use Rattle.records.specs.Memory.{over}
use Rattle.literals.specs.Domain.{Domain}
use Rattle.literals.specs.Decode.{Decoded, refused, domain, decode}
use Rattle.run_semantics.specs.RunFile.{entries_before}
use Rattle.run_semantics.specs.Play.{work_bytes, held_bytes}
use Rattle.run_semantics.specs.Claims.{end_number, PlaysAsMachine}
use Rattle.cases.specs.Written.{objects, fact, event, close_step, close_run}
use Rattle.cases.specs.Samples.{at, m1, m12}

-- the domain of a file; of a refused one, that without relations
abbrev domain_of : Decoded → Domain
domain_of (refused f) = record { arities = []; actions = []; template = [] }
domain_of (domain D) = D

-- a player that refuses every run file at once: 50 at its first record, which on M12's bytes is at no fault
pub refuses_at_once : (w : List ℕ) → work_bytes ≤ length w → PlaysAsMachine m1 m12 w 50 0 0 0 (over (held_bytes []) w) → ⊥
unfolding decode end_number entries_before
refuses_at_once w l claim = let z : ◌≡◌ {A = ℕ} 50 0 = (claim (domain_of (decode m1)) refl l).0.number in absurd (omega arith)

-- M1's domain, from at(0,1) the moves (0,1,2) and (0,2,3)
abbrev pub moves : List ℕ
moves = objects 4 ++ fact (at 0 1) ++ event 0 0 (0 ∷ 1 ∷ 2 ∷ []) ++ close_step ++ event 0 0 (0 ∷ 2 ∷ 3 ∷ []) ++ close_step ++ close_run

-- a player that makes only the first step, and answers no number: 0 at the second event, 1 step, weight 1, at(0,2)
pub only_first_step : (w memory : List ℕ) → work_bytes ≤ length w → PlaysAsMachine m1 moves w 0 25 1 1 memory → ⊥
unfolding decode
only_first_step w memory l claim = (claim (domain_of (decode m1)) refl l).0.some refl
