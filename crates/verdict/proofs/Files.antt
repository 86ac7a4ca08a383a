-- Demand 3 of files: the claims of a domain, of the domain that a file says. Assumes nothing.
use mathlib.Core.Path.{◌≡◌, ap}
use mathlib.Core.List.{List}
use Prim.Native.Nat.{ℕ}
use Rattle.literals.specs.Domain.{Domain}
use Rattle.literals.specs.Decode.{domain, decode}
use Rattle.verdict.specs.Judged.{decided, decided_by, decided_file}
use Rattle.verdict.specs.Claims.{SafetyOfFile, ExactnessOfFile, WitnessOfFile, NeverRisesOfFile}
use Rattle.verdict.proofs.Decodes.{decoded_well_formed}
use Rattle.verdict.proofs.Safety.{safety, never_rises}
use Rattle.verdict.proofs.Demand.{exactness, witness_shows}

-- the file's decision is its domain's
pub decided_file_lem : (f : List ℕ) (D : Domain) → decode f ≡ domain D → decided_file f ≡ decided D
unfolding decided_file
decided_file_lem f D e = ap decided_by e

pub file_safe : SafetyOfFile
file_safe f D e a = safety D (decoded_well_formed f D e) (rw (decided_file_lem f D e) at a)

pub file_exact : ExactnessOfFile
file_exact f D e nl = rw (decided_file_lem f D e) (exactness D (decoded_well_formed f D e) nl)

pub file_witness : WitnessOfFile
file_witness f D e nl t = rw (decided_file_lem f D e) (witness_shows D (decoded_well_formed f D e) nl (rw (decided_file_lem f D e) at t))

pub file_never_rises : NeverRisesOfFile
file_never_rises f D e z = never_rises D (decoded_well_formed f D e) (rw (decided_file_lem f D e) at z)
