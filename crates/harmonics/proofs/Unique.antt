-- No two answers meet a promise. Document 01's words alone leave room, 2 ^ -34 either way: it is the equation that
-- leaves none. Assumes nothing.
use Rattle.lists.specs.OneAnswer.{AllowsOneAnswer}
use Rattle.lists.specs.Prelude.{sym, ◌∙◌}
use Rattle.lists.proofs.Determined.{determined_by}
use Rattle.harmonics.proofs.Coefficients.{coefficients_apart}
use Rattle.harmonics.specs.contracts.refuses_azimuth as refuses_azimuth
use Rattle.harmonics.proofs.refuses_azimuth.Reads as refuses_azimuth_reads
use Rattle.harmonics.specs.contracts.refuses_direction as refuses_direction
use Rattle.harmonics.proofs.refuses_direction.Reads as refuses_direction_reads
use Rattle.harmonics.specs.contracts.compute_sh_coefficients as compute_sh_coefficients
use Rattle.harmonics.proofs.compute_sh_coefficients.Reads as compute_sh_coefficients_reads

pub refuses_azimuth_unique : AllowsOneAnswer refuses_azimuth.ended refuses_azimuth_reads.Learnt
refuses_azimuth_unique κs a = determined_by (λ z h i. (h i, _))

pub refuses_direction_unique : AllowsOneAnswer refuses_direction.ended refuses_direction_reads.Learnt
refuses_direction_unique κs a = determined_by (λ z h i. (h i, _))

pub compute_sh_coefficients_unique : AllowsOneAnswer compute_sh_coefficients.ended compute_sh_coefficients_reads.Learnt
compute_sh_coefficients_unique κs a x y p q = λ i. (coefficients_apart x.0 y.0 (p.bits ∙ sym q.bits) i, _)
