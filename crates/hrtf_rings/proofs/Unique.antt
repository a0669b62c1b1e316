-- No two answers meet one promise. Assumes nothing.
use Rattle.lists.specs.OneAnswer.{AllowsOneAnswer}
use Rattle.lists.proofs.Determined.{determined_by}
use Rattle.hrtf_rings.specs.contracts.convolve as convolve
use Rattle.hrtf_rings.proofs.convolve.Reads as convolve_reads
use Rattle.hrtf_rings.specs.contracts.cells_up_to as cells_up_to
use Rattle.hrtf_rings.proofs.cells_up_to.Reads as cells_up_to_reads

convolve_unique : AllowsOneAnswer convolve.ended convolve_reads.Learnt
convolve_unique κs a = determined_by (λ z h i. (h i, _))

cells_up_to_unique : AllowsOneAnswer cells_up_to.ended cells_up_to_reads.Learnt
cells_up_to_unique κs a = determined_by (λ z h i. (h i, _))
