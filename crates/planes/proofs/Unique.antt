-- No two answers meet one promise. Assumes nothing.
use Rattle.lists.specs.OneAnswer.{AllowsOneAnswer}
use Rattle.lists.proofs.Determined.{determined_by}
use Rattle.planes.specs.contracts.sample as sample
use Rattle.planes.proofs.sample.Reads as sample_reads
use Rattle.planes.specs.contracts.put_sample as put_sample
use Rattle.planes.proofs.put_sample.Reads as put_sample_reads
use Rattle.planes.specs.contracts.mix_frame as mix_frame
use Rattle.planes.proofs.mix_frame.Reads as mix_frame_reads

sample_unique : AllowsOneAnswer sample.ended sample_reads.Learnt
sample_unique κs a = determined_by (λ z h i. (h i, _))

put_sample_unique : AllowsOneAnswer put_sample.ended put_sample_reads.Learnt
put_sample_unique κs a = determined_by (λ z h i. (_, (h i, _)))

-- the planes, and whether the frame is damaged
mix_frame_unique : AllowsOneAnswer mix_frame.ended mix_frame_reads.Learnt
mix_frame_unique κs a = determined_by (λ z h i. (h.damage i, (h.put i, _)))
