-- No two answers meet one promise. Assumes nothing.
use Rattle.lists.specs.OneAnswer.{AllowsOneAnswer}
use Rattle.lists.proofs.Determined.{determined_by}
use Rattle.bank_form.specs.contracts.elevation_size as elevation_size
use Rattle.bank_form.proofs.elevation_size.Reads as elevation_size_reads
use Rattle.bank_form.specs.contracts.row_size as row_size
use Rattle.bank_form.proofs.row_size.Reads as row_size_reads
use Rattle.bank_form.specs.contracts.elevation_at as elevation_at
use Rattle.bank_form.proofs.elevation_at.Reads as elevation_at_reads

elevation_size_unique : AllowsOneAnswer elevation_size.ended elevation_size_reads.Learnt
elevation_size_unique κs a = determined_by (λ z h i. (h.0 i, _))

row_size_unique : AllowsOneAnswer row_size.ended row_size_reads.Learnt
row_size_unique κs a = determined_by (λ z h i. (h.0 i, _))

elevation_at_unique : AllowsOneAnswer elevation_at.ended elevation_at_reads.Learnt
elevation_at_unique κs a = determined_by (λ z h i. (h i, _))
