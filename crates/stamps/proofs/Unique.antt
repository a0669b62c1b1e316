-- No two answers meet one promise. Assumes nothing.
use Rattle.lists.specs.OneAnswer.{AllowsOneAnswer}
use Rattle.lists.proofs.Determined.{determined_by}
use Rattle.stamps.specs.contracts.coming as coming
use Rattle.stamps.proofs.coming.Reads as coming_reads
use Rattle.stamps.specs.contracts.then_expected as then_expected
use Rattle.stamps.proofs.then_expected.Reads as then_expected_reads
use Rattle.stamps.specs.contracts.skipped as skipped
use Rattle.stamps.proofs.skipped.Reads as skipped_reads
use Rattle.stamps.specs.contracts.plan as plan
use Rattle.stamps.proofs.plan.Reads as plan_reads

coming_unique : AllowsOneAnswer coming.ended coming_reads.Learnt
coming_unique κs a = determined_by (λ z h i. (h.bits i, _))

then_expected_unique : AllowsOneAnswer then_expected.ended then_expected_reads.Learnt
then_expected_unique κs a = determined_by (λ z h i. (h i, _))

skipped_unique : AllowsOneAnswer skipped.ended skipped_reads.Learnt
skipped_unique κs a = determined_by (λ z h i. (h i, _))

plan_unique : AllowsOneAnswer plan.ended plan_reads.Learnt
plan_unique κs a = determined_by (λ z h i. (h i, _))
