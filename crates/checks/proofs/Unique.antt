-- No two answers meet one promise. Assumes nothing.
use denote.RattleType.{RattleType}
use denote.Param.Laws.{IsCopy, Laws}
use mir.Syntax.{Dict}
use Rattle.std.specs.declared.clone.Clone as Clone
use Rattle.checks.specs.declared.Sample as Sample
use Rattle.lists.specs.OneAnswer.{AllowsOneAnswer}
use Rattle.lists.proofs.Determined.{determined_by}
use Rattle.checks.specs.contracts.is_finite as is_finite
use Rattle.checks.proofs.is_finite.Reads as is_finite_reads
use Rattle.checks.specs.contracts.has_nonfinite as has_nonfinite
use Rattle.checks.proofs.has_nonfinite.Reads as has_nonfinite_reads
use Rattle.checks.specs.contracts.is_product as is_product
use Rattle.checks.proofs.is_product.Reads as is_product_reads
use Rattle.checks.specs.contracts.is_unfit as is_unfit
use Rattle.checks.proofs.is_unfit.Reads as is_unfit_reads
use Rattle.checks.specs.contracts.is_block_unfit as is_block_unfit
use Rattle.checks.proofs.is_block_unfit.Reads as is_block_unfit_reads
use Rattle.checks.specs.contracts.min as min
use Rattle.checks.proofs.min.Reads as min_reads

is_finite_unique : AllowsOneAnswer is_finite.ended is_finite_reads.Learnt
is_finite_unique κs a = determined_by (λ z h i. (h i, _))

-- of any type of numbers, and so of weights and of taps
module _ (T : RattleType) (laws : Laws T) (copy : IsCopy T) (number : Sample.Ghosts T.Denot) (sample : Dict)
    (cloned : Clone.Ghosts T.Denot) (clone : Dict) where
  has_nonfinite_unique : AllowsOneAnswer (has_nonfinite.ended T number sample cloned clone)
      (has_nonfinite_reads.Learnt T laws copy number sample cloned clone)
  has_nonfinite_unique κs a = determined_by (λ z h i. (h i, _))

is_product_unique : AllowsOneAnswer is_product.ended is_product_reads.Learnt
is_product_unique κs a = determined_by (λ z h i. (h i, _))

is_unfit_unique : AllowsOneAnswer is_unfit.ended is_unfit_reads.Learnt
is_unfit_unique κs a = determined_by (λ z h i. (h i, _))

is_block_unfit_unique : AllowsOneAnswer is_block_unfit.ended is_block_unfit_reads.Learnt
is_block_unfit_unique κs a = determined_by (λ z h i. (h i, _))

min_unique : AllowsOneAnswer min.ended min_reads.Learnt
min_unique κs a = determined_by (λ z h i. (h i, _))
