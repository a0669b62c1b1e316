-- No two answers meet one promise. Assumes nothing.
use denote.RattleType.{RattleType}
use denote.Param.Laws.{IsCopy, Laws}
use mir.Syntax.{Dict}
use Rattle.std.specs.declared.clone.Clone as Clone
use Rattle.lists.specs.OneAnswer.{AllowsOneAnswer}
use Rattle.lists.proofs.Determined.{determined_by}
use Rattle.refusals.specs.contracts.is_within as is_within
use Rattle.refusals.proofs.is_within.Reads as is_within_reads
use Rattle.refusals.specs.contracts.is_between as is_between
use Rattle.refusals.proofs.is_between.Reads as is_between_reads
use Rattle.refusals.specs.contracts.is_outside as is_outside
use Rattle.refusals.proofs.is_outside.Reads as is_outside_reads
use Rattle.refusals.specs.contracts.Refusal.number as number
use Rattle.refusals.proofs.Refusal.number.Reads as number_reads
use Rattle.refusals.specs.contracts.number_in as number_in
use Rattle.refusals.proofs.number_in.Reads as number_in_reads

is_within_unique : AllowsOneAnswer is_within.ended is_within_reads.Learnt
is_within_unique κs a = determined_by (λ z h i. (h i, _))

is_between_unique : AllowsOneAnswer is_between.ended is_between_reads.Learnt
is_between_unique κs a = determined_by (λ z h i. (h i, _))

is_outside_unique : AllowsOneAnswer is_outside.ended is_outside_reads.Learnt
is_outside_unique κs a = determined_by (λ z h i. (h i, _))

number_unique : AllowsOneAnswer number.ended number_reads.Learnt
number_unique κs a = determined_by (λ z h i. (h i, _))

-- of an answer of any type
module _ (T : RattleType) (laws : Laws T) (copy : IsCopy T) (cloned : Clone.Ghosts T.Denot) (clone : Dict) where
  number_in_unique : AllowsOneAnswer (number_in.ended T cloned clone) (number_in_reads.Learnt T laws copy cloned clone)
  number_in_unique κs a = determined_by (λ z h i. (h i, _))
