-- No two answers meet one promise. Assumes nothing.
use Rattle.lists.specs.OneAnswer.{AllowsOneAnswer}
use Rattle.lists.proofs.Determined.{determined_by}
use Rattle.probe_gains.specs.contracts.answer as answer
use Rattle.probe_gains.proofs.answer.Reads as answer_reads

-- the count and the bytes, together
answer_unique : AllowsOneAnswer answer.ended answer_reads.Learnt
answer_unique κs a = determined_by (λ z h i. ((h i).place, (_, (_, ((h i).bytes, _)))))
