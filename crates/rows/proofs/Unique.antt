-- No two answers meet the promise. Assumes nothing.
use Rattle.lists.specs.OneAnswer.{AllowsOneAnswer}
use Rattle.lists.proofs.Determined.{determined_by}
use Rattle.rows.specs.contracts.put_row as put_row
use Rattle.rows.proofs.put_row.Reads as put_row_reads

pub put_row_unique : AllowsOneAnswer put_row.ended put_row_reads.Learnt
put_row_unique κs a = determined_by (λ z h i. (_, (_, (_, (h i, _)))))
