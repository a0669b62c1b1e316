-- No two answers meet the promise. Assumes nothing.
use Rattle.lists.specs.OneAnswer.{AllowsOneAnswer}
use Rattle.lists.specs.Prelude.{sym, ap, ◌∙◌}
use Rattle.refusals.proofs.Numbers.{done_apart}
use Rattle.rows.specs.Rows.{WeightsAnswer}
use Rattle.matrix.specs.contracts.compute_matrix as compute_matrix
use Rattle.matrix.proofs.compute_matrix.Reads as compute_matrix_reads

pub compute_matrix_unique : AllowsOneAnswer compute_matrix.ended compute_matrix_reads.Learnt
compute_matrix_unique κs a x y p q =
    let same = p ∙ sym q in
    λ i. (done_apart x.0 y.0 (ap (λ (w : WeightsAnswer). w.refusal) same) i, (_, ((same i).weights, _)))
