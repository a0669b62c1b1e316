-- No two answers meet the promise. Assumes nothing.
use Rattle.lists.specs.OneAnswer.{AllowsOneAnswer}
use Rattle.lists.specs.Prelude.{sym, ap, ◌∙◌}
use Rattle.refusals.proofs.Numbers.{done_apart}
use Rattle.rows.specs.Rows.{WeightsAnswer}
use Rattle.decoder_matrix.specs.contracts.compute_decoder_matrix as compute_decoder_matrix
use Rattle.decoder_matrix.proofs.compute_decoder_matrix.Reads as compute_decoder_matrix_reads

pub compute_decoder_matrix_unique : AllowsOneAnswer compute_decoder_matrix.ended compute_decoder_matrix_reads.Learnt
compute_decoder_matrix_unique κs a x y p q =
    let same = p.bits ∙ sym q.bits in
    λ i. (done_apart x.0 y.0 (ap (λ (w : WeightsAnswer). w.refusal) same) i, (_, (_, ((same i).weights, _))))
