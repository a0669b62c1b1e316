-- No two answers meet the promise. Assumes nothing.
use Rattle.lists.specs.OneAnswer.{AllowsOneAnswer}
use Rattle.lists.specs.Prelude.{sym, ap, ◌∙◌}
use Rattle.planes.proofs.Played.{played_apart}
use Rattle.ambisonic_decoder.specs.Promise.{DecodedBlock}
use Rattle.ambisonic_decoder.specs.contracts.process as process
use Rattle.ambisonic_decoder.proofs.process.Reads as process_reads

pub process_unique : AllowsOneAnswer process.ended process_reads.Learnt
process_unique κs a x y p q =
    let same = p ∙ sym q in λ i. (
      played_apart x.0 y.0 (ap (λ (b : DecodedBlock). b.answer) same) i,
      (_, (_, (_, (_, (_, (_, ((same i).out, _))))))),
    )
