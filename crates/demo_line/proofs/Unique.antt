-- No two answers meet the promise. Assumes nothing.
use Rattle.lists.specs.OneAnswer.{AllowsOneAnswer}
use Rattle.lists.specs.Prelude.{sym, ap, ◌∙◌, replicate}
use Rattle.refusals.proofs.Numbers.{told_apart}
use Rattle.demo_line.specs.Records.{Placed}
use Rattle.demo_line.specs.contracts.place as place
use Rattle.demo_line.proofs.place.Reads as place_reads

place_unique : AllowsOneAnswer place.ended place_reads.Learnt
place_unique κs a x y p q =
    let same = p.bits ∙ sym q.bits in
    λ i. (
      told_apart (replicate 768 0) x.0 y.0 (ap (λ (r : Placed). r.refusal) same)
          (ap (λ (r : Placed). r.line) same) i,
      _,
    )
