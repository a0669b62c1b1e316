-- No two answers meet one promise. Assumes nothing.
use Rattle.std.specs.Prelude.{◌≡◌, Result}
use Rattle.lists.specs.OneAnswer.{AllowsOneAnswer}
use Rattle.lists.specs.Prelude.{sym, ap, ◌∙◌}
use Rattle.refusals.specs.declared.Refusal.{Refusal}
use Rattle.refusals.proofs.Numbers.{told_apart}
use Rattle.hrtf_desk.specs.declared.Desk.{Desk}
use Rattle.hrtf.specs.declared.BlockAnswer.{BlockAnswer}
use Rattle.hrtf.specs.Promise.{BlockTold, BlockOutcome, block_told, unplayed}
use Rattle.hrtf.specs.Reset.{Rested, ResetOutcome, reset_told}
use Rattle.hrtf.specs.contracts.process as process
use Rattle.hrtf.proofs.process.Reads as process_reads
use Rattle.hrtf.specs.contracts.reset as reset
use Rattle.hrtf.proofs.reset.Reads as reset_reads

-- an answer is known by its number and what is beside it
block_apart : (d : Desk) (x y : Result BlockAnswer Refusal) → block_told d x ≡ block_told d y → x ≡ y
block_apart d x y e =
    told_apart (unplayed d) x y (ap (λ (b : BlockTold). b.refusal) e)
    (λ i. record { samples = (e i).samples; unsettled = (e i).unsettled; desk = (e i).desk })

rested_apart : (d : Desk) (x y : Result Desk Refusal) → reset_told d x ≡ reset_told d y → x ≡ y
rested_apart d x y e = told_apart d x y (ap (λ (r : Rested). r.refusal) e) (ap (λ (r : Rested). r.desk) e)

process_unique : AllowsOneAnswer process.ended process_reads.Learnt
process_unique κs a x y p q =
    let same = p.bits ∙ sym q.bits in λ i. (
      block_apart a.0 x.0 y.0 (ap (λ (o : BlockOutcome). o.answer) same) i,
      (_, (_, (_, (_, (_, (_, (_, (_, ((same i).rings, ((same i).ears, _)))))))))),
    )

reset_unique : AllowsOneAnswer reset.ended reset_reads.Learnt
reset_unique κs a x y p q =
    let same = p.bits ∙ sym q.bits in λ i. (
      rested_apart a.0 x.0 y.0 (ap (λ (o : ResetOutcome). o.answer) same) i,
      (_, (_, (_, ((same i).rings, _)))),
    )
