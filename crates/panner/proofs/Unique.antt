-- No two answers meet the promise. Assumes nothing.
use Rattle.lists.specs.OneAnswer.{AllowsOneAnswer}
use Rattle.std.specs.Prelude.{◌≡◌, Result}
use Rattle.lists.specs.Prelude.{ap, sym, ◌∙◌}
use Rattle.lists.proofs.Determined.{determined_by}
use Rattle.refusals.specs.declared.Refusal.{Refusal}
use Rattle.refusals.proofs.Numbers.{told_apart}
use Rattle.planes.proofs.Played.{played_apart}
use Rattle.panner.specs.declared.CommandGains.{CommandGains}
use Rattle.panner.specs.Halves.{GainsAnswer, ungained, gained}
use Rattle.panner.specs.Promise.{PannedBlock}
use Rattle.panner.specs.contracts.command_gains as command_gains
use Rattle.panner.proofs.command_gains.Reads as command_gains_reads
use Rattle.panner.specs.contracts.play_part as play_part
use Rattle.panner.proofs.play_part.Reads as play_part_reads
use Rattle.panner.specs.contracts.process as process
use Rattle.panner.proofs.process.Reads as process_reads

-- an answer is known by its number, its planes and its gains
gained_apart : (x y : Result CommandGains Refusal) → gained x ≡ gained y → x ≡ y
gained_apart x y e = told_apart ungained x y (ap (λ (a : GainsAnswer). a.refusal) e)
    (ap (λ (a : GainsAnswer). record { planes = a.planes; gains = a.gains }) e)

-- what a command plays
pub command_gains_unique : AllowsOneAnswer command_gains.ended command_gains_reads.Learnt
command_gains_unique κs a x y p q = λ i. (gained_apart x.0 y.0 (p.bits ∙ sym q.bits) i, _)

-- what the output planes hold after a part
pub play_part_unique : AllowsOneAnswer play_part.ended play_part_reads.Learnt
play_part_unique κs a = determined_by (λ z h i. (_, (h i, _)))

-- the answer and what the output planes hold
pub process_unique : AllowsOneAnswer process.ended process_reads.Learnt
process_unique κs a x y p q =
    let same = p.bits ∙ sym q.bits in λ i. (
      played_apart x.0 y.0 (ap (λ (b : PannedBlock). b.answer) same) i,
      (_, (_, (_, (_, (_, ((same i).out, _)))))),
    )
