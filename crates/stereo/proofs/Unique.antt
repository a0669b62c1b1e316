-- The contract of `calculate_stereo_gains` allows one answer. Document 01's bound alone would allow every gain within
-- 2 ^ -36. Assumes nothing.
use Rattle.lists.specs.OneAnswer.{AllowsOneAnswer}
use Rattle.std.specs.Prelude.{◌≡◌, Result}
use Rattle.lists.specs.Prelude.{ap, sym, ◌∙◌}
use Rattle.refusals.specs.declared.Refusal.{Refusal}
use Rattle.refusals.proofs.Numbers.{told_apart}
use Rattle.stereo.specs.declared.StereoGains.{StereoGains}
use Rattle.stereo.specs.Promise.{StereoAnswer, unsteered, steered}
use Rattle.stereo.specs.contracts.calculate_stereo_gains as calculate_stereo_gains
use Rattle.stereo.proofs.calculate_stereo_gains.Reads as calculate_stereo_gains_reads

-- an answer is known by its number and its gains
steered_apart : (x y : Result StereoGains Refusal) → steered x ≡ steered y → x ≡ y
steered_apart x y e = told_apart unsteered x y (ap (λ (a : StereoAnswer). a.refusal) e)
    (ap (λ (a : StereoAnswer). record { left = a.left; right = a.right }) e)

pub calculate_stereo_gains_unique : AllowsOneAnswer calculate_stereo_gains.ended calculate_stereo_gains_reads.Learnt
calculate_stereo_gains_unique κs a x y p q = λ i. (steered_apart x.0 y.0 (p.bits ∙ sym q.bits) i, _)
