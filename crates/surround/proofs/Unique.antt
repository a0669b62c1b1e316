-- No two answers meet the promise: it is the equation that leaves no room, where document 01's bound alone leaves 2 ^
-- -30 either way. Assumes nothing.
use Rattle.lists.specs.OneAnswer.{AllowsOneAnswer}
use Rattle.lists.specs.Prelude.{sym, ◌∙◌}
use Rattle.harmonics.proofs.Coefficients.{coefficients_apart}
use Rattle.surround.specs.contracts.calculate_vbap_gains as calculate_vbap_gains
use Rattle.surround.proofs.calculate_vbap_gains.Reads as calculate_vbap_gains_reads

pub calculate_vbap_gains_unique : AllowsOneAnswer calculate_vbap_gains.ended calculate_vbap_gains_reads.Learnt
calculate_vbap_gains_unique κs a x y p q = λ i. (coefficients_apart x.0 y.0 (p.bits ∙ sym q.bits) i, _)
