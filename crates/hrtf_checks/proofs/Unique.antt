-- No two refusals meet the promise. Assumes nothing.
use Rattle.lists.specs.OneAnswer.{AllowsOneAnswer}
use Rattle.lists.specs.Prelude.{sym, ◌∙◌}
use Rattle.refusals.proofs.Numbers.{found_apart}
use Rattle.hrtf_checks.specs.contracts.refusal as refusal
use Rattle.hrtf_checks.proofs.refusal.Reads as refusal_reads

refusal_unique : AllowsOneAnswer refusal.ended refusal_reads.Learnt
refusal_unique κs a x y p q = λ i. (found_apart x.0 y.0 (p ∙ sym q) i, _)
