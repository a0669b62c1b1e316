-- No two answers meet one promise. Assumes nothing.
use Rattle.lists.specs.OneAnswer.{AllowsOneAnswer}
use Rattle.std.specs.Prelude.{◌≡◌, Result}
use Rattle.lists.specs.Prelude.{sym, ap, ◌∙◌}
use Rattle.refusals.specs.declared.Refusal.{Refusal}
use Rattle.refusals.proofs.Numbers.{told_apart}
use Rattle.hrtf_setup.specs.declared.Arranged.{Arranged}
use Rattle.hrtf_setup.specs.Arrangement.{none, SetupAnswer, setup_answer, Arrangement}
use Rattle.hrtf_setup.specs.contracts.new_surround as new_surround
use Rattle.hrtf_setup.proofs.new_surround.Reads as new_surround_reads
use Rattle.hrtf_setup.specs.contracts.new_ambisonic as new_ambisonic
use Rattle.hrtf_setup.proofs.new_ambisonic.Reads as new_ambisonic_reads

-- an answer is known by its number and its two counts
setup_apart : (x y : Result Arranged Refusal) → setup_answer x ≡ setup_answer y → x ≡ y
setup_apart x y e = told_apart none x y (ap (λ (s : SetupAnswer). s.refusal) e)
    (λ i. record { speakers = (e i).speakers; channels = (e i).channels })

new_surround_unique : AllowsOneAnswer new_surround.ended new_surround_reads.Learnt
new_surround_unique κs a x y p q =
    let same = p.bits ∙ sym q.bits in
    λ i. (
      setup_apart x.0 y.0 (ap (λ (o : Arrangement). o.answer) same) i,
      (_, (_, (_, (_, ((same i).weights, ((same i).rows, _)))))),
    )

new_ambisonic_unique : AllowsOneAnswer new_ambisonic.ended new_ambisonic_reads.Learnt
new_ambisonic_unique κs a x y p q =
    let same = p.bits ∙ sym q.bits in
    λ i. (
      setup_apart x.0 y.0 (ap (λ (o : Arrangement). o.answer) same) i,
      (_, (_, (_, (_, ((same i).weights, ((same i).rows, _)))))),
    )
