-- `stereo::calculate_stereo_gains` meets its contract. Assumes nothing.
use Rattle.lists.specs.Prelude.{sym, ap, ◌∙◌, subst, not, neg, of_bits, of_int}
use Rattle.std.specs.Prelude.{Result}
use Rattle.lists.specs.Prelude.{Float}
use Rattle.formats.specs.Floats.{zero_float}
use Rattle.refusals.specs.Numbers.{told}
use Rattle.refusals.specs.declared.Refusal.{Refusal}
use Rattle.series.specs.Sums.{sine, cosine}
use Rattle.angles.specs.Promise.{WavePromise}
use Rattle.stereo.specs.Computed.{clamped_to, angle_from}
use Rattle.stereo.proofs.Meets.{refuses, wave_accepted, plays}
use Rattle.stereo.proofs.calculate_stereo_gains.Goals as goal

pub returns-then-not-is_finite : goal.returns-then-not-is_finite
unfolding of_bits of_int
returns-then-not-is_finite c = refuses _ (ap not (sym c.is_finite.ensures) ∙ (ap not c.if-not-is_finite.true))

pub unwrap-left-requires : goal.unwrap-left-requires
unfolding clamped_to neg of_bits of_int
unwrap-left-requires c = wave_accepted c.args.position cosine _ _
    (ap not (sym c.is_finite.ensures) ∙ (ap not c.if-not-is_finite.false)) c.clamp.ensures.value c.cosine.ensures

pub unwrap-right-requires : goal.unwrap-right-requires
unfolding clamped_to neg of_bits of_int
unwrap-right-requires c = wave_accepted c.args.position sine _ _
    (ap not (sym c.is_finite.ensures) ∙ (ap not c.if-not-is_finite.false)) c.clamp.ensures.value c.sine.ensures

pub returns : goal.returns
unfolding clamped_to neg of_bits of_int
returns c =
    plays c.args.position _ _ _ (ap not (sym c.is_finite.ensures) ∙ (ap not c.if-not-is_finite.false))
    c.clamp.ensures.value
    (subst (λ (r : Result Float Refusal). WavePromise cosine (angle_from c.clamp.result) (told zero_float r))
    c.unwrap-left.ensures c.cosine.ensures)
    (subst (λ (r : Result Float Refusal). WavePromise sine (angle_from c.clamp.result) (told zero_float r))
    c.unwrap-right.ensures c.sine.ensures)
