-- `surround::channel_gain` meets its contract: `RawSteps`. Assumes nothing.
use Rattle.lists.specs.Prelude.{ap, ◌∙◌, of_bits, of_int}
use Rattle.channel.specs.Layouts.{speakers, Angle}
use Rattle.channel.proofs.Tables.{degrees_answered_lem}
use Rattle.surround.proofs.RawSteps.{low, directed}
use Rattle.surround.proofs.channel_gain.Goals as goal

pub returns : goal.returns
unfolding of_bits of_int
returns c =
    let a = c.args in
    directed _ _ _ _ c.is_low_frequency.ensures _ _ c.if-is_low_frequency.false
    (c.unwrap_or-speaker.ensures ∙ ap (λ (r : Angle). r.degrees) (c.speaker_azimuth.ensures
    ∙ degrees_answered_lem (speakers a.layout) a.channel)) c.raw_gain.ensures

pub returns-then-is_low_frequency : goal.returns-then-is_low_frequency
unfolding of_bits of_int
returns-then-is_low_frequency c = low _ _ _ _ c.is_low_frequency.ensures c.if-is_low_frequency.true
