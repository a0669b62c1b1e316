-- `surround::calculate_vbap_gains` meets its contract: `Meets`. Assumes nothing.
use Rattle.lists.specs.Prelude.{sym, ap, ◌∙◌, not}
use Rattle.formats.specs.Floats.{zero_float}
use Rattle.refusals.specs.Numbers.{told}
use Rattle.channel.specs.Layouts.{CountTold, count_told}
use Rattle.surround.proofs.Meets.{sum_rooted, plays}
use Rattle.surround.proofs.calculate_vbap_gains.Goals as goal

pub unwrap-root-requires : goal.unwrap-root-requires
unwrap-root-requires c =
    sum_rooted c.args.layout _ _ c.is_surround.ensures _ _ _ _ (ap not c.if-not-is_surround.false)
    (sym c.refuses_azimuth.ensures ∙ c.if-refuses_azimuth.false)
    (ap (λ (k : CountTold). k.channels) (ap count_told (sym c.unwrap-channels.ensures) ∙ c.channel_count.ensures))
    c.raw_gains-raw.ensures c.sum_of_squares.ensures c.root.ensures

pub returns : goal.returns
returns c =
    plays c.args.layout _ _ c.is_surround.ensures _ _ _ _ _ (ap not c.if-not-is_surround.false)
    (sym c.refuses_azimuth.ensures ∙ c.if-refuses_azimuth.false)
    (ap (λ (k : CountTold). k.channels) (ap count_told (sym c.unwrap-channels.ensures) ∙ c.channel_count.ensures))
    c.raw_gains-raw.ensures c.sum_of_squares.ensures
    (ap (told zero_float) (sym c.unwrap-root.ensures) ∙ c.root.ensures.bits) c.divided.ensures
