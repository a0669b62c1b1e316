-- `panner::stereo_gains` meets its contract: `Gains`. Assumes nothing.
use Rattle.lists.specs.Prelude.{refl, of_bits, of_int}
use Rattle.std.proofs.lemmas.Result.{err_from_is_err_and}
use Rattle.channel.proofs.Counts.{channels_accepted}
use Rattle.panner.proofs.Gains.{stereo_by_layout, stereo_by_position, stereo_accepted}
use Rattle.panner.proofs.stereo_gains.Goals as goal

pub returns-in_err-channel_count : goal.returns-in_err-channel_count
returns-in_err-channel_count c =
    let p = err_from_is_err_and c.from_residual.result c.from_residual.ensures.1 in
    rw (p.1, p.2) (stereo_by_layout c.args.layout c.args.position _ c.in_err-channel_count.ensures)

pub returns-in_err-stereo : goal.returns-in_err-stereo
returns-in_err-stereo c =
    let p = err_from_is_err_and c.from_residual-in_err-stereo.result c.from_residual-in_err-stereo.ensures.1 in
    rw (p.1, p.2) (stereo_by_position c.args.layout c.args.position _
    (channels_accepted c.args.layout _ c.in_ok-channel_count.ensures refl).0 c.in_err-stereo.ensures)

pub returns : goal.returns
unfolding of_bits of_int
returns c = stereo_accepted c.args.layout c.args.position _ c.in_ok-stereo.ensures _
    (channels_accepted c.args.layout _ c.in_ok-channel_count.ensures refl).0 refl refl
