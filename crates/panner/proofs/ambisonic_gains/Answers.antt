-- `panner::ambisonic_gains` meets its contract: `Gains`. Assumes nothing.
use Rattle.lists.specs.Prelude.{refl}
use Rattle.std.proofs.lemmas.Result.{err_from_is_err_and}
use Rattle.channel.proofs.Counts.{channels_accepted}
use Rattle.channel.proofs.Orders.{order_well}
use Rattle.panner.proofs.Gains.{ambisonic_by_order, ambisonic_by_layout, ambisonic_by_direction, ambisonic_accepted}
use Rattle.panner.proofs.ambisonic_gains.Goals as goal

pub returns-in_err-planes : goal.returns-in_err-planes
returns-in_err-planes c =
    let p = err_from_is_err_and c.from_residual.result c.from_residual.ensures.1 in
    rw (p.1, p.2) (ambisonic_by_order c.args.layout c.args.direction c.args.order _ c.in_err-planes.ensures)

pub returns-in_err-channel_count : goal.returns-in_err-channel_count
returns-in_err-channel_count c =
    let f = c.from_residual-in_err-channel_count in
    let p = err_from_is_err_and f.result f.ensures.1 in
    rw (p.1, p.2) (ambisonic_by_layout c.args.layout c.args.direction c.args.order _
    (order_well c.args.order _ c.in_ok-planes.ensures refl).0 c.in_err-channel_count.ensures)

pub returns-in_err-gains : goal.returns-in_err-gains
returns-in_err-gains c =
    let p = err_from_is_err_and c.from_residual-in_err-gains.result c.from_residual-in_err-gains.ensures.1 in
    rw (p.1, p.2) (ambisonic_by_direction c.args.layout c.args.direction c.args.order _ c.in_err-gains.ensures
    (order_well c.args.order _ c.in_ok-planes.ensures refl).0
    (channels_accepted c.args.layout _ c.in_ok-channel_count.ensures refl).0)

pub returns : goal.returns
returns c =
    let planes = order_well c.args.order _ c.in_ok-planes.ensures refl in
    ambisonic_accepted c.args.layout c.args.direction c.args.order _ c.in_ok-gains.ensures planes.0
    (channels_accepted c.args.layout _ c.in_ok-channel_count.ensures refl).0 _ refl
    (λ i. record { refusal = 0; planes = planes.1 i; gains = c.in_ok-gains.gains })
