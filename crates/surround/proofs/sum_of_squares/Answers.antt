-- `surround::sum_of_squares` meets its contract: `planes`' `Summing`. Assumes nothing.
use Rattle.std.specs.Prelude.{◌<◌}
use Rattle.lists.specs.Prelude.{ap, arith, length-take, get_or-take, Float, binary64, mul, nan}
use Rattle.planes.proofs.Sums.{summing_more, summing_all}
use Rattle.surround.specs.Computed.{square_at, sum_of}
use Rattle.surround.proofs.sum_of_squares.Goals as goal

pub loop-gain-preserved : goal.loop-gain-preserved
loop-gain-preserved c =
    let a = c.args in
    let at = c.loop-gain in
    let h : at.gain-index < a.channels = omega (arith, length-take {A = Float}) in
    summing_more (square_at a.gains) a.channels at.sum at.gain-index _ at.invariant h
    (ap (λ (x : Float). mul binary64 x x) (get_or-take a.channels a.gains at.gain-index nan h))

pub returns : goal.returns
unfolding sum_of
returns c =
    let a = c.args in
    let at = c.loop-gain in
    summing_all (square_at a.gains) a.channels at.sum at.gain-index at.invariant
    (omega (arith, length-take {A = Float}))
