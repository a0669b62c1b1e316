-- `surround::raw_gains` meets its contract: `lists`' `Filling`. Assumes nothing.
use Rattle.std.specs.Prelude.{◌++◌}
use Rattle.lists.specs.Prelude.{◌∙◌, ap, arith, length-take, drop, replicate, List, Float, of_bits, of_int}
use Rattle.formats.specs.Floats.{zero_float}
use Rattle.surround.specs.Computed.{channel_gain, raw_gains}
use Rattle.lists.proofs.Filling.{first_filled, filling_none, filling_more, filling_whole}
use Rattle.surround.proofs.raw_gains.Goals as goal

pub loop-c-init : goal.loop-c-init
loop-c-init c = filling_none _ _ _

pub loop-c-preserved : goal.loop-c-preserved
loop-c-preserved c =
    let at = c.loop-c in
    filling_more _ _ _ at.gain-items at.c _ at.invariant (omega (arith, length-take {A = Float}))
    (omega (arith, length-take {A = Float})) c.channel_gain.ensures

pub returns : goal.returns
unfolding raw_gains of_bits of_int
returns c =
    let a = c.args in
    let at = c.loop-c in
    ap (λ (l : List Float). l ++ drop a.channels (replicate 16 zero_float))
    (filling_whole _ a.channels _ at.gain-items at.c at.invariant
    (omega (arith, length-take {A = Float})) (omega (arith, length-take {A = Float})))
    ∙ first_filled (channel_gain a.layout a.azimuth) a.channels 16 zero_float (omega arith)
