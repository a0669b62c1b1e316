-- `virtual_speaker::weigh` meets its contract: `lists`' `Filling`. Assumes nothing.
use Rattle.lists.specs.Prelude.{ap₂, arith, rules, le_refl, length-set, Float, nan, binary64, mul}
use Rattle.lists.proofs.Filling.{filling_none, filling_more, filling_ahead, filling_whole}
use Rattle.virtual_speaker.specs.Computed.{weigh}
use Rattle.virtual_speaker.proofs.weigh.Goals as goal

pub loop-channel-init : goal.loop-channel-init
loop-channel-init c = record { long = search rules; so_far = filling_none _ 16 _ }

pub loop-channel-preserved : goal.loop-channel-preserved
loop-channel-preserved c =
    let at = c.loop-channel in
    let far = at.invariant.so_far in
    record {
      long = omega (arith, length-set {A = Float});
      so_far = filling_more _ 16 _ at.coefficient-items at.channel _ far (omega arith) (omega (arith, far.same))
          (ap₂ (mul binary64)
          (filling_ahead _ 16 _ at.coefficient-items at.channel at.channel nan far (le_refl at.channel))
          c.weight.ensures);
    }

pub returns : goal.returns
unfolding weigh
returns c =
    let at = c.loop-channel in
    let far = at.invariant.so_far in
    filling_whole _ 16 _ at.coefficient-items at.channel far (omega arith) (omega (arith, far.same))
