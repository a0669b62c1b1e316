-- `surround::divided` meets its contract: `lists`' `Filling`. Assumes nothing.
use Rattle.lists.specs.Prelude.{ap, arith, rules, le_refl, length-set, Float, nan, binary64, div}
use Rattle.surround.specs.Computed.{divided_by}
use Rattle.lists.proofs.Filling.{filling_none, filling_more, filling_ahead, filling_whole}
use Rattle.surround.proofs.divided.Goals as goal

pub loop-gain-init : goal.loop-gain-init
loop-gain-init c = record { long = search rules; so_far = filling_none _ 16 _ }

pub loop-gain-preserved : goal.loop-gain-preserved
loop-gain-preserved c =
    let at = c.loop-gain in
    let far = at.invariant.so_far in
    record {
      long = omega (arith, length-set {A = Float});
      so_far = filling_more _ 16 _ at.gain-items at.gain-index _ far (omega arith) (omega (arith, far.same))
          (ap (λ (x : Float). div binary64 x c.args.root)
          (filling_ahead _ 16 _ at.gain-items at.gain-index at.gain-index nan far (le_refl at.gain-index)));
    }

pub returns : goal.returns
unfolding divided_by
returns c =
    let at = c.loop-gain in
    let far = at.invariant.so_far in
    filling_whole _ 16 _ at.gain-items at.gain-index far (omega arith) (omega (arith, far.same))
