-- `hrtf_setup::put_weights` meets its contract: `Filling`. Assumes nothing.
use Rattle.lists.specs.Prelude.{refl, arith, length}
use Rattle.lists.proofs.Filling.{filling_none, filling_more, filling_whole}
use Rattle.hrtf_setup.specs.Speakers.{weight_at}
use Rattle.hrtf_setup.proofs.put_weights.Goals as goal

pub loop-i-init : goal.loop-i-init
loop-i-init c = let a = c.args in filling_none (weight_at a.whose a.n) (length a.weights.now) a.weights.now

pub loop-i-preserved : goal.loop-i-preserved
loop-i-preserved c =
    let a = c.args in
    let l = c.loop-i in
    filling_more (weight_at a.whose a.n) (length a.weights.now) a.weights.now l.weights l.i
    c.weight.result l.invariant (omega (arith, l.invariant.same)) (omega arith)
    c.weight.ensures

pub returns : goal.returns
returns c =
    let a = c.args in
    let l = c.loop-i in
    filling_whole (weight_at a.whose a.n) (length a.weights.now) a.weights.now l.weights l.i
    l.invariant (omega (arith, l.invariant.same)) refl
