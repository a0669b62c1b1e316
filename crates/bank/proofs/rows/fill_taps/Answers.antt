-- `bank::rows::fill_taps` meets its contract. The taps read so far stand at the start of the list. Assumes nothing.
use Rattle.lists.specs.Prelude.{refl, arith, le_refl}
use Rattle.big_endian.specs.Lists.{strided}
use Rattle.lists.proofs.Filling.{filling_none, filling_more, filling_whole}
use Rattle.bank.proofs.rows.fill_taps.Goals as goal

pub loop-k-init : goal.loop-k-init
loop-k-init c = filling_none _ _ _

pub loop-k-preserved : goal.loop-k-preserved
loop-k-preserved c =
    filling_more _ _ _ _ _ _ c.loop-k.invariant c.loop-k-test.true (le_refl _) c.get_f32.ensures

pub returns : goal.returns
unfolding strided
returns c = filling_whole _ _ _ _ _ c.loop-k.invariant (omega arith) refl
