-- `probe_bank::fillings::fill` meets its contract: `Filling`. Assumes nothing.
use Rattle.lists.specs.Prelude.{arith, refl}
use Rattle.lists.proofs.Filling.{filling_none, filling_more, filling_whole}
use Rattle.probe_bank.proofs.fillings.fill.Goals as goal

pub loop-i-init : goal.loop-i-init
loop-i-init g c = filling_none _ _ _

pub loop-i-preserved : goal.loop-i-preserved
loop-i-preserved g c = let turn = c.loop-i in filling_more g.T.Filling.filling _ _ turn.list turn.i _ turn.invariant
    (omega arith) (omega arith) c.filling.ensures

pub returns : goal.returns
returns g c = let turn = c.loop-i in filling_whole g.T.Filling.filling _ _ turn.list turn.i turn.invariant
    (omega arith) refl
