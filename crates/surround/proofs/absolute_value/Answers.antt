-- `surround::absolute_value` meets its contract. Assumes nothing.
use Rattle.lists.specs.Prelude.{sym, of_bits, of_int}
use Rattle.lists.proofs.Tests.{cond_true, cond_false}
use Rattle.surround.specs.Computed.{absolute}
use Rattle.surround.proofs.absolute_value.Goals as goal

pub returns-then-x : goal.returns-then-x
unfolding absolute of_bits of_int
returns-then-x c = sym (cond_true _ _ c.if-x.true)

pub returns : goal.returns
unfolding absolute of_bits of_int
returns c = sym (cond_false _ _ c.if-x.false)
