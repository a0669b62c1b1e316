-- `surround::is_near` meets its contract. Assumes nothing.
use Rattle.lists.specs.Prelude.{sym, ◌∙◌, of_bits, of_int}
use Rattle.lists.proofs.Tests.{cond_true, cond_false}
use Rattle.surround.specs.Computed.{is_near}
use Rattle.surround.proofs.is_near.Goals as goal

pub returns-then-place-azimuth : goal.returns-then-place-azimuth
unfolding is_near of_bits of_int
returns-then-place-azimuth c = sym (cond_true _ _ c.if-place-azimuth.true)

pub returns-else-place-azimuth : goal.returns-else-place-azimuth
unfolding is_near of_bits of_int
returns-else-place-azimuth c = c.if-place-azimuth.false ∙ sym (cond_false _ _ c.if-place-azimuth.false)
