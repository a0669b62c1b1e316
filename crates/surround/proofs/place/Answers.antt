-- `surround::place` meets its contract. Assumes nothing.
use Rattle.lists.specs.Prelude.{sym, ◌∙◌, of_bits, of_int}
use Rattle.lists.proofs.Tests.{cond_true, cond_false}
use Rattle.surround.specs.Computed.{turned_towards}
use Rattle.surround.proofs.place.Goals as goal

pub returns-then-speaker-azimuth : goal.returns-then-speaker-azimuth
unfolding turned_towards of_bits of_int
returns-then-speaker-azimuth c = sym (cond_true _ _ c.if-speaker-azimuth.true)

pub returns-then-azimuth-speaker : goal.returns-then-azimuth-speaker
unfolding turned_towards of_bits of_int
returns-then-azimuth-speaker c = sym
    (cond_false _ _ c.before.if-speaker-azimuth.false ∙ cond_true _ _ c.if-azimuth-speaker.true)

pub returns : goal.returns
unfolding turned_towards of_bits of_int
returns c = sym (cond_false _ _ c.before.if-speaker-azimuth.false ∙ cond_false _ _ c.if-azimuth-speaker.false)
