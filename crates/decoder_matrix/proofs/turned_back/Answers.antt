-- `decoder_matrix::turned_back` meets its contract. Assumes nothing.
use Rattle.lists.specs.Prelude.{sym, of_bits, of_int}
use Rattle.lists.proofs.Tests.{cond_true, cond_false}
use Rattle.decoder_matrix.specs.Speakers.{turned_back}
use Rattle.decoder_matrix.proofs.turned_back.Goals as goal

pub returns-then-azimuth : goal.returns-then-azimuth
unfolding of_bits of_int turned_back
returns-then-azimuth c = sym (cond_true _ _ c.if-azimuth.true)

pub returns : goal.returns
unfolding of_bits of_int turned_back
returns c = sym (cond_false _ _ c.if-azimuth.false)
