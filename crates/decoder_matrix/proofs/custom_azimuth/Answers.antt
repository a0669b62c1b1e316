-- `decoder_matrix::custom_azimuth` meets its contract. Assumes nothing.
use Rattle.lists.specs.Prelude.{of_bits, of_int, rules}
use Rattle.decoder_matrix.specs.Speakers.{custom_azimuth}
use Rattle.decoder_matrix.proofs.custom_azimuth.Goals as goal

pub returns : goal.returns
unfolding of_bits of_int custom_azimuth
returns c = search rules
