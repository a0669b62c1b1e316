-- `harmonics::first_order` meets its contract. Assumes nothing.
use Rattle.lists.specs.Prelude.{of_bits, of_int, round, rules}
use Rattle.harmonics.specs.Computed.{up_to}
use Rattle.harmonics.proofs.first_order.Goals as goal

pub returns : goal.returns
unfolding up_to of_int round of_bits
returns c = search rules
