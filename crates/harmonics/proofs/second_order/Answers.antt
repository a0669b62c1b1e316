-- `harmonics::second_order` meets its contract. Assumes nothing.
use Rattle.lists.specs.Prelude.{of_bits, of_int, round}
use Rattle.harmonics.specs.Computed.{up_to}
use Rattle.harmonics.proofs.second_order.Goals as goal

pub returns : goal.returns
unfolding up_to of_int round of_bits
returns c =
    let at_first_order = c.before.before.before.before.before.before.before.before.before in
    rw at_first_order.first_order-gains.ensures
