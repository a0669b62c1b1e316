-- `harmonics::third_order` meets its contract. Assumes nothing.
use Rattle.lists.specs.Prelude.{of_bits, of_int, round}
use Rattle.harmonics.specs.Computed.{up_to}
use Rattle.harmonics.proofs.third_order.Goals as goal

pub returns : goal.returns
unfolding up_to of_int round of_bits
returns c =
    let halfway = c.before.before.before.before.before.before.before in
    let at_second_order = halfway.before.before.before.before.before.before.before in
    rw at_second_order.second_order-gains.ensures
