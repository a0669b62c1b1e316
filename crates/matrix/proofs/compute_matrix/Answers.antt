-- `matrix::compute_matrix` meets its contract: each constant table is the row of literals that specs/Rows.antt has, by
-- computing. Assumes nothing.
use Rattle.lists.specs.Prelude.{sym, ◌∙◌, round, of_bits, neg}
use Rattle.channel.proofs.Orders.{third_order}
use Rattle.matrix.specs.Rows.{binaural_rows, hundredths}
use Rattle.matrix.specs.Promise.{outcome}
use Rattle.matrix.proofs.Orders.{of_order_lem, no_order}
use Rattle.matrix.proofs.compute_matrix.Goals as goal

pub returns-then-refuses_order : goal.returns-then-refuses_order
returns-then-refuses_order c =
    let a = c.args in no_order a.order a.weights.now
    (sym c.refuses_order.ensures ∙ c.if-refuses_order.true)

pub returns-then-order-eq1 : goal.returns-then-order-eq1
unfolding outcome binaural_rows hundredths round of_bits neg
returns-then-order-eq1 c = search of_order_lem

pub returns-then-order-eq2 : goal.returns-then-order-eq2
unfolding outcome binaural_rows hundredths round of_bits neg
returns-then-order-eq2 c = search of_order_lem

pub returns : goal.returns
unfolding outcome binaural_rows hundredths round of_bits neg
returns c =
    let a = c.args in
    of_order_lem a.weights.now _
    (third_order a.order (sym c.refuses_order.ensures
    ∙ c.if-refuses_order.false) c.if-order-eq1.false c.if-order-eq2.false)
    c.put_ears-2.ensures
