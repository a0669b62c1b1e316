-- `matrix::put_ears` meets its contract. Assumes nothing.
use Rattle.lists.specs.Prelude.{lit<}
use Rattle.numbers.proofs.Normalization.{inverse_ok, inverse_known}
use Rattle.matrix.proofs.PutEars.{fits}
use Rattle.matrix.proofs.put_ears.Goals as goal

pub unwrap-scale-requires : goal.unwrap-scale-requires
unwrap-scale-requires c = inverse_ok 2 _ (lit< tt) c.inverse_root.ensures

pub returns : goal.returns
returns c =
    let a = c.args in
    fits a.left.now a.right.now a.weights.now _ _ _ c.if-weights-left.false
    (inverse_known 2 _ _ (lit< tt) c.inverse_root.ensures c.unwrap-scale.ensures) c.put_row.ensures
    c.put_row-2.ensures
