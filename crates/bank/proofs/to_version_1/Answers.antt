-- `bank::to_version_1` meets its contract. Assumes nothing.
use Rattle.bank.proofs.Converting.{converts_1}
use Rattle.bank.proofs.to_version_1.Goals as goal

pub returns : goal.returns
returns c = converts_1 _ _ _ (λ i. (c.type_inv.file i).fits) c.convert.ensures
