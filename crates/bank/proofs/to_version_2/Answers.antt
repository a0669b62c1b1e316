-- `bank::to_version_2` meets its contract. Assumes nothing.
use Rattle.bank.proofs.Converting.{converts_2}
use Rattle.bank.proofs.to_version_2.Goals as goal

pub returns : goal.returns
returns c = converts_2 _ _ _ (λ i. (c.type_inv.file i).fits) c.convert.ensures
