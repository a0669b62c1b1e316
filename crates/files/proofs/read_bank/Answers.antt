-- `files::read_bank` meets its contract: what was kept and counted is some file. Assumes nothing.
use Rattle.lists.specs.Prelude.{arith}
use Rattle.files.proofs.Sized.{sized_found}
use Rattle.files.proofs.read_bank.Goals as goal

pub returns : goal.returns
returns g c = sized_found _ _ (omega arith) _ _ _ _ c.read_sized.ensures
