-- `probe_gains::matrix` meets its contract. Assumes nothing.
use Rattle.probe_gains.proofs.Meets.{first, second}
use Rattle.probe_gains.proofs.matrix.Goals as goal

pub returns-then-operation-eq9 : goal.returns-then-operation-eq9
returns-then-operation-eq9 c = search first

pub returns : goal.returns
returns c = search second
