-- `probe_bank::write_from` meets its contract. Assumes nothing.
use Rattle.probe_bank.proofs.Meets.{written}
use Rattle.probe_bank.proofs.write_from.Goals as goal

pub returns : goal.returns
returns c = search written
