-- `bank::fill_bank` meets its contract. Assumes nothing.
use Rattle.bank.proofs.Meets.{filled}
use Rattle.bank.proofs.fill_bank.Goals as goal

pub returns : goal.returns
returns c =
    let fill = c.fill_rows.ensures in
    filled _ _ _ _ _ _ _ _ _ _ c.get-version.ensures.bits c.get-rows.ensures.bits c.get-length.ensures.bits
    fill.azimuths fill.elevations fill.taps
