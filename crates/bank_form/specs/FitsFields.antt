-- What lists of i16 and f32 are, and a bank that such lists hold. Definitions only.
use Rattle.std.specs.Prelude.{◌≡◌, ◌+◌, ◌*◌, ◌^◌, ◌<◌}
use Rattle.lists.specs.Prelude.{ℕ, T, Float, nan, binary32, fits, ℤ, pos, length}
use Rattle.std.specs.Int.Signed.{mag}
use Rattle.lists.specs.ForAll.{ForAll}
use Rattle.bank_form.specs.Bank.{Bank, rows}
use Rattle.bank_form.specs.Version.{row_size}
use Rattle.bank_form.specs.File.{Holds}

-- (-32768 too: the kit's `mag` of a number below zero is one less than its size)
abbrev pub IsI16 : ℤ → Type 0
IsI16 z = mag z < 2 ^ 15

abbrev pub IsFloat : Float → Type 0
IsFloat x = T (fits binary32 x)

-- a bank that lists of i16 and f32 hold, with the elevations and the taps that its counts ask for, small enough that
-- its counts and its length fit their fields, and with no elevation in version 1
pub record FitsFields (v : ℕ) (b : Bank) : Type 0 where
  pub holds : Holds v b
  pub few : rows b < 2 ^ 16
  pub short : b.length < 2 ^ 16
  pub follow : 4 + rows b * row_size v b.length < 2 ^ 32
  pub paired : length b.elevations ≡ rows b
  pub count : length b.taps ≡ rows b * (2 * b.length)
  pub azimuths : ForAll IsI16 (pos 0) b.azimuths
  pub elevations : ForAll IsI16 (pos 0) b.elevations
  pub taps : ForAll IsFloat nan b.taps
