-- Ranges, as document 01 writes them: "row count 1..8", "azimuth in tenths of a degree, -1799..1800". Both ends belong
-- to the range. Definitions only.
use Rattle.std.specs.Prelude.{◌&&◌}
use Rattle.lists.specs.Prelude.{ℕ, Bool, leb, ℤ, pos, negsuc}
use Rattle.std.specs.Int.Signed.{le_z}

abbrev pub within : ℕ → ℕ → ℕ → Bool
within low high n = leb low n && leb n high

-- of signed numbers
abbrev pub between : ℤ → ℤ → ℤ → Bool
between low high z = le_z low z && le_z z high

-- an elevation in tenths of a degree, of a bank's row and of a speaker: -900 .. 900
unfoldable pub is_elevation : ℤ → Bool
is_elevation z = between (negsuc 899) (pos 900) z
