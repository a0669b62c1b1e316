-- Document 01, 'Filter bank file' and 'Marked drill table' 11, the example: "One row at 0, L = 1, left 1.0, right 0.5",
-- and its bytes; and those of version 2 (document 02, E6). Definitions only.
use Rattle.std.specs.Prelude.{◌∷◌}
use Rattle.lists.specs.Prelude.{ℕ, List, [], pos}
use Rattle.formats.specs.Floats.{one_float, half_float}
use Rattle.bank_form.specs.Bank.{Bank}

abbrev pub one_row : Bank
one_row = record { azimuths = pos 0 ∷ []; elevations = pos 0 ∷ []; length = 1; taps = one_float ∷ half_float ∷ [] }

abbrev pub one_row_bytes : List ℕ
one_row_bytes = 0x01 ∷ 0x00 ∷ 0x00 ∷ 0x00 ∷ 0x0E ∷ 0x00 ∷ 0x01 ∷ 0x00 ∷ 0x01 ∷ 0x00 ∷ 0x00 ∷ 0x3F ∷ 0x80 ∷ 0x00 ∷ 0x00
    ∷ 0x3F ∷ 0x00 ∷ 0x00 ∷ 0x00 ∷ []

abbrev pub one_row_bytes2 : List ℕ
one_row_bytes2 = 0x02 ∷ 0x00 ∷ 0x00 ∷ 0x00 ∷ 0x10 ∷ 0x00 ∷ 0x01 ∷ 0x00 ∷ 0x01 ∷ 0x00 ∷ 0x00 ∷ 0x00 ∷ 0x00 ∷ 0x3F ∷ 0x80
    ∷ 0x00 ∷ 0x00 ∷ 0x3F ∷ 0x00 ∷ 0x00 ∷ 0x00 ∷ []
