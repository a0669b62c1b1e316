-- Document 02, E3: "Document 01's rule and case 5 change: at 120 only Ls still sounds; at 0, C is now loudest, with L
-- and R equal." The floats that the program gives there. Definitions only.
use Rattle.std.specs.Prelude.{◌∷◌}
use Rattle.lists.specs.Prelude.{List, [], Float, binary64, of_bits}
use Rattle.formats.specs.Floats.{zero_float}

-- the sixteen gains of 5.1 where LFE and Rs are silent
abbrev pub gains51 : Float → Float → Float → Float → List Float
gains51 l r c ls =
    let o = zero_float in
    l ∷ r ∷ c ∷ o ∷ ls ∷ o ∷ o ∷ o ∷ o ∷ o ∷ o ∷ o ∷ o ∷ o ∷ o ∷ o ∷ []

-- of L and of R at 0, 0.5477, and of C there, 0.6325
abbrev pub sides_at0 : Float
sides_at0 = of_bits binary64 0x3FE186F174F88472

abbrev pub centre_at0 : Float
centre_at0 = of_bits binary64 0x3FE43D136248490E
