-- Document 01, 'Gains': "Binaural rows (002): the literals of 002 for orders 1 to 3, [..] times 1.0/root(2.0).
-- Bit-exact." Document 02, E7: "The right row becomes the left row with channels 1, 4, 5, 9, 10 and 11 negated, for
-- every order as far as it reaches. [..] Document 01's rows follow." Definitions only. Every literal of 002 is a whole
-- number of hundredths, so the left rows are written as those.
use Rattle.std.specs.Prelude.{◌∷◌, ◌++◌}
use Rattle.lists.specs.Prelude.{ℕ, List, [], map, ℤ, pos, neg_ℤ, Float}
use Rattle.formats.specs.Floats.{literal}
use Rattle.channel.specs.Orders.{by_order}
use Rattle.rows.specs.Rows.{scaled}
use Rattle.numbers.specs.Normalization.{inverse_root_of}
use Rattle.matrix.specs.Mirror.{mirrored}

pub data Ear : Type 0 where
  left : Ear
  right : Ear

-- of two rows, and of two ear planes, the left ear's is the first
abbrev pub ear_place : Ear → ℕ
ear_place left = 0
ear_place right = 1

-- the left ear's, in hundredths, in ACN order: first, second and third order
abbrev pub foa : List ℤ
foa = pos 50 ∷ pos 50 ∷ pos 10 ∷ pos 35 ∷ []

abbrev pub soa : List ℤ
soa = pos 45 ∷ pos 45 ∷ pos 9 ∷ pos 32 ∷ pos 25 ∷ pos 8 ∷ pos 5 ∷ pos 8 ∷ pos 15 ∷ []

abbrev pub toa : List ℤ
toa = pos 42 ∷ pos 42 ∷ pos 8 ∷ pos 30 ∷ pos 22 ∷ pos 7 ∷ pos 4 ∷ pos 7 ∷ pos 13 ∷ pos 15 ∷ pos 10 ∷ pos 5 ∷ pos 3
    ∷ pos 5 ∷ pos 10 ∷ pos 10 ∷ []

-- the row of an ear, made of the left ear's row: the right ear's is that row with the lateral channels negated
abbrev pub row_of : Ear → List ℤ → List ℤ
row_of left row = row
row_of right row = mirrored neg_ℤ row

-- by order: what is no order is refused
unfoldable pub hundredths : ℕ → Ear → List ℤ
hundredths n e = row_of e (by_order n foa soa toa)

-- each as a literal
abbrev pub literals : List ℤ → List Float
literals = map (λ (z : ℤ). literal z 100)

-- both rows, the left ear's first, times 1.0/root(2.0)
unfoldable pub binaural_rows : ℕ → List Float
binaural_rows n = scaled (inverse_root_of 2) (literals (hundredths n left) ++ literals (hundredths n right))
