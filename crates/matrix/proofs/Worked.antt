-- The worked bits of E7: weights of the right ear, and what the two ears hear of a frame, as it is and mirrored, by
-- computing. A source at (30, 20), which needs harmonics, is worked in the oracle. Assumes nothing.
use Rattle.std.specs.Prelude.{◌≡◌, ◌∷◌}
use Rattle.lists.specs.Prelude.{ap, fun_ext, cond, List, [], map, ℕ, eqb, pos, get_or, Float, nan, binary32, binary64}
use Rattle.lists.specs.Prelude.{to_bits, neg, add, mul, sum, round, of_int}
use Rattle.formats.specs.Floats.{zero_float, one_float, half_float, minus_one_float, float}
use Rattle.numbers.specs.Computed.{rounded}
use Rattle.lists.specs.Tables.{tab}
use Rattle.planes.specs.Sums.{mixed}
use Rattle.matrix.specs.Mirror.{mirrored}
use Rattle.matrix.specs.Rows.{left, right, hundredths, binaural_rows}
use Rattle.matrix.specs.Ears.{ear_row, ear_signal}
use Rattle.matrix.proofs.Sound.{rows_are}

-- the right ear's weights at some channels of an order
abbrev right_bits : (ℕ → List Float) → ℕ → List ℕ → List ℕ
right_bits at n = map (λ (c : ℕ). to_bits binary64 (get_or (ear_row n (at n) right) c nan))

-- those of the lateral channels of the second order, of which 5 is not 002's; of the third, of which 5 and 11 are not,
-- and of 13, which has no sign, and 14, which 002 gives one
worked_second_row : right_bits binaural_rows 2 (1 ∷ 4 ∷ 5 ∷ []) ≡ 0xBFD45D5B5C3F4F6B ∷ 0xBFC6A09E667F3BCC
    ∷ 0xBFACF68D4FFF04DC
    ∷ []
unfolding hundredths round mul to_bits
worked_second_row = ap (λ (at : ℕ → List Float). right_bits at 2 (1 ∷ 4 ∷ 5 ∷ [])) (fun_ext rows_are)

worked_third_row : right_bits binaural_rows 3 (1 ∷ 4 ∷ 5 ∷ 9 ∷ 10 ∷ 11 ∷ 13 ∷ 14 ∷ [])
    ≡ 0xBFD301CCBC7F5B30 ∷ 0xBFC3E98126FF5357 ∷ 0xBFA957BBA5FF2441 ∷ 0xBFBB27247AFF148E ∷ 0xBFB21A1851FF630A
    ∷ 0xBFA21A1851FF630A ∷ 0x3FA21A1851FF630A ∷ 0x3FB21A1851FF630A ∷ []
unfolding hundredths round mul to_bits
worked_third_row =
    ap (λ (at : ℕ → List Float). right_bits at 3 (1 ∷ 4 ∷ 5 ∷ 9 ∷ 10 ∷ 11 ∷ 13 ∷ 14 ∷ [])) (fun_ext rows_are)

-- what the left ear hears and what the right ear hears, of a frame and of the mirrored frame
abbrev heard : (ℕ → List Float) → ℕ → List Float → List ℕ
heard at n frame =
    to_bits binary32 (ear_signal n (at n) left frame) ∷ to_bits binary32 (ear_signal n (at n) right frame) ∷ []

abbrev heard_twice : (ℕ → List Float) → ℕ → List Float → List (List ℕ)
heard_twice at n frame = heard at n frame ∷ heard at n (mirrored neg frame) ∷ []

-- 1.0 on one of so many channels
abbrev pub alone : ℕ → ℕ → List Float
alone c channels = tab 0 channels (λ (k : ℕ). cond (eqb k c) one_float zero_float)

-- on channel 5, where 002 lets both ears hear the same
worked_second_order : heard_twice binaural_rows 2 (alone 5 9) ≡ (0x3D67B46A ∷ 0xBD67B46A ∷ [])
    ∷ (0xBD67B46A ∷ 0x3D67B46A ∷ [])
    ∷ []
unfolding hundredths mixed rounded add sum mul neg round to_bits
worked_second_order = ap (λ (at : ℕ → List Float). heard_twice at 2 (alone 5 9)) (fun_ext rows_are)

worked_first_order : heard_twice binaural_rows 1 (one_float ∷ float (pos 2) ∷ half_float ∷ minus_one_float ∷ [])
    ≡ (0x3F593924 ∷ 0xBF10D0C3 ∷ []) ∷ (0xBF10D0C3 ∷ 0x3F593924 ∷ []) ∷ []
unfolding hundredths mixed rounded add sum mul neg round to_bits of_int
worked_first_order = ap (λ (at : ℕ → List Float). heard_twice at 1
    (one_float ∷ float (pos 2) ∷ half_float ∷ minus_one_float ∷ [])) (fun_ext rows_are)
