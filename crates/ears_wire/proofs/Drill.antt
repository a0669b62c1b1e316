-- Document 01, item 10, and document 02, E2, worked: the lines, and a frame and its ears as bytes. Assumes nothing.
use Rattle.std.specs.Prelude.{◌≡◌, ◌∷◌}
use Rattle.lists.specs.Prelude.{refl, true, false, [], flat_map, pos, negsuc, nan, fin, to_bits}
use Rattle.big_endian.specs.Bytes.{bytes_of}
use Rattle.big_endian.specs.Lists.{field_bytes}
use Rattle.ears_wire.specs.Ears.{ear_bytes}
use Rattle.ears_wire.specs.Line.{decimal_by, decimal_digits, frames_word, unsettled_word, refused_word, at_word}
use Rattle.ears_wire.specs.Line.{newline}
use Rattle.ears_wire.specs.Line.{frames_line, refused_line, refused_at_line}

-- `frames 3 unsettled 2` and a newline
pub three_frames : frames_line 3 2 ≡ 102 ∷ 114 ∷ 97 ∷ 109 ∷ 101 ∷ 115 ∷ 32 ∷ 51 ∷ 32 ∷ 117 ∷ 110 ∷ 115 ∷ 101 ∷ 116 ∷ 116
    ∷ 108 ∷ 101 ∷ 100 ∷ 32 ∷ 50 ∷ 10 ∷ []
unfolding frames_line frames_word unsettled_word newline decimal_digits decimal_by
three_frames = refl

-- `frames 0 unsettled 0`
no_frames : frames_line 0 0 ≡ 102 ∷ 114 ∷ 97 ∷ 109 ∷ 101 ∷ 115 ∷ 32 ∷ 48 ∷ 32 ∷ 117 ∷ 110 ∷ 115 ∷ 101 ∷ 116 ∷ 116 ∷ 108
    ∷ 101 ∷ 100 ∷ 32 ∷ 48 ∷ 10 ∷ []
unfolding frames_line frames_word unsettled_word newline decimal_digits decimal_by
no_frames = refl

-- `refused 9`
pub refused_nine : refused_line 9 ≡ 114 ∷ 101 ∷ 102 ∷ 117 ∷ 115 ∷ 101 ∷ 100 ∷ 32 ∷ 57 ∷ 10 ∷ []
unfolding refused_line refused_word newline decimal_digits decimal_by
refused_nine = refl

-- `refused 14 at 1` and a newline
pub refused_fourteen : refused_at_line 14 1 ≡ 114 ∷ 101 ∷ 102 ∷ 117 ∷ 115 ∷ 101 ∷ 100 ∷ 32 ∷ 49 ∷ 52 ∷ 32 ∷ 97 ∷ 116
    ∷ 32
    ∷ 49 ∷ 10 ∷ []
unfolding refused_at_line refused_word at_word newline decimal_digits decimal_by
refused_fourteen = refl

-- no zero in front, none lost behind
tens : decimal_digits 1070 ≡ 49 ∷ 48 ∷ 55 ∷ 48 ∷ []
unfolding decimal_digits decimal_by
tens = refl

-- left 1.0 and right -0.5, then a NaN and 0.0
ears_written : ear_bytes ((fin false 1 (pos 0) ∷ fin true 1 (negsuc 0) ∷ []) ∷ (nan ∷ fin false 0 (pos 0) ∷ []) ∷ [])
    ≡ 0x3F ∷ 0x80 ∷ 0 ∷ 0 ∷ 0xBF ∷ 0 ∷ 0 ∷ 0 ∷ 0x7F ∷ 0xC0 ∷ 0 ∷ 0 ∷ 0 ∷ 0 ∷ 0 ∷ 0 ∷ []
unfolding ear_bytes field_bytes flat_map bytes_of to_bits
ears_written = refl
