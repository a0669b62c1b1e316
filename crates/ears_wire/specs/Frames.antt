-- Document 01, item 10: "5.1 frames of six big-endian f32". A frame is a record of 24 bytes, its channels in their
-- order, four bytes each. Definitions only.
use Rattle.lists.specs.Prelude.{ℕ, List, Float}
use Rattle.big_endian.specs.Lists.{floats_at}
use Rattle.ears_wire.specs.Records.{each_in}

abbrev pub frame_of : List ℕ → List Float
frame_of bytes = floats_at bytes 0 6

-- the whole frames of a line, in the order of time
abbrev pub line_frames : List ℕ → List (List Float)
line_frames line = each_in 24 frame_of line
