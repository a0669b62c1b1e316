-- Document 02, E7: "The right row becomes the left row with channels 1, 4, 5, 9, 10 and 11 negated, for every order as
-- far as it reaches. Then prove, once over the order: negating those input channels swaps the two ear signals bit for
-- bit, all NaNs as one." Said of the weights themselves and of single frames; of blocks it is said in `mirror`. It is
-- shown in proofs/Ears.antt. Definitions only.
use Rattle.std.specs.Prelude.{◌≡◌}
use Rattle.lists.specs.Prelude.{ℕ, List, Float, neg}
use Rattle.lists.specs.Tables.{chunk}
use Rattle.planes.specs.Sums.{mixed}
use Rattle.channel.specs.Orders.{channels_of_order}
use Rattle.matrix.specs.Mirror.{mirrored}
use Rattle.matrix.specs.Rows.{Ear, left, right, ear_place}

abbrev pub other : Ear → Ear
other left = right
other right = left

-- the weights of an ear, of those that `compute_matrix` puts for an order
abbrev pub ear_row : ℕ → List Float → Ear → List Float
ear_row n weights e = chunk (channels_of_order n) (ear_place e) weights

-- the signal of an ear: document 01's sum of a frame, a sample for each channel
abbrev pub ear_signal : ℕ → List Float → Ear → List Float → Float
ear_signal n weights e frame = mixed (ear_row n weights e) frame

-- a frame may hold any samples, and be of any length
pub record Mirrors (n : ℕ) (weights : List Float) : Type 0 where
  pub right_row : ear_row n weights right ≡ mirrored neg (ear_row n weights left)
  pub swaps : (e : Ear) (frame : List Float) → ear_signal n weights (other e) (mirrored neg frame)
      ≡ ear_signal n weights e frame
