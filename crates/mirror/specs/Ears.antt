-- Document 02, E7: "negating those input channels swaps the two ear signals bit for bit, all NaNs as one", of the
-- weights that an accepted `compute_matrix` left, whatever was lent to it. The right row is in `Mirrors` of `matrix`.
-- It is shown in proofs/Ears.antt. Definitions only.
use Rattle.std.specs.Prelude.{◌*◌, ◌≤◌, ◌≡◌}
use Rattle.lists.specs.Prelude.{ℕ, List, Float}
use Rattle.planes.specs.Sums.{mixed_all}
use Rattle.channel.specs.Orders.{channels_of_order}
use Rattle.harmonics.specs.declared.Direction.{Direction}
use Rattle.ambisonic_decoder.specs.Blocks.{refusal_of}
use Rattle.matrix.specs.Promise.{BinauralRowsPromise}
use Rattle.matrix.specs.Ears.{Mirrors}
use Rattle.mirror.specs.Partners.{other_ear}
use Rattle.mirror.specs.Blocks.{exchanged, BlocksMirror}
use Rattle.mirror.specs.Scenes.{mirrored_direction, voice}

-- what the left ear and then the right ear hears of a frame
abbrev pub matrix_ears : ℕ → List Float → List Float → List Float
matrix_ears n weights frame = mixed_all 2 (channels_of_order n) weights frame

pub record EarsSwap (n : ℕ) (weights : List Float) : Type 0 where
  -- each frame alone
  pub frames : Mirrors n weights
  -- blocks; and where the lengths fit they are accepted
  pub blocks : BlocksMirror 2 (channels_of_order n) weights other_ear
  pub accepted : (frames stride inputs out : ℕ) → frames ≤ stride → inputs ≡ channels_of_order n * stride
      → out ≡ 2 * stride
      → refusal_of (record { outputs = 2; channels = channels_of_order n; frames = frames; stride = stride }) weights
      inputs out ≡ 0
  -- a voice that the panner puts at the opposite azimuth
  pub voices : (d : Direction) (x : Float) → matrix_ears n weights (voice n (mirrored_direction d) x) ≡ exchanged 2
      other_ear
      (matrix_ears n weights (voice n d x))

abbrev pub RowsSwapEars : Type 0
RowsSwapEars =
    (n : ℕ) (lent weights : List Float) → BinauralRowsPromise n lent (record { refusal = 0; weights = weights })
    → EarsSwap n weights
