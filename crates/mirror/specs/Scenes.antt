-- Document 02, E7: "Swap a scene left for right and the ears don't swap." A scene is swapped by negating the azimuth of
-- each voice. What the program then computes: which bits change, and which stay. Definitions only.
use Rattle.std.specs.Prelude.{◌-◌, ◌%◌, ◌<◌, ◌≡◌}
use Rattle.lists.specs.Prelude.{ℕ, false, List, map, length, take, Float, neg}
use Rattle.channel.specs.declared.Layout.{Layout}
use Rattle.channel.specs.declared.Layout.TheVariants.{Mono}
use Rattle.channel.specs.Layouts.{channels_of, positions}
use Rattle.channel.specs.Orders.{refuses_order, channels_of_order}
use Rattle.planes.specs.Sums.{mixed, mixed_all}
use Rattle.matrix.specs.Mirror.{mirrored}
use Rattle.angles.specs.Computed.{turn, place}
use Rattle.angles.specs.Promise as Angles
use Rattle.harmonics.specs.Computed.{sin, cos}
use Rattle.harmonics.specs.Promise as Harmonics
use Rattle.harmonics.specs.declared.Direction.{Direction}
use Rattle.decoder_matrix.specs.Matrix.{row_towards, row_by, matrix_of}
use Rattle.virtual_speaker.specs.Promise.{position_of}
use Rattle.virtual_speaker.specs.Promise as Virtual
use Rattle.panner.specs.declared.Command.TheVariants.{Ambisonic}
use Rattle.panner.specs.Commands.{gains_of_command}
use Rattle.panner.specs.Blocks.{narrowed_all, panned}
use Rattle.mirror.specs.Partners.{partner_in, partners, position_partners}
use Rattle.mirror.specs.Blocks.{PartnersSwap, exchanged, BlocksMirror}
use Rattle.formats.specs.Zeros.{unsigned_zero, Opposite}

-- ---- of an angle in degrees, any float, also one that is refused: where it lies on the turn, in the program's units
-- (what is left of the turn, or 0 again), its sine and cosine
pub record AngleMirrors (d : Float) : Type 0 where
  pub lies : place (neg d) ≡ (turn - place d) % turn
  pub refusal : Angles.refusal_of (neg d) ≡ Angles.refusal_of d
  pub cosine : cos (neg d) ≡ cos d
  pub sine : Opposite (sin (neg d)) (sin d)

-- ---- of a direction: its gains, and its gains weighted

abbrev pub mirrored_direction : Direction → Direction
mirrored_direction d = record { azimuth = neg d.azimuth; elevation = d.elevation }

-- one number for each channel, those of a scene and those of the scene that is swapped: mirrored but for the signs of
-- zeros
abbrev pub Swapped : List Float → List Float → Type 0
Swapped xs ys = map unsigned_zero ys ≡ map unsigned_zero (mirrored neg xs)

-- for every order and every direction, also those that are refused
pub record DirectionMirrors (order : ℕ) (d : Direction) : Type 0 where
  pub refusal : Harmonics.refusal_of order (mirrored_direction d) ≡ Harmonics.refusal_of order d
  pub gains : Swapped (Harmonics.outcome order d).gains (Harmonics.outcome order (mirrored_direction d)).gains
  pub weights : Swapped (Virtual.outcome order d).weights (Virtual.outcome order (mirrored_direction d)).weights

-- ---- of speakers: each has a partner that stands at the opposite azimuth, itself where that is 0 or 180

-- the row of a decoder towards any azimuth, one of n rows of so many channels; the rows of two partners; and the
-- weighted coefficients of two virtual speakers
pub record SpeakersMirror (order : ℕ) : Type 0 where
  pub row : (n channels : ℕ) (azimuth : Float) → Swapped (row_towards order n channels azimuth)
      (row_towards order n channels (neg azimuth))
  pub rows : (l : Layout) (channels i : ℕ) → i < length (partners l)
      → Swapped (row_by order l (channels_of l) channels i)
      (row_by order l (channels_of l) channels (partner_in (partners l) i))
  pub weights : (i : ℕ) → i < length positions
      → Swapped (Virtual.outcome order (position_of i)).weights
      (Virtual.outcome order (position_of (partner_in position_partners i))).weights

-- ---- what is played of them: bit for bit, since no sum sees the sign of a zero

-- what the panner puts into the planes of an order for one sample of a voice
abbrev pub voice : ℕ → Direction → Float → List Float
voice order d x = panned (channels_of_order order) (narrowed_all (gains_of_command (Ambisonic d order) Mono)) x

-- the weights of virtual speaker i
abbrev pub virtual_weights : ℕ → ℕ → List Float
virtual_weights order i = take (channels_of_order order) (Virtual.outcome order (position_of i)).weights

pub record ScenesMirror (order : ℕ) : Type 0 where
  -- a voice at the opposite azimuth, whatever the sample; through weights whose outputs have partners, as the two ears
  -- have, each output plays what its partner plays of the voice
  pub voices : (d : Direction) (x : Float) → Swapped (voice order d x) (voice order (mirrored_direction d) x)
  pub outputs : (n : ℕ) (weights : List Float) (partner : ℕ → ℕ)
      → PartnersSwap n (channels_of_order order) weights partner → (d : Direction) (x : Float)
      → mixed_all n (channels_of_order order) weights (voice order (mirrored_direction d) x) ≡ exchanged n partner
      (mixed_all n (channels_of_order order) weights (voice order d x))
  -- blocks of mirrored planes through the decoder matrix of a layout all of whose speakers have partners
  pub decoders : refuses_order order ≡ false → (l : Layout) → length (partners l) ≡ channels_of l
      → BlocksMirror (channels_of l) (channels_of_order order) (matrix_of order l) (partner_in (partners l))
  -- the signal of a virtual speaker
  pub signals : (i : ℕ) → i < length positions → (frame : List Float)
      → mixed (virtual_weights order (partner_in position_partners i)) frame ≡ mixed (virtual_weights order i)
      (mirrored neg frame)
