-- Document 02, E7: "negating those input channels swaps the two ear signals bit for bit, all NaNs as one". What it is
-- for blocks of the decoder: any weights whose outputs have partners, of which the two ears are one case, and two calls
-- of `ambisonic_decoder::process`, the second lent the input planes with those channels negated. Definitions only.
use Rattle.std.specs.Prelude.{◌/◌, ◌<◌, ◌≡◌}
use Rattle.lists.specs.Prelude.{ℕ, List, map, length, get_or, Float, nan, neg}
use Rattle.lists.specs.Tables.{tab, chunk}
use Rattle.planes.specs.Planes.{frames_of}
use Rattle.planes.specs.Sums.{mixed}
use Rattle.ambisonic_decoder.specs.Promise.{Decoded}
use Rattle.ambisonic_decoder.specs.Promise.{DecoderPromise}
use Rattle.matrix.specs.Mirror.{lateral, negated_at, mirrored}

-- each output has a partner: what the output plays of a mirrored frame is what the partner plays of the frame, whatever
-- its samples are
pub record PartnersSwap (outputs channels : ℕ) (weights : List Float) (partner : ℕ → ℕ) : Type 0 where
  pub inside : (o : ℕ) → o < outputs → partner o < outputs
  pub swaps : (o : ℕ) → o < outputs → (frame : List Float)
      → mixed (chunk channels o weights) (mirrored neg frame) ≡ mixed (chunk channels (partner o) weights) frame

-- a call: what it is lent beside the weights, what it answers, and what the output planes hold then
pub record DecoderCall : Type 0 where
  pub frames : ℕ
  pub stride : ℕ
  pub inputs : List Float
  pub out : List Float
  pub answer : Decoded
  pub after : List Float

-- it meets the promise of `ambisonic_decoder::process`
abbrev pub Meets : ℕ → ℕ → List Float → DecoderCall → Type 0
Meets outputs channels weights c =
    DecoderPromise weights (record { outputs = outputs; channels = channels; frames = c.frames; stride = c.stride })
    c.inputs c.out c.answer c.after

-- the frames that it says it played, read from the output planes as it leaves them
abbrev pub decoder_played : ℕ → DecoderCall → List (List Float)
decoder_played outputs c = frames_of c.after c.stride outputs c.answer.samples

-- the planes of the lateral channels negated: place i stands in plane i / stride
abbrev pub mirrored_planes : ℕ → List Float → List Float
mirrored_planes stride = negated_at neg (λ (i : ℕ). lateral (i / stride)) 0

-- the same call of the mirrored planes; its output planes may hold anything before it
pub record MirrorCall (c d : DecoderCall) : Type 0 where
  pub frames : d.frames ≡ c.frames
  pub stride : d.stride ≡ c.stride
  pub inputs : d.inputs ≡ mirrored_planes c.stride c.inputs
  pub out : length d.out ≡ length c.out

-- a frame of the outputs with each sample at its partner's place
abbrev pub exchanged : ℕ → (ℕ → ℕ) → List Float → List Float
exchanged outputs partner frame = tab 0 outputs (λ (o : ℕ). get_or frame (partner o) nan)

-- of any two such calls of whatever meets the promise: they are refused with the same number or play as many frames,
-- and each frame is exchanged
pub record BlocksMirror (outputs channels : ℕ) (weights : List Float) (partner : ℕ → ℕ) : Type 0 where
  pub answers : (c d : DecoderCall) → MirrorCall c d → Meets outputs channels weights c
      → Meets outputs channels weights d
      → d.answer ≡ c.answer
  pub plays : (c d : DecoderCall) → MirrorCall c d → Meets outputs channels weights c → Meets outputs channels weights d
      → decoder_played outputs d ≡ map (exchanged outputs partner) (decoder_played outputs c)
