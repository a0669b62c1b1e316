-- Document 02, E1: "Rendering a stretch must give the same samples however the stretch is divided, and equal separate
-- panner calls between cues." Stretches that follow one another: calls of `render` with the same cues and order, each
-- with its own frames, stride and lists, each from the frame that the one before came to. A call may be refused, by 5
-- or 6; it then plays nothing, and the next begins at the same frame. (A call with other cues or another order belongs
-- to another drill: what it answers and leaves is the same, since nothing is held from call to call.) After frame 2 ^
-- 64 - 1 no call of this drill follows, not even of no frames, since there is no such frame number. And parts in each
-- of which one voice holds, each played by a call of the panner. Definitions only.
use Rattle.std.specs.Prelude.{◌+◌, ◌≡◌, ◌∷◌, ◌++◌}
use Rattle.lists.specs.Prelude.{ℕ, List, [], map, length, Float}
use Rattle.refusals.specs.Refusals.{answered}
use Rattle.lists.specs.Calls.{of_all_calls}
use Rattle.lists.specs.Tables.{tab}
use Rattle.channel.specs.Orders.{channels_of_order}
use Rattle.channel.specs.declared.Layout.{Layout}
use Rattle.planes.specs.Planes.{sample_at, frames_of}
use Rattle.harmonics.specs.declared.Direction.{Direction}
use Rattle.panner.specs.declared.Command.TheVariants.{Ambisonic}
use Rattle.panner.specs.Blocks as Panner
use Rattle.panner.specs.Promise as Panner'
use Rattle.cues.specs.declared.Cue.{Cue}
use Rattle.cues.specs.Cues.{Voice, nobody, speaking, voice_at}
use Rattle.script.specs.Rendering.{Stretch, refusal_of, samples_of, silent}
use Rattle.script.specs.Promise.{RenderedBlock, rendered_block}

pub record RenderCall : Type 0 where
  pub frames : ℕ
  pub stride : ℕ
  pub input : List Float
  pub out : List Float

module _ (cues : List Cue) (order : ℕ) where
  -- ---- one call, from the frame f on
  abbrev pub stretch_of : RenderCall → ℕ → Stretch
  stretch_of c f = record { order = order; first = f; frames = c.frames; stride = c.stride }

  abbrev pub refusal_at : RenderCall → ℕ → ℕ
  refusal_at c f = refusal_of (stretch_of c f) cues (length c.input) (length c.out)

  abbrev pub block_at : RenderCall → ℕ → RenderedBlock
  block_at c f = rendered_block (stretch_of c f) cues c.input c.out

  -- the frame that it comes to
  abbrev pub next : RenderCall → ℕ → ℕ
  next c f = answered (refusal_at c f) (f + c.frames) (λ n. f)

  -- the samples that it plays, or none where it is refused
  abbrev pub fed : RenderCall → ℕ → List Float
  fed c f = answered (refusal_at c f) (samples_of (stretch_of c f) c.input) (λ n. [])

  -- the frames that it says it played, read from the output planes as it leaves them
  abbrev pub sounded : RenderCall → ℕ → List (List Float)
  sounded c f = frames_of (block_at c f).out c.stride (channels_of_order order) (block_at c f).answer.samples

  -- ---- calls one after another
  abbrev pub fed_all : ℕ → List RenderCall → List Float
  fed_all f cs = of_all_calls next fed f cs

  abbrev pub sounded_all : ℕ → List RenderCall → List (List Float)
  sounded_all f cs = of_all_calls next sounded f cs

-- ---- separate calls of the panner

-- at a direction, beside a layout of its own, with its own frames, stride and lists
pub record Separate : Type 0 where
  pub direction : Direction
  pub layout : Layout
  pub frames : ℕ
  pub stride : ℕ
  pub input : List Float
  pub out : List Float

-- samples for which nobody speaks yet, or a call that plays some
pub data Part : Type 0 where
  unspoken : List Float → Part
  separate : Separate → Part

abbrev pub voice_in : Part → Voice
voice_in (unspoken xs) = nobody
voice_in (separate c) = speaking c.direction

abbrev pub samples_in : Part → List Float
samples_in (unspoken xs) = xs
samples_in (separate c) = tab 0 c.frames (sample_at c.input c.stride 0)

-- at each frame from f on the voice is that of the cues
abbrev pub OneVoice : List Cue → ℕ → Voice → List Float → Type 0
OneVoice cues f v [] = Unit {0}
OneVoice cues f v (x ∷ xs) = (voice_at cues f ≡ v) × OneVoice cues (f + 1) v xs

module _ (order : ℕ) where
  abbrev pub shape_in : Separate → Panner.PannedShape
  shape_in c =
      record { command = Ambisonic c.direction order; layout = c.layout; frames = c.frames; stride = c.stride }

  abbrev pub panned_in : Separate → Panner'.PannedBlock
  panned_in c = Panner'.panned_block (shape_in c) c.input c.out

  abbrev pub Accepted : Part → Type 0
  Accepted (unspoken xs) = Unit {0}
  Accepted (separate c) = Panner.refusal_of (shape_in c) (length c.input) (length c.out) ≡ 0

  -- 0.0, or the frames that the panner says it played, read from its output planes
  abbrev pub sounded_in : Part → List (List Float)
  sounded_in (unspoken xs) = map (λ x. silent (channels_of_order order)) xs
  sounded_in (separate c) = frames_of (panned_in c).out c.stride (channels_of_order order) (panned_in c).answer.samples

  -- parts one after another from the frame f on, cut so that in each one voice holds
  abbrev pub Cut : List Cue → ℕ → List Part → Type 0
  Cut cues f [] = Unit {0}
  Cut cues f (p ∷ ps) = Accepted p × OneVoice cues f (voice_in p) (samples_in p)
      × Cut cues (f + length (samples_in p)) ps

  abbrev pub sounded_parts : List Part → List (List Float)
  sounded_parts [] = []
  sounded_parts (p ∷ ps) = sounded_in p ++ sounded_parts ps

abbrev pub samples_parts : List Part → List Float
samples_parts [] = []
samples_parts (p ∷ ps) = samples_in p ++ samples_parts ps
