-- Document 02, E1, sentence by sentence, beside what `RenderPromise` promises of one call: which cue holds, silence,
-- more than one call, and the panner; it is shown in proofs/DrillScript.antt. Definitions only.
use Rattle.std.specs.Prelude.{◌+◌, ◌≤◌, ◌<◌, ◌≡◌, ◌∷◌}
use Rattle.lists.specs.Prelude.{ℕ, true, false, List, [], length, get_or, Float}
use Rattle.formats.specs.Floats.{zero_float}
use Rattle.channel.specs.Layouts.{channels_of, refuses_channels}
use Rattle.lists.specs.Tables.{any}
use Rattle.channel.specs.Orders.{refuses_order, channels_of_order}
use Rattle.channel.specs.declared.Layout.{Layout}
use Rattle.planes.specs.Planes.{sample_at}
use Rattle.panner.specs.declared.Command.TheVariants.{Ambisonic}
use Rattle.panner.specs.Promise as Panner
use Rattle.cues.specs.declared.Cue.{Cue}
use Rattle.cues.specs.Cues.{speaking, numbers_of, refused_each, rises, voice_at, nowhere}
use Rattle.script.specs.Rendering.{Stretch, refusal_of, rendered}
use Rattle.script.specs.Promise.{Rendered, answer_of, RenderedBlock, rendered_block, RenderPromise}
use Rattle.script.specs.Stretches.{RenderCall, fed_all, sounded_all, Part, Cut, sounded_parts, samples_parts}

-- the frame is before every cue of a list that rises
abbrev pub Before : List Cue → ℕ → Type 0
Before [] f = Unit {0}
Before (c ∷ cs) f = f < c.frame

-- a frame at or after cue i and before the next, if there is one
abbrev pub Between : List Cue → ℕ → ℕ → Type 0
Between cues i f = ((get_or cues i nowhere).frame ≤ f) × (i + 1 < length cues → f < (get_or cues (i + 1) nowhere).frame)

-- the panner's block at the command of cue i, of the stretch's frames and lists, beside a layout; its answer in the
-- words of this crate's
abbrev pub panned_at : Stretch → List Cue → ℕ → Layout → List Float → List Float → Panner.PannedBlock
panned_at s cues i l input out = Panner.panned_block
    (record {
      command = Ambisonic (get_or cues i nowhere).direction s.order;
      layout = l;
      frames = s.frames;
      stride = s.stride;
    }) input out

abbrev pub as_rendered : Panner.PannedBlock → RenderedBlock
as_rendered b = record { answer = answer_of b.answer.refusal b.answer.samples; out = b.out }

-- samples from the frame f on, cut so that in each part one voice holds
pub record SomeCut (cues : List Cue) (order f : ℕ) (xs : List Float) : Type 0 where
  pub parts : List Part
  pub cut : Cut order cues f parts
  pub all : samples_parts parts ≡ xs

pub record DrillScript : Type 0 where
  -- "The direction at a frame is that of the last cue not after it"
  pub last : (cues : List Cue) (i f : ℕ) → rises (numbers_of cues) ≡ true → i < length cues → Between cues i f
      → voice_at cues f ≡ speaking (get_or cues i nowhere).direction
  -- "before the first cue every output is 0.0", whatever the sample; and where there is no cue
  pub before : (s : Stretch) (cues : List Cue) (input out after : List Float) (answer : Rendered)
      → RenderPromise s cues input out answer after → answer.refusal ≡ 0
      → (n p : ℕ) → n < s.frames → p < channels_of_order s.order → Before cues (s.first + n)
      → sample_at after s.stride p n ≡ zero_float
  -- "Rendering a stretch must give the same samples however the stretch is divided": what is heard of any calls is what
  -- is said of all the samples that they play, so that two ways to divide them are heard the same
  pub divided : (cues : List Cue) (order f : ℕ) (cs : List RenderCall)
      → sounded_all cues order f cs ≡ rendered cues order f (fed_all cues order f cs)
  pub alike : (cues : List Cue) (order f : ℕ) (cs ds : List RenderCall)
      → fed_all cues order f cs ≡ fed_all cues order f ds → sounded_all cues order f cs ≡ sounded_all cues order f ds
  -- "and equal separate panner calls between cues": a stretch between two cues is a block of the panner, beside every
  -- layout that can be counted; and calls that play any samples, cut so that in each part one voice holds, are heard as
  -- calls of the panner that play the parts; they can always be cut so
  pub between : (s : Stretch) (cues : List Cue) (input out : List Float) (l : Layout) (i : ℕ)
      → refusal_of s cues (length input) (length out) ≡ 0 → refuses_channels (channels_of l) ≡ false → i < length cues
      → ((n : ℕ) → n < s.frames → Between cues i (s.first + n))
      → rendered_block s cues input out ≡ as_rendered (panned_at s cues i l input out)
  pub separate : (cues : List Cue) (order f : ℕ) (cs : List RenderCall) (ps : List Part) → Cut order cues f ps
      → fed_all cues order f cs ≡ samples_parts ps → sounded_all cues order f cs ≡ sounded_parts order ps
  pub cuttable : (cues : List Cue) (order f : ℕ) (xs : List Float) → refuses_order order ≡ false
      → any (refused_each cues) ≡ false → SomeCut cues order f xs
