-- What each function hands back, and what the list that it fills holds. A refusal is document 01's 5, "a lent length
-- doesn't fit", and leaves the list as it was. Definitions only.
use Rattle.std.specs.Prelude.{◌≡◌, ◌+◌, ◌*◌, ◌∷◌}
use Rattle.lists.specs.Prelude.{ℕ, List, [], ltb, length, Float}
use Rattle.std.specs.Prelude.{Result}
use Rattle.refusals.specs.Refusals.{first_of, ◌when◌, answered}
use Rattle.refusals.specs.Numbers.{number_in, value_in}
use Rattle.refusals.specs.declared.Refusal.{Refusal}
use Rattle.lists.specs.Placed.{placed}
use Rattle.checks.specs.Lengths.{unfit}
use Rattle.planes.specs.Planes.{frames_of, with_frames}
use Rattle.ears_wire.specs.Records.{whole_in_of}
use Rattle.ears_wire.specs.Frames.{line_frames}
use Rattle.ears_wire.specs.Ears.{ear_bytes}

-- ---- frames from bytes: every whole frame stands in the planes

-- the refusal, or 0 and how many frames there are
pub record Taken : Type 0 where
  pub refusal : ℕ
  pub frames : ℕ

abbrev pub taken_told : Result ℕ Refusal → Taken
taken_told r = record { refusal = number_in r; frames = value_in 0 r }

pub record FramesTaken : Type 0 where
  pub answer : Taken
  pub inputs : List Float

-- six planes, which have room for them
abbrev pub taken_refusal : List ℕ → ℕ → List Float → ℕ
taken_refusal bytes stride inputs = first_of (5 when unfit (length inputs) 6 stride (whole_in_of 24 bytes) ∷ [])

abbrev pub taken_by : ℕ → List ℕ → ℕ → List Float → FramesTaken
taken_by number bytes stride inputs =
    answered number (record {
      answer =
          record { refusal = 0; frames = whole_in_of 24 bytes };
      inputs = with_frames inputs stride 0 (line_frames bytes);
    })
    (λ k. record { answer = record { refusal = k; frames = 0 }; inputs = inputs })

unfoldable pub frames_taken : List ℕ → ℕ → List Float → FramesTaken
frames_taken bytes stride inputs = taken_by (taken_refusal bytes stride inputs) bytes stride inputs

-- ---- bytes from ears: those of every frame stand at the start, and beyond them the list is as it was

-- the refusal, or 0 and how many bytes they have
pub record Given : Type 0 where
  pub refusal : ℕ
  pub bytes : ℕ

abbrev pub given_told : Result ℕ Refusal → Given
given_told r = record { refusal = number_in r; bytes = value_in 0 r }

pub record EarsGiven : Type 0 where
  pub answer : Given
  pub out : List ℕ

-- two planes, which have the frames, and room for all their bytes
abbrev pub given_refusal : List Float → ℕ → ℕ → List ℕ → ℕ
given_refusal ears stride frames out =
    first_of (5 when unfit (length ears) 2 stride frames ∷ 5 when ltb (length out) (frames * 8) ∷ [])

abbrev pub given_by_of : ℕ → List Float → ℕ → ℕ → List ℕ → EarsGiven
given_by_of number ears stride frames out =
    answered number (record {
      answer =
          record { refusal = 0; bytes = frames * 8 };
      out = placed out 0 (ear_bytes (frames_of ears stride 2 frames));
    })
    (λ k. record { answer = record { refusal = k; bytes = 0 }; out = out })

unfoldable pub ears_given : List Float → ℕ → ℕ → List ℕ → EarsGiven
ears_given ears stride frames out = given_by_of (given_refusal ears stride frames out) ears stride frames out

-- ---- the line

-- a part stands in a list from `at` on, and ends there
pub record Put (out : List ℕ) (at : ℕ) (part : List ℕ) (end : ℕ) (after : List ℕ) : Type 0 where
  pub ends : end ≡ at + length part
  pub filled : after ≡ placed out at part

-- how long the line is, and what its list holds
pub record LineGiven : Type 0 where
  pub size : ℕ
  pub out : List ℕ

-- room for the longest line
abbrev pub line_refusal : List ℕ → ℕ
line_refusal out = first_of (5 when ltb (length out) 64 ∷ [])

-- the line stands at the start of the list; a list without room is as it was, and the length tells no number: it is 0
abbrev pub line_by : ℕ → List ℕ → List ℕ → LineGiven
line_by number out line =
    answered number (record { size = length line; out = placed out 0 line }) (λ k. record { size = 0; out = out })

unfoldable pub line_given : List ℕ → List ℕ → LineGiven
line_given out line = line_by (line_refusal out) out line

abbrev pub Lined : List ℕ → List ℕ → ℕ → List ℕ → Type 0
Lined out line size after = record { size = size; out = after } ≡ line_given out line
