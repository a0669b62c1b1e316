-- Which answer is promised where the lists fit, and where they do not. Assumes nothing.
use Rattle.std.specs.Prelude.{◌≡◌, ◌∷◌, ◌*◌, ◌/◌, ◌≤◌, ◌<◌}
use Rattle.lists.specs.Prelude.{refl, sym, ap, ◌∙◌, Bool, true, false, List, [], ℕ, dec_lt, arith, lt-ltb, le-ltb, ltb}
use Rattle.lists.specs.Prelude.{length, Float}
use Rattle.lists.proofs.Tests.{test_cases}
use Rattle.refusals.specs.Refusals.{first_of, ◌when◌}
use Rattle.lists.specs.Placed.{placed}
use Rattle.lists.proofs.Placed.{placed_none}
use Rattle.checks.specs.Lengths.{unfit}
use Rattle.planes.specs.Planes.{frames_of, with_frames}
use Rattle.ears_wire.specs.Records.{whole_in_of}
use Rattle.ears_wire.specs.Frames.{line_frames}
use Rattle.ears_wire.specs.Ears.{ear_bytes}
use Rattle.ears_wire.specs.Promise.{FramesTaken, taken_by, frames_taken, EarsGiven, given_by_of, ears_given, LineGiven}
use Rattle.ears_wire.specs.Promise.{line_by, line_given}

module _ (bytes : List ℕ) (stride : ℕ) (inputs : List Float) where
  taken_by_lem : (b : Bool) → unfit (length inputs) 6 stride (whole_in_of 24 bytes) ≡ b
      → frames_taken bytes stride inputs ≡ taken_by (first_of (5 when b ∷ [])) bytes stride inputs
  unfolding frames_taken
  taken_by_lem b e = ap (λ (t : Bool). taken_by (first_of (5 when t ∷ [])) bytes stride inputs) e

  pub taken_refused : unfit (length inputs) 6 stride (whole_in_of 24 bytes) ≡ true
      → frames_taken bytes stride inputs ≡ record { answer = record { refusal = 5; frames = 0 }; inputs = inputs }
  taken_refused e = taken_by_lem true e

  pub taken_accepted : unfit (length inputs) 6 stride (whole_in_of 24 bytes) ≡ false
      → frames_taken bytes stride inputs
      ≡ record {
        answer = record { refusal = 0; frames = whole_in_of 24 bytes };
        inputs = with_frames inputs stride 0 (line_frames bytes);
      }
  taken_accepted e = taken_by_lem false e

  -- the planes having been filled
  pub taken_filled : (after : List Float) → unfit (length inputs) 6 stride (whole_in_of 24 bytes) ≡ false
      → after ≡ with_frames inputs stride 0 (line_frames bytes)
      → record { answer = record { refusal = 0; frames = whole_in_of 24 bytes }; inputs = after }
      ≡ frames_taken bytes stride inputs
  taken_filled after e f = ap {B = FramesTaken}
      (λ (l : List Float). record { answer = record { refusal = 0; frames = whole_in_of 24 bytes }; inputs = l }) f
      ∙ sym (taken_accepted e)

  -- whichever it is, no more frames than there are bytes for
  pub taken_few : (r : FramesTaken) → r ≡ frames_taken bytes stride inputs → r.answer.frames * 24 ≤ length bytes
  taken_few r e = test_cases (unfit (length inputs) 6 stride (whole_in_of 24 bytes))
      (λ h. omega (arith, ap (λ (t : FramesTaken). t.answer.frames) (e ∙ taken_refused h)))
      (λ h. omega (arith, ap (λ (t : FramesTaken). t.answer.frames) (e ∙ taken_accepted h)))

module _ (ears : List Float) (stride frames : ℕ) (out : List ℕ) where
  pub given_by : (b t : Bool) → unfit (length ears) 2 stride frames ≡ b → ltb (length out) (frames * 8) ≡ t
      → ears_given ears stride frames out ≡ given_by_of (first_of (5 when b ∷ 5 when t ∷ [])) ears stride frames out
  unfolding ears_given
  given_by b t e f = rw (e, f)

  abbrev kept : EarsGiven
  kept = record { answer = record { refusal = 5; bytes = 0 }; out = out }

  pub given_unfit : unfit (length ears) 2 stride frames ≡ true → ears_given ears stride frames out ≡ kept
  given_unfit e = given_by true (ltb (length out) (frames * 8)) e refl

  pub given_short : unfit (length ears) 2 stride frames ≡ false → length out / 8 < frames
      → ears_given ears stride frames out ≡ kept
  given_short e h = given_by false true e (lt-ltb (length out) (frames * 8) (omega arith))

  pub given_accepted : unfit (length ears) 2 stride frames ≡ false → frames * 8 ≤ length out
      → ears_given ears stride frames out
      ≡ record {
        answer = record { refusal = 0; bytes = frames * 8 };
        out = placed out 0 (ear_bytes (frames_of ears stride 2 frames));
      }
  given_accepted e h = given_by false false e (le-ltb (length out) (frames * 8) h)

  -- the bytes having been put
  pub given_filled : (after : List ℕ) → unfit (length ears) 2 stride frames ≡ false → frames * 8 ≤ length out
      → after ≡ placed out 0 (ear_bytes (frames_of ears stride 2 frames))
      → record { answer = record { refusal = 0; bytes = frames * 8 }; out = after } ≡ ears_given ears stride frames out
  given_filled after e h f = ap {B = EarsGiven}
      (λ (l : List ℕ). record { answer = record { refusal = 0; bytes = frames * 8 }; out = l }) f
      ∙ sym (given_accepted e h)

  -- whichever it is, no more bytes than there is room for
  pub given_few : (r : EarsGiven) → r ≡ ears_given ears stride frames out → r.answer.bytes ≤ length out
  given_few r e = test_cases (unfit (length ears) 2 stride frames)
      (λ h. omega (arith, ap (λ (g : EarsGiven). g.answer.bytes) (e ∙ given_unfit h)))
      (λ h. elim (dec_lt (length out) (frames * 8)) [
        | yes k ↦ omega (arith, ap (λ (g : EarsGiven). g.answer.bytes) (e ∙ given_short h (omega arith)))
        | no k ↦ omega (arith, ap (λ (g : EarsGiven). g.answer.bytes) (e ∙ given_accepted h (omega arith)))
      ])

-- ---- the line

module _ (out line : List ℕ) where
  line_by_lem : (b : Bool) → ltb (length out) 64 ≡ b → line_given out line ≡ line_by (first_of (5 when b ∷ [])) out line
  unfolding line_given
  line_by_lem b e = ap (λ (t : Bool). line_by (first_of (5 when t ∷ [])) out line) e

  pub line_refused : length out < 64 → line_given out line ≡ record { size = 0; out = out }
  line_refused h = line_by_lem true (lt-ltb (length out) 64 h)

  pub line_accepted : 64 ≤ length out → line_given out line ≡ record { size = length line; out = placed out 0 line }
  line_accepted h = line_by_lem false (le-ltb (length out) 64 h)

  -- whichever it is, a line that is no longer than the longest ends in its list
  pub line_ends : length line ≤ 64 → (line_given out line).size ≤ length out
  line_ends h =
      elim (dec_lt (length out) 64) [
        | yes k ↦ omega (arith, ap (λ (g : LineGiven). g.size) (line_refused k))
        | no k ↦ omega (arith, ap (λ (g : LineGiven). g.size) (line_accepted (omega arith)))
      ]

-- an empty line changes nothing
pub line_empty : (out : List ℕ) → line_given out [] ≡ record { size = 0; out = out }
line_empty out =
    elim (dec_lt (length out) 64) [
      | yes k ↦ line_refused out [] k
      | no k ↦ line_accepted out [] (omega arith) ∙ ap (λ (l : List ℕ). record { size = 0; out = l })
          (placed_none out 0)
    ]
