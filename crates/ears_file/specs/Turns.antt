-- One turn of the program: what it needs of the set-up, what the record and the lists stand for before and after it,
-- and what it puts out. Definitions only.
use Rattle.std.specs.Prelude.{◌≡◌, ◌++◌, ◌≤◌, ◌<◌}
use Rattle.lists.specs.Prelude.{List, [], ℕ, length, take, Float}
use Rattle.std.specs.declared.option.Option.{Option}
use Rattle.std.specs.declared.option.Option.TheVariants.{Some, None}
use Rattle.refusals.specs.Refusals.{answered}
use Rattle.hrtf_desk.specs.Numbers.{zeroed}
use Rattle.hrtf_history.specs.Setup.{Setup}
use Rattle.hrtf_history.specs.History.{unsettled_in, after}
use Rattle.hrtf_rings.specs.State.{State, StateFits}
use Rattle.hrtf_rings.specs.Held.{Represents}
use Rattle.hrtf_checks.specs.declared.ConvolverShape.{ConvolverShape}
use Rattle.hrtf_checks.specs.Refusals.{refusal_of}
use Rattle.ears_wire.specs.Records.{whole_in_of, rest_in}
use Rattle.ears_wire.specs.Frames.{line_frames}
use Rattle.ears_file.specs.declared.Ended.{Ended}
use Rattle.ears_file.specs.declared.turn.Progress.{Progress}
use Rattle.ears_file.specs.declared.turn.Turn.{Turn}
use Rattle.ears_wire.specs.Counting.{counted_on}
use Rattle.ears_file.specs.Lines.{part_frame, rest_refusal}
use Rattle.ears_file.specs.Promise.{bytes_beyond}

-- six channels, and the convolver refuses no block of up to 1,024 frames
pub record BlocksAccepted (h : ConvolverShape) (weights : List Float) (rows : List ℕ) (taps : List Float) : Type 0 where
  pub six : h.channels ≡ 6
  pub long : 0 < h.length
  pub accepts : (n : ℕ) (inputs ears : List Float) (t : State) → n ≤ 1024 → length inputs ≡ 6144 → length ears ≡ 2048
      → StateFits h.speakers h.length t
      → refusal_of (record {
        shape = h;
        frames = n;
        stride = 1024;
        inputs = inputs;
        weights = weights;
        rows = rows;
        taps = taps;
        ears = ears;
      }) t ≡ 0

-- before the first byte
abbrev pub at_start : Progress
at_start = record { desk = zeroed; held = 0; frames = 0; unsettled = 0 }

-- where the line ends: bytes that are held are a part frame
abbrev pub end_of : Progress → Ended
end_of p = answered (rest_refusal p.held)
    (record { refusal = 0; place = 0; frames = p.frames; unsettled = p.unsettled }) (λ n. part_frame)

-- the turn of a step: where the line is over there is none, and nothing changes
abbrev pub turn_or_none : Progress → Option Turn → Turn
turn_or_none p (Some r) = r
turn_or_none p None = record { progress = p; bytes = 0 }

-- the record, the rings and the bytes that are held stand for all that has come of a line
pub record Stands (u : Setup) (line : List ℕ) (p : Progress) (rings : List Float) (bytes : List ℕ) : Type 0 where
  pub history : Represents u (after u [] (line_frames line)) (record { rings = rings; desk = p.desk })
  pub keeps : take p.held bytes ≡ rest_in 24 line
  pub holds : p.held ≡ length (rest_in 24 line)
  pub frames : p.frames ≡ counted_on 0 (whole_in_of 24 line)
  pub unsettled : p.unsettled ≡ counted_on 0 (unsettled_in u 0 [] (line_frames line))

-- a part more has come: what stood for a line stands for both, and the ears of the frames that the part makes whole are
-- put out
pub record Further (u : Setup) (p : Progress) (rings : List Float) (bytes part : List ℕ) (r : Turn)
    (rings₁ : List Float) (bytes₁ out₁ : List ℕ) : Type 0 where
  pub stands : (line : List ℕ) → Stands u line p rings bytes → Stands u (line ++ part) r.progress rings₁ bytes₁
  pub put : (line : List ℕ) → Stands u line p rings bytes → take r.bytes out₁ ≡ bytes_beyond u line part
