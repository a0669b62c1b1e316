-- Document 01, item 10, of a whole bank and a whole line: "writes each frame's left then right [..] and prints one
-- line. [..] Empty input prints `frames 0 unsettled 0`. [..] a part frame at the end prints `refused 9` only". Document
-- 02, E2, of a bad bank: "9 is no longer given for a bank, only for a part frame. The program prints number and place,
-- as `refused 14 at 1`; a missing bank is read as empty." Definitions only.
use Rattle.std.specs.Prelude.{◌∷◌, Result, Ok, Err}
use Rattle.lists.specs.Prelude.{ℕ, true, false, cond, not, List, [], eqb, pos, length, replicate}
use Rattle.refusals.specs.Refusals.{first_of, ◌when◌, answered}
use Rattle.channel.specs.declared.Layout.TheVariants.{Surround51}
use Rattle.bank_form.specs.Bank.{Bank, rows}
use Rattle.bank_form.specs.Fault.{Fault, bank_in, fault, told_as_number}
use Rattle.bank.specs.Reading.{ReadOutcome, read_bank}
use Rattle.hrtf_history.specs.Setup.{Setup}
use Rattle.hrtf_history.specs.History.{heard, unsettled_in}
use Rattle.hrtf_setup.specs.Arrangement.{Arrangement, arranged_by}
use Rattle.hrtf_setup.specs.Promise.{of_layout}
use Rattle.ears_wire.specs.Ears.{ear_bytes}
use Rattle.ears_wire.specs.Records.{whole_in_of, rest_in}
use Rattle.ears_wire.specs.Frames.{line_frames}
use Rattle.ears_wire.specs.Line.{frames_line, refused_line, refused_at_line}
use Rattle.ears_wire.specs.Counting.{counted_on}
use Rattle.ears_file.specs.declared.Ended.{Ended}
use Rattle.ears_file.specs.declared.RunOutcome.{RunOutcome}
use Rattle.ears_file.specs.declared.RunCounts.{RunCounts}
use Rattle.ears_file.specs.declared.RunError.{RunError}
use Rattle.ears_file.specs.declared.RunError.TheVariants.{Failed, Refused}

-- what a bank is read into: lists of eight zeros
abbrev pub read_in : Bank → ReadOutcome
read_in b = read_bank b (replicate 8 (pos 0)) (replicate 8 (pos 0)) []

-- the six speakers of 5.1, arranged with a bank that was read
abbrev pub arranged : Bank → Arrangement
arranged b = arranged_by 0 (of_layout Surround51).whose 6 6 (read_in b).azimuths (read_in b).elevations (rows b) []
    (replicate 8 0)

abbrev pub setup_with : Bank → Setup
setup_with b = record {
  channels = 6;
  speakers = 6;
  L = b.length;
  weights = (arranged b).weights;
  taps = b.taps;
  rows = (arranged b).rows;
}

-- what the ears of a line are, as bytes
abbrev pub ears_of : Setup → List ℕ → List ℕ
ears_of u line = ear_bytes (heard u [] (line_frames line))

-- a part frame, which has no place, and a bank that is wrong somewhere
abbrev pub part_frame : Ended
part_frame = record { refusal = 9; place = 0; frames = 0; unsettled = 0 }

abbrev pub refused_bank : Fault → Ended
refused_bank f = record { refusal = f.refusal; place = f.offset; frames = 0; unsettled = 0 }

-- what is told of a run
abbrev pub outcome_of : Result RunCounts RunError → RunOutcome
outcome_of (Ok c) =
    record {
      failed = false;
      ended = record { refusal = 0; place = 0; frames = c.frames; unsettled = c.unsettled };
    }
outcome_of (Err Failed) = record { failed = true; ended = part_frame }
outcome_of (Err (Refused f)) = record { failed = false; ended = refused_bank (told_as_number f) }

-- 9: bytes are left behind the whole frames
abbrev pub rest_refusal : ℕ → ℕ
rest_refusal rest = first_of (9 when not (eqb rest 0) ∷ [])

-- how a line ends: whole frames and nothing behind them, or a part frame
abbrev pub ends_as : Setup → List ℕ → Ended
ends_as u line =
    answered (rest_refusal (length (rest_in 24 line)))
    (record {
      refusal = 0;
      place = 0;
      frames = counted_on 0 (whole_in_of 24 line);
      unsettled = counted_on 0 (unsettled_in u 0 [] (line_frames line));
    })
    (λ n. part_frame)

-- what item 10 gives for the bytes of a bank, none where it is missing, and the bytes of a line
abbrev pub item_ten : List ℕ → List ℕ → Ended
item_ten bank line =
    answered (fault bank).refusal (ends_as (setup_with (bank_in bank)) line) (λ n. refused_bank (fault bank))

-- a refusal is told with its place, but for a part frame
abbrev pub refusal_line : Ended → ℕ → List ℕ
refusal_line e n = cond (eqb n 9) (refused_line n) (refused_at_line n e.place)

-- the line that a run is told by: none for one that failed
abbrev pub result_line : RunOutcome → List ℕ
result_line r = cond r.failed [] (answered r.ended.refusal (frames_line r.ended.frames r.ended.unsettled)
    (refusal_line r.ended))
