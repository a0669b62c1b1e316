-- What a run promises: what the system hands over no contract can name, so it is said that there are such bytes. And
-- that a line may be cut anywhere. Definitions only.
use Rattle.std.specs.Prelude.{◌≡◌, ◌∷◌, ◌++◌}
use Rattle.lists.specs.Prelude.{cond, List, [], flatten, ℕ}
use Rattle.hrtf_history.specs.Setup.{Setup}
use Rattle.hrtf_history.specs.History.{heard, after}
use Rattle.ears_wire.specs.Records.{rest_in}
use Rattle.ears_wire.specs.Frames.{line_frames}
use Rattle.ears_wire.specs.Ears.{ear_bytes}
use Rattle.ears_file.specs.declared.Ended.{Ended}
use Rattle.ears_file.specs.declared.RunOutcome.{RunOutcome}
use Rattle.ears_file.specs.Lines.{ears_of, part_frame, item_ten}

-- a run ends as some line does; one that failed ends as one with a part frame, and is told apart
pub record Ends (end : List ℕ → Ended) (r : RunOutcome) : Type 0 where
  pub line : List ℕ
  pub bits : r.ended ≡ cond r.failed part_frame (end line)

-- with some bank
pub record Answers (r : RunOutcome) : Type 0 where
  pub bank : List ℕ
  pub ends : Ends (item_ten bank) r

-- ---- a line that comes in parts

-- the ears of the frames that a part makes whole after a line: what one turn puts out
abbrev pub bytes_beyond : Setup → List ℕ → List ℕ → List ℕ
bytes_beyond u line part = ear_bytes (heard u (after u [] (line_frames line)) (line_frames (rest_in 24 line ++ part)))

-- what the turns put out, one after another
abbrev pub put_in_parts : Setup → List ℕ → List (List ℕ) → List (List ℕ)
put_in_parts u line [] = []
put_in_parts u line (part ∷ parts) = bytes_beyond u line part ∷ put_in_parts u (line ++ part) parts

-- the same ears, wherever the line is cut
abbrev pub CutAnywhere : Type 0
CutAnywhere = (u : Setup) (parts : List (List ℕ)) → flatten (put_in_parts u [] parts) ≡ ears_of u (flatten parts)
