use Rattle.lists.specs.Prelude.{List, ℕ}
use Rattle.hrtf_checks.specs.Call.{setup_of}
use Rattle.ears_file.specs.Turns.{Stands}
use Rattle.ears_file.proofs.input.play_all.Given as goal

-- before each step the record, the rings and the bytes stand for some line
abbrev pub invariant-loop : goal.invariant-loop
invariant-loop g l =
    (come : List ℕ) × Stands (setup_of l.shape l.weights l.row_of l.taps) come l.progress l.rings l.bytes
