use Rattle.std.specs.Prelude.{◌≡◌}
use Rattle.cues.proofs.Judging.{Judging}
use Rattle.cues.proofs.judged.Given as goal

abbrev pub invariant-loop-cue : goal.invariant-loop-cue
invariant-loop-cue l = record { place : l.s.seen ≡ l.cue-index; so_far : Judging l.cues l.s }
