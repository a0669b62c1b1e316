use Rattle.lists.specs.Prelude.{ℕ, Float}
use Rattle.planes.proofs.Framing.{Sampling}
use Rattle.replay.specs.Computed.{Gives}
use Rattle.replay.proofs.gather.put_frame.Given as goal

abbrev pub invariant-loop-p : goal.invariant-loop-p
invariant-loop-p g l =
    (f : ℕ → Float) → Gives (goal.F-post g l.source) f → Sampling l.initial.block 64 l.place l.channels f l.block l.p
