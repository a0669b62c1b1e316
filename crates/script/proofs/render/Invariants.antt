use Rattle.std.specs.Prelude.{◌-◌}
use Rattle.planes.proofs.Framing.{Parting}
use Rattle.script.proofs.Meets.{frame_of}
use Rattle.script.proofs.render.Given as goal

-- so many frames of the stretch are played
abbrev pub invariant-loop-done : goal.invariant-loop-done
invariant-loop-done l =
    Parting l.initial.out l.stride 0 l.frames
    (frame_of (record { order = l.order; first = l.first; frames = l.frames; stride = l.stride }) l.cues l.input)
    l.out l.done

abbrev pub decreases-loop-done : goal.decreases-loop-done
decreases-loop-done l = l.frames - l.done
