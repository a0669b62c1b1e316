-- What stands at the loop's test, and what is known of it, is `Playing`.
use Rattle.hrtf.proofs.Playing.{Playing}
use Rattle.hrtf.proofs.frames.block.Given as goal

abbrev pub invariant-loop-n : goal.invariant-loop-n
invariant-loop-n l =
    Playing (record {
      shape = l.scaled.shape;
      frames = l.frames;
      stride = l.stride;
      inputs = l.inputs;
      weights = l.weights;
      rows = l.row_of;
      taps = l.taps;
      ears = l.initial.ears;
    })
    (record { rings = l.initial.rings; desk = l.fn.desk }) l.rings l.ears l.standing l.unsettled l.n
