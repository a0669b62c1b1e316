use Rattle.planes.proofs.Framing.{Judging}
use Rattle.planes.proofs.Mixing.{output}
use Rattle.planes.proofs.mix_frame.Given as goal

abbrev pub invariant-loop-o : goal.invariant-loop-o
invariant-loop-o l =
    Judging l.initial.out l.out_stride l.out_frame l.outputs (output l.weights l.channels l.inputs l.stride l.frame)
    l.out l.damaged l.o
