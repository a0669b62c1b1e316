use Rattle.lists.specs.Prelude.{get_or, nan, binary32, mul}
use Rattle.planes.proofs.Framing.{Sampling}
use Rattle.panner.proofs.pan.Given as goal

abbrev pub invariant-loop-p : goal.invariant-loop-p
invariant-loop-p l =
    Sampling l.initial.out l.stride l.frame l.planes (λ k. mul binary32 l.x (get_or l.fn.gains k nan)) l.out l.p
