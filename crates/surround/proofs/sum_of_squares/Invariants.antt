use Rattle.planes.proofs.Sums.{Summing}
use Rattle.surround.specs.Computed.{square_at}
use Rattle.surround.proofs.sum_of_squares.Given as goal

abbrev pub invariant-loop-gain : goal.invariant-loop-gain
invariant-loop-gain l = Summing (square_at l.fn.gains) l.channels l.sum l.gain-index
