use Rattle.decoder_matrix.specs.Matrix.{row_by}
use Rattle.decoder_matrix.proofs.Filling.{Filling}
use Rattle.decoder_matrix.proofs.put_speakers.Given as goal

abbrev pub invariant-loop-i : goal.invariant-loop-i
invariant-loop-i l =
    Filling l.initial.weights l.channels l.n (row_by l.order l.layout l.n l.channels) l.weights l.at l.i
