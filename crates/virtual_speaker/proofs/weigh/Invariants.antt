use Rattle.std.specs.Prelude.{◌≡◌}
use Rattle.lists.specs.Prelude.{length, get_or, nan, binary64, mul}
use Rattle.lists.proofs.Filling.{Filling}
use Rattle.virtual_speaker.specs.Weights.{degree_of}
use Rattle.virtual_speaker.specs.Computed.{weight}
use Rattle.virtual_speaker.proofs.weigh.Given as goal

abbrev pub invariant-loop-channel : goal.invariant-loop-channel
invariant-loop-channel l = record {
  long : length l.coefficient-items ≡ 16;
  so_far : Filling (λ k. mul binary64 (get_or l.fn.coeffs k nan) (weight l.c (degree_of k))) 16 l.fn.coeffs
      l.coefficient-items l.channel;
}
