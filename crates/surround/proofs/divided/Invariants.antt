use Rattle.std.specs.Prelude.{◌≡◌}
use Rattle.lists.specs.Prelude.{length, get_or, nan, binary64, div}
use Rattle.lists.proofs.Filling.{Filling}
use Rattle.surround.proofs.divided.Given as goal

abbrev pub invariant-loop-gain : goal.invariant-loop-gain
invariant-loop-gain l = record {
  long : length l.gain-items ≡ 16;
  so_far : Filling (λ k. div binary64 (get_or l.fn.raw k nan) l.root) 16 l.fn.raw l.gain-items l.gain-index;
}
