-- What is told of a block is known by its number and its count. Assumes nothing.
use Rattle.std.specs.Prelude.{◌≡◌, Result}
use Rattle.lists.specs.Prelude.{ap, ℕ}
use Rattle.refusals.specs.declared.Refusal.{Refusal}
use Rattle.refusals.proofs.Numbers.{told_apart}
use Rattle.planes.specs.Blocks.{Played, played}

pub played_apart : (x y : Result ℕ Refusal) → played x ≡ played y → x ≡ y
played_apart x y e = told_apart 0 x y (ap (λ (p : Played). p.refusal) e) (ap (λ (p : Played). p.samples) e)
