-- An answer of sixteen gains is known by its number and its gains. Assumes nothing.
use Rattle.std.specs.Prelude.{◌≡◌, Result}
use Rattle.lists.specs.Prelude.{ap, List, Float}
use Rattle.refusals.specs.declared.Refusal.{Refusal}
use Rattle.refusals.proofs.Numbers.{told_apart}
use Rattle.harmonics.specs.Promise.{silent_gains, Coefficients, coefficients}

pub coefficients_apart : (x y : Result (List Float) Refusal) → coefficients x ≡ coefficients y → x ≡ y
coefficients_apart x y e =
    told_apart silent_gains x y (ap (λ (c : Coefficients). c.refusal) e) (ap (λ (c : Coefficients). c.gains) e)
