-- What the program computes, operation by operation, in f64. Nobody has to believe it: specs/Promise.antt ties the
-- sixteen to document 01's formulas. Definitions only.
use Rattle.lists.specs.Prelude.{ℕ, zero, suc, List, get_or, Float, nan, binary64, mul}
use Rattle.formats.specs.Floats.{one_float, decimal}
use Rattle.lists.specs.Tables.{tab}
use Rattle.channel.specs.Orders.{by_order}
use Rattle.harmonics.specs.Computed.{waves_of, up_to}
use Rattle.harmonics.specs.declared.Direction.{Direction}
use Rattle.virtual_speaker.specs.Weights.{degree_of}

abbrev pub cosine_of : ℕ → Float
cosine_of order = by_order order (decimal 8244615675902878) (decimal 9206590873000569) (decimal 9551077341301053)

-- 1.0, c, c * c and c * c * c
abbrev pub weight : Float → ℕ → Float
weight c zero = one_float
weight c (suc zero) = c
weight c (suc (suc l)) = mul binary64 (weight c (suc l)) c

unfoldable pub weigh : Float → List Float → List Float
weigh c xs = tab 0 16 (λ i. mul binary64 (get_or xs i nan) (weight c (degree_of i)))

abbrev pub weighted : ℕ → Direction → List Float
weighted order d = weigh (cosine_of order) (up_to order (waves_of d))
