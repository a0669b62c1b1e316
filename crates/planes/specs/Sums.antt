-- Document 01, 'Sums': "each output is the f64 sum from 0.0, channels rising, of sample times coefficient, then
-- narrowed", and of the convolver "the signal is the f64 sum from 0.0 over channels rising, narrowed to f32".
-- Definitions only. An f32 and the f64 that it widens to are one `Float`, so widening is not written; `narrowed` is
-- what `numbers::narrow` promises.
use Rattle.std.specs.Prelude.{◌∷◌}
use Rattle.lists.specs.Prelude.{ℕ, List, [], Float, binary64, add, mul}
use Rattle.formats.specs.Floats.{zero_float}
use Rattle.numbers.specs.Computed.{narrowed}
use Rattle.lists.specs.Tables.{tab, chunk}

-- a + x₀ + x₁ + .., each sum rounded, in this order
abbrev pub total : Float → List Float → Float
total a [] = a
total a (x ∷ xs) = total (add binary64 a x) xs

-- x₀ y₀, x₁ y₁, .., each product rounded; the shorter of the two lists ends it
abbrev pub products : List Float → List Float → List Float
products [] ys = []
products (x ∷ xs) [] = []
products (x ∷ xs) (y ∷ ys) = mul binary64 x y ∷ products xs ys

-- a + x₀ y₀ + x₁ y₁ + ..
abbrev pub dot : Float → List Float → List Float → Float
dot a xs ys = total a (products xs ys)

-- one output of a frame
unfoldable pub mixed : List Float → List Float → Float
mixed weights frame = narrowed (dot zero_float frame weights)

-- every output of a frame: the weights are outputs x channels
abbrev pub mixed_all : ℕ → ℕ → List Float → List Float → List Float
mixed_all outputs channels weights frame = tab 0 outputs (λ o. mixed (chunk channels o weights) frame)
