-- Document 01, 'Refusal numbers': 1 is given exactly when "ambisonic order is not 1, 2 or 3", 3 when "an angle [..] is
-- NaN or infinite, or azimuth is outside -180..180, elevation outside -90..90", and "A refusal returns its number, [..]
-- 0.0 for any number or gain". 'Gains', harmonics: "Within 2^-34 of the formula over the defined sums." Definitions
-- only.
use Rattle.std.specs.Prelude.{◌≡◌, ◌||◌, ◌∷◌, Result}
use Rattle.lists.specs.Prelude.{ℕ, Bool, List, [], pos, replicate, Float}
use Rattle.refusals.specs.Refusals.{first_of, ◌when◌, answered}
use Rattle.refusals.specs.Numbers.{number_in, value_in}
use Rattle.refusals.specs.declared.Refusal.{Refusal}
use Rattle.channel.specs.Orders.{refuses_order}
use Rattle.fractions.specs.Fraction.{number, EachWithin}
use Rattle.angles.specs.Limits.{refuses_angle}
use Rattle.formats.specs.Floats.{zero_float, float}
use Rattle.harmonics.specs.Formulas.{formulas}
use Rattle.harmonics.specs.Computed.{waves_of, up_to}
use Rattle.harmonics.specs.declared.Direction.{Direction}

-- within 2 ^ -gainBits: the place to change it at
abbrev pub gain_bits : ℕ
gain_bits = 34

-- ---- refusals

abbrev pub refuses_azimuth : Float → Bool
refuses_azimuth a = refuses_angle (float (pos 180)) a

abbrev pub refuses_elevation : Float → Bool
refuses_elevation e = refuses_angle (float (pos 90)) e

abbrev pub refuses_direction : Direction → Bool
refuses_direction d = refuses_azimuth d.azimuth || refuses_elevation d.elevation

abbrev pub refusal_of : ℕ → Direction → ℕ
refusal_of order d = first_of (1 when refuses_order order ∷ 3 when refuses_direction d ∷ [])

-- ---- the answer

abbrev pub silent_gains : List Float
silent_gains = replicate 16 zero_float

pub record Coefficients : Type 0 where
  pub refusal : ℕ
  pub gains : List Float

abbrev pub coefficients : Result (List Float) Refusal → Coefficients
coefficients r = record { refusal = number_in r; gains = value_in silent_gains r }

abbrev pub outcome : ℕ → Direction → Coefficients
outcome order d = answered (refusal_of order d) (record { refusal = 0; gains = up_to order (waves_of d) })
    (λ n. record { refusal = n; gains = silent_gains })

-- every bit of the answer; and of the coefficients of an accepted direction how near each is to its formula
pub record HarmonicsPromise (order : ℕ) (d : Direction) (answer : Coefficients) : Type 0 where
  pub bits : answer ≡ outcome order d
  pub words : refusal_of order d ≡ 0 → EachWithin gain_bits answer.gains
      (formulas order (number d.azimuth) (number d.elevation))
