-- Document 01, 'Refusal numbers': 3 is given exactly when "an angle or position is NaN or infinite", and "A refusal
-- returns its number, [..] 0.0 for any number or gain". 'Gains', stereo: "Within 2^-36." Definitions only.
use Rattle.std.specs.Prelude.{◌≡◌, ◌∷◌, Result}
use Rattle.lists.specs.Prelude.{ℕ, Bool, not, [], Float}
use Rattle.std.specs.Float.Ieee.Scale.{finite}
use Rattle.refusals.specs.Refusals.{first_of, ◌when◌, answered}
use Rattle.refusals.specs.Numbers.{number_in, value_in}
use Rattle.refusals.specs.declared.Refusal.{Refusal}
use Rattle.fractions.specs.Fraction.{number, Within}
use Rattle.series.specs.Sums.{sine, cosine}
use Rattle.series.specs.Angles.{defined_sine, defined_cosine}
use Rattle.formats.specs.Floats.{zero_float}
use Rattle.angles.specs.Promise as Angles
use Rattle.stereo.specs.declared.StereoGains.{StereoGains}
use Rattle.stereo.specs.Angle.{angle}
use Rattle.stereo.specs.Computed.{angle_of}

-- within 2 ^ -stereoBits: the place to change it at
abbrev pub stereo_bits : ℕ
stereo_bits = 36

abbrev pub is_refused : Float → Bool
is_refused p = not (finite p)

abbrev pub refusal_of : Float → ℕ
refusal_of p = first_of (3 when is_refused p ∷ [])

-- the gains, or a refusal and 0.0 for both
pub record StereoAnswer : Type 0 where
  pub refusal : ℕ
  pub left : Float
  pub right : Float

abbrev pub unsteered : StereoGains
unsteered = record { left = zero_float; right = zero_float }

abbrev pub steered : Result StereoGains Refusal → StereoAnswer
steered r = record { refusal = number_in r; left = (value_in unsteered r).left; right = (value_in unsteered r).right }

-- left the cosine, right the sine
abbrev pub played : Float → StereoAnswer
played p = record {
  refusal = 0;
  left = (Angles.outcome cosine (angle_of p)).value;
  right = (Angles.outcome sine (angle_of p)).value;
}

abbrev pub refused : ℕ → StereoAnswer
refused n = record { refusal = n; left = zero_float; right = zero_float }

unfoldable pub outcome : Float → StereoAnswer
outcome p = answered (refusal_of p) (played p) refused

-- of the gains at an accepted position: how near they are to document 01's formula
pub record StereoWords (p : Float) (answer : StereoAnswer) : Type 0 where
  pub left : Within stereo_bits (number answer.left) (defined_cosine (angle (number p)))
  pub right : Within stereo_bits (number answer.right) (defined_sine (angle (number p)))

-- every bit of the answer, and document 01's words
pub record StereoPromise (p : Float) (answer : StereoAnswer) : Type 0 where
  pub bits : answer ≡ outcome p
  pub words : refusal_of p ≡ 0 → StereoWords p answer
