-- Document 01, 'Refusal numbers': 3 is given exactly when "an angle [..] is NaN or infinite, or [..] a sine's angle
-- outside -1080..1080 degrees", and "A refusal returns its number, [..] 0.0 for any number". 'Angles': "The program's
-- sine and cosine must be within 2^-40 of the defined sum at every accepted angle, and exactly 0, 1 or -1 at multiples
-- of 90." Definitions only.
use Rattle.std.specs.Prelude.{◌≡◌, ◌∷◌}
use Rattle.lists.specs.Prelude.{ℕ, Bool, List, [], T, get_or, Float}
use Rattle.refusals.specs.Refusals.{first_of, ◌when◌, answered}
use Rattle.formats.specs.Floats.{zero_float, one_float, minus_one_float}
use Rattle.fractions.specs.Fraction.{number, Within}
use Rattle.series.specs.Sums.{Wave, sine, cosine}
use Rattle.series.specs.Angles.{is_multiple, quarters, defined}
use Rattle.refusals.specs.Numbers.{Told}
use Rattle.angles.specs.Limits.{limit, refuses_angle}
use Rattle.angles.specs.Computed.{wave_computed}

-- within 2 ^ -angleBits: the place to change it at
abbrev pub angle_bits : ℕ
angle_bits = 40

-- ---- refusals

abbrev pub is_refused : Float → Bool
is_refused d = refuses_angle limit d

abbrev pub refusal_of : Float → ℕ
refusal_of d = first_of (3 when is_refused d ∷ [])

-- ---- the answer

-- at 0, 90, 180 and 270 degrees
abbrev pub exactly : Wave → List Float
exactly sine = zero_float ∷ one_float ∷ zero_float ∷ minus_one_float ∷ []
exactly cosine = one_float ∷ zero_float ∷ minus_one_float ∷ zero_float ∷ []

abbrev pub Answer : Type 0
Answer = Told Float

abbrev pub outcome : Wave → Float → Answer
outcome w d = answered (refusal_of d) (record { refusal = 0; value = wave_computed w d })
    (λ n. record { refusal = n; value = zero_float })

-- of the value at an accepted angle: how near it is to the defined one, being a finite number, and what it is at a
-- multiple of 90
pub record AngleWords (w : Wave) (d value : Float) : Type 0 where
  pub near : Within angle_bits (number value) (defined w (number d))
  pub exact : T (is_multiple (number d)) → value ≡ get_or (exactly w) (quarters (number d)) zero_float

-- every bit of the answer, and document 01's words
pub record WavePromise (w : Wave) (d : Float) (answer : Answer) : Type 0 where
  pub bits : answer ≡ outcome w d
  pub words : refusal_of d ≡ 0 → AngleWords w d answer.value
