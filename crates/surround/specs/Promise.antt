-- Document 01, 'Refusal numbers': 2 is given exactly when "the layout isn't one the operation offers", 3 when "an angle
-- [..] is NaN or infinite, or azimuth is outside -180..180", in this order; "The panner offers Surround51 and
-- Surround71 for surround"; "A refusal returns its number, [..] 0.0 for any number or gain". 'Gains', surround: "On
-- these layouts that sum is never near 000's 1e-10 limit, which is to be proved. Within 2^-30, stated by squares".
-- Definitions only.
use Rattle.std.specs.Prelude.{◌<◌, ◌≡◌, ◌∷◌}
use Rattle.lists.specs.Prelude.{ℕ, not, List, [], T, get_or, Float, binary64}
use Rattle.formats.specs.Floats.{zero_float}
use Rattle.refusals.specs.Refusals.{first_of, ◌when◌, answered}
use Rattle.fractions.specs.Fraction.{fraction, whole, number, AtMost}
use Rattle.fractions.specs.Squares.{BySquares}
use Rattle.numbers.specs.Computed.{root_of}
use Rattle.channel.specs.Layouts.{channels_of, surround}
use Rattle.channel.specs.declared.Layout.{Layout}
use Rattle.harmonics.specs.Promise.{refuses_azimuth, silent_gains, Coefficients}
use Rattle.surround.specs.Formula.{raw_at, sum_at, is_silent}
use Rattle.surround.specs.Computed.{raw_gains, sum_of, divided_by}

-- within 2 ^ -surroundBits: the place to change it at
abbrev pub surround_bits : ℕ
surround_bits = 30

abbrev pub refusal_of : Layout → Float → ℕ
refusal_of l a = first_of (2 when not (surround l) ∷ 3 when refuses_azimuth a ∷ [])

-- each raw gain over the root of the sum of squares
unfoldable pub surround_gains : Layout → Float → List Float
surround_gains l a = let raw = raw_gains l a (channels_of l) in
    divided_by (root_of binary64 (sum_of (channels_of l) raw)) raw

-- the gains of the channels, or a refusal and silence
abbrev pub SurroundGains : Type 0
SurroundGains = Coefficients

abbrev pub outcome : Layout → Float → SurroundGains
outcome l a = answered (refusal_of l a) (record { refusal = 0; gains = surround_gains l a })
    (λ n. record { refusal = n; gains = silent_gains })

-- an accepted answer: g is the gain of a channel
pub record SurroundWords (l : Layout) (a : Float) (g : ℕ → Float) : Type 0 where
  -- the sum of squares is far from 000's limit of 10 ^ -10
  pub clear : AtMost (fraction 3 0 100) (sum_at l (number a))
  pub near : (c : ℕ) → c < channels_of l → BySquares surround_bits (number (g c)) (raw_at l (number a) c)
      (sum_at l (number a))
  pub above : (c : ℕ) → c < channels_of l → AtMost (whole 0) (number (g c))
  pub silent : (c : ℕ) → T (is_silent l (number a) c) → g c ≡ zero_float

-- every bit of the answer, and what document 01 says of the gains of an accepted azimuth
pub record SurroundPromise (l : Layout) (a : Float) (answer : SurroundGains) : Type 0 where
  pub bits : answer ≡ outcome l a
  pub words : refusal_of l a ≡ 0 → SurroundWords l a (λ c. get_or answer.gains c zero_float)
