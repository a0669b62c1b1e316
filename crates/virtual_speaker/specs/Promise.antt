-- Document 01, 'Gains', max-rE: "Within 2^-34 on the weighted coefficient"; 'Refusal numbers' 1 and 3, as harmonics has
-- them, and 2; and item 7: the positions of 003, "all at 0° elevation". Definitions only.
use Rattle.std.specs.Prelude.{◌≡◌, Result}
use Rattle.lists.specs.Prelude.{ℕ, List, Float}
use Rattle.refusals.specs.Refusals.{answered}
use Rattle.refusals.specs.Numbers.{number_in, value_in}
use Rattle.refusals.specs.declared.Refusal.{Refusal}
use Rattle.formats.specs.Floats.{zero_float}
use Rattle.fractions.specs.Fraction.{number, EachWithin}
use Rattle.channel.specs.Layouts.{positions, missing, position_azimuth}
use Rattle.harmonics.specs.Promise.{refusal_of, silent_gains}
use Rattle.harmonics.specs.declared.Direction.{Direction}
use Rattle.virtual_speaker.specs.Weights.{weighted_formulas}
use Rattle.virtual_speaker.specs.Computed.{weighted}

-- within 2 ^ -weightBits: the place to change it at
abbrev pub weight_bits : ℕ
weight_bits = 34

-- the weighted coefficients, or a refusal and zeros
pub record Weighted : Type 0 where
  pub refusal : ℕ
  pub weights : List Float

abbrev pub weighing : Result (List Float) Refusal → Weighted
weighing r = record { refusal = number_in r; weights = value_in silent_gains r }

abbrev pub outcome : ℕ → Direction → Weighted
outcome order d = answered (refusal_of order d) (record { refusal = 0; weights = weighted order d })
    (λ n. record { refusal = n; weights = silent_gains })

-- every bit of the answer; and of the weighted coefficients of an accepted direction how near each is to its formula
pub record MaxRePromise (order : ℕ) (d : Direction) (answer : Weighted) : Type 0 where
  pub bits : answer ≡ outcome order d
  pub words : refusal_of order d ≡ 0 → EachWithin weight_bits answer.weights
      (weighted_formulas order (number d.azimuth) (number d.elevation))

-- the positions of the virtual speakers, and for what is none of the eight refusal 2 and 0.0 for both angles
abbrev pub position_of : ℕ → Direction
position_of i = record { azimuth = position_azimuth i; elevation = zero_float }

abbrev pub straight_ahead : Direction
straight_ahead = record { azimuth = zero_float; elevation = zero_float }

pub record Position : Type 0 where
  pub refusal : ℕ
  pub direction : Direction

abbrev pub positioned : Result Direction Refusal → Position
positioned r = record { refusal = number_in r; direction = value_in straight_ahead r }

abbrev pub position_answer : ℕ → Position
position_answer i = answered (missing positions i) (record { refusal = 0; direction = position_of i })
    (λ n. record { refusal = n; direction = record { azimuth = zero_float; elevation = zero_float } })
