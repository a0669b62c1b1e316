-- Document 01, 'Gains': "max-rE (003): degree l of order N is weighted by c^l, c = cos(A/(2(N+1))) with A =
-- 2.406184877014388 radians, over the same defined series." The angle is in radians already: the series is summed at it
-- as it is. Definitions only.
use Rattle.std.specs.Prelude.{◌+◌, ◌*◌, ◌^◌}
use Rattle.lists.specs.Prelude.{ℕ, cond, List, ltb, get_or}
use Rattle.fractions.specs.Fraction.{Fraction, fraction, whole, ◌⊗◌, ◌⊘◌}
use Rattle.series.specs.Sums.{cosine_sum, power}
use Rattle.lists.specs.Tables.{tab}
use Rattle.channel.specs.Orders.{channels_of_order}
use Rattle.harmonics.specs.Formulas.{formulas}

abbrev pub max_re_angle : Fraction
max_re_angle = fraction 2406184877014388 0 (10 ^ 15)

abbrev pub max_re_cosine : ℕ → Fraction
max_re_cosine order = cosine_sum (max_re_angle ⊘ whole (2 * (order + 1)))

-- in ACN order the channels of order l are those of degree l at most
abbrev pub degree_of : ℕ → ℕ
degree_of channel = cond (ltb channel (channels_of_order 0)) 0
    (cond (ltb channel (channels_of_order 1)) 1 (cond (ltb channel (channels_of_order 2)) 2 3))

abbrev pub weighted_formulas : ℕ → Fraction → Fraction → List Fraction
weighted_formulas order a e =
    tab 0 16 (λ i. get_or (formulas order a e) i (whole 0) ⊗ power (max_re_cosine order) (degree_of i))
