-- The three cosines: the f64s that stand for them are near the defined series, by computing it. Assumes nothing.
use Rattle.std.specs.Prelude.{◌≡◌}
use Rattle.lists.specs.Prelude.{false, ℕ, T, lit≤, round}
use Rattle.fractions.specs.Fraction.{number, whole, magnitude, AtMost}
use Rattle.fractions.proofs.Approximates.{Approximates}
use Rattle.fractions.proofs.Within.{is_within, within_computed}
use Rattle.series.specs.Sums.{factorial, power, term, cosine_sum}
use Rattle.channel.specs.Orders.{refuses_order}
use Rattle.channel.proofs.Orders.{by_order_lem}
use Rattle.virtual_speaker.specs.Weights.{max_re_cosine}
use Rattle.virtual_speaker.specs.Computed.{cosine_of}

near_series : (n : ℕ) → T (is_within 54 (number (cosine_of n)) (max_re_cosine n))
    → AtMost (magnitude (max_re_cosine n)) (whole 1) → Approximates 54 (whole 1) (cosine_of n) (max_re_cosine n)
near_series n t h = record { near = within_computed 54 (number (cosine_of n)) (max_re_cosine n) t; size = h }

pub cosine_near : (n : ℕ) → refuses_order n ≡ false → Approximates 54 (whole 1) (cosine_of n) (max_re_cosine n)
unfolding cosine_sum term power factorial round
cosine_near = by_order_lem (λ (n : ℕ). Approximates 54 (whole 1) (cosine_of n) (max_re_cosine n))
    (near_series 1 tt (lit≤ tt))
    (near_series 2 tt (lit≤ tt)) (near_series 3 tt (lit≤ tt))
