-- What the crates above cite of the weighted coefficients, beside their promise: that all are finite, whether refused
-- or not, and that the eight positions are accepted. Assumes nothing.
use Rattle.std.specs.Prelude.{◌≡◌, ◌||◌, ◌∷◌}
use Rattle.lists.specs.Prelude.{refl, ap, ◌∙◌, Bool, true, false, not, List, [], ℕ, zero, suc, arith, T, lit<, lit≤}
use Rattle.lists.specs.Prelude.{leb→le, ℤ, pos, negsuc, length, get_or, Float, binary64, of_int}
use lib.Ieee.Scale.{finite}
use lib.Ieee.Bits.{is_true}
use Rattle.refusals.specs.Refusals.{answered}
use Rattle.formats.specs.Floats.{zero_float}
use Rattle.fractions.specs.Fraction.{Fraction, number, EachWithin}
use Rattle.fractions.proofs.Number.{number_finite}
use Rattle.checks.specs.Finite.{has_nonfinite}
use Rattle.channel.specs.Layouts.{positions}
use Rattle.channel.proofs.Tables.{turned, position_turned}
use Rattle.channel.specs.Orders.{refuses_order}
use Rattle.harmonics.specs.Promise.{refuses_azimuth, refusal_of, silent_gains}
use Rattle.harmonics.specs.declared.Direction.{Direction}
use Rattle.harmonics.proofs.Laws.{accepted, direction_accepted, whole_accepted, elevation_accepted}
use Rattle.virtual_speaker.specs.Weights.{weighted_formulas}
use Rattle.virtual_speaker.specs.Computed.{weigh, weighted}
use Rattle.virtual_speaker.specs.Promise.{weight_bits, MaxRePromise, position_of}
use Rattle.virtual_speaker.specs.Promise.{Weighted}
-- the direction of a position, also of what is none
pub use Rattle.virtual_speaker.proofs.Positions.{position_direction}
-- the promise holds of the answer that the definition gives
pub use Rattle.virtual_speaker.proofs.Meets.{outcome_kept}

-- ---- what is near a number is finite
each_sound : (k : ℕ) (xs : List Float) (qs : List Fraction) → EachWithin k xs qs → has_nonfinite xs ≡ false
each_sound k [] qs h = refl
each_sound k (x ∷ xs) (q ∷ qs) h = ap (λ (b : Bool). not b || has_nonfinite xs)
    (is_true (finite x) (number_finite x h.0.first)) ∙ each_sound k xs qs h.1
each_sound k (x ∷ xs) [] h = absurd h

module _ (order : ℕ) (d : Direction) (answer : Weighted) (p : MaxRePromise order d answer) where
  -- the answer by its refusal
  abbrev by : ℕ → Weighted
  by n = answered n (record { refusal = 0; weights = weighted order d })
      (λ k. record { refusal = k; weights = silent_gains })

  -- ---- there are sixteen, all of them finite
  pub weights_length : length answer.weights ≡ 16
  unfolding weigh
  weights_length = ap (λ (s : Weighted). length s.weights) p.bits ∙ sixteen (refusal_of order d)
    where
      sixteen : (n : ℕ) → length (by n).weights ≡ 16
      sixteen zero = refl
      sixteen (suc n) = refl

  pub weights_sound : has_nonfinite answer.weights ≡ false
  weights_sound = go (refusal_of order d) refl p.bits
    where
      go : (n : ℕ) → refusal_of order d ≡ n → answer ≡ by n → has_nonfinite answer.weights ≡ false
      go zero h e = each_sound weight_bits answer.weights
          (weighted_formulas order (number d.azimuth) (number d.elevation)) (p.words h)
      go (suc n) h e = ap (λ (s : Weighted). has_nonfinite s.weights) e

-- ---- the positions
turned_accepted : (z : ℤ) → T (turned z) → refuses_azimuth (of_int binary64 z) ≡ false
unfolding of_int
turned_accepted (pos n) t = whole_accepted false n (leb→le n 180 t)
turned_accepted (negsuc n) t = whole_accepted true (suc n) (omega (arith, leb→le n 179 t))

pub position_accepted : (order i : ℕ) → refuses_order order ≡ false → refusal_of order (position_of i) ≡ 0
unfolding of_int
position_accepted order i h = accepted order (position_of i) h
    (direction_accepted (position_of i) (turned_accepted (get_or positions i (pos 0)) (position_turned i))
    (elevation_accepted zero_float (lit< tt) (lit≤ tt)))
