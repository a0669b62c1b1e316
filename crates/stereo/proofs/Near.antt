-- The angle is within 2 ^ -44 degrees of the exact one, and so the gains are within 2 ^ -44 of document 01's formula:
-- the slope of sine and cosine carries them over. Assumes nothing.
use Rattle.std.specs.Prelude.{◌≡◌, ◌<◌}
use Rattle.lists.specs.Prelude.{sym, ap, subst, false, lit≤, Float, binary64, of_int}
use Rattle.fractions.specs.Fraction.{Fraction, whole, number, ◌⊕◌, ◌⊗◌, ◌⊘◌, Within}
use Rattle.fractions.proofs.Approximates.{Approximates}
use Rattle.fractions.proofs.Restate.{⊗-comm}
use Rattle.fractions.proofs.Within.{within_refl, within_equal, within_weaken}
use Rattle.fractions.proofs.Expression.{held, ◌+'◌, ◌*'◌, ◌/'◌, approximates, value}
use Rattle.series.specs.Sums.{Wave}
use Rattle.series.specs.Angles.{defined}
use Rattle.angles.specs.Promise.{Answer}
use Rattle.angles.specs.Promise.{refusal_of, WavePromise}
use Rattle.angles.proofs.Laws.{rounded_accepted, value_carried}
use Rattle.stereo.specs.Angle.{clamped, angle}
use Rattle.stereo.specs.Computed.{clamped_to, angle_of}
use Rattle.stereo.specs.Promise.{stereo_bits}
use Rattle.stereo.proofs.Clamp.{clamped_number, clamped_most, clamped_over}

module _ (p : Float) (P : 0 < (number p).over) where
  position : Approximates 200 (whole 100) (clamped_to p) (clamped (number p))
  position = record {
    near = subst (λ (q : Fraction). Within 200 q (clamped (number p))) (sym (clamped_number p P))
        (within_refl 200 (clamped (number p)) (clamped_over (number p) P));
    size = clamped_most (number p);
  }

  angle_near : Approximates 44 (whole 1079) (angle_of p) ((clamped (number p) ⊕ whole 100) ⊘ whole 200 ⊗ whole 90)
  unfolding angle_of of_int
  angle_near =
      approximates binary64 44 1079 1 ((value position +' held false 100 0) /' held false 200 0 *' held false 90 0) tt

  pub angle_accepted : refusal_of (angle_of p) ≡ 0
  angle_accepted = rounded_accepted (angle_of p) _ angle_near.near angle_near.size

  pub gain_near : (w : Wave) (a : Answer) → WavePromise w (angle_of p) a
      → Within stereo_bits (number a.value) (defined w (angle (number p)))
  unfolding angle
  gain_near w a h =
      within_weaken (lit≤ tt)
      (within_equal (ap (defined w) (⊗-comm ((clamped (number p) ⊕ whole 100) ⊘ whole 200) (whole 90)))
      (value_carried w (angle_of p) a h _ (lit≤ tt) angle_near.near angle_near.size).near)
