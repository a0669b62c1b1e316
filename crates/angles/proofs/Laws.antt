-- What the crates above cite of sine and cosine, beside their promise: which angles are accepted, that the value is
-- nearer than promised, and that of an angle that was rounded the value stands for the sine or cosine of the exact one.
-- `w` is either wave. Assumes nothing.
use Rattle.std.specs.Prelude.{◌≡◌, ◌*◌, ◌^◌, ◌≤◌, ◌<◌}
use Rattle.lists.specs.Prelude.{sym, ap, ◌∙◌, subst, ℕ, le_trans, suc-le-suc_iff, arith, lit≤, Float, pow_pos}
use Rattle.fractions.specs.Fraction.{Fraction, number, whole, magnitude, AtMost, Within}
use Rattle.fractions.proofs.Approximates.{Approximates}
use Rattle.fractions.proofs.Close.{Size, close_unit, size_near}
use Rattle.fractions.proofs.Within.{within_close, within_weaken, at_most_size, size_at_most}
use Rattle.series.specs.Sums.{Wave}
use Rattle.series.specs.Angles.{defined}
use Rattle.series.proofs.Laws.{defined_most, defined_size, defined_carried}
use Rattle.angles.specs.Promise.{Answer}
use Rattle.angles.specs.Promise.{refusal_of, WavePromise}
use Rattle.angles.proofs.Floats.{accepted_number}
use Rattle.angles.proofs.Near.{computed_near}
use Rattle.angles.proofs.Meets.{value_is}
-- the promise holds of the answer that the definition gives, so that all of it can be had of a value that is said by
-- the definition alone
pub use Rattle.angles.proofs.Meets.{outcome_kept}
-- angles of 1080 degrees at most in size are accepted
pub use Rattle.angles.proofs.Floats.{accepted}

-- ---- so is an angle rounded from one of 1079
pub rounded_accepted : (d : Float) {k : ℕ} (a : Fraction) → Within k (number d) a → AtMost (magnitude a) (whole 1079)
    → refusal_of d ≡ 0
rounded_accepted d {k} a c h =
    let n : Size 1 (number d) 1080 = size_near (close_unit (pow_pos k) (above (2 ^ k) (pow_pos k)) (within_close c))
    (at_most_size h) in
    accepted d c.first (size_at_most n)
  where
    above : (p : ℕ) → 0 < p → 1 * 1 ≤ 1 * p
    above p h = omega arith

module _ (w : Wave) (d : Float) (answer : Answer) (p : WavePromise w d answer) where
  -- ---- nearer than promised
  pub value_near : refusal_of d ≡ 0 → Within 50 (number answer.value) (defined w (number d))
  value_near h =
      subst (λ (v : Float). Within 50 (number v) (defined w (number d)))
      (sym (ap (λ (r : Answer). r.value) p.bits ∙ value_is w d h)) (computed_near w d (accepted_number d h))

  -- ---- d is an angle rounded, and a the exact one
  pub value_carried : {k : ℕ} (a : Fraction) → k ≤ 49 → Within k (number d) a → AtMost (magnitude a) (whole 1079)
      → Approximates k defined_most answer.value (defined w a)
  value_carried a l c h = record {
    near = defined_carried w (le_trans l (lit≤ tt))
        (within_weaken (suc-le-suc_iff.1 l) (value_near (rounded_accepted d a c h))) c;
    size = defined_size w a c.second;
  }
