-- The answers of the program are those promised: one that is refused, and one that is played. Assumes nothing.
use Rattle.std.specs.Prelude.{◌≡◌, ◌<◌, Result, IsOk}
use Rattle.lists.specs.Prelude.{sym, ◌∙◌, ap, subst, true, false, not-false, T, lit<, Float}
use lib.Ieee.Scale.{finite}
use Rattle.formats.specs.Floats.{zero_float}
use Rattle.refusals.specs.Numbers.{told}
use Rattle.refusals.specs.declared.Refusal.{Refusal}
use Rattle.refusals.proofs.Numbers.{accepted_ok}
use Rattle.refusals.proofs.First.{not_accepted, answered_accepted, answered_by_lem}
use Rattle.lists.proofs.Tests.{cond_true, cond_false}
use Rattle.fractions.specs.Fraction.{number}
use Rattle.fractions.proofs.Number.{finite_number}
use Rattle.series.specs.Sums.{Wave, sine, cosine}
use Rattle.angles.specs.Promise.{Answer}
use Rattle.angles.specs.Promise.{WavePromise}
use Rattle.stereo.specs.Computed.{clamped_to, angle_from, angle_of}
use Rattle.stereo.specs.Promise.{is_refused, refusal_of, played, refused, outcome, StereoPromise}
use Rattle.stereo.proofs.Near.{angle_accepted, gain_near}

module _ (p : Float) where
  pub refuses : is_refused p ≡ true → StereoPromise p (refused 3)
  unfolding outcome
  refuses r =
      let three : refusal_of p ≡ 3 = cond_true 3 0 r in
      record {
        bits = answered_by_lem (played p) refused (refusal_of p) 3 (lit< tt) three;
        words = λ k. absurd (not_accepted 3 (lit< tt) three k);
      }

  -- of a position that is not refused the angle is not either
  pub wave_accepted : (w : Wave) (c : Float) (r : Result Float Refusal) → is_refused p ≡ false → c ≡ clamped_to p
      → WavePromise w (angle_from c) (told zero_float r) → IsOk r
  unfolding angle_of
  wave_accepted w c r h e a' =
      let a = subst (λ (z : Float). WavePromise w (angle_from z) (told zero_float r)) e a' in
      let P : 0 < (number p).over = finite_number p (subst T (sym (not-false (finite p) h)) tt) in
      accepted_ok r (ap (λ (x : Answer). x.refusal) (a.bits ∙ answered_accepted _ _ _ (angle_accepted p P)))

  -- c is the clamped position
  pub plays : (c : Float) (l r : Answer) → is_refused p ≡ false → c ≡ clamped_to p → WavePromise cosine (angle_from c) l
      → WavePromise sine (angle_from c) r → StereoPromise p (record { refusal = 0; left = l.value; right = r.value })
  unfolding outcome angle_of
  plays c l r h e a' b' =
      let a = subst (λ (z : Float). WavePromise cosine (angle_from z) l) e a' in
      let b = subst (λ (z : Float). WavePromise sine (angle_from z) r) e b' in
      let P : 0 < (number p).over = finite_number p (subst T (sym (not-false (finite p) h)) tt) in
      record {
        bits = (λ i. record { refusal = 0; left = (a.bits i).value; right = (b.bits i).value })
            ∙ sym (answered_accepted (played p) refused (refusal_of p) (cond_false 3 0 h));
        words = λ k. record { left = gain_near p P cosine l a; right = gain_near p P sine r b };
      }
