-- The promise is kept: all of it holds of the answer that the definition gives, and so of the three answers that the
-- program can give. Assumes nothing.
use Rattle.std.specs.Prelude.{◌≡◌, ◌∷◌, ◌<◌}
use Rattle.lists.specs.Prelude.{refl, sym, ap, ◌∙◌, subst, Bool, true, false, cond, List, [], ℕ, pos, lit<, lit≤}
use Rattle.lists.specs.Prelude.{length, Float, of_int}
use Rattle.formats.specs.Floats.{float}
use Rattle.refusals.specs.Refusals.{◌when◌, answered}
use Rattle.refusals.proofs.First.{or_off, answered_accepted, answered_number}
use Rattle.refusals.proofs.Chains.{none_holds}
use Rattle.channel.specs.Orders.{refuses_order}
use Rattle.channel.proofs.Orders.{by_order_lem}
use Rattle.fractions.specs.Fraction.{number, whole, magnitude, AtMost, EachWithin}
use Rattle.fractions.proofs.Close.{size_wider}
use Rattle.fractions.proofs.Within.{at_most_size, size_at_most}
use Rattle.harmonics.specs.Formulas.{formulas}
use Rattle.harmonics.specs.Computed.{waves_of, up_to, harmonics_computed}
use Rattle.harmonics.specs.Promise.{gain_bits, refuses_azimuth, refuses_elevation, refuses_direction, refusal_of}
use Rattle.harmonics.specs.Promise.{silent_gains, outcome, HarmonicsPromise}
use Rattle.harmonics.specs.declared.Direction.{Direction}
use Rattle.harmonics.specs.Promise.{Coefficients}
use Rattle.angles.proofs.Limits.{accepted_number, accepted_size}
use Rattle.harmonics.proofs.Near.{Bounded, bounded}

-- ---- what is known of an accepted direction
pub record Accepted (order : ℕ) (d : Direction) : Type 0 where
  pub order_is : refuses_order order ≡ false
  pub azimuth : 0 < (number d.azimuth).over
  pub azimuth_size : AtMost (magnitude (number d.azimuth)) (whole 180)
  pub elevation : 0 < (number d.elevation).over
  elevation_size_lem : AtMost (magnitude (number d.elevation)) (whole 90)

module _ (order : ℕ) (d : Direction) where
  pub is_accepted : refusal_of order d ≡ 0 → Accepted order d
  unfolding of_int
  is_accepted h =
      let t = none_holds (1 when refuses_order order ∷ 3 when refuses_direction d ∷ []) tt h in
      let n = or_off (refuses_azimuth d.azimuth) (refuses_elevation d.elevation) t.1.0 in
      record {
        order_is = t.0;
        azimuth = accepted_number (float (pos 180)) d.azimuth n.0;
        azimuth_size = accepted_size (float (pos 180)) d.azimuth (lit< tt) n.0;
        elevation = accepted_number (float (pos 90)) d.elevation n.1;
        elevation_size_lem = accepted_size (float (pos 90)) d.elevation (lit< tt) n.1;
      }

  -- ---- the answer by the two tests
  abbrev accepting : List Float → Coefficients
  accepting xs = record { refusal = 0; gains = xs }

  abbrev refusing : ℕ → Coefficients
  refusing n = record { refusal = n; gains = silent_gains }

  abbrev answer : Bool → Bool → Coefficients
  answer a b = answered (cond a 1 (cond b 3 0)) (accepting (up_to order (waves_of d))) refusing

  pub refusal_is : (outcome order d).refusal ≡ refusal_of order d
  refusal_is = answered_number (accepting (up_to order (waves_of d))) refusing (λ (r : Coefficients). r.refusal) refl
      (refusal_of order d) refl

  pub gains_are : refusal_of order d ≡ 0 → (outcome order d).gains ≡ up_to order (waves_of d)
  gains_are h = ap (λ (r : Coefficients). r.gains)
      (answered_accepted (accepting (up_to order (waves_of d))) refusing (refusal_of order d) h)

  pub length_is : length (outcome order d).gains ≡ 16
  unfolding up_to
  length_is = go (refuses_order order) (refuses_direction d)
      (λ h. by_order_lem (λ (n : ℕ). length (up_to n (waves_of d)) ≡ 16) refl refl refl order h)
    where
      go : (a b : Bool) → (a ≡ false → length (up_to order (waves_of d)) ≡ 16) → length (answer a b).gains ≡ 16
      go true b f = refl
      go false true f = refl
      go false false f = f refl

  pub near_all : refusal_of order d ≡ 0 → Bounded d order
  near_all h =
      let a = is_accepted h in
      bounded d a.azimuth a.azimuth_size a.elevation
      (size_at_most (size_wider (at_most_size a.elevation_size_lem) (lit≤ tt))) order a.order_is

  pub outcome_kept : HarmonicsPromise order d (outcome order d)
  outcome_kept = record {
    bits = refl;
    words = λ h. subst (λ (xs : List Float). EachWithin gain_bits xs
        (formulas order (number d.azimuth) (number d.elevation))) (sym (gains_are h)) (near_all h).near;
  }

  -- ---- the three answers of the program
  pub order_refused_lem : (r : Coefficients) → refuses_order order ≡ true
      → r ≡ record { refusal = 1; gains = silent_gains }
      → HarmonicsPromise order d r
  order_refused_lem r h e =
      subst (HarmonicsPromise order d) (ap (λ (a : Bool). answer a (refuses_direction d)) h ∙ sym e) outcome_kept

  pub direction_refused : (r : Coefficients) → refuses_order order ≡ false → refuses_direction d ≡ true
      → r ≡ record { refusal = 3; gains = silent_gains } → HarmonicsPromise order d r
  direction_refused r h k e = subst (HarmonicsPromise order d) ((λ i. answer (h i) (k i)) ∙ sym e) outcome_kept

  pub accepted_kept : (g : List Float) → refuses_order order ≡ false → refuses_direction d ≡ false
      → g ≡ harmonics_computed order (waves_of d) → HarmonicsPromise order d (record { refusal = 0; gains = g })
  accepted_kept g h k e =
      subst (HarmonicsPromise order d)
      ((λ i. answer (h i) (k i)) ∙ ap accepting
      (sym (e ∙ by_order_lem (λ (n : ℕ). harmonics_computed n (waves_of d) ≡ up_to n (waves_of d)) refl refl refl order
      h)))
      outcome_kept
