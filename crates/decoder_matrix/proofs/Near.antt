-- Each weight of a matrix is as near its formula as is promised, by squares: the harmonic is known by its promise, the
-- root of n by the root's, and the rest is one expression. Every speaker's azimuth is one that the harmonics take, by
-- one test over the tables. Assumes nothing.
use Rattle.std.specs.Prelude.{◌^◌, ◌≤◌, ◌<◌, ◌≡◌, ◌∷◌}
use Rattle.lists.specs.Prelude.{ℕ, zero-le, arith, refl, sym, ap, ◌∙◌, subst, Bool, false, not, List, [], pos, T, eqb}
use Rattle.lists.specs.Prelude.{eqb→eq, not-false, get_or, take, get_or-map, get_or-take, Float, nan, binary64, fits}
use Rattle.lists.specs.Prelude.{round, of_int, sub, mul, div, lt, le, neg}
use lib.Ieee.Positive.{positive}
use Rattle.lists.proofs.Tests.{all, each_holds}
use Rattle.fractions.specs.Fraction.{Fraction, fraction, number, whole}
use Rattle.fractions.specs.Squares.{BySquares}
use Rattle.fractions.proofs.Roots.{RootOf}
use Rattle.fractions.proofs.Approximates.{Approximates}
use Rattle.fractions.proofs.Normalised.{over_root}
use Rattle.numbers.specs.Computed.{root_of}
use Rattle.numbers.proofs.Close.{root_close, root_fits}
use Rattle.lists.specs.Tables.{tab, any}
use Rattle.formats.specs.Floats.{float}
use Rattle.numbers.specs.Normalization.{inverse_root_of}
use Rattle.checks.proofs.Checks.{at_each}
use Rattle.rows.specs.Rows.{scaled}
use Rattle.channel.specs.declared.Layout.{Layout}
use Rattle.channel.specs.declared.Layout.TheVariants.{Mono, Stereo, Surround51, Surround71, Custom}
use Rattle.channel.specs.Layouts.{channels_of, refuses_channels}
use Rattle.refusals.proofs.Counts.{not_outside}
use Rattle.channel.specs.Orders.{refuses_order, channels_of_order}
use Rattle.angles.specs.Limits.{is_inside, refuses_angle}
use Rattle.harmonics.specs.Promise.{refuses_azimuth, refuses_elevation, outcome}
use Rattle.harmonics.proofs.Laws.{accepted, direction_accepted, outcome_kept, gain_near}
use Rattle.decoder_matrix.specs.Speakers.{azimuth_at, towards, custom_azimuth, turned_back}
use Rattle.decoder_matrix.specs.Matrix.{row_by, formula_at}
use Rattle.decoder_matrix.specs.Promise.{matrix_bits}

-- ---- the numbers 1 to 16 as floats
abbrev whole_tests : ℕ → List Bool
whole_tests n = let x = float (pos n) in fits binary64 x ∷ positive x ∷ eqb (number x).plus n ∷ eqb (number x).minus 0
    ∷ eqb (number x).over 1 ∷ []

whole_float : ℕ → Bool
whole_float n = all (whole_tests n)

all_whole : any (tab 1 16 (λ n. not (whole_float n))) ≡ false
unfolding whole_float of_int fits
all_whole = refl

record Whole (n : ℕ) : Type 0 where
  pub held : T (fits binary64 (float (pos n)))
  pub above : T (positive (float (pos n)))
  pub value : number (float (pos n)) ≡ whole n

is_whole : (n : ℕ) → T (whole_float n) → Whole n
unfolding whole_float
is_whole n t =
    let x = float (pos n) in
    let w = each_holds (whole_tests n) t in
    record {
      held = w.0;
      above = w.1.0;
      value =
          let e0 = eqb→eq (number x).plus n w.1.1.0 in
          let e1 = eqb→eq (number x).minus 0 w.1.1.1.0 in
          let e2 = eqb→eq (number x).over 1 w.1.1.1.1.0 in
          λ i. fraction (e0 i) (e1 i) (e2 i);
    }

whole_is : (n : ℕ) → 1 ≤ n → n ≤ 16 → Whole n
whole_is n h l = is_whole n
    (subst T (sym (not-false (whole_float n) (at_each 1 16 (λ n. not (whole_float n)) all_whole n h (omega arith))))
    tt)

-- ---- every speaker's azimuth is one that the harmonics take
refused_at : Layout → ℕ → Bool
refused_at l i = refuses_azimuth (azimuth_at l i)

customs : any (tab 1 16 (λ n. any (tab 0 n (refused_at (Custom n))))) ≡ false
unfolding refused_at refuses_angle is_inside of_int custom_azimuth turned_back round sub mul div lt le neg
customs = refl

tables : (l : Layout) → refuses_channels (channels_of l) ≡ false → any (tab 0 (channels_of l) (refused_at l)) ≡ false
unfolding refused_at refuses_angle is_inside of_int le neg
tables Mono u = refl
tables Stereo u = refl
tables Surround51 u = refl
tables Surround71 u = refl
tables (Custom n) u = at_each 1 16 (λ n. any (tab 0 n (refused_at (Custom n)))) customs n (not_outside n 16 u).0
    (omega (arith, (not_outside n 16 u).1))

taken : (l : Layout) (i : ℕ) → refuses_channels (channels_of l) ≡ false → i < channels_of l
    → refuses_azimuth (azimuth_at l i) ≡ false
unfolding refused_at
taken l i u h = at_each 0 (channels_of l) (refused_at l) (tables l u) i zero-le (omega arith)

-- ---- the weight of channel c in the row of speaker i
get_or_scaled : (f : Float) (xs : List Float) (c : ℕ) → get_or (scaled f xs) c nan ≡ mul binary64 (get_or xs c nan) f
unfolding mul
get_or_scaled f xs c = get_or-map (λ (x : Float). mul binary64 x f) xs c nan

front : refuses_elevation (of_int binary64 (pos 0)) ≡ false
unfolding refuses_angle is_inside of_int le neg
front = refl

module _ (order : ℕ) (l : Layout) (o : refuses_order order ≡ false) (u : refuses_channels (channels_of l) ≡ false)
    (i : ℕ)
    (h : i < channels_of l) where
  root : RootOf (2 ^ 53) (number (root_of binary64 (float (pos (channels_of l))))) (whole (channels_of l))
  root =
      let w = whole_is (channels_of l) (not_outside (channels_of l) 16 u).0 (not_outside (channels_of l) 16 u).1 in
      subst (RootOf (2 ^ 53) (number (root_of binary64 (float (pos (channels_of l)))))) w.value
      (root_close binary64 (float (pos (channels_of l))) w.held w.above)

  near_one : (x : Float) (a : Fraction) → Approximates 42 (whole 5) x a
      → BySquares matrix_bits (number (mul binary64 x (inverse_root_of (channels_of l)))) a (whole (channels_of l))
  unfolding inverse_root_of round
  near_one x a s =
      let w = whole_is (channels_of l) (not_outside (channels_of l) 16 u).0 (not_outside (channels_of l) 16 u).1 in
      over_root (root_of binary64 (float (pos (channels_of l)))) (channels_of l) s (not_outside (channels_of l) 16 u).0
      (not_outside (channels_of l) 16 u).1 root
      (root_fits binary64 (float (pos (channels_of l))) w.held w.above) matrix_bits tt

  pub near : (c : ℕ) → c < channels_of_order order → channels_of_order order ≤ 16
      → BySquares matrix_bits (number (get_or (row_by order l (channels_of l) (channels_of_order order) i) c nan))
      (formula_at order l i c) (whole (channels_of l))
  unfolding of_int
  near c k m =
      let d = towards (azimuth_at l i) in
      let g = (outcome order d).gains in
      let z = accepted order d o (direction_accepted d (taken l i u h) front) in
      subst (λ (x : Float). BySquares matrix_bits (number x) (formula_at order l i c) (whole (channels_of l)))
      (sym (get_or_scaled (inverse_root_of (channels_of l)) (take (channels_of_order order) g) c
      ∙ ap (λ (x : Float). mul binary64 x (inverse_root_of (channels_of l)))
      (get_or-take (channels_of_order order) g c nan k)))
      (near_one (get_or g c nan) (formula_at order l i c)
      (gain_near order d (outcome order d) (outcome_kept order d) z c nan (whole 0) (omega arith)))
