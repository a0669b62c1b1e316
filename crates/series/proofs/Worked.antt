-- Some values, by computation: that the sums are what they look like, some reduced angles, and the defined values at
-- some angles. Whether a number is near a sum at a given fraction is decided by computing both (`within_computed`), so
-- a crate above can have a cosine, as those of max-rE, as a literal. Assumes nothing.
use Rattle.std.specs.Prelude.{◌≡◌, ◌^◌}
use Rattle.lists.specs.Prelude.{refl}
use Rattle.fractions.specs.Fraction.{fraction, whole, opposite, Same, Within}
use Rattle.series.specs.Sums.{factorial, power, term, sine_sum, cosine_sum}
use Rattle.series.specs.Angles.{turned, around, reduced, radians, is_multiple, quarters, defined, defined_sine}
use Rattle.series.specs.Angles.{defined_cosine}
use Rattle.fractions.proofs.Within.{within_computed}

-- x^3 / 3! at 2 is 8 / 6
third_term : term (whole 2) 3 ≡ fraction 8 0 6
unfolding term power factorial
third_term = refl

-- the sine of 1 radian is 0.84147098480789650665.., the cosine 0.54030230586813971740..
sine_of_one : Within 60 (sine_sum (whole 1)) (fraction 84147098480789650665 0 (10 ^ 20))
unfolding sine_sum term power factorial
sine_of_one = within_computed 60 _ _ tt

cosine_of_one : Within 60 (cosine_sum (whole 1)) (fraction 54030230586813971740 0 (10 ^ 20))
unfolding cosine_sum term power factorial
cosine_of_one = within_computed 60 _ _ tt

-- ---- reduction: 540 is 180, -540 is 180 too, and 181.5 is -178.5
reduced_540 : Same (reduced (whole 540)) (whole 180)
unfolding reduced around turned
reduced_540 = refl

reduced_minus_540 : Same (reduced (opposite (whole 540))) (whole 180)
unfolding reduced around turned
reduced_minus_540 = refl

reduced_181_and_a_half : Same (reduced (fraction 363 0 2)) (fraction 0 357 2)
unfolding reduced around turned
reduced_181_and_a_half = refl

-- ---- the defined values at 90, 180, 270 and -180 are exact; at 30 the sine is 1 / 2 but for 2 ^ -62
sine_90 : defined_sine (whole 90) ≡ whole 1
unfolding defined is_multiple quarters turned
sine_90 = refl

sine_180 : defined_sine (whole 180) ≡ whole 0
unfolding defined is_multiple quarters turned
sine_180 = refl

sine_270 : defined_sine (whole 270) ≡ opposite (whole 1)
unfolding defined is_multiple quarters turned
sine_270 = refl

cosine_minus_180 : defined_cosine (opposite (whole 180)) ≡ opposite (whole 1)
unfolding defined is_multiple quarters turned
cosine_minus_180 = refl

sine_30 : Within 62 (defined_sine (whole 30)) (fraction 1 0 2)
unfolding defined is_multiple quarters turned reduced around radians sine_sum term power factorial
sine_30 = within_computed 62 _ _ tt
