-- The tests of a range: what they say of a number that passes, and which they refuse, by the test of the lower end that
-- comes first. Assumes nothing.
use Rattle.std.specs.Prelude.{◌≡◌, ◌≤◌, ◌<◌}
use Rattle.lists.specs.Prelude.{refl, sym, ◌∙◌, true, false, true≢false, and-eq-true_iff, ℕ, leb-true, le-leb, lt-leb}
use Rattle.lists.specs.Prelude.{ltb-true, ltb-false, leb, ℤ, pos, negsuc}
use lib.Signed.{lt_z, le_z}
use Rattle.refusals.specs.Ranges.{within, between}

module _ (low high n : ℕ) where
  pub within_true : within low high n ≡ true → (low ≤ n) × (n ≤ high)
  within_true h =
      let both = (and-eq-true_iff (leb low n) (leb n high)).0 h in (leb-true low n both.0, leb-true n high both.1)

  pub within_low : n < low → within low high n ≡ false
  within_low h = rw (lt-leb low n h)

  -- from the lower end on the upper decides
  pub within_from : low ≤ n → within low high n ≡ leb n high
  within_from h = rw (le-leb low n h)

  pub within_in : low ≤ n → n ≤ high → within low high n ≡ true
  within_in h g = within_from h ∙ le-leb n high g

  pub within_high : low ≤ n → high < n → within low high n ≡ false
  within_high h g = within_from h ∙ lt-leb n high g

-- of signed numbers
pub between_low : (low high z : ℤ) → lt_z z low ≡ true → between low high z ≡ false
between_low (pos a) high (pos n) h = rw (lt-leb a n (ltb-true n a h))
between_low (pos a) high (negsuc n) h = refl
between_low (negsuc a) high (pos n) h = absurd (true≢false (sym h))
between_low (negsuc a) high (negsuc n) h = rw (lt-leb n a (ltb-true a n h))

pub between_from : (low high z : ℤ) → lt_z z low ≡ false → between low high z ≡ le_z z high
between_from (pos a) high (pos n) h = rw (le-leb a n (ltb-false n a h))
between_from (pos a) high (negsuc n) h = absurd (true≢false h)
between_from (negsuc a) high (pos n) h = refl
between_from (negsuc a) high (negsuc n) h = rw (le-leb n a (ltb-false a n h))
