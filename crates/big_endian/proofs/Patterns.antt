-- What a NaN is made from and written as, in either format. Assumes nothing.
use Rattle.std.specs.Prelude.{◌≡◌, ◌+◌, ◌*◌, ◌/◌, ◌%◌, ◌<◌}
use Rattle.lists.specs.Prelude.{refl, sym, ap, ◌∙◌, true, ℕ, Float, Format, binary32, binary64, nan, hid, ones, top}
use Rattle.lists.specs.Prelude.{of_bits, to_bits, div, is_nan, inf, fin, true≢false}
use Rattle.formats.proofs.Patterns.{nan_pattern}

-- 0.0 / 0.0
zero_by_zero : (f : Format) → div f (of_bits f 0) (of_bits f 0) ≡ nan
unfolding div of_bits
zero_by_zero binary32 = refl
zero_by_zero binary64 = refl

-- which stands for the pattern m of a NaN
pub nan_read : (f : Format) (n m : ℕ) → ones f * hid f < n % top f → n ≡ m
    → div f (of_bits f 0) (of_bits f 0) ≡ of_bits f m
nan_read f n m h e = zero_by_zero f ∙ sym (nan_pattern f n h) ∙ ap (of_bits f) e

pub nan_written : (f : Format) (x : Float) → is_nan x ≡ true → to_bits f x ≡ ones f * hid f + hid f / 2
unfolding to_bits is_nan
nan_written f nan h = refl
nan_written f (inf s) h = absurd (true≢false (sym h))
nan_written f (fin s m e) h = absurd (true≢false (sym h))
