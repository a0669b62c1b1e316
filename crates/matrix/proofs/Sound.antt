-- The rows of every order are finite, so that the decoder plays them: by computing them. Assumes nothing.
use Rattle.std.specs.Prelude.{◌≡◌, ◌++◌}
use Rattle.lists.specs.Prelude.{ℕ, lit<, refl, ap, fun_ext, false, List, negsuc, Float, fin, size, units, round, mul}
use Rattle.lists.specs.Prelude.{div, of_int}
use Rattle.numbers.specs.Computed.{root_of, whole_root}
use Rattle.rows.specs.Rows.{scaled}
use Rattle.lists.specs.Tables.{tab, any}
use Rattle.checks.specs.Finite.{has_nonfinite}
use Rattle.checks.proofs.Checks.{any_off}
use Rattle.channel.specs.Orders.{refuses_order}
use Rattle.channel.proofs.Orders.{by_order_lem}
use Rattle.numbers.specs.Normalization.{inverse_root_of}
use Rattle.matrix.specs.Rows.{left, right, binaural_rows, hundredths, literals}

-- the f64 next below the root of 1/2
abbrev pub root_of_half : Float
root_of_half = fin false 1592262918131443 (negsuc 50)

-- 1.0/root(2.0)
pub inverse_root_two : inverse_root_of 2 ≡ root_of_half
unfolding inverse_root_of root_of whole_root size units div round of_int
inverse_root_two = refl

pub rows_are : (n : ℕ) → binaural_rows n ≡ scaled root_of_half
    (literals (hundredths n left) ++ literals (hundredths n right))
unfolding binaural_rows
rows_are n =
    ap (λ (f : Float). scaled f (literals (hundredths n left) ++ literals (hundredths n right))) inverse_root_two

-- none of the three orders has a number that is NaN or infinite
rows_sound : any (tab 1 3 (λ n. has_nonfinite (binaural_rows n))) ≡ false
unfolding hundredths round mul
rows_sound = ap (λ (at : ℕ → List Float). any (tab 1 3 (λ n. has_nonfinite (at n)))) (fun_ext rows_are)

-- so a decoder does not refuse them with 7
pub rows_finite : (n : ℕ) → refuses_order n ≡ false → has_nonfinite (binaural_rows n) ≡ false
rows_finite = let one = any_off 1 3 (λ n. has_nonfinite (binaural_rows n)) rows_sound in by_order_lem
    (λ (n : ℕ). has_nonfinite (binaural_rows n) ≡ false) (one 0 (lit< tt)) (one 1 (lit< tt)) (one 2 (lit< tt))
