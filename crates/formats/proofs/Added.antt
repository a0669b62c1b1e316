-- What a format holds is rounded to itself (`held_rounded`), and so, added to 0.0, it is itself but for the sign of a
-- zero (`zero_and`). In every format. Assumes nothing.
use Rattle.std.specs.Prelude.{◌≡◌, ◌*◌, ◌^◌, ◌<◌}
use Rattle.lists.specs.Prelude.{refl, sym, ap, ◌∙◌, subst, Bool, false, ℕ, zero, suc, zero-mul, mul_right_comm, mul-pos}
use Rattle.lists.specs.Prelude.{eq_of_mul-eq-mul_right, arith, ℤ, pos, T, lit<, pow_pos, Float, nan, inf, fin, Format}
use Rattle.lists.specs.Prelude.{low, up, down, round, add, fits}
use lib.Ieee.Fits.{down_pos, round-fits}
use lib.Ieee.Exact.{round_exact}
use lib.Ieee.Scale.{round_same, overflow}
use Rattle.formats.specs.Floats.{zero_float}
use Rattle.formats.specs.Zeros.{unsigned_zero}
use Rattle.formats.proofs.Patterns.{same_value}
use Rattle.formats.proofs.Grid.{held_units}
use Rattle.formats.proofs.Exchanged.{add_exchanged}
use Rattle.formats.proofs.Zeros.{Unsigned, unsigned_twice, zero_added, size_above, add_unsigned}

-- m / d is n / c and w / l
same_fraction : (m d n c w l : ℕ) → 0 < d → m * c ≡ n * d → m * l ≡ w * d → n * l ≡ w * c
same_fraction m d n c w l D p q =
    eq_of_mul-eq-mul_right d D (n * l) (w * c)
    (mul_right_comm n l d ∙ ap (λ (k : ℕ). k * l) (sym p) ∙ mul_right_comm m c l ∙ ap (λ (k : ℕ). k * c) q
    ∙ mul_right_comm w d c)

module _ (f : Format) (s : Bool) (m : ℕ) (e : ℤ) (h : T (fits f (fin s m e))) where
  held_rounded : (n c : ℕ) → 0 < c → m * up e * c ≡ n * down e → round f s n c ≡ fin s m e
  held_rounded n c C v =
      let u = held_units f s m e h in
      let g = u.grid in
      round_same f s n c u.w (2 ^ low f) C (pow_pos (low f))
      (same_fraction (m * up e) (down e) n c u.w (2 ^ low f) (down_pos e) v u.value.1)
      ∙ same_value f s (round f s u.w (2 ^ low f)) (fin s m e) u.w (round-fits f s u.w (2 ^ low f)) h
      (round_exact f s u.w (2 ^ low f) g.c g.i (pow_pos (low f)) g.fit
      (subst (λ (k : ℕ). k < overflow f) g.is g.room) (ap (λ (k : ℕ). k * 2 ^ low f) g.is))
      u.value

-- ---- 0.0 and what the format holds
module _ (f : Format) where
  pub held_and_zero : (x : Float) → Unsigned x → T (fits f x) → add f x zero_float ≡ x
  unfolding add
  held_and_zero nan p h = refl
  held_and_zero (inf s) p h = refl
  held_and_zero (fin s m e) p h =
      zero_added f s _ false _ _ (zero-mul (down e)) (size_above s m e (pos 0) p)
      ∙ held_rounded f s m e h _ _ (mul-pos {n = 1} (down_pos e) (lit< tt)) (omega arith)

  unsigned_held : (x : Float) → T (fits f x) → T (fits f (unsigned_zero x))
  unfolding fits
  unsigned_held nan h = h
  unsigned_held (inf s) h = h
  unsigned_held (fin s zero e) h = h
  unsigned_held (fin s (suc m) e) h = h

  pub zero_and : (x : Float) → T (fits f x) → add f zero_float x ≡ unsigned_zero x
  zero_and x h =
      add_unsigned f zero_float x refl
      ∙ add_exchanged f zero_float (unsigned_zero x)
      ∙ held_and_zero (unsigned_zero x) (unsigned_twice x) (unsigned_held x h)
