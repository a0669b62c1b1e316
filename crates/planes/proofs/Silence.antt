-- With finite weights a frame of silence gives 0.0: each product is a zero of some sign, and 0.0 with a zero of either
-- sign added is 0.0. Assumes nothing.
use Rattle.std.specs.Prelude.{◌≡◌, ◌∷◌}
use Rattle.lists.specs.Prelude.{refl, ap, ◌∙◌, false, true≢false, List, [], ℕ, zero, suc, replicate, Float, nan, inf}
use Rattle.lists.specs.Prelude.{fin, binary64, add, round, unlike}
use Rattle.formats.specs.Floats.{zero_float}
use Rattle.numbers.specs.Computed.{rounded, narrowed}
use Rattle.numbers.proofs.Zeros.{zero_times, zero_plus}
use Rattle.checks.specs.Finite.{has_nonfinite}
use Rattle.planes.specs.Sums.{dot, mixed}

dot_silence : (n : ℕ) (ws : List Float) → has_nonfinite ws ≡ false
    → dot zero_float (replicate n zero_float) ws ≡ zero_float
dot_silence zero ws h = refl
dot_silence (suc n) [] h = refl
dot_silence (suc n) (nan ∷ ws) h = absurd (true≢false h)
dot_silence (suc n) (inf s ∷ ws) h = absurd (true≢false h)
dot_silence (suc n) (fin s m e ∷ ws) h =
    ap (λ (a : Float). dot a (replicate n zero_float) ws)
    (ap (add binary64 zero_float) (zero_times s m e) ∙ zero_plus (unlike false s)) ∙ dot_silence n ws h

narrowed_zero : narrowed zero_float ≡ zero_float
unfolding rounded round
narrowed_zero = refl

pub mixed_silence : (n : ℕ) (ws : List Float) → has_nonfinite ws ≡ false → mixed ws (replicate n zero_float)
    ≡ zero_float
unfolding mixed
mixed_silence n ws h = ap narrowed (dot_silence n ws h) ∙ narrowed_zero
