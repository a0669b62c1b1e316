-- Numbers that roll over at 2^32: the kit's wrapped difference is `ahead`, and how `ahead` goes on. Assumes nothing.
use Rattle.std.specs.Prelude.{◌≡◌, ◌+◌, ◌%◌, ◌^◌, ◌<◌}
use Rattle.lists.specs.Prelude.{ℕ, arith}
use Rattle.stamps.specs.Arrivals.{ahead, following}

-- so far from e, going up and over, one comes to s
ahead_reaches : (e s : ℕ) → e < 2 ^ 32 → s < 2 ^ 32 → (ahead e s < 2 ^ 32) × ((e + ahead e s) % 2 ^ 32 ≡ s)
ahead_reaches e s he hs = (omega arith, omega arith)

-- and by no other number below 2^32: the kit's wrapped difference is one
pub difference_is : (r e s : ℕ) → r < 2 ^ 32 → e < 2 ^ 32 → s < 2 ^ 32 → (r + e) % 2 ^ 32 ≡ s → r ≡ ahead e s
difference_is r e s hr he hs h = omega arith

-- a stamp is 0 ahead of itself
pub ahead_none : (s : ℕ) → s < 2 ^ 32 → ahead s s ≡ 0
ahead_none s hs = omega arith

-- one stamp on, one less
pub ahead_less : (e s d : ℕ) → e < 2 ^ 32 → s < 2 ^ 32 → ahead e s ≡ d + 1 → ahead (following e) s ≡ d
ahead_less e s d he hs h = omega arith
