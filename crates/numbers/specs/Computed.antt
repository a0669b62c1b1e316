-- What the program computes: the values by which its answers are fixed bit for bit. Definitions only. Nobody has to
-- believe them: `Promise` ties each to document 01's words. `Parted` is what a step of the root promises
-- another one, and no public promise cites it.
use Rattle.std.specs.Prelude.{◌∷◌, ◌-◌, ◌*◌, ◌/◌, ◌^◌, ◌≤◌, ◌<◌, ◌%◌, ◌≡◌}
use Rattle.lists.specs.Prelude.{true, false, cond, [], ℕ, zero, suc, leb, Float, nan, inf, fin, Format, binary32}
use Rattle.lists.specs.Prelude.{binary64, prec, low, up, down, size, units, round}
use Rattle.refusals.specs.Refusals.{first_of, ◌when◌, answered}
use Rattle.formats.specs.Floats.{zero_float}
use Rattle.numbers.specs.Roots.{rootless}
use Rattle.refusals.specs.Numbers.{Told}
use Rattle.formats.proofs.Patterns.{digits}

-- ---- conversions: `fin s m e` is the fraction m * up e / down e with the sign s, and `round` is the kit's
unfoldable pub rounded : Format → Float → Float
rounded f nan = nan
rounded f (inf s) = inf s
rounded f (fin s m e) = round f s (m * up e) (down e)

abbrev pub narrowed : Float → Float
narrowed x = rounded binary32 x

-- ---- the whole root of a number: the largest r whose square is at most n, a binary digit at a time
abbrev pub WholeRoot : ℕ → ℕ → Type 0
WholeRoot n r = (r * r ≤ n) × (n < suc r * suc r)

abbrev pub digit : ℕ → ℕ → ℕ
digit n r = cond (leb (suc r * suc r) n) (suc r) r

-- of an n below 4 ^ d
unfoldable pub root_in : ℕ → ℕ → ℕ
root_in zero n = 0
root_in (suc d) n = digit n (2 * root_in d (n / 4))

unfoldable pub whole_root : ℕ → ℕ
unfolding root_in
whole_root n = root_in (size n) n

-- ---- the root of a float. A positive x is n of the format's smallest values, and its root is the root of a = n * 2 ^
-- low of them. That root has half as many digits as a, of which
-- the format keeps `prec` and drops k. Twice the root, in units of 2 ^ k, has the whole part r = whole_root (4 * a / 4
-- ^
-- k), so (r + 1) / 2 is the whole number nearest to the root.
abbrev pub drops : ℕ → ℕ → ℕ
drops p a = suc (size a) / 2 - p

abbrev pub keeps : ℕ → ℕ → ℕ
keeps a k = suc (whole_root (4 * a / 4 ^ k)) / 2

unfoldable pub root_units : Format → ℕ → Float
root_units f n = let a = n * 2 ^ low f in let k = drops (prec f) a in units f false (keeps a k) k

-- a zero is its own root, sign and all; of a number that has no root this is 0.0, the value of a refusal
unfoldable pub root_of : Format → Float → Float
unfolding root_units
root_of f nan = zero_float
root_of f (inf s) = zero_float
root_of f (fin s zero e) = fin s zero e
root_of f (fin true (suc m) e) = zero_float
root_of f (fin false (suc m) e) = root_units f (suc m * up e * 2 ^ low f / down e)

abbrev pub refusal_of : Float → ℕ
refusal_of x = first_of (10 when rootless x ∷ [])

-- a root, or 10 and 0.0
abbrev pub Rooted : Type 0
Rooted = Told Float

abbrev pub root_answer : Float → Rooted
root_answer x = answered (refusal_of x) (record { refusal = 0; value = root_of binary64 x })
    (λ n. record { refusal = n; value = zero_float })

-- the number that the pattern stands for, times 2 ^ 2148, is m * 4 ^ half
pub record Parted (bits m half : ℕ) : Type 0 where
  pub value : m * 4 ^ half ≡ digits binary64 (bits / 2 ^ 52) (bits % 2 ^ 52) * 2 ^ (bits / 2 ^ 52 - 1) * 2 ^ 1074
  pub least : 2 ^ 52 ≤ m
  pub most : m < 2 ^ 54
  pub far : 26 ≤ half
  pub near : half ≤ 1560
