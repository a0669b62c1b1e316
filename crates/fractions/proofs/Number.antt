-- A float as a fraction: it is a number exactly if the float is finite, its sign goes with the float's, and a float
-- that has the value of a fraction is that number (`value_same`). And how far two signed fractions are apart. Assumes
-- nothing.
use Rattle.std.specs.Prelude.{◌≡◌, ◌+◌, ◌*◌, ◌<◌}
use Rattle.lists.specs.Prelude.{refl, Bool, true, false, not, ℕ, lt_irrefl, arith, T, ltb→lt, ℤ, Float, nan, inf, fin}
use Rattle.lists.specs.Prelude.{up, down, neg}
use lib.Ieee.Fits.{down_pos}
use lib.Ieee.Exact.{HasValue}
use lib.Ieee.Positive.{positive}
use lib.Ieee.Scale.{finite}
use Rattle.fractions.specs.Fraction.{opposite, signed, number, Same, gap, apart}

-- ---- what is to hold of floats that are numbers is shown of `fin s m e`; of one above zero, and of one of the value
-- ±a / c, too
pub by_number : (P : Float → Type 0) → ((s : Bool) (m : ℕ) (e : ℤ) → P (fin s m e)) → (x : Float) → 0 < (number x).over
    → P x
by_number P f nan h = absurd (lt_irrefl 0 h)
by_number P f (inf s) h = absurd (lt_irrefl 0 h)
by_number P f (fin s m e) h = f s m e

pub by_numbers : (P : Float → Float → Type 0)
    → ((s : Bool) (m : ℕ) (e : ℤ) (t : Bool) (n : ℕ) (d : ℤ) → P (fin s m e) (fin t n d)) → (x y : Float)
    → 0 < (number x).over → 0 < (number y).over → P x y
by_numbers P f x y X Y = by_number (λ x. P x y) (λ s m e. by_number (P (fin s m e)) (f s m e) y Y) x X

pub by_positive : (P : Float → Type 0) → ((m : ℕ) (e : ℤ) → 0 < m → P (fin false m e)) → (x : Float) → T (positive x)
    → P x
by_positive P f nan t = absurd t
by_positive P f (inf s) t = absurd t
by_positive P f (fin true m e) t = absurd t
by_positive P f (fin false m e) t = f m e (ltb→lt 0 m t)

pub by_value : (P : Float → Type 0) (s : Bool) (a c : ℕ)
    → ((m : ℕ) (e : ℤ) → m * up e * c ≡ a * down e → P (fin s m e)) → (x : Float) → HasValue x s a c → P x
by_value P s a c f nan h = absurd h
by_value P s a c f (inf t) h = absurd h
by_value P s a c f (fin t m e) h = rw h.0 (f m e h.1)

-- ---- finite
pub finite_number : (x : Float) → T (finite x) → 0 < (number x).over
finite_number nan t = absurd t
finite_number (inf s) t = absurd t
finite_number (fin s m e) t = down_pos e

pub number_finite : (x : Float) → 0 < (number x).over → T (finite x)
number_finite = by_number (λ x. T (finite x)) (λ s m e. tt)

-- ---- signs
pub number_neg : (x : Float) → number (neg x) ≡ opposite (number x)
unfolding neg
number_neg nan = refl
number_neg (inf s) = refl
number_neg (fin true m e) = refl
number_neg (fin false m e) = refl

-- ---- a float of the value ±a / c
pub signed_same : (s : Bool) (a c b d : ℕ) → a * d ≡ b * c → Same (signed s a c) (signed s b d)
signed_same true a c b d e = omega arith
signed_same false a c b d e = omega arith

pub value_same : (x : Float) (s : Bool) (a c : ℕ) → HasValue x s a c → Same (number x) (signed s a c)
value_same x s a c = by_value (λ x. Same (number x) (signed s a c)) s a c
    (λ m e. signed_same s (m * up e) (down e) a c) x

pub value_finite : (x : Float) (s : Bool) (a c : ℕ) → HasValue x s a c → T (finite x)
value_finite x s a c = by_value (λ x. T (finite x)) s a c (λ m e h. tt) x

pub value_number : (x : Float) (s : Bool) (a c : ℕ) → HasValue x s a c → 0 < (number x).over
value_number x s a c h = finite_number x (value_finite x s a c h)

-- ---- how far two signed fractions are apart
pub apart_like : (s : Bool) (a c b d : ℕ) → apart (signed s a c) (signed s b d) ≡ gap (a * d) (b * c)
apart_like true a c b d = omega arith
apart_like false a c b d = omega arith

pub apart_unlike : (s : Bool) (a c b d : ℕ) → apart (signed s a c) (signed (not s) b d) ≡ a * d + b * c
apart_unlike true a c b d = omega arith
apart_unlike false a c b d = omega arith
