-- Whole numbers with a sign, as differences of natural numbers, plus less minus, in no normal form: the numerators in
-- this crate's proofs, which no law that another crate cites speaks of. What they are good for: the laws of sums and
-- products hold part by part, as equations of natural numbers, so that `rw` and `omega arith` serve, where fractions
-- are only `Same`. Assumes nothing.
use Rattle.std.specs.Prelude.{◌≡◌, ◌+◌, ◌*◌, ◌≤◌}
use Rattle.lists.specs.Prelude.{ap, ℕ, mul-le-mul_left, arith}
use Rattle.fractions.specs.Fraction.{gap}
use Rattle.fractions.proofs.Close.{product_most}

pub record Whole : Type 0 where
  pub plus : ℕ
  pub minus : ℕ

abbrev pub nought : Whole
nought = record { plus = 0; minus = 0 }

abbrev pub more : ℕ → Whole
more k = record { plus = k; minus = 0 }

abbrev pub less : ℕ → Whole
less k = record { plus = 0; minus = k }

infixl 70 ◌⊞◌ ◌⊟◌
infixl 75 ◌⊠◌ ◌·◌
abbrev pub ◌⊞◌ : Whole → Whole → Whole
a ⊞ b = record { plus = a.plus + b.plus; minus = a.minus + b.minus }

abbrev pub ◌⊟◌ : Whole → Whole → Whole
a ⊟ b = record { plus = a.plus + b.minus; minus = a.minus + b.plus }

abbrev pub ◌⊠◌ : Whole → Whole → Whole
a ⊠ b = record { plus = a.plus * b.plus + a.minus * b.minus; minus = a.plus * b.minus + a.minus * b.plus }

abbrev pub ◌·◌ : ℕ → Whole → Whole
k · a = record { plus = k * a.plus; minus = k * a.minus }

-- |a|, kept shut: its differences would split omega's cases
unfoldable pub size : Whole → ℕ
size a = gap a.plus a.minus

-- |a| ≤ e; `Bounded (a ⊟ b) e` says that a and b are e apart at most
pub record Bounded (a : Whole) (e : ℕ) : Type 0 where
  pub up : a.plus ≤ a.minus + e
  pub down : a.minus ≤ a.plus + e

-- the same number, as another difference
pub record Equal (a b : Whole) : Type 0 where
  pub equal : a.plus + b.minus ≡ b.plus + a.minus

-- two differences are one value where their parts are equal
pub by_parts : {a b : Whole} → a.plus ≡ b.plus → a.minus ≡ b.minus → a ≡ b
by_parts e f = λ i. record { plus = e i; minus = f i }

pub times_scale : (k : ℕ) (a b : Whole) → a ⊠ (k · b) ≡ k · (a ⊠ b)
times_scale k a b = by_parts (omega arith) (omega arith)

-- ---- sizes

pub bounded_size : (a : Whole) → Bounded a (size a)
unfolding size
bounded_size a = omega arith

pub bounded_scale : (k : ℕ) (a : Whole) (e : ℕ) → Bounded a e → Bounded (k · a) (k * e)
bounded_scale k a e h = omega (arith, mul-le-mul_left k h.up, mul-le-mul_left k h.down)

pub bounded_equal : (a b : Whole) (e : ℕ) → Equal a b → Bounded b e → Bounded a e
bounded_equal a b e q h = omega arith

pub bounded_times : (a b : Whole) (e f : ℕ) → Bounded a e → Bounded b f → Bounded (a ⊠ b) (e * f)
bounded_times a b e f h k = record {
  up = product_most a.plus a.minus b.plus b.minus e f h.up h.down k.up k.down;
  down = product_most a.plus a.minus b.minus b.plus e f h.up h.down k.down k.up;
}

-- ---- differences

pub equal_scale : (k : ℕ) (a b : Whole) → Equal a b → Equal (k · a) (k · b)
equal_scale k a b q = omega (arith, ap (λ (t : ℕ). k * t) q.equal)

-- x f - y g is (x - y) f + y (f - g)
pub difference_times : (x y f g : Whole) → Equal (x ⊠ f ⊟ y ⊠ g) ((x ⊟ y) ⊠ f ⊞ y ⊠ (f ⊟ g))
difference_times x y f g = omega arith

pub difference_common : (z a b c : Whole) → Equal (a ⊟ b) c → Equal (z ⊞ a ⊟ (z ⊞ b)) c
difference_common z a b c q = omega arith
