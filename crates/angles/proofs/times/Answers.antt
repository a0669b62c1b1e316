-- `angles::times` meets its contract: the four products of halves, added column by column, make up a * b. Assumes
-- nothing.
use Rattle.std.specs.Prelude.{◌≡◌, ◌+◌, ◌-◌, ◌*◌, ◌/◌, ◌%◌, ◌^◌, ◌≤◌, ◌<◌}
use Rattle.lists.specs.Prelude.{sym, ◌∙◌, ℕ, mul-le-mul, arith, split}
use Rattle.angles.specs.Computed.{times}
use Rattle.angles.proofs.times.Goals.{Start}
use Rattle.angles.proofs.times.Goals as goal

-- the columns' sums, with the four products as unknowns
abbrev high_of : (hh hl lh ll : ℕ) → ℕ
high_of hh hl lh ll = hh + (hl + ll / 2 ^ 32) / 2 ^ 32 + (lh + (hl + ll / 2 ^ 32) % 2 ^ 32) / 2 ^ 32

abbrev result_of : (hh hl lh ll : ℕ) → ℕ
result_of hh hl lh ll = high_of hh hl lh ll * 16 + (lh + (hl + ll / 2 ^ 32) % 2 ^ 32) % 2 ^ 32 / 2 ^ 28

expanded : (h l k m : ℕ) → (h * 2 ^ 32 + l) * (k * 2 ^ 32 + m) ≡ h * k * 2 ^ 64 + h * m * 2 ^ 32 + l * k * 2 ^
    32 + l * m
expanded h l k m = omega arith

halves : (x y : ℕ) → x < 2 ^ 32 → y < 2 ^ 32 → x * y ≤ (2 ^ 32 - 1) * (2 ^ 32 - 1)
halves x y h k = mul-le-mul {n₁ = x} {m₁ = y} {n₂ = 2 ^ 32 - 1} {m₂ = 2 ^ 32 - 1} (omega arith) (omega arith)

record Parts (a b : ℕ) : Type 0 where
  is : result_of (a / 2 ^ 32 * (b / 2 ^ 32)) (a / 2 ^ 32 * (b % 2 ^ 32)) (a % 2 ^ 32 * (b / 2 ^ 32))
      (a % 2 ^ 32 * (b % 2 ^ 32)) ≡ a * b / 2 ^ 60
  hh : a / 2 ^ 32 * (b / 2 ^ 32) ≤ (2 ^ 32 - 1) * (2 ^ 32 - 1)
  hl : a / 2 ^ 32 * (b % 2 ^ 32) ≤ (2 ^ 32 - 1) * (2 ^ 32 - 1)
  lh : a % 2 ^ 32 * (b / 2 ^ 32) ≤ (2 ^ 32 - 1) * (2 ^ 32 - 1)
  ll : a % 2 ^ 32 * (b % 2 ^ 32) ≤ (2 ^ 32 - 1) * (2 ^ 32 - 1)

parts : (c : Start) → Parts c.args.a c.args.b
parts c =
    let a = c.args.a in
    let b = c.args.b in
    let h = c.ranges.a.fits in
    let k = c.ranges.b.fits in
    record {
      is =
          omega (
            arith,
            (λ i. sym (split a 32) i * sym (split b 32) i)
                ∙ expanded (a / 2 ^ 32) (a % 2 ^ 32) (b / 2 ^ 32) (b % 2 ^ 32),
          );
      hh = halves (a / 2 ^ 32) (b / 2 ^ 32) (omega arith) (omega arith);
      hl = halves (a / 2 ^ 32) (b % 2 ^ 32) (omega arith) (omega arith);
      lh = halves (a % 2 ^ 32) (b / 2 ^ 32) (omega arith) (omega arith);
      ll = halves (a % 2 ^ 32) (b % 2 ^ 32) (omega arith) (omega arith);
    }

room : (c : Start) → result_of (c.args.a / 2 ^ 32 * (c.args.b / 2 ^ 32))
    (c.args.a / 2 ^ 32 * (c.args.b % 2 ^ 32)) (c.args.a % 2 ^ 32 * (c.args.b / 2 ^ 32))
    (c.args.a % 2 ^ 32 * (c.args.b % 2 ^ 32)) < 2 ^ 64
room c = omega (arith, (parts c).is, c.requires)

pub overflow_mul-result : goal.overflow_mul-result
unfolding times
overflow_mul-result c = omega (arith, room c)

pub overflow_add-result : goal.overflow_add-result
unfolding times
overflow_add-result c = omega (arith, room c)

pub returns : goal.returns
unfolding times
returns c = (parts c).is
