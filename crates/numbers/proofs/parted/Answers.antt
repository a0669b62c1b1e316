-- `numbers::parted` meets its contract: with or without a leading digit the pattern's number is m * 2 ^ e (`Aligned`),
-- and so m * 4 ^ half. Assumes nothing.
use Rattle.std.specs.Prelude.{◌+◌, ◌-◌, ◌<◌, ◌^◌, ◌%◌, ◌≡◌}
use Rattle.lists.specs.Prelude.{ℕ, suc, arith, refl}
use lib.Bits.{bit_and, and_mask, mask_lt}
use lib.Count.{count_leading_zeros}
use Rattle.numbers.proofs.Turns.{Aligned, leading_bounds, aligned_normal, aligned_low, parted_of}
use Rattle.numbers.proofs.parted.Goals.{Joined-field-eq0, Then-field-eq0, else-field-eq0, then-field-eq0}
use Rattle.numbers.proofs.parted.Goals as goal

-- where there is no leading digit, the count of zeros above the digits is from 12 to 63
zeros : (c : Then-field-eq0) → (j : ℕ) × (count_leading_zeros 64 (bit_and c.before.args.bits (2 ^ 52 - 1)) + suc j ≡ 64)
    × (j < 52)
zeros c =
    let b = c.before.args.bits in
    let t : bit_and b (2 ^ 52 - 1) ≡ b % 2 ^ 52 = and_mask b 52 in
    let l = leading_bounds (bit_and b (2 ^ 52 - 1)) (omega arith) (mask_lt b 52) in
    (l.0, l.1, l.4)

aligned : (c : Joined-field-eq0) → Aligned c.before.args.bits c.if-field-eq0.digits c.if-field-eq0.e
aligned c =
    let b = c.before.args.bits in
    let t = bit_and b (2 ^ 52 - 1) in
    elim c.if-field-eq0.branch [
      | then-field-eq0 w ↦ rw (w.digits-is, w.e-is)
          (aligned_low b t (count_leading_zeros 64 t) c.before.requires.positive w.if-field-eq0.true
          (and_mask b 52) refl)
      | else-field-eq0 w ↦ rw (w.digits-is, w.e-is)
          (aligned_normal b t c.before.requires.finite w.if-field-eq0.false (and_mask b 52))
    ]

pub returns : goal.returns
returns c =
    let at_if1 = c.before.before in
    let start = at_if1.before in
    parted_of start.args.bits at_if1.if-field-eq0.digits at_if1.if-field-eq0.e (aligned at_if1)

pub overflow_sub-digits : goal.overflow_sub-digits
overflow_sub-digits c = omega (arith, (zeros c).1, (zeros c).2)
