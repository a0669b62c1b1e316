-- `numbers::narrow_magnitude` meets its contract: each arm is a case of `Narrowing`. Assumes nothing.
use Rattle.std.specs.Prelude.{◌≡◌, ◌+◌, ◌-◌, ◌*◌, ◌^◌, ◌≤◌}
use Rattle.lists.specs.Prelude.{sym, ap, ◌∙◌, ℕ, min, le_trans, le_of_eq, min-eq_left, min-eq_right, arith, Bool, true}
use Rattle.lists.specs.Prelude.{cond, binary32, binary64, of_fields, to_bits}
use Rattle.numbers.specs.Computed.{narrowed}
use Rattle.numbers.proofs.Narrowing.{tiny, subnormal, normal, subnormal_digits}
use Rattle.numbers.proofs.narrow_magnitude.Goals.{After-nearest_shift, After-nearest_shift-else-e-lt897}
use Rattle.numbers.proofs.narrow_magnitude.Goals as goal

-- what the shifts leave
shifted : (c : After-nearest_shift) → c.nearest_shift.result ≤ 2 ^ 24
shifted c =
    let a = c.before.before.before in
    le_trans (le_of_eq c.nearest_shift.ensures)
    (subnormal_digits true a.args.e a.args.d a.requires.digits c.before.if-e-lt897.true)

pub returns-then-e-lt873 : goal.returns-then-e-lt873
returns-then-e-lt873 c =
    record {
      fields = (λ s. tiny s c.before.args.e c.before.args.d c.before.requires.digits c.if-e-lt873.true);
      small =
          omega arith;
    }

pub returns-then-e-lt897 : goal.returns-then-e-lt897
returns-then-e-lt897 c =
    let at_if1 = c.before.before in
    let a = at_if1.before in record {
      fields = (λ s.
          subnormal s a.args.e a.args.d a.requires.digits at_if1.if-e-lt873.false c.before.if-e-lt897.true
          ∙ ap (λ (x : ℕ). cond s (2 ^ 31) 0 + x) (sym c.nearest_shift.ensures));
      small = omega (arith, shifted c);
    }

-- the pattern, cut at the infinity's
cut : (c : After-nearest_shift-else-e-lt897) (s : Bool)
    → to_bits binary32
    (narrowed (of_fields binary64 s c.before.before.before.args.e c.before.before.before.args.d))
    ≡ cond s (2 ^ 31) 0 + min ((c.before.before.before.args.e - 897) * 2 ^ 23 + c.nearest_shift-else-e-lt897.result)
    (255 * 2 ^ 23)
cut c s =
    let a = c.before.before.before in
    normal s a.args.e a.args.d a.requires.digits c.before.if-e-lt897.false a.requires.exponent a.requires.no_nan
    ∙ ap (λ (x : ℕ). cond s (2 ^ 31) 0 + min ((a.args.e - 897) * 2 ^ 23 + x) (255 * 2 ^ 23))
    (sym c.nearest_shift-else-e-lt897.ensures)

pub returns-then-n-lt2139095040 : goal.returns-then-n-lt2139095040
returns-then-n-lt2139095040 c =
    record {
      fields = (λ s. cut c.before s ∙ ap (λ (x : ℕ). cond s (2 ^ 31) 0 + x) (min-eq_left (omega arith)));
      small =
          omega arith;
    }

pub returns-else-n-lt2139095040 : goal.returns-else-n-lt2139095040
returns-else-n-lt2139095040 c =
    record {
      fields = (λ s. cut c.before s
          ∙ ap (λ (x : ℕ). cond s (2 ^ 31) 0 + x) (min-eq_right c.if-n-lt2139095040.false));
      small = omega arith;
    }

pub overflow_cast-result : goal.overflow_cast-result
overflow_cast-result c = omega (arith, shifted c)
