-- `numbers::narrow_bits` meets its contract: the fields are those by which `of_bits` reads the pattern. Assumes
-- nothing.
use Rattle.std.specs.Prelude.{◌≡◌, ◌/◌, ◌%◌, ◌^◌}
use Rattle.lists.specs.Prelude.{sym, ap, ◌∙◌, ℕ, zero-add, arith, Bool, true, false, leb, le→leb, Float, binary32}
use Rattle.lists.specs.Prelude.{binary64, of_fields, of_bits, to_bits}
use lib.Arith.{lt→nleb}
use lib.Ieee.Bits.{is_true, is_false}
use Rattle.numbers.specs.Computed.{narrowed}
use Rattle.formats.proofs.Patterns.{of_bits_fields}
use Rattle.numbers.proofs.Narrowing.{no_nan_fields}
use Rattle.numbers.proofs.narrow_bits.Goals as goal

pub narrow_magnitude-n-requires : goal.narrow_magnitude-n-requires
narrow_magnitude-n-requires c =
    record { exponent = omega arith; digits = omega arith; no_nan = no_nan_fields c.args.b c.requires }

-- the pattern b, read with its sign s
signed : (b : ℕ) (s : Bool) → leb (2 ^ 63) b ≡ s
    → to_bits binary32 (narrowed (of_fields binary64 s (b % 2 ^ 63 / 2 ^ 52) (b % 2 ^ 52))) ≡ to_bits binary32
    (narrowed (of_bits binary64 b))
signed b s e =
    ap (λ (v : Float). to_bits binary32 (narrowed v))
    (sym (of_bits_fields binary64 b ∙ ap (λ (x : Bool). of_fields binary64 x (b % 2 ^ 63 / 2 ^ 52) (b % 2 ^ 52)) e))

pub returns-then-b-lt9223372036854775808 : goal.returns-then-b-lt9223372036854775808
returns-then-b-lt9223372036854775808 c =
    let b = c.before.before.args.b in
    sym (zero-add c.before.narrow_magnitude-n.result) ∙ sym (c.before.narrow_magnitude-n.ensures.fields false)
    ∙ signed b false (is_false (leb (2 ^ 63) b) (lt→nleb (2 ^ 63) b c.if-b-lt9223372036854775808.true))

pub returns-else-b-lt9223372036854775808 : goal.returns-else-b-lt9223372036854775808
returns-else-b-lt9223372036854775808 c =
    let b = c.before.before.args.b in
    sym (c.before.narrow_magnitude-n.ensures.fields true)
    ∙ signed b true (is_true (leb (2 ^ 63) b) (le→leb (2 ^ 63) b c.if-b-lt9223372036854775808.false))
