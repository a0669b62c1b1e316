-- `numbers::narrow` meets its contract: the bits of x are read back as x, and the result's as `narrowed x`, which is no
-- NaN unless x is. Assumes nothing.
use Rattle.std.specs.Prelude.{◌≡◌}
use Rattle.lists.specs.Prelude.{refl, sym, subst, ap, ◌∙◌, ℕ, true, not, T, Float, nan, inf, fin, binary32}
use Rattle.lists.specs.Prelude.{binary64, fits, is_nan, div, of_bits, to_bits}
use lib.Ieee.Bits.{of_bits-to_bits}
use denote.Floats.{passes}
use Rattle.numbers.specs.Computed.{rounded, narrowed}
use Rattle.numbers.specs.Promise.{NarrowPromise}
use Rattle.formats.proofs.Patterns.{pattern_no_nan}
use Rattle.numbers.proofs.Narrows.{rounded_narrows}
use Rattle.numbers.proofs.Narrowing.{rounded_no_nan, rounded_fits}
use Rattle.numbers.proofs.narrow.Goals.{After-narrow_bits, Else-is_nan, Start}
use Rattle.numbers.proofs.narrow.Goals as goal

-- what owning an `f64` tells: the format holds it
held : (c : Start) → T (fits binary64 c.args.x)
held c = passes (fits binary64 c.args.x) c.well_formed.0.1

the_nan : (x : Float) → is_nan x ≡ true → x ≡ nan
unfolding is_nan
the_nan nan e = refl
the_nan (inf s) e = cc
the_nan (fin s m k) e = cc

number : (c : Else-is_nan) → T (not (is_nan c.args.x))
number c = subst T (sym (ap not (sym c.is_nan.ensures.value ∙ c.if-is_nan.false))) tt

-- the pattern that the call returns
pattern : (c : After-narrow_bits) → c.narrow_bits.result ≡ to_bits binary32 (narrowed c.args.x)
pattern c = c.narrow_bits.ensures ∙ ap (λ (v : Float). to_bits binary32 (narrowed v))
    (of_bits-to_bits binary64 c.args.x (passes (fits binary64 c.args.x) c.well_formed.0.1))

pub float_from_bits-result : goal.float_from_bits-result
float_from_bits-result c =
    let x = c.args.x in
    rw (pattern c) (pattern_no_nan binary32 (narrowed x) (rounded_fits binary32 x)
    (rounded_no_nan binary32 x (number c.before)))

-- the law goes with the value
promised : (x r : Float) → r ≡ narrowed x → NarrowPromise x r
promised x r e =
    record { bits = e; words = rw e (rounded_narrows binary32 x) }

pub returns-then-is_nan : goal.returns-then-is_nan
unfolding div of_bits rounded
returns-then-is_nan c = promised c.args.x nan
    (sym (ap narrowed (the_nan c.args.x (sym c.is_nan.ensures.value ∙ c.if-is_nan.true))))

pub returns-else-is_nan : goal.returns-else-is_nan
returns-else-is_nan c =
    let x = c.args.x in
    promised x (of_bits binary32 c.narrow_bits.result)
    (ap (λ (b : ℕ). of_bits binary32 b) (pattern c)
    ∙ of_bits-to_bits binary32 (narrowed x) (rounded_fits binary32 x))

pub float_to_bits-x : goal.float_to_bits-x
float_to_bits-x c = number c

pub narrow_bits-requires : goal.narrow_bits-requires
narrow_bits-requires c = pattern_no_nan binary64 c.args.x (passes (fits binary64 c.args.x) c.well_formed.0.1) (number c)
