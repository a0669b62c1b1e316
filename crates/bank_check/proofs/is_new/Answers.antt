-- `bank_check::is_new` meets its contract. The rows still to be looked at decide what all of them do. Assumes nothing.
use Rattle.std.specs.Prelude.{◌≡◌, ◌+◌, ◌-◌, ◌*◌, ◌<◌}
use Rattle.lists.specs.Prelude.{sym, ap, ap₂, ◌∙◌, ℕ, arith, ℤ, not-true, not-false}
use mir.Syntax.{w16}
use mir.Val.{SFits, to_z, of_z}
use mir.Facts.{to_z-of_z}
use Rattle.bank_form.specs.Bank.{Pair}
use Rattle.bank_form.specs.Version.{row_size}
use Rattle.bank_form.specs.Fault.{is_new}
use Rattle.bank_form.proofs.Walk.{new_met, new_next, new_end}
use Rattle.bank_check.proofs.is_new.Goals as goal

-- the pair that is looked for
abbrev wanted : ℕ → ℕ → Pair
wanted z e = record { azimuth = to_z w16 z; elevation = to_z w16 e }

-- what stands in the arguments is what came in
kept : (z e : ℤ) → SFits w16 z → SFits w16 e → wanted (of_z w16 z) (of_z w16 e) ≡ record { azimuth = z; elevation = e }
kept z e f g = λ i. record { azimuth = to_z-of_z f i; elevation = to_z-of_z g i }

pub returns-then-is_pair : goal.returns-then-is_pair
returns-then-is_pair c =
    let same = kept _ _ c.ranges.azimuth c.ranges.elevation in
    let more : 0 < c.args.i - c.loop-k.k = omega arith in
    let met = not-true _ (sym c.is_pair.ensures ∙ c.if-is_pair.true) in
    sym (rw same at (c.loop-k.invariant ∙ new_met _ _ _ _ _ _ more met))

pub loop-k-preserved : goal.loop-k-preserved
loop-k-preserved c =
    let args = c.args in
    let k = c.loop-k.k in
    let row : c.row_size-row.result ≡ row_size args.version args.l = omega (arith, c.row_size-row.ensures) in
    let more : 0 < args.i - k = omega arith in
    let there : 9 + k * c.row_size-row.result + row_size args.version args.l ≡ 9 + (k + 1) * c.row_size-row.result =
    omega (arith, row) in
    let left : args.i - k - 1 ≡ args.i - (k + 1) = omega arith in
    let other = not-false _ (sym c.is_pair.ensures ∙ c.if-is_pair.false) in
    c.loop-k.invariant ∙ new_next _ _ _ _ _ _ more other ∙ ap₂ (is_new _ _ _ _) there left

pub returns : goal.returns
returns c =
    let same = kept _ _ c.ranges.azimuth c.ranges.elevation in
    let done : c.args.i - c.loop-k.k ≡ 0 = omega arith in
    sym (rw same at (c.loop-k.invariant ∙ ap (is_new _ _ _ _ _) done ∙ new_end _ _ _ _ _))
