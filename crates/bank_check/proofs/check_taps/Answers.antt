-- `bank_check::check_taps` meets its contract. What is left to walk has the fault that the whole has. Assumes nothing.
use Rattle.std.specs.Prelude.{◌≡◌, ◌+◌, ◌-◌, ◌*◌, ◌<◌}
use Rattle.lists.specs.Prelude.{sym, ap, ap₂, ◌∙◌, arith}
use lib.Ieee.Scale.{finite}
use Rattle.bank_form.specs.Fault.{field, taps_fault}
use Rattle.bank_form.proofs.Walk.{taps_next, taps_end}
use Rattle.bank_form.proofs.Found.{handed_on, found_stop, found_on}
use Rattle.bank_check.proofs.check_taps.Goals as goal

pub returns-in_err-check_field : goal.returns-in_err-check_field
returns-in_err-check_field c =
    let more : 0 < c.args.n - c.loop-k.k = omega arith in
    let tap = c.widen-tap.ensures.bits ∙ c.get_f32.ensures in
    let here = c.in_err-check_field.ensures ∙ ap (field _ _ _ _) (c.is_finite.ensures ∙ ap finite tap) in
    handed_on _ _ c.from_residual.ensures.1
    ∙ (found_stop _ _ _ here ∙ sym (c.loop-k.invariant ∙ taps_next _ _ _ _ more))

pub loop-k-preserved : goal.loop-k-preserved
loop-k-preserved c =
    let k = c.loop-k.k in
    let more : 0 < c.args.n - k = omega arith in
    let there : c.args.at + 4 * k + 4 ≡ c.args.at + 4 * (k + 1) = omega arith in
    let left : c.args.n - k - 1 ≡ c.args.n - (k + 1) = omega arith in
    let tap = c.widen-tap.ensures.bits ∙ c.get_f32.ensures in
    let here = c.in_ok-check_field.ensures ∙ ap (field _ _ _ _) (c.is_finite.ensures ∙ ap finite tap) in
    c.loop-k.invariant ∙ taps_next _ _ _ _ more ∙ found_on _ _ here ∙ ap₂ (taps_fault _ _) there left

pub returns : goal.returns
returns c =
    let done : c.args.n - c.loop-k.k ≡ 0 = omega arith in
    sym (c.loop-k.invariant ∙ ap (taps_fault _ _ _) done ∙ taps_end _ _ _)
