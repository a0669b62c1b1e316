-- `bank::check_level` meets its contract. What is left to look at has the fault that all have. Assumes nothing.
use Rattle.std.specs.Prelude.{◌≡◌, ◌+◌, ◌*◌}
use Rattle.lists.specs.Prelude.{rules, sym, ap, ◌∙◌, ℕ, arith, pos, drop, get_or}
use mir.Syntax.{w16}
use mir.Val.{to_z, of_z}
use Rattle.big_endian.proofs.Signed.{back}
use Rattle.bank_form.specs.Bank.{is_level}
use Rattle.bank_form.specs.Version.{row_size}
use Rattle.bank_form.specs.Fault.{raised_from}
use Rattle.bank_form.proofs.Pairs.{level_zero, level_other}
use Rattle.bank_form.proofs.Walk.{unless_passes, unless_fails}
use Rattle.bank_form.proofs.Conversions.{raised_next, raised_end}
use Rattle.bank.proofs.check_level.Goals as goal

pub returns-then-elevation-ne0 : goal.returns-then-elevation-ne0
returns-then-elevation-ne0 c =
    let level = level_other (get_or c.args.elevations.now c.loop-i.i (pos 0))
    (λ e. c.if-elevation-ne0.true (ap (of_z w16) e)) in
    sym (c.loop-i.invariant ∙ raised_next _ _ _ _ c.loop-i-test.true ∙ unless_fails _ 21 _ _ (omega arith) level)

pub loop-i-preserved : goal.loop-i-preserved
loop-i-preserved c =
    let args = c.args in
    let i = c.loop-i.i in
    let row : c.row_size-row.result ≡ row_size 2 args.l = omega (arith, c.row_size-row.ensures) in
    let there : 9 + i * c.row_size-row.result + row_size 2 args.l ≡ 9 + (i + 1) * c.row_size-row.result =
    omega (arith, row) in
    let zero : get_or args.elevations.now i (pos 0) ≡ pos 0 =
    sym (back w16 (get_or args.elevations.now i (pos 0)) (search rules))
    ∙ ap (to_z w16) c.if-elevation-ne0.false in
    c.loop-i.invariant ∙ raised_next _ _ i _ c.loop-i-test.true
    ∙ unless_passes _ 21 _ _ (ap is_level zero ∙ level_zero)
    ∙ ap (λ (at : ℕ). raised_from args.l at (drop (i + 1) args.elevations.now)) there

pub returns : goal.returns
returns c = sym (c.loop-i.invariant ∙ raised_end _ _ c.loop-i.i _ (omega (arith, c.loop-i-test.false)))
