-- `bank_check::is_pair` meets its contract. Assumes nothing.
use Rattle.lists.specs.Prelude.{sym, ap, ◌∙◌, not}
use mir.Syntax.{w16}
use mir.Val.{to_z, of_z}
use mir.Facts.{to_z-of_z}
use Rattle.big_endian.proofs.Signed.{back}
use Rattle.bank_form.proofs.Pairs.{differ_same, differ_azimuth, differ_elevation}
use Rattle.bank_check.proofs.is_pair.Goals as goal

pub returns-then-get_i16-azimuth : goal.returns-then-get_i16-azimuth
returns-then-get_i16-azimuth c =
    let call = c.before.get_i16 in
    sym (ap not (differ_azimuth _ _ (λ e. c.if-get_i16-azimuth.true (ap (of_z w16) (call.ensures ∙ e)))))

pub returns-then-elevation_at-elevation : goal.returns-then-elevation_at-elevation
returns-then-elevation_at-elevation c =
    let call = c.before.elevation_at in
    sym (ap not (differ_elevation _ _ (λ e. c.if-elevation_at-elevation.true (ap (of_z w16) (call.ensures ∙ e)))))

pub returns : goal.returns
returns c =
    let first = c.before.before in
    let start = first.before.before.before in
    let read = first.before.get_i16 in
    let call = c.before.elevation_at in
    let azimuth = sym read.ensures ∙ sym (back w16 read.result read.type_inv)
    ∙ ap (to_z w16) first.if-get_i16-azimuth.false
    ∙ to_z-of_z start.ranges.azimuth in
    let elevation = sym call.ensures ∙ sym (back w16 call.result call.type_inv)
    ∙ ap (to_z w16) c.if-elevation_at-elevation.false
    ∙ to_z-of_z start.ranges.elevation in
    sym (ap not (differ_same _ _ azimuth elevation))
