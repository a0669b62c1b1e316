-- `big_endian::put_i16` meets its contract. Assumes nothing.
use Rattle.std.specs.Prelude.{◌-◌}
use Rattle.lists.specs.Prelude.{ap, ◌∙◌, ℤ, nat_abs}
use mir.Syntax.{w16}
use Rattle.big_endian.specs.Fields.{with_signed, with_field}
use Rattle.big_endian.proofs.Signed.{below_whole, below_bits, above_part, above_bits}
use Rattle.big_endian.proofs.put_i16.Goals as goal

pub returns-then-z-lt0 : goal.returns-then-z-lt0
unfolding with_signed
returns-then-z-lt0 c =
    let at_put = c.before.before in
    let at_if1 = at_put.before.before in
    let at_fits = at_if1.before.before in
    let below = at_if1.if-z-lt0.true in
    let fit = at_fits.ranges.z in
    at_put.put.ensures ∙ ap (with_field _ _ _)
    (ap (λ (y : ℤ). 65535 - nat_abs y) (below_whole w16 _ fit below) ∙ below_bits w16 _ fit below)

pub returns : goal.returns
unfolding with_signed
returns c =
    let at_put2 = c.before.before in
    let at_if1 = at_put2.before.before in
    let at_fits = at_if1.before.before in
    let above = at_if1.if-z-lt0.false in
    let fit = at_fits.ranges.z in
    at_put2.put-2.ensures ∙ ap (with_field _ _ _) (ap nat_abs (above_part w16 _ fit above) ∙ above_bits w16 _ fit above)
