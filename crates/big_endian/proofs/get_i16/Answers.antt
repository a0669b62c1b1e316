-- `big_endian::get_i16` meets its contract. Assumes nothing.
use Rattle.lists.specs.Prelude.{ap, ◌∙◌, arith}
use mir.Syntax.{w16}
use mir.Val.{to_z}
use mir.Facts.{to_z-of_z, sfits_to_z}
use Rattle.big_endian.specs.Fields.{signed_at}
use Rattle.big_endian.proofs.Signed.{high_bits}
use Rattle.big_endian.proofs.get_i16.Goals as goal

pub returns-then-n-lt32768 : goal.returns-then-n-lt32768
unfolding signed_at
returns-then-n-lt32768 c = ap (to_z w16) c.before.get-n.ensures.bits

pub overflow_sub-result : goal.overflow_sub-result
overflow_sub-result c = let low = c.before.get-n.ensures.bound in
    rw (high_bits w16 c.before.get-n.result c.if-n-lt32768.false (omega arith))
    (sfits_to_z {w = w16} (record { fits = low }))

pub returns : goal.returns
unfolding signed_at
returns c =
    let low = c.before.get-n.ensures.bound in
    to_z-of_z (overflow_sub-result c) ∙ high_bits w16 c.before.get-n.result c.if-n-lt32768.false (omega arith)
    ∙ ap (to_z w16) c.before.get-n.ensures.bits
