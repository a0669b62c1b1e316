-- `big_endian::get_f32` meets its contract. Assumes nothing.
use Rattle.lists.specs.Prelude.{ap, binary32, of_bits}
use Rattle.big_endian.specs.Fields.{float_at}
use Rattle.formats.proofs.Patterns.{number_pattern}
use Rattle.big_endian.proofs.Patterns.{nan_read}
use Rattle.big_endian.proofs.get_f32.Goals as goal

pub returns-then-n-gt2139095040 : goal.returns-then-n-gt2139095040
unfolding float_at
returns-then-n-gt2139095040 c = nan_read binary32 _ _ c.if-n-gt2139095040.true c.before.get-n.ensures.bits

pub float_from_bits-result : goal.float_from_bits-result
unfolding float_at
float_from_bits-result c = number_pattern binary32 _ c.if-n-gt2139095040.false

pub returns : goal.returns
unfolding float_at
returns c = ap (of_bits binary32) c.before.get-n.ensures.bits
