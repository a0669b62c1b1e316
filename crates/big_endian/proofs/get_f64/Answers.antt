-- `big_endian::get_f64` meets its contract. Assumes nothing.
use Rattle.lists.specs.Prelude.{ap, binary64, of_bits}
use Rattle.big_endian.specs.Fields.{double_at}
use Rattle.formats.proofs.Patterns.{number_pattern}
use Rattle.big_endian.proofs.Patterns.{nan_read}
use Rattle.big_endian.proofs.get_f64.Goals as goal

pub returns-then-n-gt9218868437227405312 : goal.returns-then-n-gt9218868437227405312
unfolding double_at
returns-then-n-gt9218868437227405312 c =
    nan_read binary64 _ _ c.if-n-gt9218868437227405312.true c.before.get-n.ensures.bits

pub float_from_bits-result : goal.float_from_bits-result
unfolding double_at
float_from_bits-result c = number_pattern binary64 _ c.if-n-gt9218868437227405312.false

pub returns : goal.returns
unfolding double_at
returns c = ap (of_bits binary64) c.before.get-n.ensures.bits
