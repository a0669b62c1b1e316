-- `bank::rows::put_taps` meets its contract. The taps put so far stand in the file from `at` on. Assumes nothing.
use Rattle.lists.specs.Prelude.{arith, nan, binary32, to_bits}
use Rattle.big_endian.specs.Fields.{with_float}
use Rattle.big_endian.proofs.Lists.{write_none, write_more}
use Rattle.bank.proofs.rows.put_taps.Goals as goal

pub loop-k-init : goal.loop-k-init
loop-k-init c = write_none 4 (to_bits binary32) c.args.file.now c.args.at c.args.taps.now

pub loop-k-preserved : goal.loop-k-preserved
unfolding with_float
loop-k-preserved c =
    write_more 4 (to_bits binary32) c.args.file.now c.args.at c.args.taps.now c.loop-k.file _ nan c.loop-k.k
    (omega arith) c.loop-k.invariant c.loop-k-test.true (omega arith) c.put_f32.ensures
