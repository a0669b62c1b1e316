use Rattle.std.specs.Prelude.{◌≡◌}
use Rattle.lists.specs.Prelude.{take}
use Rattle.lists.specs.Placed.{placed}
use Rattle.big_endian.specs.Lists.{float_bytes}
use Rattle.bank.proofs.rows.put_taps.Given as goal

abbrev pub invariant-loop-k : goal.invariant-loop-k
invariant-loop-k l = l.file ≡ placed l.initial.file l.at (float_bytes (take l.k l.taps))
