use Rattle.std.specs.Prelude.{◌≡◌, ◌^◌, ◌<◌}
use Rattle.lists.specs.Prelude.{take, drop}
use Rattle.big_endian.specs.Bytes.{value_of}
use Rattle.big_endian.proofs.get.Given as goal

abbrev pub invariant-loop-b : goal.invariant-loop-b
invariant-loop-b l =
    (l.n ≡ value_of (take l.b-index (drop l.fn.at l.fn.s))) × (l.n < 256 ^ l.b-index)
