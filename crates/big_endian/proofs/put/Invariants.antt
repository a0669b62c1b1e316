use Rattle.std.specs.Prelude.{◌≡◌, ◌+◌, ◌-◌, ◌/◌, ◌^◌, ◌≤◌}
use Rattle.lists.specs.Prelude.{length}
use Rattle.big_endian.proofs.Fields.{put_from}
use Rattle.big_endian.proofs.put.Given as goal

abbrev pub invariant-loop-k : goal.invariant-loop-k
invariant-loop-k l = (l.k ≤ l.count) × (l.count ≤ 8) × (l.at + l.count ≤ length l.initial.out)
    × (l.rest ≡ l.n / 256 ^ (l.count - l.k)) × (l.out ≡ put_from l.initial.out l.at l.count l.n l.k)
