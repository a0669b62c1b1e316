-- Counts that cannot pass 64 bits: at the largest number a count stays. Definitions only.
use Rattle.std.specs.Prelude.{◌+◌, ◌-◌, ◌^◌}
use Rattle.lists.specs.Prelude.{ℕ, min}

abbrev pub counted_on : ℕ → ℕ → ℕ
counted_on count more = min (count + more) (2 ^ 64 - 1)
