-- A ring read from the newest to the oldest, where p is the cell that is written next: from p - 1 back to the start,
-- then from the end back to p. Definitions only.
use Rattle.std.specs.Prelude.{◌++◌}
use Rattle.lists.specs.Prelude.{ℕ, List, reverse, take, drop, Float}

abbrev pub unrolled : ℕ → List Float → List Float
unrolled p ring = reverse (take p ring) ++ reverse (drop p ring)
