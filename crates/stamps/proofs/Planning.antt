-- The loop of `plan`: the counts so far and those of what is left are the counts of the whole, and no count so far
-- passes the room or the frames gone through. Assumes nothing.
use Rattle.std.specs.Prelude.{◌≡◌, ◌+◌, ◌≤◌}
use Rattle.lists.specs.Prelude.{List, ℕ, length, drop}
use Rattle.stamps.specs.declared.Planned.{Planned}
use Rattle.stamps.specs.Arrivals.{Expected, expected_after}
use Rattle.stamps.specs.Counts.{out_in, late_in, silent_in, resets_in}

-- ---- the frames before i are counted

pub record Planning (x : Expected) (ss : List ℕ) (room : ℕ) (p : Planned) (i : ℕ) : Type 0 where
  pub below : i ≤ length ss
  pub out : p.out + out_in p.expected (drop i ss) ≡ out_in x ss
  pub late : p.late + late_in p.expected (drop i ss) ≡ late_in x ss
  pub silent : p.silent + silent_in p.expected (drop i ss) ≡ silent_in x ss
  pub resets : p.resets + resets_in p.expected (drop i ss) ≡ resets_in x ss
  pub expected : expected_after p.expected (drop i ss) ≡ expected_after x ss
  pub within : p.out ≤ room
  pub balance : p.out + p.late ≡ i + p.silent
  pub less : p.silent ≤ p.out
  pub few : p.resets ≤ i
