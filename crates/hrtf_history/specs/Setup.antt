-- What stays the same from frame to frame: how many channels and speakers there are, the filters' length L, the weights
-- (speakers x channels), the bank's taps (2 x bank rows x L: for each row L left taps and then L right taps), and the
-- row of each speaker. Definitions only.
use Rattle.std.specs.Prelude.{◌+◌, ◌*◌, ◌<◌, ◌≡◌}
use Rattle.lists.specs.Prelude.{ℕ, List, get_or, Float}
use Rattle.lists.specs.Tables.{chunk}

pub record Setup : Type 0 where
  pub channels : ℕ
  pub speakers : ℕ
  pub L : ℕ
  pub weights : List Float
  pub taps : List Float
  pub rows : List ℕ

-- speaker s's weights, one for each channel
abbrev pub weights_of : Setup → ℕ → List Float
weights_of u s = chunk u.channels s u.weights

-- an ear's L taps in row j of a bank: ear 0 is the left one, 1 the right one
abbrev pub taps_in : ℕ → ℕ → ℕ → List Float → List Float
taps_in L j ear taps = chunk L (j * 2 + ear) taps

-- "each speaker's taps are read from their place inside the lent bank"
abbrev pub taps_of : Setup → ℕ → ℕ → List Float
taps_of u ear s = taps_in u.L (get_or u.rows s 0) ear u.taps

-- the same counts, L and weights, and the same filters for every speaker: where in a bank they stand does not matter,
-- nor what else is in it
pub record SameFilters (u v : Setup) : Type 0 where
  pub channels : u.channels ≡ v.channels
  pub speakers : u.speakers ≡ v.speakers
  pub L : u.L ≡ v.L
  pub weights : u.weights ≡ v.weights
  pub filters : (ear s : ℕ) → ear < 2 → s < u.speakers → taps_of u ear s ≡ taps_of v ear s
