-- What playing a call asks, which the functions under `hrtf::process` go by. Definitions only; nobody has to believe
-- them.
use Rattle.std.specs.Prelude.{◌*◌, ◌≤◌, ◌<◌, ◌≡◌}
use Rattle.lists.specs.Prelude.{ℕ, List, length, get_or, Float}
use Rattle.hrtf_checks.specs.declared.ConvolverShape.{ConvolverShape}

-- what a call that is accepted has made sure of: speakers, rows, taps, rings and position
pub record Ready (h : ConvolverShape) (position : ℕ) (rows : List ℕ) (taps rings : List Float) : Type 0 where
  pub few : h.speakers ≤ 8
  pub chosen : (s : ℕ) → s < h.speakers → get_or rows s 0 < h.rows
  pub tapped : length taps ≡ 2 * h.rows * h.length
  pub ringed : length rings ≡ h.speakers * h.length
  pub within : position < h.length
