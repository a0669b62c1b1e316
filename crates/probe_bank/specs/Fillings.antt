-- What lists and buffers hold before a call, and what is counted after it (docs/PROBE.md, 'Operations'). Definitions
-- only.
use Rattle.std.specs.Prelude.{◌+◌, ◌-◌, ◌*◌, ◌%◌}
use Rattle.lists.specs.Prelude.{ℕ, Bool, List, Float, nan, binary32, of_int, ne, ℤ, pos, length, get_or}
use Rattle.lists.specs.Tables.{tab, count}

-- "Before the call the lists that a bank is read into are filled, entry i of the azimuths, of the elevations and of the
-- taps with 1000 + i, and what a file is written or turned into, byte i with the last byte of 7 i + 3"
abbrev pub angle_filling : ℕ → ℤ
angle_filling i = pos (1000 + i)

unfoldable pub tap_filling : ℕ → Float
tap_filling i = of_int binary32 (pos (1000 + i))

abbrev pub byte_filling : ℕ → ℕ
byte_filling i = (7 * i + 3) % 256

-- n places, each filled with what its index says
abbrev pub filled_with : {A : Type 0} → (ℕ → A) → ℕ → List A
filled_with f n = tab 0 n f

-- whether place i no longer holds what it was filled with
unfoldable pub changed_at : ℕ → Float → Bool
changed_at i x = ne x (tap_filling i)

-- "how many taps from s on have changed"
abbrev pub count_changed : ℕ → List Float → ℕ
count_changed s taps = count (tab s (length taps - s) (λ i. changed_at i (get_or taps i nan)))
