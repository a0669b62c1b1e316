-- Document 01, item 10: "writes each frame's left then right, big-endian". Definitions only. The one NaN is written
-- 7FC00000.
use Rattle.lists.specs.Prelude.{ℕ, List, flat_map, Float}
use Rattle.big_endian.specs.Lists.{float_bytes}

-- frames one after another: of two samples, left and right
unfoldable pub ear_bytes : List (List Float) → List ℕ
ear_bytes fs = flat_map float_bytes fs
