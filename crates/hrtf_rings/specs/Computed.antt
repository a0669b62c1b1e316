-- What the program does, as a function of the rings and the desk that it is given. Definitions only. Nobody has to
-- believe them: `played_held`, `left_is` and `counted_is` (proofs/Blocks.antt) tie them to the words of specs/Held.antt
-- in every state.
use Rattle.std.specs.Prelude.{◌||◌, ◌∷◌}
use Rattle.lists.specs.Prelude.{ℕ, suc, Bool, List, [], ltb, get_or, Float}
use Rattle.formats.specs.Floats.{zero_float}
use Rattle.lists.specs.Tables.{chunk, count}
use Rattle.planes.specs.Planes.{with_frame}
use Rattle.planes.specs.Sums.{dot}
use Rattle.hrtf_desk.specs.Numbers.{stepped_of}
use Rattle.hrtf_history.specs.Setup.{Setup, taps_in}
use Rattle.hrtf_history.specs.Signals.{signals, damaged}
use Rattle.hrtf_history.specs.History.{ear_of}
use Rattle.hrtf_rings.specs.Unrolled.{unrolled}
use Rattle.hrtf_rings.specs.State.{State}

-- ---- one frame

-- its signals are put at the position, one in each ring
abbrev pub stored : Setup → State → List Float → List Float
stored u t f = with_frame t.rings u.L t.desk.position (signals u f)

-- an ear's part of speaker s with the taps of row j, where p is the cell that is written next
abbrev pub part_by : ℕ → ℕ → ℕ → ℕ → ℕ → List Float → List Float → Float
part_by L p s j ear taps rings = dot zero_float (unrolled p (chunk L s rings)) (taps_in L j ear taps)

-- the row being the speaker's
abbrev pub part_of : Setup → ℕ → ℕ → List Float → ℕ → Float
part_of u ear p rings s = part_by u.L p s (get_or u.rows s 0) ear u.taps rings

abbrev pub ring_ear : Setup → ℕ → ℕ → List Float → Float
ring_ear u ear p rings = ear_of u.speakers (part_of u ear p rings)

abbrev pub ears_by_rings : Setup → State → List Float → List Float
ears_by_rings u t f =
    ring_ear u 0 (suc t.desk.position) (stored u t f) ∷ ring_ear u 1 (suc t.desk.position) (stored u t f) ∷ []

abbrev pub is_unsettled_by_desk : Setup → State → List Float → Bool
is_unsettled_by_desk u t f = damaged u f || ltb 0 t.desk.to_go

abbrev pub stepped : Setup → State → List Float → State
stepped u t f = record { rings = stored u t f; desk = stepped_of u.L (damaged u f) t.desk }

-- ---- frames in the order of time

abbrev pub state_left : Setup → State → List (List Float) → State
state_left u t [] = t
state_left u t (f ∷ fs) = state_left u (stepped u t f) fs

abbrev pub played_by_rings : Setup → State → List (List Float) → List (List Float)
played_by_rings u t [] = []
played_by_rings u t (f ∷ fs) = ears_by_rings u t f ∷ played_by_rings u (stepped u t f) fs

abbrev pub unsettled_by_desk : Setup → State → List (List Float) → List Bool
unsettled_by_desk u t [] = []
unsettled_by_desk u t (f ∷ fs) = is_unsettled_by_desk u t f ∷ unsettled_by_desk u (stepped u t f) fs

abbrev pub unsettled_count_by_desk : Setup → State → List (List Float) → ℕ
unsettled_count_by_desk u t fs = count (unsettled_by_desk u t fs)
