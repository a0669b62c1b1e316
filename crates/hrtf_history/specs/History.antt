-- Document 01, 'Sums': "An ear's part of a speaker is the f64 sum from 0.0, k from 0 to L-1, of signal k frames ago
-- times tap k; parts are added from 0.0, speakers rising; the result times 1.0/root(speakers), narrowed, is the ear
-- sample"; and, of the unsettled count, "equal to a definition over the last L frames of history". Definitions only. A
-- past is the list of the signals of the frames so far, one for each speaker, the newest frame first. Before the first
-- there was silence: every signal 0.0.
use Rattle.std.specs.Prelude.{◌+◌, ◌||◌, ◌∷◌}
use Rattle.lists.specs.Prelude.{ℕ, suc, Bool, List, [], map, reverse_aux, leb, length, get_or, take, Float, binary64}
use Rattle.lists.specs.Prelude.{mul}
use Rattle.formats.specs.Floats.{zero_float}
use Rattle.numbers.specs.Computed.{narrowed}
use Rattle.lists.specs.Tables.{tab, any, count}
use Rattle.checks.specs.Finite.{has_nonfinite}
use Rattle.planes.specs.Sums.{dot, total}
use Rattle.numbers.specs.Normalization.{inverse_root_of}
use Rattle.hrtf_history.specs.Setup.{Setup, taps_of}
use Rattle.hrtf_history.specs.Signals.{signals, damaged, silent_frame}

-- ---- what is heard at the newest frame

-- speaker s's signal k frames ago, and those of the last L frames, k from 0 to L-1
abbrev pub signal_ago : ℕ → List (List Float) → ℕ → Float
signal_ago s past k = get_or (get_or past k []) s zero_float

abbrev pub window : Setup → ℕ → List (List Float) → List Float
window u s past = tab 0 u.L (signal_ago s past)

-- an ear's part of speaker s
abbrev pub part : Setup → ℕ → List (List Float) → ℕ → Float
part u ear past s = dot zero_float (window u s past) (taps_of u ear s)

-- an ear sample, of the parts of so many speakers
unfoldable pub ear_of : ℕ → (ℕ → Float) → Float
ear_of speakers part = narrowed (mul binary64 (total zero_float (tab 0 speakers part)) (inverse_root_of speakers))

abbrev pub ear_sample : Setup → ℕ → List (List Float) → Float
ear_sample u ear past = ear_of u.speakers (part u ear past)

-- left, then right
abbrev pub ear_samples : Setup → List (List Float) → List Float
ear_samples u past = ear_sample u 0 past ∷ ear_sample u 1 past ∷ []

-- a damaged frame is among the last L, or the past has no more frames than were to go before its first
abbrev pub unsettled : Setup → ℕ → List (List Float) → Bool
unsettled u go past = any (take u.L (map has_nonfinite past)) || leb (length past) go

-- ---- frames played on after a past, in the order of time

-- the ear samples at each
abbrev pub heard : Setup → List (List Float) → List (List Float) → List (List Float)
heard u past [] = []
heard u past (f ∷ fs) = ear_samples u (signals u f ∷ past) ∷ heard u (signals u f ∷ past) fs

-- whether each is unsettled, `go` frames having been to go before the first of the past, and how many are
abbrev pub unsettled_each : Setup → ℕ → List (List Float) → List (List Float) → List Bool
unsettled_each u go past [] = []
unsettled_each u go past (f ∷ fs) = unsettled u go (signals u f ∷ past) ∷ unsettled_each u go (signals u f ∷ past) fs

abbrev pub unsettled_in : Setup → ℕ → List (List Float) → List (List Float) → ℕ
unsettled_in u go past fs = count (unsettled_each u go past fs)

-- the past once they have been played
abbrev pub after : Setup → List (List Float) → List (List Float) → List (List Float)
after u past fs = reverse_aux (map (signals u) fs) past

-- the past at frame n of the frames since the reset
abbrev pub upto : Setup → List (List Float) → ℕ → List (List Float)
upto u fs n = after u [] (take (suc n) fs)

-- ---- frames themselves, the newest first

-- the one k frames before the newest: "silence before the first"
abbrev pub frame_back : Setup → List (List Float) → ℕ → List Float
frame_back u frames k = get_or frames k (silent_frame u)

-- "a damaged frame among those L", the newest and the L-1 frames before it
abbrev pub damaged_last : Setup → List (List Float) → Bool
damaged_last u frames = any (tab 0 u.L (λ k. damaged u (frame_back u frames k)))

-- how many frames are flagged, in each of pieces of these lengths, n frames being before the first piece
abbrev pub flagged_counts : (ℕ → Bool) → ℕ → List ℕ → List ℕ
flagged_counts flag n [] = []
flagged_counts flag n (m ∷ ms) = count (tab n m flag) ∷ flagged_counts flag (n + m) ms
