-- What is heard of events, and what they leave (document 02, E5: "Demand 3 holds for the frames as fed, between
-- resets"). Definitions only, in the words of `hrtf_history` and `hrtf_rings`: silence that was put in is a frame like
-- any other, and a restart leaves what a reset of the convolver leaves. A past is the list of the signals of the frames
-- fed since the last restart, the newest first.
use Rattle.std.specs.Prelude.{◌∷◌}
use Rattle.lists.specs.Prelude.{ℕ, Bool, List, [], Float}
use Rattle.lists.specs.Tables.{count}
use Rattle.hrtf_history.specs.Setup.{Setup}
use Rattle.hrtf_history.specs.Signals.{signals}
use Rattle.hrtf_history.specs.History.{ear_samples, unsettled}
use Rattle.hrtf_rings.specs.State.{State}
use Rattle.hrtf_rings.specs.Held.{after_frames}
use Rattle.hrtf.specs.Reset.{reset_by_of}
use Rattle.stamps.specs.Events.{Event, feed, restart}

-- the ear samples at each frame that is fed
abbrev pub heard_by : Setup → List (List Float) → List (Event (List Float)) → List (List Float)
heard_by u past [] = []
heard_by u past (feed s f ∷ es) = ear_samples u (signals u f ∷ past) ∷ heard_by u (signals u f ∷ past) es
heard_by u past (restart ∷ es) = heard_by u [] es

-- whether each of them is unsettled, `go` frames having been to go before the first of the past, and how many are
abbrev pub unsettled_each_by : Setup → ℕ → List (List Float) → List (Event (List Float)) → List Bool
unsettled_each_by u go past [] = []
unsettled_each_by u go past (feed s f ∷ es) =
    unsettled u go (signals u f ∷ past) ∷ unsettled_each_by u go (signals u f ∷ past) es
unsettled_each_by u go past (restart ∷ es) = unsettled_each_by u 0 [] es

abbrev pub unsettled_by : Setup → ℕ → List (List Float) → List (Event (List Float)) → ℕ
unsettled_by u go past es = count (unsettled_each_by u go past es)

-- the past then
abbrev pub after_by : Setup → List (List Float) → List (Event (List Float)) → List (List Float)
after_by u past [] = past
after_by u past (feed s f ∷ es) = after_by u (signals u f ∷ past) es
after_by u past (restart ∷ es) = after_by u [] es

-- what an accepted reset leaves of the rings and the desk
abbrev pub rested : State → State
rested t = record { rings = (reset_by_of 0 t.desk t.rings).rings; desk = (reset_by_of 0 t.desk t.rings).answer.desk }

-- the rings and the desk then: after a frame what a block of that frame leaves, after a restart what a reset leaves
abbrev pub after_events : Setup → State → List (Event (List Float)) → State
after_events u t [] = t
after_events u t (feed s f ∷ es) = after_events u (after_frames u t (f ∷ [])) es
after_events u t (restart ∷ es) = after_events u (rested t) es
