-- Document 02, E5, as a list of what happens: each frame as it is fed, with its stamp, and restarts. "Late frames are
-- dropped .. An ahead frame has silence put in for the missing ones, at most 4,096; a larger gap resets the convolver
-- and starts at that stamp. The first frame sets the stamp." Definitions only. They are the same for every kind F of
-- frame; q is a frame of silence.
use Rattle.std.specs.Prelude.{◌∷◌, ◌++◌}
use Rattle.lists.specs.Prelude.{ℕ, zero, suc, List, [], map}
use Rattle.stamps.specs.Arrivals.{Expected}
use Rattle.stamps.specs.declared.Arrival.{Arrival}
use Rattle.stamps.specs.declared.Arrival.TheVariants.{Next, Ahead, Jump, Late}
use Rattle.stamps.specs.Arrivals.{following, coming_of, stamp_of, then_of}

-- a recorded frame
pub record Recorded (F : Type 0) : Type 0 where
  pub stamp : ℕ
  pub frame : F

-- a frame is fed, under its stamp; or everything starts anew
pub data Event (F : Type 0) : Type 0 where
  feed : ℕ → F → Event F
  restart : Event F

module _ {F : Type 0} where
  -- n silent frames, under the stamps e, e + 1, .., for the missing ones
  abbrev pub silences : F → ℕ → ℕ → List (Event F)
  silences q e zero = []
  silences q e (suc n) = feed e q ∷ silences q (following e) n

  -- what one frame does by what it is, e being the stamp that is expected, where there is one
  abbrev pub events_by : Arrival → F → ℕ → ℕ → F → List (Event F)
  events_by Next q e s f = feed s f ∷ []
  events_by (Ahead d) q e s f = silences q e d ++ (feed s f ∷ [])
  events_by Jump q e s f = restart ∷ feed s f ∷ []
  events_by Late q e s f = []

  abbrev pub events_one : F → Expected → ℕ → F → List (Event F)
  events_one q x s f = events_by (coming_of x s) q (stamp_of x) s f

  -- what a recording does
  abbrev pub events_of : F → Expected → List (Recorded F) → List (Event F)
  events_of q x [] = []
  events_of q x (r ∷ rs) = events_one q x r.stamp r.frame ++ events_of q (then_of x r.stamp) rs

  abbrev pub stamps_of : List (Recorded F) → List ℕ
  stamps_of rs = map (λ (r : Recorded F). r.stamp) rs

  -- how many restarts there are
  abbrev pub restarts_in : List (Event F) → ℕ
  restarts_in [] = 0
  restarts_in (feed s f ∷ es) = restarts_in es
  restarts_in (restart ∷ es) = suc (restarts_in es)

  -- the frames as they are fed, each with its stamp
  abbrev pub fed : List (Event F) → List (Recorded F)
  fed [] = []
  fed (feed s f ∷ es) = record { stamp = s; frame = f } ∷ fed es
  fed (restart ∷ es) = fed es
