-- Events one after another, as the convolver plays them: in parts, and where frames are fed one after another. The
-- state keeps what the checks ask of it. Assumes nothing.
use Rattle.std.specs.Prelude.{◌≡◌, ◌∷◌, ◌++◌, ◌+◌, ◌≤◌, ◌<◌}
use Rattle.lists.specs.Prelude.{refl, sym, ap, ◌∙◌, List, [], ℕ, suc, suc-ne-zero, arith, length, get_or}
use Rattle.lists.specs.Prelude.{length-replicate}
use Rattle.lists.specs.Prelude.{Float}
use Rattle.formats.specs.Floats.{zero_float}
use Rattle.lists.proofs.Lists.{one_at_most}
use Rattle.hrtf_history.specs.Setup.{Setup, SameFilters}
use Rattle.hrtf_rings.specs.State.{State}
use Rattle.hrtf_rings.specs.Computed.{ears_by_rings, is_unsettled_by_desk, stepped, state_left, played_by_rings}
use Rattle.hrtf_rings.specs.Computed.{unsettled_count_by_desk}
use Rattle.hrtf_rings.proofs.RingsHoldHistory.{step_fits}
use Rattle.hrtf_rings.proofs.Filters.{stepped_alike, played_alike, counted_alike}
use Rattle.stamps.specs.Events.{Event, feed, restart, restarts_in, fed, stamps_of}
use Rattle.stamps.specs.Computed.{feeds_in}
use Rattle.replay.specs.Recording.{Recording, setup_in}
use Rattle.replay.specs.Heard.{rested}
use Rattle.replay.specs.Computed.{StateReady, state_left_by, played_by, unsettled_played_by, frames_fed}
use Rattle.replay.specs.Computed.{feeds}

-- events that only feed are frames under their stamps, and the other way round
pub feeds_fed : (es : List (Event (List Float))) → restarts_in es ≡ 0
    → feeds (stamps_of (fed es)) (frames_fed es) ≡ es
feeds_fed [] e = refl
feeds_fed (feed s f ∷ es) e = ap (λ (l : List (Event (List Float))). feed s f ∷ l) (feeds_fed es e)
feeds_fed (restart ∷ es) e = absurd (suc-ne-zero (restarts_in es) e)

pub feeds_whole : (ss : List ℕ) (fs : List (List Float)) → restarts_in (feeds ss fs) ≡ 0
feeds_whole [] fs = refl
feeds_whole (s ∷ ss) [] = refl
feeds_whole (s ∷ ss) (f ∷ fs) = feeds_whole ss fs

pub feeds_put : (ss : List ℕ) (fs : List (List Float)) → length ss ≡ length fs → frames_fed (feeds ss fs) ≡ fs
feeds_put [] [] e = refl
feeds_put [] (f ∷ fs) e = absurd (suc-ne-zero (length fs) (sym e))
feeds_put (s ∷ ss) [] e = absurd (suc-ne-zero (length ss) e)
feeds_put (s ∷ ss) (f ∷ fs) e = ap (λ (l : List (List Float)). f ∷ l) (feeds_put ss fs (omega (arith, e)))

abbrev Events : Type 0
Events = List (Event (List Float))

module _ (u : Setup) where
  -- ---- in parts

  pub left_by_append : (t : State) (es hs : Events) → state_left_by u t (es ++ hs)
      ≡ state_left_by u (state_left_by u t es) hs
  left_by_append t [] hs = refl
  left_by_append t (feed s f ∷ es) hs = left_by_append (stepped u t f) es hs
  left_by_append t (restart ∷ es) hs = left_by_append (rested t) es hs

  pub played_by_append : (t : State) (es hs : Events) → played_by u t (es ++ hs) ≡ played_by u t es
      ++ played_by u (state_left_by u t es) hs
  played_by_append t [] hs = refl
  played_by_append t (feed s f ∷ es) hs =
      ap (λ (l : List (List Float)). ears_by_rings u t f ∷ l) (played_by_append (stepped u t f) es hs)
  played_by_append t (restart ∷ es) hs = played_by_append (rested t) es hs

  pub counted_by_append : (t : State) (es hs : Events)
      → unsettled_played_by u t (es ++ hs) ≡ unsettled_played_by u t es + unsettled_played_by u
      (state_left_by u t es) hs
  counted_by_append t [] hs = omega arith
  counted_by_append t (feed s f ∷ es) hs = omega (arith, counted_by_append (stepped u t f) es hs)
  counted_by_append t (restart ∷ es) hs = counted_by_append (rested t) es hs

  pub length_played_by : (t : State) (es : Events) → length (played_by u t es) ≡ feeds_in es
  length_played_by t [] = refl
  length_played_by t (feed s f ∷ es) = ap suc (length_played_by (stepped u t f) es)
  length_played_by t (restart ∷ es) = length_played_by (rested t) es

  -- no more are unsettled than come out
  pub counted_few : (t : State) (es : Events) → unsettled_played_by u t es ≤ feeds_in es
  counted_few t [] = omega arith
  counted_few t (feed s f ∷ es) =
      omega (arith, one_at_most (is_unsettled_by_desk u t f), counted_few (stepped u t f) es)
  counted_few t (restart ∷ es) = counted_few (rested t) es

  -- ---- where nothing restarts, the frames that are fed are played one after another

  pub left_feeds : (t : State) (es : Events) → restarts_in es ≡ 0 → state_left_by u t es
      ≡ state_left u t (frames_fed es)
  left_feeds t [] e = refl
  left_feeds t (feed s f ∷ es) e = left_feeds (stepped u t f) es e
  left_feeds t (restart ∷ es) e = absurd (suc-ne-zero (restarts_in es) e)

  pub played_feeds : (t : State) (es : Events) → restarts_in es ≡ 0 → played_by u t es
      ≡ played_by_rings u t (frames_fed es)
  played_feeds t [] e = refl
  played_feeds t (feed s f ∷ es) e =
      ap (λ (l : List (List Float)). ears_by_rings u t f ∷ l) (played_feeds (stepped u t f) es e)
  played_feeds t (restart ∷ es) e = absurd (suc-ne-zero (restarts_in es) e)

  pub counted_feeds : (t : State) (es : Events) → restarts_in es ≡ 0
      → unsettled_played_by u t es ≡ unsettled_count_by_desk u t (frames_fed es)
  counted_feeds t [] e = refl
  counted_feeds t (feed s f ∷ es) e = omega (arith, counted_feeds (stepped u t f) es e)
  counted_feeds t (restart ∷ es) e = absurd (suc-ne-zero (restarts_in es) e)

-- ---- set-ups with the same filters do the same

module _ (u v : Setup) (a : SameFilters u v) where
  pub left_by_alike : (t : State) (es : Events) → state_left_by u t es ≡ state_left_by v t es
  left_by_alike t [] = refl
  left_by_alike t (feed s f ∷ es) =
      ap (λ (q : State). state_left_by u q es) (stepped_alike u v a t f) ∙ left_by_alike (stepped v t f) es
  left_by_alike t (restart ∷ es) = left_by_alike (rested t) es

  pub played_by_alike : (t : State) (es : Events) → played_by u t es ≡ played_by v t es
  played_by_alike t [] = refl
  played_by_alike t (feed s f ∷ es) =
      cc (
        ap (λ (l : List (List Float)). get_or l 0 []) (played_alike u v a t (f ∷ [])),
        ap (λ (q : State). played_by u q es) (stepped_alike u v a t f) ∙ played_by_alike (stepped v t f) es,
      )
  played_by_alike t (restart ∷ es) = played_by_alike (rested t) es

  pub counted_by_alike : (t : State) (es : Events) → unsettled_played_by u t es ≡ unsettled_played_by v t es
  counted_by_alike t [] = refl
  counted_by_alike t (feed s f ∷ es) =
      let rest : unsettled_played_by u (stepped u t f) es ≡ unsettled_played_by v (stepped v t f) es = ap
      (λ (q : State). unsettled_played_by u q es)
      (stepped_alike u v a t f) ∙ counted_by_alike (stepped v t f) es in
      omega (arith, counted_alike u v a t (f ∷ []), rest)
  counted_by_alike t (restart ∷ es) = counted_by_alike (rested t) es

-- ---- how many there are

pub length_events : (es : Events) → length es ≡ feeds_in es + restarts_in es
length_events [] = refl
length_events (feed s f ∷ es) = omega (arith, length_events es)
length_events (restart ∷ es) = omega (arith, length_events es)

-- ---- the state

module _ (l : Recording) where
  rested_stands : (t : State) → 0 < l.shape.length → StateReady l t → StateReady l (rested t)
  rested_stands t h p =
      record { ringed = length-replicate (length t.rings) zero_float ∙ p.ringed; within = h; waits = h }

  pub left_by_stands : 0 < l.shape.length → (t : State) (es : Events) → StateReady l t
      → StateReady l (state_left_by (setup_in l) t es)
  left_by_stands h t [] p = p
  left_by_stands h t (feed s f ∷ es) p =
      left_by_stands h (stepped (setup_in l) t f) es (step_fits (setup_in l) l.shape.speakers t f p)
  left_by_stands h t (restart ∷ es) p = left_by_stands h (rested t) es (rested_stands t h p)
