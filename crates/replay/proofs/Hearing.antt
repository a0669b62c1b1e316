-- THE LAW OF EVERY STATE: from any rings as long as they have to be and any desk whose numbers are below L, what the
-- convolver does with events is document 01's sums over the frames as fed (`played_by_held`), leaves what the words say
-- (`left_by_is`), and counts the frames that are unsettled (`counted_by_is`). Then the same over a past that rings and
-- desk stand for. Assumes nothing.
use Rattle.std.specs.Prelude.{◌≡◌, ◌∷◌, ◌++◌, ◌*◌, ◌<◌}
use Rattle.lists.specs.Prelude.{refl, sym, ap, ◌∙◌, subst, List, [], map, ℕ, zero, suc, not-suc-le-zero}
use Rattle.lists.specs.Prelude.{le_of_suc-le-suc, arith, length, get_or, replicate, Float}
use Rattle.formats.specs.Floats.{zero_float}
use Rattle.checks.specs.Finite.{has_nonfinite}
use Rattle.hrtf_desk.specs.Numbers.{zeroed}
use Rattle.hrtf_desk.proofs.DeskInRange.{position_below}
use Rattle.hrtf_history.specs.Setup.{Setup}
use Rattle.hrtf_history.specs.Signals.{signals, damaged}
use Rattle.hrtf_rings.specs.State.{State}
use Rattle.hrtf_rings.specs.Held.{held_in, to_go_after, Represents}
use Rattle.hrtf_rings.specs.Computed.{stepped}
use Rattle.hrtf_rings.proofs.Held.{Holds, holds_held}
use Rattle.hrtf_rings.proofs.RingsHoldHistory.{length_stored, kept, ears_told, waits_on, late_told}
use Rattle.hrtf_rings.proofs.Blocks.{left_is, left_kept, holds, rings_room, fresh_represents}
use Rattle.stamps.specs.Events.{Event, feed, restart}
use Rattle.stamps.specs.Computed.{feeds_in}
use Rattle.replay.specs.Heard.{heard_by, unsettled_by, after_by, rested, after_events}
use Rattle.replay.specs.Computed.{state_left_by, played_by, unsettled_played_by}

abbrev Events : Type 0
Events = List (Event (List Float))

module _ (u : Setup) where
  -- ---- what is heard: two ear samples for each frame that is fed, over the past up to it

  pub length_heard_by : (past : List (List Float)) (es : Events) → length (heard_by u past es) ≡ feeds_in es
  length_heard_by past [] = refl
  length_heard_by past (feed s f ∷ es) = ap suc (length_heard_by (signals u f ∷ past) es)
  length_heard_by past (restart ∷ es) = length_heard_by [] es

  pub two_each_by : (past : List (List Float)) (es : Events) (n : ℕ) → n < length (heard_by u past es)
      → length (get_or (heard_by u past es) n []) ≡ 2
  two_each_by past [] n h = absurd (not-suc-le-zero h)
  two_each_by past (feed s f ∷ es) zero h = refl
  two_each_by past (feed s f ∷ es) (suc n) h = two_each_by (signals u f ∷ past) es n (le_of_suc-le-suc h)
  two_each_by past (restart ∷ es) n h = two_each_by [] es n h

  pub after_by_append : (past : List (List Float)) (es hs : Events)
      → after_by u past (es ++ hs) ≡ after_by u (after_by u past es) hs
  after_by_append past [] hs = refl
  after_by_append past (feed s f ∷ es) hs = after_by_append (signals u f ∷ past) es hs
  after_by_append past (restart ∷ es) hs = after_by_append [] es hs

  -- ---- what a past is known by

  abbrev Waits : ℕ → List (List Float) → State → Type 0
  Waits go past t = t.desk.to_go ≡ to_go_after u.L go (map has_nonfinite past)

  -- a reset stands for no past
  pub rested_represents : (t : State) → length t.rings ≡ u.speakers * u.L → 0 < u.L → Represents u [] (rested t)
  rested_represents t room some = subst
      (λ (n : ℕ). Represents u [] (record { rings = replicate n zero_float; desk = zeroed })) (sym room)
      (fresh_represents u some)

  -- ---- over a past that the rings hold

  played_over : (past : List (List Float)) (t : State) (es : Events) → Holds u past t
      → played_by u t es ≡ heard_by u past es
  played_over past t [] h = refl
  played_over past t (feed s f ∷ es) h =
      cc (ears_told u past t f h, played_over (signals u f ∷ past) (stepped u t f) es (kept u past t f h))
  played_over past t (restart ∷ es) h =
      played_over [] (rested t) es (holds u [] (rested t) (rested_represents t h.room (omega (arith, h.within))))

  counted_over : (go : ℕ) (past : List (List Float)) (t : State) (es : Events) → length t.rings ≡ u.speakers * u.L
      → t.desk.position < u.L → go < u.L → Waits go past t
      → unsettled_played_by u t es ≡ unsettled_by u go past es
  counted_over go past t [] room within few w = refl
  counted_over go past t (feed s f ∷ es) room within few w =
      cc (
        late_told u go past t f within w few,
        counted_over go (signals u f ∷ past) (stepped u t f) es (length_stored u t f ∙ room)
            (position_below u.L (damaged u f) t.desk within) few (waits_on u go past t f within w),
      )
  counted_over go past t (restart ∷ es) room within few w =
      let r = rested_represents t room (omega (arith, within)) in
      counted_over 0 [] (rested t) es (rings_room u [] (rested t) r) r.0 r.0 refl

  -- ---- THE LAW OF EVERY STATE

  module _ (t : State) (es : Events) (room : length t.rings ≡ u.speakers * u.L)
      (within : t.desk.position < u.L) where
    pub played_by_held : played_by u t es ≡ heard_by u (held_in u t) es
    played_by_held = played_over (held_in u t) t es (holds_held u t room within)

    pub counted_by_is : t.desk.to_go < u.L → unsettled_played_by u t es ≡ unsettled_by u t.desk.to_go [] es
    counted_by_is few = counted_over t.desk.to_go [] t es room within few refl

  pub left_by_is : (t : State) (es : Events) → length t.rings ≡ u.speakers * u.L → t.desk.position < u.L
      → state_left_by u t es ≡ after_events u t es
  left_by_is t [] a b = refl
  left_by_is t (feed s f ∷ es) a b =
      left_by_is (stepped u t f) es (length_stored u t f ∙ a) (position_below u.L (damaged u f) t.desk b)
      ∙ ap (λ (q : State). after_events u q es) (left_is u t (f ∷ []) a b)
  left_by_is t (restart ∷ es) a b =
      let r = rested_represents t a (omega (arith, b)) in
      left_by_is (rested t) es (rings_room u [] (rested t) r) r.0

  -- ---- a past that rings and desk stand for

  module _ (past : List (List Float)) (t : State) (r : Represents u past t) where
    pub played_by_heard : (es : Events) → played_by u t es ≡ heard_by u past es
    played_by_heard es = played_over past t es (holds u past t r)

    pub counted_by_told : (es : Events) → unsettled_played_by u t es ≡ unsettled_by u 0 past es
    counted_by_told es = counted_over 0 past t es (rings_room u past t r) r.0 (omega (arith, r.0))
        (ap (λ (s : State). s.desk.to_go) r.1)

  pub left_by_kept : (past : List (List Float)) (t : State) (es : Events) → Represents u past t
      → Represents u (after_by u past es) (state_left_by u t es)
  left_by_kept past t [] r = r
  left_by_kept past t (feed s f ∷ es) r =
      left_by_kept (signals u f ∷ past) (stepped u t f) es (left_kept u past t r (f ∷ []))
  left_by_kept past t (restart ∷ es) r =
      left_by_kept [] (rested t) es (rested_represents t (rings_room u past t r) (omega (arith, r.0)))
