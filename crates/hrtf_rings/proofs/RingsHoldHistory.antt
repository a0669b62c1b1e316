-- Rings hold a past: a frame keeps that so with its signals before the rest, and what is read out is document 01's sums
-- over it. Desk and frames to go likewise. Assumes nothing.
use Rattle.std.specs.Prelude.{◌≡◌, ◌||◌, ◌∷◌, ◌+◌, ◌-◌, ◌*◌, ◌%◌, ◌<◌}
use Rattle.lists.specs.Prelude.{sym, ap, ◌∙◌, subst, Bool, cond, or_assoc, List, [], map, ℕ, suc, zero-add, arith, ltb}
use Rattle.lists.specs.Prelude.{length, set, take, length-map, Float, nan}
use Rattle.formats.specs.Floats.{zero_float}
use Rattle.lists.specs.Tables.{any, chunk}
use Rattle.checks.specs.Finite.{has_nonfinite}
use Rattle.planes.specs.Sums.{dot}
use Rattle.lists.proofs.Tables.{length_chunk}
use Rattle.planes.proofs.Planes.{length_with_frame, row_with_frame}
use Rattle.hrtf_desk.specs.declared.Desk.{Desk}
use Rattle.hrtf_desk.proofs.DeskInRange.{desk_on, position_below, waits_below}
use Rattle.hrtf_history.specs.Setup.{Setup, taps_of}
use Rattle.hrtf_history.specs.Signals.{signal, signals, damaged}
use Rattle.hrtf_history.specs.History.{window, part, ear_sample, ear_samples, unsettled}
use Rattle.hrtf_history.proofs.Windows.{window_more, ear_of_ext}
use Rattle.hrtf_history.proofs.Signals.{length_signals, signal_at}
use Rattle.hrtf_rings.specs.Unrolled.{unrolled}
use Rattle.hrtf_rings.specs.State.{State, StateFits}
use Rattle.hrtf_rings.specs.Held.{to_go_after}
use Rattle.hrtf_rings.specs.Computed.{stored, part_of, ring_ear, ears_by_rings, is_unsettled_by_desk, stepped}
use Rattle.hrtf_rings.specs.Computed.{state_left}
use Rattle.hrtf_rings.proofs.Ring.{unrolled_set, unrolled_wrapped}
use Rattle.hrtf_rings.proofs.ToGo.{to_go_any, any_take_cons}
use Rattle.hrtf_rings.proofs.Held.{Holds}

pub length_stored : (u : Setup) (t : State) (f : List Float) → length (stored u t f) ≡ length t.rings
length_stored u t f = length_with_frame 0 t.rings u.L t.desk.position (signals u f)

module _ (u : Setup) (past : List (List Float)) (t : State) (f : List Float) (r : Holds u past t) where
  -- what a frame leaves of speaker s's ring
  ring_stored : (s : ℕ) → s < u.speakers → chunk u.L s (stored u t f) ≡ set (chunk u.L s t.rings)
      t.desk.position (signal u s f)
  ring_stored s lt =
      row_with_frame u.speakers t.rings u.L t.desk.position (signals u f) s (rw (length_signals u f) lt)
      r.within r.room (omega (arith, length_signals u f))
      ∙ ap (set (chunk u.L s t.rings) t.desk.position) (signal_at u f s nan lt)

  -- once a frame's signals are put, each ring read from its newest is the window of the past with that frame
  told_stored : (s : ℕ) → s < u.speakers → unrolled (suc t.desk.position) (chunk u.L s (stored u t f))
      ≡ window u s (signals u f ∷ past)
  told_stored s lt =
      cc (
        ring_stored s lt,
        unrolled_set t.desk.position ring (signal u s f) (rw full r.within),
        full,
        r.told s lt,
        signal_at u f s zero_float lt,
        window_more u s (signals u f) past (omega (arith, r.within)),
      )
    where
      ring : List Float
      ring = chunk u.L s t.rings

      full : length ring ≡ u.L
      full = length_chunk u.L s u.speakers t.rings lt r.room

  -- THE RING LEMMA: a frame keeps rings and desk holding the past, its signals before the rest
  pub kept : Holds u (signals u f ∷ past) (stepped u t f)
  kept =
      record {
        room = same;
        within = position_below u.L (damaged u f) t.desk r.within;
        told = λ s lt. ap (λ (d : Desk). unrolled d.position (chunk u.L s (stored u t f)))
            (desk_on u.L (damaged u f) t.desk r.within) ∙ turn s lt ∙ told_stored s lt;
      }
    where
      same : length (stored u t f) ≡ u.speakers * u.L
      same = length_stored u t f ∙ r.room

      full : (s : ℕ) → s < u.speakers → length (chunk u.L s (stored u t f)) ≡ u.L
      full s lt = length_chunk u.L s u.speakers (stored u t f) lt same

      turn : (s : ℕ) → s < u.speakers
          → unrolled ((t.desk.position + 1) % u.L) (chunk u.L s (stored u t f))
          ≡ unrolled (suc t.desk.position) (chunk u.L s (stored u t f))
      turn s lt = subst (λ (m : ℕ). unrolled ((t.desk.position + 1) % m) (chunk u.L s (stored u t f))
          ≡ unrolled (suc t.desk.position) (chunk u.L s (stored u t f)))
          (full s lt) (unrolled_wrapped t.desk.position (chunk u.L s (stored u t f)) (rw full r.within))

  ear_told : (ear : ℕ) → ring_ear u ear (suc t.desk.position) (stored u t f) ≡ ear_sample u ear (signals u f ∷ past)
  ear_told ear =
      ear_of_ext u.speakers (part_of u ear (suc t.desk.position) (stored u t f)) (part u ear (signals u f ∷ past))
      (λ s lt. ap (λ (w : List Float). dot zero_float w (taps_of u ear s)) (told_stored s lt))

  pub ears_told : ears_by_rings u t f ≡ ear_samples u (signals u f ∷ past)
  ears_told = cc (ear_told 0, ear_told 1)

-- ---- the frames to go, `go` of them having been to go before the frames of `past`

module _ (u : Setup) (go : ℕ) (past : List (List Float)) (t : State) (f : List Float)
    (within : t.desk.position < u.L) (waits : t.desk.to_go ≡ to_go_after u.L go (map has_nonfinite past)) where
  pub waits_on : (stepped u t f).desk.to_go ≡ to_go_after u.L go (map has_nonfinite (signals u f ∷ past))
  waits_on = ap (λ (d : Desk). d.to_go) (desk_on u.L (damaged u f) t.desk within)
      ∙ ap (λ (k : ℕ). cond (damaged u f) (u.L - 1) (k - 1)) waits

  pub late_told : go < u.L → is_unsettled_by_desk u t f ≡ unsettled u go (signals u f ∷ past)
  late_told few =
      let bs = map has_nonfinite past in
      let gone : 0 + length bs ≡ length past = zero-add (length bs) ∙ length-map past has_nonfinite in
      ap (λ (b : Bool). damaged u f || b)
      (ap (ltb 0) waits ∙ to_go_any u.L go bs 0 (u.L - 1) few (omega arith)
      ∙ ap (λ (n : ℕ). any (take (u.L - 1) bs) || ltb n go) gone)
      ∙ sym (or_assoc (damaged u f) (any (take (u.L - 1) bs)) (ltb (length past) go))
      ∙ ap (λ (b : Bool). b || ltb (length past) go) (sym (any_take_cons u.L (damaged u f) bs (omega arith)))

-- ---- a state that fits a convolver fits it after frames too

module _ (u : Setup) (speakers : ℕ) where
  pub step_fits : (t : State) (f : List Float) → StateFits speakers u.L t → StateFits speakers u.L (stepped u t f)
  step_fits t f r =
      record {
        ringed = length_stored u t f ∙ r.ringed;
        within = position_below u.L (damaged u f) t.desk r.within;
        waits = waits_below u.L (damaged u f) t.desk r.within r.waits;
      }

  pub left_fits : (t : State) (fs : List (List Float)) → StateFits speakers u.L t
      → StateFits speakers u.L (state_left u t fs)
  left_fits t [] r = r
  left_fits t (f ∷ fs) r = left_fits (stepped u t f) fs (step_fits t f r)
