-- A turn, and turns one after another. Assumes nothing.
use Rattle.std.specs.Prelude.{Result, IsOk, ◌≡◌, ◌++◌, ◌+◌, ◌≤◌, ◌<◌}
use Rattle.lists.specs.Prelude.{refl, sym, ap, ◌∙◌, subst, Bool, true, false, cond, ⊎_elim, List, [], append_assoc}
use Rattle.lists.specs.Prelude.{append-nil, ℕ, add-zero, arith, length, length-append, length-map, Float}
use Rattle.lists.proofs.Lists.{less_or_at_most}
use Rattle.lists.proofs.Tables.{length_tab}
use Rattle.checks.proofs.Checks.{not_outside}
use Rattle.planes.specs.Planes.{frame_at, frames_of, with_frames}
use Rattle.planes.proofs.Planes.{with_frames_append}
use Rattle.hrtf_desk.specs.declared.Desk.{Desk}
use Rattle.hrtf_history.specs.Setup.{Setup}
use Rattle.hrtf_rings.specs.State.{State}
use Rattle.hrtf_rings.specs.Computed.{state_left, played_by_rings, unsettled_count_by_desk}
use Rattle.hrtf_checks.proofs.Refusing.{shaped}
use Rattle.refusals.specs.declared.Refusal.{Refusal}
use Rattle.hrtf.specs.declared.BlockAnswer.{BlockAnswer}
use Rattle.hrtf.specs.Promise.{BlockTold, block_told, ProcessPromise}
use Rattle.stamps.specs.Events.{Recorded, Event, fed, restarts_in}
use Rattle.stamps.specs.Computed.{feeds_in}
use Rattle.stamps.proofs.Recordings.{feeds_append, length_fed}
use Rattle.replay.specs.declared.gather.Gathered.{Gathered}
use Rattle.replay.specs.Computed.{silent_frame_of, restarting, Gathers, events_at, ResetFits, rested_if, EarsFit}
use Rattle.replay.specs.Computed.{TurnsPlayed, feeds, frames_fed}
use Rattle.replay.specs.Computed.{left_in, TurnPlayed, state_with, RecordingChecked, StateReady, BlockAndStateFit}
use Rattle.replay.specs.Computed.{state_left_by, played_by, unsettled_played_by}
use Rattle.replay.specs.declared.play.Turned.{Turned}
use Rattle.replay.specs.Recording.{Recording, setup_in, recording_in}
use Rattle.replay.proofs.Eventful.{left_by_append, played_by_append, counted_by_append, length_played_by}
use Rattle.replay.proofs.Eventful.{counted_few, left_feeds, played_feeds, counted_feeds, length_events}
use Rattle.replay.proofs.Eventful.{left_by_stands, feeds_whole, feeds_put}
use Rattle.replay.proofs.Convolver.{block_call, block_ok, block_leaves, block_counts, block_sounds}

-- a restart, or none, as the last event
module _ (l : Recording) (t : State) where
  rested_by : (b : Bool) → state_left_by (setup_in l) t (restarting b) ≡ rested_if b t
  rested_by true = refl
  rested_by false = refl

  silent_rest : (b : Bool) → (played_by (setup_in l) t (restarting b) ≡ [])
      × (unsettled_played_by (setup_in l) t (restarting b) ≡ 0)
  silent_rest true = (refl, refl)
  silent_rest false = (refl, refl)

restarting_is : (b : Bool) → (feeds_in (restarting b) ≡ 0) × (length (restarting b) ≡ cond b 1 0)
restarting_is true = (refl, refl)
restarting_is false = (refl, refl)

pub some_length : (l : Recording) → RecordingChecked l → 0 < l.shape.length
some_length l good = (not_outside l.shape.length 512 good.long).0

-- ---- one turn

module _ (l : Recording) (p : Turned) {g : Gathered} {block₁ : List Float}
    (got : Gathers (recording_in l) l.shape.channels p.expected p.at l.frames g block₁) where
  abbrev fs : List (List Float)
  fs = frames_of block₁ 64 l.shape.channels g.count

  -- the events of the block, and then a restart or none
  abbrev fed_ones : List (Event (List Float))
  fed_ones = feeds got.stamps fs

  -- they feed the frames of the block, and nothing restarts among them
  whole : restarts_in fed_ones ≡ 0
  whole = feeds_whole got.stamps fs

  put : frames_fed fed_ones ≡ fs
  put = feeds_put got.stamps fs (got.as_many ∙ sym (length_tab 0 g.count (frame_at block₁ 64 l.shape.channels)))

  abbrev last : List (Event (List Float))
  last = restarting g.restart

  abbrev gone : List (Event (List Float))
  gone = fed_ones ++ last

  parted : events_at l p.expected p.at ≡ gone ++ events_at l g.expected g.at
  parted = got.split ∙ sym (append_assoc fed_ones last (events_at l g.expected g.at))

  fed_ones_are : feeds_in fed_ones ≡ g.count
  fed_ones_are =
      sym (length-map (fed fed_ones) (λ (r : Recorded (List Float)). r.frame)
      ∙ length_fed (silent_frame_of l.shape.channels) fed_ones)
      ∙ ap length put ∙ length_tab 0 g.count (frame_at block₁ 64 l.shape.channels)

  fed_gone : feeds_in gone ≡ g.count
  fed_gone = feeds_append (silent_frame_of l.shape.channels) fed_ones last
      ∙ omega (arith, fed_ones_are, (restarting_is g.restart).0)

  -- what is put into the ear planes fits
  pub turn_room : EarsFit l p → p.done + g.count ≤ l.ear_stride
  turn_room room =
      omega (
        arith,
        room.room,
        fed_gone,
        ap feeds_in parted,
        feeds_append (silent_frame_of l.shape.channels) gone (events_at l g.expected g.at),
      )

  module _ (good : RecordingChecked l) {rings block own : List Float}
      (kept : BlockAndStateFit l (state_with p.desk rings) block own)
      (same : length block₁ ≡ length block) where
    abbrev t : State
    t = state_with p.desk rings

    kept₁ : BlockAndStateFit l t block₁ own
    kept₁ = record { state = kept.state; blocked = same ∙ kept.blocked; eared = kept.eared }

    -- the block is played
    pub turn_ok : (r : Result BlockAnswer Refusal) {rings₁ own₁ : List Float}
        → ProcessPromise (block_call l g.count block₁ own) t
        (record { answer = block_told p.desk r; rings = rings₁; ears = own₁ }) → IsOk r
    turn_ok = block_ok good kept₁ got.few

    module _ {a : BlockTold} {rings₁ own₁ : List Float}
        (plays : ProcessPromise (block_call l g.count block₁ own) t
        (record { answer = a; rings = rings₁; ears = own₁ })) where
      abbrev u : Setup
      u = setup_in l

      leaves : state_with a.desk rings₁ ≡ state_left_by u t fed_ones
      leaves = block_leaves good kept₁ got.few plays
          ∙ sym (left_feeds u t fed_ones whole ∙ ap (state_left u t) put)

      counts_gone : a.unsettled ≡ unsettled_played_by u t gone
      counts_gone =
          block_counts good kept₁ got.few plays
          ∙ sym (counted_by_append u t fed_ones last
          ∙ omega (
            arith,
            (silent_rest l (state_left_by u t fed_ones) g.restart).1,
            counted_feeds u t fed_ones whole ∙ ap (unsettled_count_by_desk u t) put,
          ))

      sounds_gone : frames_of own₁ 64 2 g.count ≡ played_by u t gone
      sounds_gone =
          block_sounds good kept₁ got.few plays
          ∙ sym (played_by_append u t fed_ones last
          ∙ ap (λ (r : List (List Float)). played_by u t fed_ones ++ r)
          (silent_rest l (state_left_by u t fed_ones) g.restart).0
          ∙ append-nil (played_by u t fed_ones)
          ∙ played_feeds u t fed_ones whole ∙ ap (played_by_rings u t) put)

      -- no more are unsettled than were played
      pub turn_few : a.unsettled ≤ g.count
      turn_few = omega (arith, counts_gone, fed_gone, counted_few (setup_in l) t gone)

      -- what a reset asks
      pub turn_resting : ResetFits l.shape.speakers l.shape.length rings₁
      turn_resting =
          record {
            few = (shaped l.shape l.rows good.shaped).0;
            long = good.long;
            ringed = ap (λ (s : State). length s.rings) leaves
                ∙ (left_by_stands l (some_length l good) t fed_ones kept.state).ringed;
          }

      abbrev then : Desk → Turned
      then d = record {
        desk = d;
        expected = g.expected;
        at = g.at;
        done = p.done + g.count;
        unsettled = p.unsettled + a.unsettled;
      }

      pub turn_made : (ears ears₁ rings₂ : List Float) (d : Desk)
          → ears₁ ≡ with_frames ears l.ear_stride p.done (frames_of own₁ 64 2 g.count)
          → state_with d rings₂ ≡ rested_if g.restart (state_with a.desk rings₁)
          → TurnPlayed l p rings ears (then d) rings₂ ears₁
      turn_made ears ears₁ rings₂ d ee er =
          record {
            turns =
                record {
                  gone = gone;
                  split = parted;
                  leaves =
                      er ∙ ap (rested_if g.restart) leaves
                      ∙ sym (left_by_append u t fed_ones last ∙ rested_by l (state_left_by u t fed_ones) g.restart);
                  sounds = ee ∙ ap (with_frames ears l.ear_stride p.done) sounds_gone;
                  out = ap (λ (n : ℕ). p.done + n) (sym fed_gone);
                  counts = ap (λ (n : ℕ). p.unsettled + n) counts_gone;
                  within = got.within;
                };
            moves = moved;
          }
        where
          events_fewer : length (events_at l p.expected p.at)
              ≡ g.count + (cond g.restart 1 0 + length (events_at l g.expected g.at))
          events_fewer =
              ap length got.split
              ∙ length-append fed_ones (last ++ events_at l g.expected g.at)
              ∙ omega (
                arith,
                length_events fed_ones,
                fed_ones_are,
                whole,
                length-append last (events_at l g.expected g.at),
                (restarting_is g.restart).1,
              )

          moved : p.at < l.frames → left_in l (then d) < left_in l p
          moved lt =
              ⊎_elim
              (λ (on : g.at < l.frames). omega (arith, events_fewer, got.goes on, got.on, lt))
              (λ (over : l.frames ≤ g.at). omega (arith, events_fewer, over, lt))
              (less_or_at_most g.at l.frames)

-- ---- turns one after another

module _ {l : Recording} {p : Turned} {rings ears : List Float} where
  pub turns_none : p.at ≤ l.frames → TurnsPlayed l p rings ears p rings ears
  turns_none h = record {
    gone = [];
    split = refl;
    leaves = refl;
    sounds = refl;
    out = sym (add-zero p.done);
    counts = sym (add-zero p.unsettled);
    within = h;
  }

  module _ {r : Turned} {rings₁ ears₁ : List Float} (a : TurnsPlayed l p rings ears r rings₁ ears₁) where
    pub turns_then : {r₂ : Turned} {rings₂ ears₂ : List Float} → TurnsPlayed l r rings₁ ears₁ r₂ rings₂ ears₂
        → TurnsPlayed l p rings ears r₂ rings₂ ears₂
    turns_then {r₂} {rings₂} {ears₂} b =
        let u = setup_in l in
        let t = state_with p.desk rings in
        record {
          gone = a.gone ++ b.gone;
          split = a.split ∙ ap (λ (es : List (Event (List Float))). a.gone ++ es) b.split
              ∙ sym (append_assoc a.gone b.gone (events_at l r₂.expected r₂.at));
          leaves = b.leaves ∙ ap (λ (s : State). state_left_by u s b.gone) a.leaves
              ∙ sym (left_by_append u t a.gone b.gone);
          sounds =
              b.sounds
              ∙ ap (λ (s : State). with_frames ears₁ l.ear_stride r.done (played_by u s b.gone)) a.leaves
              ∙ ap (λ (xs : List Float). with_frames xs l.ear_stride r.done
              (played_by u (state_left_by u t a.gone) b.gone)) a.sounds
              ∙ ap (λ (n : ℕ). with_frames (with_frames ears l.ear_stride p.done (played_by u t a.gone))
              l.ear_stride n (played_by u (state_left_by u t a.gone) b.gone))
              (a.out ∙ ap (λ (n : ℕ). p.done + n) (sym (length_played_by u t a.gone)))
              ∙ sym (ap (with_frames ears l.ear_stride p.done) (played_by_append u t a.gone b.gone)
              ∙ with_frames_append ears l.ear_stride p.done (played_by u t a.gone)
              (played_by u (state_left_by u t a.gone) b.gone));
          out = omega (arith, a.out, b.out, feeds_append (silent_frame_of l.shape.channels) a.gone b.gone);
          counts = omega (
            arith,
            a.counts,
            b.counts,
            counted_by_append u t a.gone b.gone,
            ap (λ (s : State). unsettled_played_by u s b.gone) a.leaves,
          );
          within = b.within;
        }

    pub turns_room : EarsFit l p → EarsFit l r
    turns_room room =
        record {
          within = a.within;
          room = omega (
            arith,
            room.room,
            a.out,
            ap feeds_in a.split,
            feeds_append (silent_frame_of l.shape.channels) a.gone (events_at l r.expected r.at),
          );
          few = omega (
            arith,
            room.few,
            a.out,
            a.counts,
            counted_few (setup_in l) (state_with p.desk rings)
                a.gone,
          );
        }

    pub turns_stand : RecordingChecked l → StateReady l (state_with p.desk rings)
        → StateReady l (state_with r.desk rings₁)
    turns_stand good s = subst (StateReady l) (sym a.leaves)
        (left_by_stands l (some_length l good) (state_with p.desk rings) a.gone s)

-- ---- the loop: turns from the first place on, in lists that stay as long

pub record TurnsSoFar (l : Recording) (p : Turned) (rings ears block own : List Float) (r : Turned)
    (rings₁ ears₁ block₁ own₁ : List Float) : Type 0 where
  pub turns : TurnsPlayed l p rings ears r rings₁ ears₁
  pub rings_long : length rings₁ ≡ length rings
  pub ears_long : length ears₁ ≡ length ears
  pub block_long : length block₁ ≡ length block
  pub own_long : length own₁ ≡ length own

module _ {l : Recording} {p : Turned} {rings ears block own : List Float} {r : Turned}
    {rings₁ ears₁ block₁ own₁ : List Float}
    (g : TurnsSoFar l p rings ears block own r rings₁ ears₁ block₁ own₁) where
  pub loop-kept : RecordingChecked l → BlockAndStateFit l (state_with p.desk rings) block own
      → BlockAndStateFit l (state_with r.desk rings₁) block₁ own₁
  loop-kept good k =
      record {
        state = turns_stand g.turns good k.state;
        blocked = g.block_long ∙ k.blocked;
        eared = g.own_long
            ∙ k.eared;
      }
