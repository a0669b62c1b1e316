-- How a replay is judged: the number that is picked is the first of one ordered list, and a replay that is not refused
-- has all that playing asks. Assumes nothing.
use Rattle.std.specs.Prelude.{◌≡◌, ◌||◌, ◌∷◌, ◌*◌, ◌≤◌}
use Rattle.lists.specs.Prelude.{refl, sym, ap, ◌∙◌, Bool, true, false, not, cond, true≢false, List, [], ℕ, zero, suc}
use Rattle.lists.specs.Prelude.{zero-le, arith, leb-true, leb-false, le-leb, le-ltb, lt-ltb, ltb-false, eqb, leb, ltb}
use Rattle.lists.specs.Prelude.{length, get_or, take, replicate, length-replicate, get_or-take, length-take-le, Float}
use Rattle.refusals.specs.Refusals.{first_of, ◌when◌, outside}
use Rattle.refusals.proofs.Chains.{Off, none_holds}
use Rattle.lists.specs.Tables.{tab}
use Rattle.lists.proofs.Tests.{by_test}
use Rattle.lists.proofs.Tables.{tab_is}
use Rattle.checks.specs.Finite.{has_nonfinite}
use Rattle.checks.specs.Lengths.{unfit, block_unfit}
use Rattle.checks.proofs.Checks.{or_off, both_off, is_equal, not_outside, planes_fit, fitted}
use Rattle.hrtf_rings.specs.State.{State}
use Rattle.hrtf_checks.specs.Refusals.{misshapen, desk_out_of_range, call_checks, refusal_of}
use Rattle.hrtf_checks.proofs.Refusing.{shaped, lists_fitted, desk_in}
use Rattle.std.specs.Prelude.{Option, None, Some, is_some}
use Rattle.stamps.specs.Arrivals.{Expected}
use Rattle.stamps.specs.declared.Planned.{Planned}
use Rattle.stamps.specs.Counts.{out_in, planned_of, plan_of}
use Rattle.stamps.specs.Events.{stamps_of}
use Rattle.stamps.proofs.Recordings.{feeds_out}
use Rattle.replay.specs.Computed.{silent_frame_of, start_of, EarsFit, places_of, plan_in, refusal_picked}
use Rattle.replay.specs.Computed.{RecordingChecked, StateReady, BlockAndStateFit}
use Rattle.replay.specs.Recording.{Recording, recorded_at, recording_in, stamps_in}
use Rattle.replay.proofs.Convolver.{block_call}
use Rattle.replay.specs.Promise.{record_unfit, lists_unfit, replay_checks, refusal_in}

-- ---- the number

-- of the convolver's own tests, of which one of the block's lengths never holds, and the recording's
pub picked_first : (a b o m x c d : Bool) → (a ≡ false → o ≡ false)
    → refusal_picked (first_of (2 when a ∷ 4 when b ∷ 5 when (o || m) ∷ 7 when c ∷ 8 when d ∷ [])) (not x)
    ≡ first_of (2 when a ∷ 4 when b ∷ 5 when (x || m) ∷ 7 when c ∷ 8 when d ∷ [])
picked_first true b o m x c d h = refl
picked_first false true o m x c d h = refl
picked_first false false true m x c d h = absurd (true≢false (h refl))
picked_first false false false true true c d h = refl
picked_first false false false true false c d h = refl
picked_first false false false false true true d h = refl
picked_first false false false false true false true h = refl
picked_first false false false false true false false h = refl
picked_first false false false false false true d h = refl
picked_first false false false false false false true h = refl
picked_first false false false false false false false h = refl

-- ---- the plan

over_is : (room n : ℕ) → ltb room n ≡ not (leb n room)
over_is room n = by_test (λ (b : Bool). ltb room n ≡ not b) (leb n room) (λ e. le-ltb room n (leb-true n room e))
    (λ e. lt-ltb room n (leb-false n room e))

fits_by : (a b c : Bool) (p : Planned)
    → is_some (cond (a || b) None (cond c (Some p) None)) ≡ not (a || (b || not c))
fits_by true b c p = refl
fits_by false true c p = refl
fits_by false false true p = refl
fits_by false false false p = refl

abbrev plan_at : Recording → Expected → ℕ → Option Planned
plan_at l x ears =
    plan_in x l.frames l.stride l.stamps l.shape.channels (length l.inputs) l.ear_stride ears

plan_fits : (l : Recording) (x : Expected) (ears : ℕ) → is_some (plan_at l x ears) ≡ not (record_unfit l x ears)
plan_fits l x ears =
    fits_by (block_unfit (length l.stamps) 1 (length l.inputs) l.shape.channels l.stride l.frames)
    (not (eqb ears (2 * l.ear_stride))) (leb (out_in x (stamps_in l)) l.ear_stride)
    (planned_of x (stamps_in l))
    ∙ ap (λ (d : Bool). not (block_unfit (length l.stamps) 1 (length l.inputs) l.shape.channels l.stride
    l.frames || (not (eqb ears (2 * l.ear_stride)) || d)))
    (sym (over_is l.ear_stride (out_in x (stamps_in l))))

-- ---- the block's planes

pub places_below : (channels : ℕ) → places_of channels ≤ 16 * 64
places_below channels = by_test (λ (b : Bool). (b ≡ leb channels 16) → cond b (channels * 64) 0 ≤ 16 * 64)
    (leb channels 16) (λ e k. omega (arith, leb-true channels 16 e)) (λ e k. omega arith) refl

-- so many of a new block of 1,024 places
pub places_lent : (n channels : ℕ) (x : Float) → n ≡ places_of channels → length (take n (replicate 1024 x)) ≡ n
places_lent n channels x e =
    length-take-le n (replicate 1024 x) (omega (arith, e, places_below channels, length-replicate 1024 x))

places_are : (channels : ℕ) → channels ≤ 16 → places_of channels ≡ channels * 64
places_are channels h = ap (λ (b : Bool). cond b (channels * 64) 0) (le-leb channels 16 h)

channels_few : (l : Recording) → misshapen l.shape l.rows ≡ false → l.shape.channels ≤ 16
channels_few l e = (not_outside l.shape.channels 16 (shaped l.shape l.rows e).2).1

module _ (l : Recording) (x : Expected) (t : State) (ears : ℕ) where
  pub refusal_is : (block own : List Float) (judged : ℕ) (plan : Option Planned)
      → length block ≡ places_of l.shape.channels
      → length own ≡ 2 * 64
      → judged ≡ refusal_of (block_call l 0 block own) t → plan ≡ plan_at l x ears
      → refusal_picked judged (is_some plan) ≡ refusal_in l x t ears
  unfolding refusal_of refusal_in
  refusal_is block own judged plan eb eo ej ep =
      ap (λ (n : ℕ). refusal_picked n (is_some plan)) ej
      ∙ ap (refusal_picked (first_of (call_checks (block_call l 0 block own) t)))
      (ap (λ (p : Option Planned). is_some p) ep ∙ plan_fits l x ears)
      ∙ picked_first (misshapen l.shape l.rows) (outside l.shape.length 512)
      (block_unfit (length block) l.shape.channels (length own) 2 64 0)
      (lists_unfit l (length t.rings)) (record_unfit l x ears) (has_nonfinite l.weights || has_nonfinite l.taps)
      (desk_out_of_range t.desk l.shape.length)
      (λ shaped. both_off _ _
      (planes_fit (length block) l.shape.channels 64 0 zero-le
      (eb ∙ places_are l.shape.channels (channels_few l shaped)))
      (planes_fit (length own) 2 64 0 zero-le eo))

  -- ---- a replay that is not refused

  module _ (e : refusal_in l x t ears ≡ 0) where
    off : Off (replay_checks l x t ears)
    unfolding refusal_in
    off = none_holds (replay_checks l x t ears) tt e

    record_fits : (block_unfit (length l.stamps) 1 (length l.inputs) l.shape.channels l.stride l.frames
        ≡ false)
        × ((not (eqb ears (2 * l.ear_stride)) ≡ false) × (ltb l.ear_stride (out_in x (stamps_in l)) ≡ false))
    record_fits =
        let first = (or_off (record_unfit l x ears) _ off.1.1.0).0 in
        let a = or_off (block_unfit (length l.stamps) 1 (length l.inputs) l.shape.channels l.stride
        l.frames) _ first in
        (a.0, or_off (not (eqb ears (2 * l.ear_stride))) _ a.1)

    stamps_fit : (l.frames ≤ l.stride) × (length l.stamps ≡ 1 * l.stride)
    stamps_fit = fitted (length l.stamps) 1 l.stride l.frames
        (or_off (unfit (length l.stamps) 1 l.stride l.frames) _ record_fits.0).0

    lists_fit : (length t.rings ≡ l.shape.speakers * l.shape.length)
        × (length l.weights ≡ l.shape.speakers * l.shape.channels)
        × (length l.taps ≡ 2 * l.shape.rows * l.shape.length)
    lists_fit = lists_fitted l.shape (length t.rings) (length l.weights) (length l.taps)
        (or_off (record_unfit l x ears) _ off.1.1.0).1

    pub good : RecordingChecked l
    good =
        record {
          shaped = off.0;
          long = off.1.0;
          weighted = lists_fit.1;
          tapped = lists_fit.2;
          sound = off.1.1.1.0;
          stamped = omega (arith, stamps_fit);
        }

    pub stands : StateReady l t
    stands =
        let desk = desk_in t.desk l.shape.length off.1.1.1.1.0 in
        record { ringed = lists_fit.0; within = desk.0; waits = desk.1 }

    pub kept : (block own : List Float) → length block ≡ places_of l.shape.channels → length own ≡ 2 * 64
        → BlockAndStateFit l t block own
    kept block own eb eo =
        record { state = stands; blocked = eb ∙ places_are l.shape.channels (channels_few l off.0); eared = eo }

    -- the stamps of the recording are the first of those that are lent
    pub stamps_are : stamps_of (recording_in l) ≡ stamps_in l
    stamps_are =
        mapped 0 l.frames ∙ ap (λ (n : ℕ). tab 0 n (λ k. get_or l.stamps k 0)) (sym long)
        ∙ tab_is (stamps_in l) 0 (λ k. get_or l.stamps k 0)
        (λ k h. sym (get_or-take l.frames l.stamps k 0 (omega (arith, h, long))))
      where
        long : length (stamps_in l) ≡ l.frames
        long = length-take-le l.frames l.stamps good.stamped

        mapped : (i n : ℕ) → stamps_of (tab i n (recorded_at l.stamps l.shape.channels l.stride l.inputs))
            ≡ tab i n (λ k. get_or l.stamps k 0)
        mapped i zero = refl
        mapped i (suc n) = ap (λ (ks : List ℕ). get_or l.stamps i 0 ∷ ks) (mapped (suc i) n)

    pub room : EarsFit l (start_of t.desk x)
    room =
        record {
          within = zero-le;
          room = omega (
            arith,
            ltb-false l.ear_stride (out_in x (stamps_in l)) record_fits.1.1,
            feeds_out (silent_frame_of l.shape.channels) x (recording_in l),
            ap (out_in x) stamps_are,
          );
          few = zero-le;
        }

    -- the ear planes, and what comes out
    pub fits_ears : (ears ≡ 2 * l.ear_stride) × (out_in x (stamps_in l) ≤ l.ear_stride)
    fits_ears = (
      is_equal ears (2 * l.ear_stride) record_fits.1.0,
      ltb-false l.ear_stride (out_in x (stamps_in l)) record_fits.1.1,
    )

    -- the plan is the recording's
    pub plan_is : (plan : Option Planned) → plan ≡ plan_at l x ears → plan ≡ Some (planned_of x (stamps_in l))
    plan_is plan ep =
        ep
        ∙ ap (λ (b : Bool). cond b None (plan_of x (stamps_in l) l.ear_stride))
        (both_off _ _ record_fits.0 record_fits.1.0)
        ∙ ap (λ (b : Bool). cond b (Some (planned_of x (stamps_in l))) None)
        (le-leb (out_in x (stamps_in l)) l.ear_stride
        (ltb-false l.ear_stride (out_in x (stamps_in l)) record_fits.1.1))
