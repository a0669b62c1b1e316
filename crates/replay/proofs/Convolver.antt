-- What is used of the convolver: a block of its own is not refused, what `hrtf::process` leaves of it, by its equation,
-- and what `hrtf::reset` leaves. All that this crate knows of `hrtf` is said here. Assumes nothing.
use Rattle.std.specs.Prelude.{◌≡◌, ◌*◌, ◌≤◌, Result, Ok, IsOk}
use Rattle.lists.specs.Prelude.{sym, ap, ◌∙◌, List, ℕ, length, Float}
use Rattle.refusals.specs.Numbers.{value_in}
use Rattle.refusals.specs.declared.Refusal.{Refusal}
use Rattle.refusals.proofs.Numbers.{accepted_ok}
use Rattle.checks.proofs.Checks.{equal_passes}
use Rattle.lists.proofs.Tables.{length_tab}
use Rattle.planes.specs.Planes.{frame_at, frames_of}
use Rattle.hrtf_desk.specs.declared.Desk.{Desk}
use Rattle.hrtf_history.proofs.Pieces.{heard_read}
use Rattle.hrtf_rings.specs.State.{State}
use Rattle.hrtf_rings.specs.Held.{held_in}
use Rattle.hrtf_rings.specs.Computed.{state_left, played_by_rings, unsettled_count_by_desk}
use Rattle.hrtf_rings.proofs.Blocks.{played_held}
use Rattle.hrtf_checks.specs.Call.{BlockCall}
use Rattle.hrtf_checks.specs.Refusals.{refusal_of}
use Rattle.hrtf_checks.proofs.Refusing.{lengths_fit_lem, on_desk, accept}
use Rattle.hrtf.specs.declared.BlockAnswer.{BlockAnswer}
use Rattle.hrtf.specs.Promise.{BlockOutcome, block_told, state_after, ProcessPromise}
use Rattle.hrtf.specs.Reset.{ResetOutcome, reset_told, reset_by_of, ResetPromise}
use Rattle.hrtf.proofs.Meets.{outcome_by_lem, outcome_computed, process_ok, reset_accepts, reset_by}
use Rattle.replay.specs.Recording.{Recording, setup_in}
use Rattle.replay.specs.Heard.{rested}
use Rattle.replay.specs.Computed.{state_with, RecordingChecked, BlockAndStateFit, ResetFits}

-- the call for a block
abbrev pub block_call : Recording → ℕ → List Float → List Float → BlockCall
block_call l count block own =
    record {
      shape = l.shape;
      frames = count;
      stride = 64;
      inputs = block;
      weights = l.weights;
      rows = l.rows;
      taps = l.taps;
      ears = own;
    }

module _ {l : Recording} (good : RecordingChecked l) {t : State} {count : ℕ} {block own : List Float}
    (kept : BlockAndStateFit l t block own)
    (few : count ≤ 64) where
  block_accepted : refusal_of (block_call l count block own) t ≡ 0
  block_accepted =
      sym (accept (block_call l count block own) t (
        good.shaped,
        (
          good.long,
          (
            lengths_fit_lem l.shape _ _ _ _ _ _ _ few kept.blocked kept.eared kept.state.ringed
                good.weighted good.tapped,
            (
              good.sound,
              (on_desk t.desk l.shape.length kept.state.within kept.state.waits, tt),
            ),
          ),
        ),
      ))

  -- so there is an answer
  pub block_ok : (r : Result BlockAnswer Refusal) {rings₁ own₁ : List Float}
      → ProcessPromise (block_call l count block own) t
      (record { answer = block_told t.desk r; rings = rings₁; ears = own₁ }) → IsOk r
  block_ok r p = process_ok (block_call l count block own) t r block_accepted p

  module _ {o : BlockOutcome} (p : ProcessPromise (block_call l count block own) t o) where
    abbrev fs : List (List Float)
    fs = frames_of block 64 l.shape.channels count

    pub block_leaves : state_after o ≡ state_left (setup_in l) t fs
    block_leaves = ap state_after (p.bits ∙ outcome_computed (block_call l count block own) t block_accepted)

    pub block_counts : o.answer.unsettled ≡ unsettled_count_by_desk (setup_in l) t fs
    block_counts = ap (λ (a : BlockOutcome). a.answer.unsettled)
        (p.bits ∙ outcome_computed (block_call l count block own) t block_accepted)

    pub block_sounds : frames_of o.ears 64 2 count ≡ played_by_rings (setup_in l) t fs
    block_sounds =
        ap (λ (a : BlockOutcome). frames_of a.ears 64 2 count)
        (p.bits ∙ outcome_by_lem (block_call l count block own) t 0 block_accepted)
        ∙ heard_read (setup_in l) (held_in (setup_in l) t) fs own 64 count
        (length_tab 0 count (frame_at block 64 l.shape.channels)) few kept.eared
        ∙ sym (played_held (setup_in l) t fs kept.state.ringed kept.state.within)

-- ---- a reset

module _ (d : Desk) (speakers L : ℕ) (rings : List Float) (r : Result Desk Refusal) {rings₁ : List Float}
    (fits : ResetFits speakers L rings)
    (p : ResetPromise d speakers L rings (record { answer = reset_told d r; rings = rings₁ })) where
  done : record { answer = reset_told d r; rings = rings₁ } ≡ reset_by_of 0 d rings
  done = p.bits
      ∙ reset_by d speakers L rings 0 (reset_accepts speakers L rings
      (fits.few, (fits.long, (equal_passes (length rings) (speakers * L) fits.ringed, tt))))

  pub reset_ok : IsOk r
  reset_ok = accepted_ok r (ap (λ (o : ResetOutcome). o.answer.refusal) done)

  pub reset_leaves : {e : Desk} → r ≡ Ok e → state_with e rings₁ ≡ rested (state_with d rings)
  reset_leaves is =
      ap (λ (q : Result Desk Refusal). state_with (value_in d q) rings₁) (sym is)
      ∙ ap (λ (o : ResetOutcome). state_with o.answer.desk o.rings) done
