-- Everything that a call of `replay` hands back (document 02, E5). "Counts of late frames, silent frames and resets
-- equal those of a plain definition over the recorded list. Ear planes shorter than the frames that come out are
-- refused with 5 before anything is played." Definitions only.
use Rattle.std.specs.Prelude.{◌*◌, ◌≡◌, ◌||◌, ◌∷◌, Result}
use Rattle.lists.specs.Prelude.{ℕ, Bool, not, List, [], eqb, ltb, length, Float}
use Rattle.refusals.specs.Refusals.{Check, first_of, ◌when◌, answered, outside}
use Rattle.refusals.specs.Numbers.{number_in, value_in}
use Rattle.refusals.specs.declared.Refusal.{Refusal}
use Rattle.checks.specs.Finite.{has_nonfinite}
use Rattle.checks.specs.Lengths.{block_unfit}
use Rattle.planes.specs.Planes.{with_frames}
use Rattle.hrtf_desk.specs.declared.Desk.{Desk}
use Rattle.hrtf_rings.specs.State.{State}
use Rattle.hrtf_rings.specs.Held.{held_in, Represents}
use Rattle.hrtf_checks.specs.Refusals.{misshapen, desk_out_of_range}
use Rattle.stamps.specs.Arrivals.{Expected}
use Rattle.stamps.specs.Arrivals.{expected_after}
use Rattle.stamps.specs.Counts.{out_in, late_in, silent_in, resets_in}
use Rattle.replay.specs.declared.Replayed.{Replayed}
use Rattle.replay.specs.Recording.{Recording, setup_in, stamps_in, events_in}
use Rattle.replay.specs.Heard.{heard_by, unsettled_by, after_by, after_events}

-- ---- refusals: 2, 4, 5, 7 and 8

-- 5: the stamps are one plane, at the stride of the input planes; the ear planes are two, at a stride of their own, and
-- it has room for the frames that come out
abbrev pub record_unfit : Recording → Expected → ℕ → Bool
record_unfit l x ears =
    block_unfit (length l.stamps) 1 (length l.inputs) l.shape.channels l.stride l.frames
    || (not (eqb ears (2 * l.ear_stride)) || ltb l.ear_stride (out_in x (stamps_in l)))

-- 5: "rings speakers x L, weights .. speakers x channels, taps 2 x bank rows x L"
abbrev pub lists_unfit : Recording → ℕ → Bool
lists_unfit l rings =
    not (eqb rings (l.shape.speakers * l.shape.length))
    || (not (eqb (length l.weights) (l.shape.speakers * l.shape.channels))
    || not (eqb (length l.taps) (2 * l.shape.rows * l.shape.length)))

abbrev pub replay_checks : Recording → Expected → State → ℕ → List Check
replay_checks l x t ears =
    2 when misshapen l.shape l.rows
    ∷ 4 when outside l.shape.length 512
    ∷ 5 when (record_unfit l x ears || lists_unfit l (length t.rings))
    ∷ 7 when (has_nonfinite l.weights || has_nonfinite l.taps)
    ∷ 8 when desk_out_of_range t.desk l.shape.length ∷ []

unfoldable pub refusal_in : Recording → Expected → State → ℕ → ℕ
refusal_in l x t ears = first_of (replay_checks l x t ears)

-- ---- the answer, and what the lent rings and ear planes hold

-- what is told of a replay: the number, the five counts, the desk, and what is expected
pub record ReplayTold : Type 0 where
  pub refusal : ℕ
  pub samples : ℕ
  pub unsettled : ℕ
  pub late : ℕ
  pub silent : ℕ
  pub resets : ℕ
  pub desk : Desk
  pub expected : Expected

-- a refused replay: counts of 0, the desk given in, and what was expected
abbrev pub unreplayed : Desk → Expected → Replayed
unreplayed d x = record { samples = 0; unsettled = 0; late = 0; silent = 0; resets = 0; desk = d; expected = x }

abbrev pub told_of : ℕ → Replayed → ReplayTold
told_of n r =
    record {
      refusal = n;
      samples = r.samples;
      unsettled = r.unsettled;
      late = r.late;
      silent = r.silent;
      resets = r.resets;
      desk = r.desk;
      expected = r.expected;
    }

abbrev pub replay_told : Desk → Expected → Result Replayed Refusal → ReplayTold
replay_told d x r = told_of (number_in r) (value_in (unreplayed d x) r)

pub record ReplayOutcome : Type 0 where
  pub answer : ReplayTold
  pub rings : List Float
  pub ears : List Float

-- "A refusal returns its number, counts of 0, .. and the state given in"
abbrev pub refused_replay : ℕ → Desk → Expected → ReplayTold
refused_replay n d x =
    record { refusal = n; samples = 0; unsettled = 0; late = 0; silent = 0; resets = 0; desk = d; expected = x }

-- "lent memory stays the same"
abbrev pub refused : ℕ → Expected → State → List Float → ReplayOutcome
refused n x t ears = record { answer = refused_replay n t.desk x; rings = t.rings; ears = ears }

-- the counts of frames: those of the definition over the recorded stamps; the ears: document 01's sums over the signals
-- of the frames as fed, newest first, and then those that the rings held, whatever these are, up to the first restart;
-- the unsettled count: over the same frames, from the frames to go that were given, none being to go after a restart;
-- the rings and the desk: what the events leave
abbrev pub accepted : Recording → Expected → State → List Float → ReplayOutcome
accepted l x t ears =
    record {
      answer =
          record {
            refusal = 0;
            samples = out_in x (stamps_in l);
            unsettled = unsettled_by (setup_in l) t.desk.to_go [] (events_in l x);
            late = late_in x (stamps_in l);
            silent = silent_in x (stamps_in l);
            resets = resets_in x (stamps_in l);
            desk = (after_events (setup_in l) t (events_in l x)).desk;
            expected = expected_after x (stamps_in l);
          };
      rings = (after_events (setup_in l) t (events_in l x)).rings;
      ears = with_frames ears l.ear_stride 0 (heard_by (setup_in l) (held_in (setup_in l) t) (events_in l x));
    }

unfoldable pub outcome : Recording → Expected → State → List Float → ReplayOutcome
outcome l x t ears = answered (refusal_in l x t (length ears)) (accepted l x t ears) (λ n. refused n x t ears)

-- the rings and the desk that it leaves
abbrev pub replay_state_after : ReplayOutcome → State
replay_state_after o = record { rings = o.rings; desk = o.answer.desk }

-- beside the equation: what stands for a past stands, after an accepted replay, for the frames fed since the last
-- restart, and for that past before them where there was none
pub record ReplayPromise (l : Recording) (x : Expected) (t : State) (ears : List Float) (o : ReplayOutcome) : Type
    0 where
  pub bits : o ≡ outcome l x t ears
  pub words : (past : List (List Float)) → Represents (setup_in l) past t → refusal_in l x t (length ears) ≡ 0
      → Represents (setup_in l) (after_by (setup_in l) past (events_in l x)) (replay_state_after o)
