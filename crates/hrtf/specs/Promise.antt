-- Everything that a call of `process` hands back. Document 01: "An accepted block plays every frame it is given and
-- returns that number as its sample count. Zero frames is accepted and changes nothing. Frames of a plane beyond the
-- count are unchanged"; "A refusal returns its number, counts of 0, .. and the state given in; lent memory stays the
-- same." Definitions only.
use Rattle.std.specs.Prelude.{◌≡◌, Result}
use Rattle.lists.specs.Prelude.{ℕ, List, [], Float}
use Rattle.refusals.specs.Refusals.{answered}
use Rattle.refusals.specs.Numbers.{number_in, value_in}
use Rattle.refusals.specs.declared.Refusal.{Refusal}
use Rattle.planes.specs.Planes.{with_frames}
use Rattle.hrtf_desk.specs.declared.Desk.{Desk}
use Rattle.hrtf_history.specs.History.{heard, unsettled_in, after}
use Rattle.hrtf_rings.specs.State.{State}
use Rattle.hrtf_rings.specs.Held.{held_in, after_frames, Represents}
use Rattle.hrtf.specs.declared.BlockAnswer.{BlockAnswer}
use Rattle.hrtf_checks.specs.Call.{BlockCall, setup, frames_in}
use Rattle.hrtf_checks.specs.Refusals.{refusal_of}

-- what is told of a block: the number, how many frames were played and how many of them are unsettled, and the desk
pub record BlockTold : Type 0 where
  pub refusal : ℕ
  pub samples : ℕ
  pub unsettled : ℕ
  pub desk : Desk

-- a refused block: counts of 0, and the desk given in
abbrev pub unplayed : Desk → BlockAnswer
unplayed d = record { samples = 0; unsettled = 0; desk = d }

abbrev pub block_told : Desk → Result BlockAnswer Refusal → BlockTold
block_told d r =
    record {
      refusal = number_in r;
      samples = (value_in (unplayed d) r).samples;
      unsettled = (value_in (unplayed d) r).unsettled;
      desk = (value_in (unplayed d) r).desk;
    }

-- the answer, and what the lent rings and ear planes hold
pub record BlockOutcome : Type 0 where
  pub answer : BlockTold
  pub rings : List Float
  pub ears : List Float

abbrev pub refused : ℕ → BlockCall → State → BlockOutcome
refused n c t = record {
  answer = record { refusal = n; samples = 0; unsettled = 0; desk = t.desk };
  rings = t.rings;
  ears = c.ears;
}

-- the count: those of the call's frames that have damage among its last L, or lie within the frames to go that were
-- given; the rings and the desk: what its frames leave; the ears: document 01's sums over the call's signals up to each
-- frame, newest first, and then those that the rings held, whatever these are
abbrev pub accepted : BlockCall → State → BlockOutcome
accepted c t =
    record {
      answer = record {
        refusal = 0;
        samples = c.frames;
        unsettled = unsettled_in (setup c) t.desk.to_go []
            (frames_in c);
        desk = (after_frames (setup c) t (frames_in c)).desk;
      };
      rings = (after_frames (setup c) t (frames_in c)).rings;
      ears = with_frames c.ears c.stride 0 (heard (setup c) (held_in (setup c) t) (frames_in c));
    }

abbrev pub outcome_by : ℕ → BlockCall → State → BlockOutcome
outcome_by n c t = answered n (accepted c t) (λ k. refused k c t)

unfoldable pub outcome : BlockCall → State → BlockOutcome
outcome c t = outcome_by (refusal_of c t) c t

-- the rings and the desk that it leaves
abbrev pub state_after : BlockOutcome → State
state_after o = record { rings = o.rings; desk = o.answer.desk }

-- beside the equation: what stands for a past stands, after an accepted call, for that past with the call's frames
pub record ProcessPromise (c : BlockCall) (t : State) (o : BlockOutcome) : Type 0 where
  pub bits : o ≡ outcome c t
  pub words : (past : List (List Float)) → Represents (setup c) past t → refusal_of c t ≡ 0
      → Represents (setup c) (after (setup c) past (frames_in c)) (state_after o)
