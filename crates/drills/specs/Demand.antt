-- Demand 3 on the frames after encoding, in the order of its words (`hrtf_runs`, specs/Demand.antt); it is shown in
-- proofs/Demand.antt. Document 02, E1: "Demand 3 reads on the frames after encoding." Definitions only.
use Rattle.std.specs.Prelude.{◌+◌, ◌<◌, ◌≡◌}
use Rattle.lists.specs.Prelude.{ℕ, suc, Bool, true, false, List, [], length, get_or, Float, nan, inf}
use Rattle.formats.specs.Floats.{zero_float}
use Rattle.channel.specs.Orders.{channels_of_order}
use Rattle.channel.specs.declared.Layout.TheVariants.{Mono}
use Rattle.harmonics.specs.declared.Direction.{Direction}
use Rattle.panner.specs.declared.Command.TheVariants.{Ambisonic}
use Rattle.panner.specs.Commands.{gains_of_command}
use Rattle.panner.specs.Blocks.{narrowed_all}
use Rattle.cues.specs.Cues.{nobody, speaking, voice_at}
use Rattle.hrtf_history.specs.Setup.{Setup}
use Rattle.hrtf_history.specs.Signals.{damaged}
use Rattle.hrtf_history.specs.History.{ear_samples, upto}
use Rattle.hrtf_runs.specs.Runs.{end, unsettled_counts, sum_of_counts}
use Rattle.hrtf_runs.specs.Demand.{Run, frame_ago, damaged_among, damaged_counts}
use Rattle.drills.specs.Drills.{Drill, drill_samples, encoded, fed, drill_heard, Drilled, planes_left, planes_taken}

-- the gains that are played at a direction
abbrev pub gains_at : ℕ → Direction → List Float
gains_at order v = narrowed_all (gains_of_command (Ambisonic v order) Mono)

-- frame n of one drill and frame m of another, and the L-1 frames before each, agree as they are after encoding
abbrev pub DrillFramesAgree : Setup → Drill → ℕ → Drill → ℕ → Type 0
DrillFramesAgree u d n e m = (k : ℕ) → k < u.L → frame_ago u (encoded d) n k ≡ frame_ago u (encoded e) m k

-- two drills sound the same, count the same in all, and leave the same rings and desk
pub record SameDrill (d e : Drill) : Type 0 where
  pub sounds : drill_heard d ≡ drill_heard e
  pub counts : sum_of_counts (unsettled_counts d.start d.plays) ≡ sum_of_counts (unsettled_counts e.start e.plays)
  pub leaves : end d.start d.plays ≡ end e.start e.plays

-- they encode the same samples at the same cues and order, from the same frame number on
pub record SameScript (d e : Drill) : Type 0 where
  pub cues : d.cues ≡ e.cues
  pub order : d.order ≡ e.order
  pub first : d.first ≡ e.first
  pub samples : drill_samples d ≡ drill_samples e

pub record DrillDemand3 : Type 0 where
  -- planes lent to the convolver as `render` left them, one for one, feed it the frames that `render` put
  pub handed : (u : Setup) (d : Drill) → Run u d.start d.plays → u.channels ≡ channels_of_order d.order
      → planes_taken d ≡ planes_left d → Drilled u d
  -- "the frames after encoding" are those that the convolver is fed
  pub after_encoding : (u : Setup) (d : Drill) → Drilled u d → fed d ≡ encoded d
  -- every frame that is encoded is played
  pub all : (u : Setup) (d : Drill) → Drilled u d → length (drill_heard d) ≡ length (encoded d)
  -- (a) "both ear samples at n are document 01's sums"
  pub sums : (u : Setup) (d : Drill) → Drilled u d → (n : ℕ) → n < length (encoded d)
      → get_or (drill_heard d) n [] ≡ ear_samples u (upto u (encoded d) n)
  -- (b) "If they agree on frame n and the L-1 frames before it", they are "equal in both runs, whatever NaN or noise
  -- came earlier": whatever the cues, the frame numbers and the samples are
  pub equal : (u : Setup) (d e : Drill) → Drilled u d → Drilled u e → (n m : ℕ) → n < length (encoded d)
      → m < length (encoded e) → DrillFramesAgree u d n e m → get_or (drill_heard d) n [] ≡ get_or (drill_heard e) m []
  -- and they are both unsettled there, or both settled
  pub settled : (u : Setup) (d e : Drill) → Drilled u d → Drilled u e → (n m : ℕ) → DrillFramesAgree u d n e m
      → damaged_among u (encoded d) n ≡ damaged_among u (encoded e) m
  -- (c) "Each call's unsettled count is exactly the number of its frames with a damaged frame among those L"
  pub counts : (u : Setup) (d : Drill) → Drilled u d → unsettled_counts d.start d.plays ≡ damaged_counts u
      (encoded d) 0 d.start d.plays
  -- "before the first cue every output is 0.0": where nobody speaks no frame is damaged, whatever the sample; and until
  -- somebody has spoken every frame is settled
  pub silent : (u : Setup) (d : Drill) → Drilled u d → (n : ℕ) → n < length (encoded d)
      → voice_at d.cues (d.first + n) ≡ nobody → damaged u (get_or (encoded d) n []) ≡ false
  pub quiet : (u : Setup) (d : Drill) → Drilled u d → (n : ℕ) → n < length (encoded d)
      → ((j : ℕ) → j < suc n → voice_at d.cues (d.first + j) ≡ nobody) → damaged_among u (encoded d) n ≡ false
  -- from the first cue on a NaN sample is damage, and so is an infinite one where a channel's gain is 0.0: their
  -- product is NaN
  pub nan_damages : (u : Setup) (d : Drill) → Drilled u d → (n : ℕ) → n < length (encoded d) → (v : Direction)
      → voice_at d.cues (d.first + n) ≡ speaking v
      → get_or (drill_samples d) n nan ≡ nan → damaged u (get_or (encoded d) n []) ≡ true
  pub infinite_damages : (u : Setup) (d : Drill) → Drilled u d → (n : ℕ) → n < length (encoded d) → (v : Direction)
      → voice_at d.cues (d.first + n) ≡ speaking v
      → (s : Bool) → get_or (drill_samples d) n nan ≡ inf s → (p : ℕ) → p < channels_of_order d.order
      → get_or (gains_at d.order v) p nan ≡ zero_float → damaged u (get_or (encoded d) n []) ≡ true
  -- (d) "each cut into blocks anywhere": the same frames after encoding, however the calls of both kinds are cut, and
  -- refused calls where they may be
  pub cut : (u : Setup) (d e : Drill) → Drilled u d → Drilled u e → encoded d ≡ encoded e → SameDrill d e
  -- so the same script gives the same
  pub divided : (u : Setup) (d e : Drill) → Drilled u d → Drilled u e → SameScript d e → SameDrill d e
