-- The worked recording: it rolls over, has a damaged frame, two missing ones, a late one and a gap that resets. By
-- computing the definitions; whoever meets the promise answers this. And the premises of demand 3 can be met: the
-- recording from a reset in four calls, the second refused and the third of no frames. Assumes nothing.
use Rattle.std.specs.Prelude.{◌≡◌, ◌∷◌, ◌*◌}
use Rattle.lists.specs.Prelude.{refl, sym, ap, ◌∙◌, false, List, [], flatten, ℕ, suc-ne-zero, pos, replicate, Float}
use Rattle.lists.specs.Prelude.{nan, fin, add, mul, div, round, size, span, climb, units, odd, of_int}
use lib.Ieee as ieee
use Rattle.formats.specs.Floats.{zero_float, one_float, float}
use Rattle.numbers.specs.Computed.{rounded, root_of, root_units, whole_root, root_in}
use Rattle.planes.specs.Sums.{mixed}
use Rattle.numbers.specs.Normalization.{inverse_root_of}
use Rattle.hrtf_desk.specs.Numbers.{zeroed}
use Rattle.hrtf_history.specs.History.{ear_of}
use Rattle.hrtf_history.specs.Drill.{drill}
use Rattle.hrtf_history.proofs.Filters.{same_filters}
use Rattle.hrtf_rings.proofs.Blocks.{fresh}
use Rattle.std.specs.Prelude.{None, Some}
use Rattle.stamps.specs.Arrivals.{coming_by}
use Rattle.replay.specs.Recording.{Recording, events_in}
use Rattle.replay.specs.Heard.{heard_by, unsettled_by}
use Rattle.replay.specs.Promise.{refusal_in, ReplayOutcome, outcome, ReplayPromise}
use Rattle.replay.proofs.Hearing.{played_by_heard, counted_by_told}
use Rattle.replay.proofs.Meets.{computed, outcome_computed, ears_read}
use Rattle.hrtf_runs.proofs.Worked.{starts, rested}
use Rattle.replay.specs.Promise.{ReplayTold}
use Rattle.planes.specs.Planes.{frames_of}
use Rattle.replays.specs.Calls.{ReplayCall, Place, ReplayCallsAlike, taken_all, counts}
use Rattle.replays.specs.Demand.{Replay, SameReplay}
use Rattle.replays.proofs.Demand.{replay_demand_3}

-- a line with the drill's filters, one channel and one speaker, L = 2: so many frames, and so much room in the ear
-- planes
abbrev pub line : ℕ → List ℕ → List Float → ℕ → Recording
line frames stamps samples room =
    record {
      shape = record { channels = 1; speakers = 1; rows = 1; length = 2 };
      frames = frames;
      stride = frames;
      stamps = stamps;
      inputs = samples;
      weights = drill.weights;
      rows = drill.rows;
      taps = drill.taps;
      ear_stride = room;
    }

abbrev pub whole : ℕ → Recording
whole room =
    line 8 (4294967294 ∷ 4294967295 ∷ 0 ∷ 3 ∷ 2 ∷ 4 ∷ 5000 ∷ 5001 ∷ [])
    (one_float ∷ nan ∷ zero_float ∷ float (pos 2) ∷ float (pos 9) ∷ float (pos 4) ∷ float (pos 8) ∷ one_float ∷ []) room

abbrev pub planes : ℕ → List Float
planes room = replicate (2 * room) zero_float

abbrev pub pair : Float → Float → List Float
pair l r = l ∷ r ∷ []

-- nine frames come out
abbrev pub table : List (List Float)
table =
    pair one_float zero_float ∷ pair nan nan ∷ pair nan nan ∷ pair zero_float zero_float ∷ pair zero_float zero_float
    ∷ pair (float (pos 2)) zero_float ∷ pair (float (pos 5)) (float (pos 2)) ∷ pair (float (pos 8)) zero_float
    ∷ pair (float (pos 5)) (float (pos 8)) ∷ []

-- room for nine is accepted, and for eight is not
pub nine_fit : refusal_in (whole 9) None (fresh drill) 18 ≡ 0
unfolding refusal_in coming_by of_int
nine_fit = refl

pub eight_short : refusal_in (whole 8) None (fresh drill) 16 ≡ 5
unfolding refusal_in coming_by of_int
eight_short = refl

-- the table with its numbers computed: two sides that both compute are compared call by call, which takes too long
abbrev numbers : List (List Float)
numbers =
    pair one_float zero_float ∷ pair nan nan ∷ pair nan nan ∷ pair zero_float zero_float ∷ pair zero_float zero_float
    ∷ pair (fin false 1 (pos 1)) zero_float ∷ pair (fin false 5 (pos 0)) (fin false 1 (pos 1))
    ∷ pair (fin false 1 (pos 3)) zero_float ∷ pair (fin false 5 (pos 0)) (fin false 1 (pos 3)) ∷ []

table_is : table ≡ numbers
unfolding round size span climb units odd of_int
table_is = refl

numbers_heard : heard_by drill [] (events_in (whole 9) None) ≡ numbers
unfolding coming_by mixed ear_of inverse_root_of root_of root_units whole_root root_in rounded add mul div ieee.sum
    round size
    span climb units odd of_int
numbers_heard = refl

heard_is : heard_by drill [] (events_in (whole 9) None) ≡ table
heard_is = numbers_heard ∙ sym table_is

-- and what the cells then hold
cells_left : (computed (whole 9) None (fresh drill) (planes 9)).rings ≡ fin false 1 (pos 3) ∷ one_float ∷ []
unfolding coming_by mixed rounded add mul ieee.sum round size span climb units odd of_int
cells_left = refl

eight_is : float (pos 8) ≡ fin false 1 (pos 3)
unfolding round size span climb units odd of_int
eight_is = refl

unsettled_is : unsettled_by drill 0 [] (events_in (whole 9) None) ≡ 2
unfolding coming_by mixed rounded add mul ieee.sum round size span climb units odd of_int
unsettled_is = refl

-- ---- so whoever meets the promise answers this

module _ (o : ReplayOutcome) (p : ReplayPromise (whole 9) None (fresh drill) (planes 9) o) where
  pub sounds : frames_of o.ears 9 2 o.answer.samples ≡ table
  sounds =
      ap (λ (q : ReplayOutcome). frames_of q.ears 9 2 q.answer.samples) p.bits
      ∙ ears_read (whole 9) None (fresh drill) (planes 9) nine_fit
      ∙ played_by_heard drill [] (fresh drill) starts (events_in (whole 9) None)
      ∙ heard_is

  pub unsettled : o.answer.unsettled ≡ 2
  unsettled =
      ap (λ (q : ReplayOutcome). q.answer.unsettled)
      (p.bits ∙ outcome_computed (whole 9) None (fresh drill) (planes 9) nine_fit)
      ∙ counted_by_told drill [] (fresh drill) starts (events_in (whole 9) None)
      ∙ unsettled_is

  -- accepted; both cells hold what was played since the reset, the newest last, and nothing is to go
  pub left : (o.answer.refusal ≡ 0) × ((o.rings ≡ float (pos 8) ∷ one_float ∷ []) × (o.answer.desk ≡ zeroed))
  unfolding coming_by mixed rounded add mul ieee.sum round size span climb units odd of_int
  left =
      let made = p.bits ∙ outcome_computed (whole 9) None (fresh drill) (planes 9) nine_fit in (
        ap (λ (q : ReplayOutcome). q.answer.refusal) made,
        (
          ap (λ (q : ReplayOutcome). q.rings) made ∙ cells_left
              ∙ ap (λ (x : Float). x ∷ one_float ∷ []) (sym eight_is),
          ap (λ (q : ReplayOutcome). q.answer.desk) made,
        ),
      )

  pub told : (o.answer.samples ≡ 9)
      × ((o.answer.late ≡ 1)
      × ((o.answer.silent ≡ 2) × ((o.answer.resets ≡ 1) × (o.answer.expected ≡ Some 5002))))
  unfolding coming_by
  told =
      let made = p.bits ∙ outcome_computed (whole 9) None (fresh drill) (planes 9) nine_fit in (
        ap (λ (q : ReplayOutcome). q.answer.samples) made,
        (
          ap (λ (q : ReplayOutcome). q.answer.late) made,
          (
            ap (λ (q : ReplayOutcome). q.answer.silent) made,
            (ap (λ (q : ReplayOutcome). q.answer.resets) made, ap (λ (q : ReplayOutcome). q.answer.expected) made),
          ),
        ),
      )

-- ---- the recording from a reset in four calls: two frames, the second damaged; planes of another length than they
-- should have; no frame; and the other six

abbrev pub place : Place
place = record { expected = None; state = fresh drill }

abbrev pub calls : List ReplayCall
calls =
    record { line = line 2 (4294967294 ∷ 4294967295 ∷ []) (one_float ∷ nan ∷ []) 2; ears = planes 2 }
    ∷ record { line = whole 8; ears = planes 7 }
    ∷ record { line = line 0 [] [] 0; ears = [] }
    ∷ record {
      line = line 6 (0 ∷ 3 ∷ 2 ∷ 4 ∷ 5000 ∷ 5001 ∷ [])
          (zero_float ∷ float (pos 2) ∷ float (pos 9) ∷ float (pos 4) ∷ float (pos 8) ∷ one_float ∷ []) 7;
      ears = planes 7;
    } ∷ []

abbrev once : List ReplayCall
once = record { line = whole 9; ears = planes 9 } ∷ []

alike : ReplayCallsAlike drill place calls
unfolding refusal_in of_int
alike = (
  λ e. same_filters drill,
  (λ e. absurd (suc-ne-zero 4 e), (λ e. same_filters drill, (λ e. same_filters drill, tt))),
)

pub replay : Replay drill place calls
replay = record {
  desk = record { position = 7; to_go = 7 };
  rings = nan ∷ nan ∷ [];
  reset = rested;
  finite = refl;
  alike = alike;
}

-- whether the third and fourth call are accepted hangs on the frames to go that the first leaves, so each is computed
same_list : taken_all place calls ≡ taken_all place once
unfolding refusal_in outcome coming_by flatten mixed rounded add mul ieee.sum round size span climb units odd of_int
same_list = refl

in_four : SameReplay place calls once
in_four = replay_demand_3.cut drill place calls once alike (λ e. same_filters drill, tt) same_list

-- the second and the third call count nothing and leave the frame to go, so that the first frame of the fourth is
-- unsettled
each_unsettled : counts (λ (r : ReplayTold). r.unsettled) place calls ≡ 1 ∷ 0 ∷ 0 ∷ 1 ∷ []
unfolding refusal_in outcome coming_by flatten mixed rounded add mul ieee.sum round size span climb units odd of_int
each_unsettled = refl

-- ---- stamp 0 with a NaN, then 3: four frames come out, and the silent one behind the NaN is unsettled with it

behind_a_nan : unsettled_by drill 0 [] (events_in (line 2 (0 ∷ 3 ∷ []) (nan ∷ one_float ∷ []) 4) None) ≡ 2
unfolding coming_by mixed rounded add mul ieee.sum round size span climb units odd of_int
behind_a_nan = refl
