-- (e) The premises can be met: drill table 8 and 9 played from a reset in four calls, the second refused and the third
-- of no frames. Assumes nothing.
use Rattle.std.specs.Prelude.{◌≡◌, ◌∷◌, ◌*◌}
use Rattle.lists.specs.Prelude.{refl, ap, ◌∙◌, List, [], flatten, ℕ, suc-ne-zero, arith, replicate, Float, nan, add}
use Rattle.lists.specs.Prelude.{mul, round, size, span, climb, units, odd}
use lib.Ieee as ieee
use Rattle.formats.specs.Floats.{zero_float, one_float, half_float}
use Rattle.numbers.specs.Computed.{rounded}
use Rattle.planes.specs.Sums.{mixed}
use Rattle.hrtf_desk.specs.Numbers.{zeroed}
use Rattle.hrtf_history.proofs.Filters.{same_filters}
use Rattle.hrtf_history.specs.History.{heard}
use Rattle.hrtf_history.specs.Drill.{drill, samples}
use Rattle.hrtf_history.proofs.Drill.{drill_8, drill_9_heard}
use Rattle.hrtf_rings.specs.Held.{Represents}
use Rattle.hrtf_rings.proofs.Blocks.{fresh, fresh_represents}
use Rattle.hrtf_checks.specs.Call.{BlockCall}
use Rattle.hrtf_checks.specs.Refusals.{refusal_of}
use Rattle.hrtf.specs.Promise.{outcome}
use Rattle.hrtf.specs.Reset.{reset_refusal, ResetPromise}
use Rattle.hrtf.proofs.Meets.{reset_accepted}
use Rattle.hrtf_runs.specs.Runs.{CallsAlike, fed_all, sounded_all, unsettled_counts}
use Rattle.hrtf_runs.specs.Demand.{Run}
use Rattle.hrtf_runs.proofs.Demand.{run_heard}

-- a call with the drill's filters: so many samples, and a weight
abbrev pub block : ℕ → List Float → Float → BlockCall
block n xs weight =
    record {
      shape = record { channels = 1; speakers = 1; rows = 1; length = 2 };
      frames = n;
      stride = n;
      inputs = xs;
      weights = weight ∷ [];
      rows = drill.rows;
      taps = drill.taps;
      ears = replicate (2 * n) zero_float;
    }

-- a sample, a call with a NaN for a weight, no frame at all, and two samples of silence
abbrev calls : Float → List BlockCall
calls x = block 1 (x ∷ []) one_float ∷ block 1 (one_float ∷ []) nan ∷ block 0 [] one_float
    ∷ block 2 (zero_float ∷ zero_float ∷ []) one_float ∷ []

-- what a reset leaves
pub starts : Represents drill [] (fresh drill)
starts = fresh_represents drill (omega arith)

alike : (x : Float) → CallsAlike drill (fresh drill) (calls x)
unfolding refusal_of outcome flatten
alike x = (
  λ e. same_filters drill,
  (λ e. absurd (suc-ne-zero 6 e), (λ e. same_filters drill, (λ e. same_filters drill, tt))),
)

-- of any desk and any two cells
pub rested : ResetPromise (record { position = 7; to_go = 7 }) 1 2 (nan ∷ nan ∷ [])
    (record { answer = record { refusal = 0; desk = zeroed }; rings = zero_float ∷ zero_float ∷ [] })
unfolding reset_refusal
rested = reset_accepted (record { position = 7; to_go = 7 }) 1 2 (nan ∷ nan ∷ []) (zero_float ∷ zero_float ∷ []) refl
    refl

run : (x : Float) → Run drill (fresh drill) (calls x)
run x = record {
  desk = record { position = 7; to_go = 7 };
  rings = nan ∷ nan ∷ [];
  reset = rested;
  finite = refl;
  alike = alike x;
}

-- whether the third and fourth call are accepted hangs on the frames to go that the first leaves, so each is computed
fed_8 : fed_all (fresh drill) (calls one_float) ≡ samples one_float
unfolding refusal_of outcome flatten mixed rounded add mul ieee.sum round size span climb units odd
fed_8 = refl

fed_9 : fed_all (fresh drill) (calls nan) ≡ samples nan
unfolding refusal_of outcome flatten mixed rounded add mul ieee.sum round size span climb units odd
fed_9 = refl

-- drill table 8
played_8 : sounded_all (fresh drill) (calls one_float) ≡ (one_float ∷ zero_float ∷ []) ∷ (half_float ∷ one_float ∷ [])
    ∷ (zero_float ∷ zero_float ∷ []) ∷ []
played_8 = run_heard drill (fresh drill) (calls one_float) (run one_float) ∙ ap (heard drill []) fed_8 ∙ drill_8

-- drill table 9: two are unsettled, then 0 and 0
played_9 : sounded_all (fresh drill) (calls nan) ≡ (nan ∷ nan ∷ []) ∷ (nan ∷ nan ∷ []) ∷ (zero_float ∷ zero_float ∷ [])
    ∷ []
played_9 = run_heard drill (fresh drill) (calls nan) (run nan) ∙ ap (heard drill []) fed_9 ∙ drill_9_heard

counts_9 : unsettled_counts (fresh drill) (calls nan) ≡ 1 ∷ 0 ∷ 0 ∷ 1 ∷ []
unfolding refusal_of outcome flatten mixed rounded add mul ieee.sum round size span climb units odd
counts_9 = refl
