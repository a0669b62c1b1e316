-- The premises can be met: three drills worked out from the cues to the ears. Four samples at order 1, the first a NaN;
-- two calls of `render` with a refused one between, and two calls of `process`, cut elsewhere, with a refused one
-- between. By computing the definitions. Assumes nothing.
use Rattle.std.specs.Prelude.{◌≡◌, ◌∷◌, ◌*◌}
use Rattle.lists.specs.Prelude.{refl, sym, ap, ◌∙◌, false, List, [], flatten, ℕ, suc-ne-zero, replicate, Float, nan}
use Rattle.lists.specs.Prelude.{inf, lt, le, eq, of_int, add, sub, mul, div, neg, round, size, span, climb, units, odd}
use lib.Ieee as ieee
use Rattle.formats.specs.Floats.{zero_float, one_float, half_float}
use Rattle.numbers.specs.Computed as Numbers
use Rattle.numbers.specs.Computed.{root_of, root_units, whole_root, root_in}
use Rattle.series.specs.Angles.{turned}
use Rattle.angles.specs.Computed.{units as units_of, cut_angle, place, short, times, radian_units, nesting, nest}
use Rattle.angles.specs.Computed.{rounded_units}
use Rattle.angles.specs.Computed.{sine_at, cosine_at, wave_computed}
use Rattle.angles.specs.Limits.{is_inside, refuses_angle}
use Rattle.planes.specs.Sums.{mixed}
use Rattle.numbers.specs.Normalization.{inverse_root_of}
use Rattle.harmonics.specs.Computed.{sin, cos, waves_of, up_to}
use Rattle.harmonics.specs.Drill.{at}
use Rattle.cues.specs.declared.Cue.{Cue}
use Rattle.script.specs.Rendering.{rendered}
use Rattle.script.specs.Stretches as Script
use Rattle.script.proofs.Divided.{stretches}
use Rattle.hrtf_history.specs.Setup.{Setup}
use Rattle.hrtf_history.specs.History.{ear_of, heard as heardAfter}
use Rattle.hrtf_history.specs.Drill.{drill}
use Rattle.hrtf_history.proofs.Filters.{same_filters}
use Rattle.hrtf_rings.proofs.Blocks.{fresh}
use Rattle.hrtf_checks.specs.Call.{BlockCall}
use Rattle.hrtf_checks.specs.Refusals.{refusal_of}
use Rattle.hrtf.specs.Promise.{outcome}
use Rattle.hrtf_runs.specs.Runs.{CallsAlike, fed_all, unsettled_counts}
use Rattle.hrtf_runs.specs.Demand.{Run}
use Rattle.hrtf_runs.proofs.Demand.{run_heard}
use Rattle.hrtf_runs.proofs.Worked.{rested}
use Rattle.drills.specs.Drills.{Drill, encoded, drill_heard, Drilled}

-- ---- the two lists of calls

-- the speaker and the filters of drill table 8, which hears the first of four channels
abbrev pub four : Setup
four = record {
  channels = 4;
  speakers = 1;
  L = 2;
  weights = one_float ∷ zero_float ∷ zero_float ∷ zero_float
      ∷ [];
  taps = drill.taps;
  rows = drill.rows;
}

-- a NaN and a sample; a call of more frames than its stride; and two samples of silence
abbrev renders : Float → List Script.RenderCall
renders x =
    record { frames = 2; stride = 2; input = nan ∷ x ∷ []; out = replicate 8 nan }
    ∷ record { frames = 3; stride = 2; input = one_float ∷ one_float ∷ []; out = replicate 8 nan }
    ∷ record { frames = 2; stride = 3; input = zero_float ∷ zero_float ∷ nan ∷ []; out = replicate 12 nan }
    ∷ []

-- a frame of so many samples, and its planes
abbrev block : Float → ℕ → List Float → BlockCall
block weight n planes =
    record {
      shape = record { channels = 4; speakers = 1; rows = 1; length = 2 };
      frames = n;
      stride = n;
      inputs = planes;
      weights = weight ∷ zero_float ∷ zero_float ∷ zero_float ∷ [];
      rows = drill.rows;
      taps = drill.taps;
      ears = replicate (2 * n) nan;
    }

-- a frame of silence; a call with a NaN for a weight; and a frame of which the first channel and the last are w and the
-- two between are y, with two of silence behind it
abbrev pub silent_call : BlockCall
silent_call = block one_float 1 (replicate 4 zero_float)

abbrev pub refused_call : BlockCall
refused_call = block nan 1 (replicate 4 one_float)

abbrev sounding_call : Float → Float → BlockCall
sounding_call w y = block one_float 3 (w ∷ zero_float ∷ zero_float ∷ y ∷ zero_float ∷ zero_float ∷ y ∷ zero_float
    ∷ zero_float ∷ w ∷ zero_float ∷ zero_float ∷ [])

abbrev plays : Float → Float → List BlockCall
plays w y = silent_call ∷ refused_call ∷ sounding_call w y ∷ []

abbrev pub worked : List Cue → Float → Float → Float → Drill
worked cues x w y =
    record { cues = cues; order = 1; first = 0; renders = renders x; start = fresh four; plays = plays w y }

-- a cue in front from frame 1 on
abbrev pub front : List Cue
front = record { frame = 1; direction = at 0 0 } ∷ []

abbrev silent : List Float
silent = replicate 4 zero_float

-- ---- the run

alike : (w y : Float) → CallsAlike four (fresh four) (plays w y)
unfolding refusal_of outcome flatten mixed Numbers.rounded add mul ieee.sum round size span climb units odd
alike w y = (λ e. same_filters four, (λ e. absurd (suc-ne-zero 6 e), (λ e. same_filters four, tt)))

run : (w y : Float) → Run four (fresh four) (plays w y)
run w y = record {
  desk = record { position = 7; to_go = 7 };
  rings = nan ∷ nan ∷ [];
  reset = rested;
  finite = refl;
  alike = alike w y;
}

-- whether the last call is accepted hangs on the frames to go that the first leaves, so it is computed
fed_is : (w y : Float) → fed_all (fresh four) (plays w y) ≡ silent ∷ (w ∷ y ∷ y ∷ w ∷ []) ∷ silent ∷ silent ∷ []
unfolding refusal_of outcome flatten mixed Numbers.rounded add mul ieee.sum round size span climb units odd
fed_is w y = refl

-- ---- the drills

drilled : (cues : List Cue) (x w y : Float) → encoded (worked cues x w y) ≡ silent ∷ (w ∷ y ∷ y ∷ w ∷ []) ∷ silent
    ∷ silent ∷ [] → Drilled four (worked cues x w y)
drilled cues x w y e =
    record { run = run w y; channels = refl; passed = fed_is w y ∙ sym (stretches cues 1 0 (renders x) ∙ e) }

pub samples_are : (x : Float) → Script.fed_all front 1 0 (renders x) ≡ nan ∷ x ∷ zero_float ∷ zero_float ∷ []
unfolding refuses_angle is_inside lt le eq of_int neg sub add mul round
samples_are x = refl

-- 1.0 in front: the gains are 1, 0, 0, 1
one_rendered : rendered front 1 0 (nan ∷ one_float ∷ zero_float ∷ zero_float ∷ []) ≡ silent
    ∷ (one_float ∷ zero_float ∷ zero_float ∷ one_float ∷ []) ∷ silent ∷ silent ∷ []
unfolding Numbers.rounded refuses_angle is_inside up_to waves_of sin cos lt le eq wave_computed place cut_angle units_of
    turned sine_at
    cosine_at short times radian_units nesting nest rounded_units of_int div neg add sub mul round
one_rendered = refl

-- an infinite sample there is NaN where the gain is 0.0
infinite_rendered : rendered front 1 0 (nan ∷ inf false ∷ zero_float ∷ zero_float ∷ []) ≡ silent
    ∷ (inf false ∷ nan ∷ nan ∷ inf false ∷ []) ∷ silent ∷ silent ∷ []
unfolding Numbers.rounded refuses_angle is_inside up_to waves_of sin cos lt le eq wave_computed place cut_angle units_of
    turned sine_at
    cosine_at short times radian_units nesting nest rounded_units of_int div neg add sub mul round
infinite_rendered = refl

abbrev pub one : Drill
one = worked front one_float one_float zero_float

abbrev pub one_call : BlockCall
one_call = sounding_call one_float zero_float

abbrev pub infinite_call : BlockCall
infinite_call = sounding_call (inf false) nan

abbrev pub infinite : Drill
infinite = worked front (inf false) (inf false) nan

-- the samples of the first, and no cues
abbrev pub unheard : Drill
unheard = worked [] one_float zero_float zero_float

pub one_encoded : encoded one ≡ silent ∷ (one_float ∷ zero_float ∷ zero_float ∷ one_float ∷ []) ∷ silent ∷ silent ∷ []
one_encoded = ap (rendered front 1 0) (samples_are one_float) ∙ one_rendered

pub one_drilled : Drilled four one
one_drilled = drilled front one_float one_float zero_float one_encoded

pub infinite_drilled : Drilled four infinite
infinite_drilled =
    drilled front (inf false) (inf false) nan (ap (rendered front 1 0) (samples_are (inf false)) ∙ infinite_rendered)

pub unheard_drilled : Drilled four unheard
unheard_drilled = drilled [] one_float zero_float zero_float refl

-- ---- what is heard: drill table 8, a frame later; and nothing

pub one_heard : drill_heard one ≡ (zero_float ∷ zero_float ∷ []) ∷ (one_float ∷ zero_float ∷ [])
    ∷ (half_float ∷ one_float ∷ []) ∷ (zero_float ∷ zero_float ∷ []) ∷ []
unfolding mixed ear_of inverse_root_of root_of root_units whole_root root_in Numbers.rounded add mul div ieee.sum round
    size span
    climb units odd of_int
one_heard = run_heard four (fresh four) (plays one_float zero_float) (run one_float zero_float)
    ∙ ap (heardAfter four []) (fed_is one_float zero_float)

pub unheard_heard : drill_heard unheard ≡ replicate 4 (zero_float ∷ zero_float ∷ [])
unfolding mixed ear_of inverse_root_of root_of root_units whole_root root_in Numbers.rounded add mul div ieee.sum round
    size span
    climb units odd of_int
unheard_heard = run_heard four (fresh four) (plays zero_float zero_float) (run zero_float zero_float)
    ∙ ap (heardAfter four []) (fed_is zero_float zero_float)

-- the infinite sample: NaN for as long as the filters are, and then 0.0
infinite_heard : drill_heard infinite ≡ (zero_float ∷ zero_float ∷ []) ∷ (nan ∷ nan ∷ []) ∷ (nan ∷ nan ∷ [])
    ∷ (zero_float ∷ zero_float ∷ []) ∷ []
unfolding mixed ear_of inverse_root_of root_of root_units whole_root root_in Numbers.rounded add mul div ieee.sum round
    size span
    climb units odd of_int
infinite_heard = run_heard four (fresh four) (plays (inf false) nan) (run (inf false) nan)
    ∙ ap (heardAfter four []) (fed_is (inf false) nan)

-- the NaN before the first cue leaves every frame settled; the infinite sample leaves two unsettled
one_counts : unsettled_counts (fresh four) one.plays ≡ 0 ∷ 0 ∷ 0 ∷ []
unfolding refusal_of outcome flatten mixed Numbers.rounded add mul ieee.sum round size span climb units odd
one_counts = refl

pub infinite_counts : unsettled_counts (fresh four) infinite.plays ≡ 0 ∷ 0 ∷ 2 ∷ []
unfolding refusal_of outcome flatten mixed Numbers.rounded add mul ieee.sum round size span climb units odd
infinite_counts = refl
