-- A worked drill: order 1, a cue at frame 2 in front and one at frame 5 on the left, eight frames from 0 on. Each
-- output by its bits, in one call, in two, and as calls of the panner between the cues; the third order's gains; and
-- the numbers of calls that are refused. Assumes nothing.
use Rattle.std.specs.Prelude.{◌≡◌, ◌∷◌, ◌++◌, ◌-◌, ◌^◌}
use Rattle.lists.specs.Prelude.{refl, sym, ap, ◌∙◌, true, false, List, [], map, ℕ, zero, suc, pos, replicate, Float}
use Rattle.lists.specs.Prelude.{nan, inf, fin, binary32, of_bits, lt, le, eq, of_int, add, sub, mul, div, neg, round}
use Rattle.formats.specs.Floats.{zero_float, one_float, minus_one_float, half_float}
use Rattle.numbers.specs.Computed as Numbers
use Rattle.series.specs.Angles.{turned}
use Rattle.angles.specs.Computed.{units as units_of, cut_angle, place, short, times, radian_units, nesting, nest}
use Rattle.angles.specs.Computed.{rounded_units}
use Rattle.angles.specs.Computed.{sine_at, cosine_at, wave_computed}
use Rattle.angles.specs.Limits.{is_inside, refuses_angle}
use Rattle.channel.specs.declared.Layout.TheVariants.{Mono, Surround51}
use Rattle.harmonics.specs.Computed.{sin, cos, waves_of, up_to}
use Rattle.harmonics.specs.Drill.{at}
use Rattle.harmonics.specs.declared.Direction.{Direction}
use Rattle.panner.specs.declared.Command.TheVariants.{Ambisonic}
use Rattle.panner.specs.Commands.{gains_of_command}
use Rattle.panner.specs.Blocks.{narrowed_all}
use Rattle.cues.specs.declared.Cue.{Cue}
use Rattle.script.specs.Rendering.{Stretch, refusal_of, rendered}
use Rattle.script.specs.Stretches.{RenderCall, fed_all, sounded_all, Part, unspoken, separate, Cut, sounded_parts}
use Rattle.script.proofs.Divided.{stretches}
use Rattle.script.proofs.Between.{separate_calls}

abbrev pub cue : ℕ → Direction → Cue
cue f d = record { frame = f; direction = d }

abbrev pub cues : List Cue
cues = cue 2 (at 0 0) ∷ cue 5 (at 90 0) ∷ []

-- ---- the gains that are played
silence : ℕ → List Float
silence n = replicate n zero_float

front : narrowed_all (gains_of_command (Ambisonic (at 0 0) 1) Mono) ≡ one_float ∷ zero_float ∷ zero_float ∷ one_float
    ∷ silence 12
unfolding silence Numbers.rounded refuses_angle is_inside up_to waves_of sin cos lt le eq wave_computed place cut_angle
    units_of turned
    sine_at cosine_at short times radian_units nesting nest rounded_units of_int div neg add sub mul round
front = refl

left : narrowed_all (gains_of_command (Ambisonic (at 90 0) 1) Mono) ≡ one_float ∷ one_float ∷ zero_float ∷ zero_float
    ∷ silence 12
unfolding silence Numbers.rounded refuses_angle is_inside up_to waves_of sin cos lt le eq wave_computed place cut_angle
    units_of turned
    sine_at cosine_at short times radian_units nesting nest rounded_units of_int div neg add sub mul round
left = refl

-- ---- the frames
abbrev minus_zero : Float
minus_zero = fin true 0 (pos 0)

abbrev minus_two : Float
minus_two = fin true 1 (pos 1)

abbrev pub four : Float
four = fin false 1 (pos 2)

abbrev pub samples : List Float
samples = nan ∷ minus_one_float ∷ one_float ∷ minus_two ∷ half_float ∷ four ∷ minus_zero ∷ inf false ∷ []

-- a frame of four planes
abbrev quad : Float → Float → Float → Float → List Float
quad w y z x = w ∷ y ∷ z ∷ x ∷ []

-- 0.0, not -0.0 and no NaN, before the first cue; then the front, and from frame 5 on the left
abbrev expected : List (List Float)
expected =
    quad zero_float zero_float zero_float zero_float
    ∷ quad zero_float zero_float zero_float zero_float
    ∷ quad one_float zero_float zero_float one_float
    ∷ quad minus_two minus_zero minus_zero minus_two
    ∷ quad half_float zero_float zero_float half_float
    ∷ quad four four zero_float zero_float
    ∷ quad minus_zero minus_zero minus_zero minus_zero
    ∷ quad (inf false) (inf false) nan nan
    ∷ []

pub worked : rendered cues 1 0 samples ≡ expected
unfolding Numbers.rounded refuses_angle is_inside up_to waves_of sin cos lt le eq wave_computed place cut_angle units_of
    turned sine_at
    cosine_at short times radian_units nesting nest rounded_units of_int div neg add sub mul round
worked = refl

-- ---- in one call
abbrev in_one : List RenderCall
in_one = record { frames = 8; stride = 8; input = samples; out = replicate 32 nan } ∷ []

one_fed : fed_all cues 1 0 in_one ≡ samples
unfolding refuses_angle is_inside lt le eq of_int neg sub add mul round
one_fed = refl

pub worked_in_one : sounded_all cues 1 0 in_one ≡ expected
worked_in_one = stretches cues 1 0 in_one ∙ ap (rendered cues 1 0) one_fed ∙ worked

-- ---- in two calls: three frames, and then five
abbrev in_two : List RenderCall
in_two =
    record { frames = 3; stride = 3; input = nan ∷ minus_one_float ∷ one_float ∷ []; out = replicate 12 nan }
    ∷ record {
      frames = 5;
      stride = 6;
      input = minus_two ∷ half_float ∷ four ∷ minus_zero ∷ inf false ∷ one_float
          ∷ [];
      out = replicate 24 nan;
    }
    ∷ []

both_fed : fed_all cues 1 0 in_two ≡ samples
unfolding refuses_angle is_inside lt le eq of_int neg sub add mul round
both_fed = refl

pub worked_in_two : sounded_all cues 1 0 in_two ≡ expected
worked_in_two = stretches cues 1 0 in_two ∙ ap (rendered cues 1 0) both_fed ∙ worked

-- ---- as separate calls: nobody for two frames, then a call of the panner for each cue, beside other layouts and at
-- other strides
abbrev parts : List Part
parts =
    unspoken (nan ∷ minus_one_float ∷ [])
    ∷ separate (record {
      direction = at 0 0;
      layout = Mono;
      frames = 3;
      stride = 3;
      input = one_float ∷ minus_two
          ∷ half_float ∷ [];
      out = replicate 12 nan;
    })
    ∷ separate (record {
      direction = at 90 0;
      layout = Surround51;
      frames = 3;
      stride = 4;
      input = four ∷ minus_zero
          ∷ inf false ∷ nan ∷ [];
      out = replicate 16 nan;
    })
    ∷ []

cut_at_the_cues : Cut 1 cues 0 parts
unfolding refuses_angle is_inside lt le eq of_int neg sub add mul round
cut_at_the_cues = (tt, (refl, (refl, tt)), (refl, (refl, (refl, (refl, tt))), (refl, (refl, (refl, (refl, tt))), tt)))

pub worked_apart : sounded_parts 1 parts ≡ expected
worked_apart = sym (separate_calls cues 1 0 parts cut_at_the_cues) ∙ worked

-- ---- refusals: the lengths are those of planes that fit, but where it is said
abbrev pub asked : ℕ → ℕ → Stretch
asked first frames = record { order = 1; first = first; frames = frames; stride = frames }

-- cues at the frames f, f + 1, .., and some that are all at f
abbrev rising : ℕ → ℕ → List Cue
rising f zero = []
rising f (suc n) = cue f (at 0 0) ∷ rising (suc f) n

abbrev pub level : ℕ → ℕ → List Cue
level f n = replicate n (cue f (at 0 0))

abbrev pub wrong : Cue
wrong = cue 1000 (at 181 0)

pub equal_frames : refusal_of (asked 0 8) (level 2 2) 8 32 ≡ 11
unfolding refuses_angle is_inside lt le eq of_int neg sub add mul round
equal_frames = refl

cues_256 : refusal_of (asked 0 8) (rising 0 256) 8 32 ≡ 0
unfolding refuses_angle is_inside lt le eq of_int neg sub add mul round
cues_256 = refl

cues_257 : refusal_of (asked 0 8) (rising 0 257) 8 32 ≡ 12
unfolding refuses_angle is_inside lt le eq of_int neg sub add mul round
cues_257 = refl

-- 5 and 6 before 11
level_4097 : refusal_of (asked 0 4097) (level 2 2) 4097 16388 ≡ 6
unfolding refuses_angle is_inside lt le eq of_int neg sub add mul round
level_4097 = refl

level_misfit : refusal_of (asked 0 8) (level 2 2) 8 31 ≡ 5
unfolding refuses_angle is_inside lt le eq of_int neg sub add mul round
level_misfit = refl

-- 11 before 12, and 3 before both, also past the 256th cue
pub level_257 : refusal_of (asked 0 8) (level 2 257) 8 32 ≡ 11
unfolding refuses_angle is_inside lt le eq of_int neg sub add mul round
level_257 = refl

level_257_wrong : refusal_of (asked 0 8) (level 2 256 ++ wrong ∷ []) 8 32 ≡ 3
unfolding refuses_angle is_inside lt le eq of_int neg sub add mul round
level_257_wrong = refl

-- 3 of a cue that the stretch does not reach
pub unreached : refusal_of (asked 0 8) (cue 2 (at 0 0) ∷ wrong ∷ []) 8 32 ≡ 3
unfolding refuses_angle is_inside lt le eq of_int neg sub add mul round
unreached = refl

-- the last frame may be the largest number
up_to_the_largest : refusal_of (asked (2 ^ 64 - 3) 3) [] 3 12 ≡ 0
up_to_the_largest = refl

past_the_largest : refusal_of (asked (2 ^ 64 - 3) 4) [] 4 16 ≡ 5
past_the_largest = refl

none_at_the_largest : refusal_of (asked (2 ^ 64 - 1) 0) [] 0 0 ≡ 0
none_at_the_largest = refl

-- 6 where the planes fit, 5 where they do not
frames_4097 : refusal_of (asked 0 4097) [] 4097 16388 ≡ 6
frames_4097 = refl

frames_4097_misfit : refusal_of (asked 0 4097) [] 4097 16387 ≡ 5
frames_4097_misfit = refl

-- ---- third order at azimuth 30, elevation 20: the sixteen gains, which a sample of 1.0 shows, by their bits
pub third_order : rendered (cue 0 (at 30 20) ∷ []) 3 0 (one_float ∷ []) ≡ map (of_bits binary32)
    (1065353216 ∷ 1055952818 ∷ 1051663684 ∷ 1062229259 ∷ 1059686991 ∷ 1049526772 ∷ 3198560572 ∷ 1056363672 ∷ 1053017259
    ∷ 1059581692 ∷ 1057073467 ∷ 3186924273 ∷ 3201529300 ∷ 3193165208 ∷ 1049999422 ∷ 0 ∷ []) ∷ []
unfolding of_bits Numbers.rounded refuses_angle is_inside up_to waves_of sin cos lt le eq wave_computed place cut_angle
    units_of turned
    sine_at cosine_at short times radian_units nesting nest rounded_units of_int div neg add sub mul round
third_order = refl
