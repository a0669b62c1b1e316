-- From the third part on the order counts: 1, -1 and 2^-60 add up to 2^-60, and with the last two exchanged to 0.0. So
-- with such signals the other ear does not hear a scene exchanged left for right bit for bit, in 5.1, in 7.1 and with
-- the eight virtual speakers, though all taps are 1.0. And just behind 120 degrees the gains of 7.1 are not those of
-- the speakers across, nor, farther behind, are they as the f32 that are played. By computing the definitions. Assumes
-- nothing.
use Rattle.std.specs.Prelude.{◌≡◌, ◌∷◌, ◌<◌}
use Rattle.lists.specs.Prelude.{refl, sym, ap, ◌∙◌, false, true≢false, List, [], ℕ, zero, suc, arith, lit<, pos, negsuc}
use Rattle.lists.specs.Prelude.{get_or, replicate, Float, fin, binary32, binary64, lt, le, eq, neg, add, sub, mul, div}
use Rattle.lists.specs.Prelude.{sum, round, size, span, climb, units, odd, fits, of_int, to_bits, of_bits}
use lib.Ieee.Positive.{positive}
use Rattle.lists.specs.Tables.{tab}
use Rattle.lists.proofs.Tables.{table_at}
use Rattle.lists.proofs.ForAll.{forall_replicate}
use Rattle.formats.specs.Floats.{zero_float, one_float, minus_one_float, literal}
use Rattle.numbers.specs.Computed.{rounded, narrowed, root_of, root_units, whole_root, root_in}
use Rattle.numbers.specs.Normalization.{inverse_root_of}
use Rattle.series.specs.Angles.{turned}
use Rattle.angles.specs.Computed.{wave_computed, place, cut_angle, cosine_at, short, times, radian_units, nesting, nest}
use Rattle.angles.specs.Computed as Angles
use Rattle.angles.specs.Limits.{is_inside, refuses_angle}
use Rattle.channel.specs.declared.Layout.TheVariants.{Surround71}
use Rattle.surround.specs.Computed.{absolute, not_below, turned_towards, is_near, way_of, raw_of, channel_gain}
use Rattle.surround.specs.Computed.{raw_gains}
use Rattle.surround.specs.Computed.{sum_of}
use Rattle.surround.specs.Computed.{divided_by}
use Rattle.surround.specs.Promise.{surround_gains, outcome}
use Rattle.hrtf_history.specs.Setup.{Setup, taps_in}
use Rattle.hrtf_history.specs.History.{signal_ago, ear_of, ear_sample}
use Rattle.mirror.specs.Partners.{partner_in, across_from, position_partners, other_ear}
use Rattle.mirror.specs.Surround.{GainsExchanged}
use Rattle.mirror.specs.Parts.{NextTwoExchanged}
use Rattle.mirror.specs.Convolver.{Across, Heard}

abbrev tiny : Float
tiny = fin false 1 (negsuc 59)

next_two_exchanged : NextTwoExchanged → ⊥
unfolding add sum round size span climb units odd fits
next_two_exchanged h = true≢false (ap positive (h one_float minus_one_float tiny tt tt tt))

-- ---- the ears, L = 1: all taps are 1.0, and the weights do not count, since the signals are given

-- so many speakers, which all take the one row of the bank
abbrev setup : ℕ → Setup
setup n = record {
  channels = n;
  speakers = n;
  L = 1;
  weights = [];
  taps = one_float ∷ one_float
      ∷ [];
  rows = replicate n 0;
}

own_row : (n s : ℕ) → get_or (setup n).rows s 0 ≡ 0
own_row n = forall_replicate (λ (r : ℕ). r ≡ 0) 0 n refl

same_taps : (n ear : ℕ) → ear < 2 → taps_in 1 0 (other_ear ear) (setup n).taps ≡ taps_in 1 0 ear (setup n).taps
same_taps n zero e = refl
same_taps n (suc zero) e = refl
same_taps n (suc (suc ear)) e = absurd (omega arith)

-- one frame of signals, and the frame in which each comes from the speaker across: told from a table
module _ (across : ℕ → ℕ) (n : ℕ) (signals exchanged : List Float)
    (table : tab 0 n (λ (s : ℕ). signal_ago s (exchanged ∷ []) 0)
    ≡ tab 0 n (λ (s : ℕ). signal_ago (across s) (signals ∷ []) 0)) where
  signals_across : (s k : ℕ) → s < n → signal_ago s (exchanged ∷ []) k ≡ signal_ago (across s) (signals ∷ []) k
  signals_across s (suc k) l = refl
  signals_across s zero l = table_at n (λ (s : ℕ). signal_ago s (exchanged ∷ []) 0)
      (λ (s : ℕ). signal_ago (across s) (signals ∷ []) 0) table s l

  setup_across : Across across (setup n) (setup n) (signals ∷ []) (exchanged ∷ [])
  setup_across = record {
    speakers = refl;
    L = refl;
    taps = λ ear s e l.
        ap (λ (r : ℕ). taps_in 1 r (other_ear ear) (setup n).taps) (own_row n s)
        ∙ same_taps n ear e
        ∙ ap (λ (r : ℕ). taps_in 1 r ear (setup n).taps) (sym (own_row n (across s)));
    signals = λ s k l. signals_across s k l;
  }

  heard_alike : Heard across n → ear_sample (setup n) 1 (exchanged ∷ []) ≡ ear_sample (setup n) 0 (signals ∷ [])
  heard_alike h = h (setup n) (setup n) (signals ∷ []) (exchanged ∷ []) refl setup_across 0 (lit< tt) tt

-- 5.1: C, Ls and Rs sound
five_one_heard : Heard across_from 6 → ⊥
unfolding ear_of inverse_root_of root_of root_units whole_root root_in rounded add mul div sum round size span climb
    units odd
    of_int
five_one_heard h =
    true≢false
    (ap positive
    (heard_alike across_from 6 (zero_float ∷ zero_float ∷ one_float ∷ zero_float ∷ tiny ∷ minus_one_float ∷ [])
    (zero_float ∷ zero_float ∷ one_float ∷ zero_float ∷ minus_one_float ∷ tiny ∷ []) refl h))

-- 7.1: C and the rear speakers
seven_one_heard : Heard across_from 8 → ⊥
unfolding ear_of inverse_root_of root_of root_units whole_root root_in rounded add mul div sum round size span climb
    units odd
    of_int
seven_one_heard h =
    true≢false
    (ap positive
    (heard_alike across_from 8 (zero_float ∷ zero_float ∷ one_float ∷ zero_float ∷ zero_float ∷ zero_float ∷ tiny
    ∷ minus_one_float ∷ [])
    (zero_float ∷ zero_float ∷ one_float ∷ zero_float ∷ zero_float ∷ zero_float ∷ minus_one_float ∷ tiny ∷ []) refl h))

-- the eight virtual speakers: those at 0, 45 and -45 degrees
virtual_heard : Heard (partner_in position_partners) 8 → ⊥
unfolding ear_of inverse_root_of root_of root_units whole_root root_in rounded add mul div sum round size span climb
    units odd
    of_int
virtual_heard h =
    true≢false
    (ap positive
    (heard_alike (partner_in position_partners) 8
    (one_float ∷ tiny ∷ zero_float ∷ zero_float ∷ zero_float ∷ zero_float ∷ zero_float ∷ minus_one_float ∷ [])
    (one_float ∷ minus_one_float ∷ zero_float ∷ zero_float ∷ zero_float ∷ zero_float ∷ zero_float ∷ tiny ∷ []) refl h))

-- ---- 7.1, behind 120 degrees: a gain at an azimuth, and that of the speaker across at the opposite one

abbrev gain : Float → ℕ → Float
gain a c = get_or (outcome Surround71 a).gains c zero_float

-- 120 degrees and a sixteenth
abbrev behind120 : Float
behind120 = literal (pos 1921) 16

-- 157.579897878559
abbrev between : Float
between = of_bits binary64 0x4063B28E85FEEDC8

worked : to_bits binary64 (gain behind120 6) ∷ to_bits binary64 (gain (neg behind120) 7)
    ∷ to_bits binary32 (narrowed (gain between 4)) ∷ to_bits binary32 (narrowed (gain (neg between) 5)) ∷ []
    ≡ 0x3FE6A4437134DA81 ∷ 0x3FE6A4437134DA82 ∷ 0x3E9F70CD ∷ 0x3E9F70CE ∷ []
unfolding to_bits of_bits rounded refuses_angle is_inside surround_gains divided_by sum_of raw_gains channel_gain raw_of
    is_near
    turned_towards
    way_of absolute not_below lt le eq add
    sub mul div neg round of_int wave_computed place cut_angle Angles.units turned cosine_at short times radian_units
    nesting
    nest
    Angles.rounded_units root_of whole_root size units
worked = refl

rear_speakers_exchanged : GainsExchanged Surround71 behind120 → ⊥
rear_speakers_exchanged h = let e : ◌≡◌ {A = ℕ} 0x3FE6A4437134DA82 0x3FE6A4437134DA81 = cc
    (worked, ap (to_bits binary64) (h.gains 6)) in omega arith

-- as f32
rear_speakers_played : narrowed (gain (neg between) 5) ≡ narrowed (gain between 4) → ⊥
rear_speakers_played h = let e : ◌≡◌ {A = ℕ} 0x3E9F70CE 0x3E9F70CD = cc (worked, ap (to_bits binary32) h) in omega arith
