-- Document 01, 'Marked drill table': "These are shown to follow from the definitions as a single checked list." A field
-- or more for each of the eleven: of the definition, and of what the program hands back, where the two are not the
-- same. Definitions only.
use Rattle.std.specs.Prelude.{◌+◌, ◌^◌, ◌≡◌, ◌∷◌}
use Rattle.lists.specs.Prelude.{ℕ, true, false, List, [], ℤ, pos, negsuc, length, take, Float, nan, fin, binary64}
use Rattle.lists.specs.Prelude.{to_bits}
use Rattle.fractions.specs.Fraction.{Fraction, whole, number, square, Less}
use Rattle.formats.specs.Floats.{zero_float, one_float, half_float, float}
use Rattle.numbers.specs.Computed.{Rooted}
use Rattle.numbers.specs.Promise.{NarrowPromise, RootPromise}
use Rattle.series.specs.Angles.{defined_sine, defined_cosine}
use Rattle.lists.specs.Tables.{tab}
use Rattle.channel.specs.declared.Layout.TheVariants.{Surround51}
use Rattle.harmonics.specs.Formulas.{sn3d_h, sn3d_m, sn3d_q, formulas}
use Rattle.harmonics.specs.Promise.{refuses_azimuth}
use Rattle.harmonics.specs.Drill.{at, given, SameNumbers, front, front_floats, left_gains, Above}
use Rattle.stereo.specs.Angle.{angle}
use Rattle.stereo.specs.Promise as Stereo
use Rattle.surround.specs.Formula.{raw_at, sum_at, is_silent}
use Rattle.surround.specs.Promise as Surround
use Rattle.surround.specs.Drill.{gains51, sides_at0, centre_at0}
use Rattle.hrtf_history.specs.History.{heard, unsettled_each, unsettled_in}
use Rattle.hrtf_history.specs.Drill.{drill, samples}
use Rattle.bank_choice.specs.Choice.{Choice}
use Rattle.bank_choice.specs.Choice.{ChoicePromise}
use Rattle.bank.specs.Reading.{ReadOutcome, read_bank, read_refused, ReadPromise}
use Rattle.bank.specs.Writing.{WriteOutcome, WritePromise}
use Rattle.bank.specs.Conversion.{ToVersion1Promise, ToVersion2Promise}
use Rattle.bank.specs.Drill.{one_row, one_row_bytes, one_row_bytes2}

pub record DrillTable : Type 0 where
  -- 1. Order 3 at (0,0): channels 0, 3, 6, 8, 13, 15 are 1, 1, -0.5, h, -m, q; the rest 0.
  pub item_1 : SameNumbers (formulas 3 (whole 0) (whole 0)) (front sn3d_h sn3d_m sn3d_q)
  pub item_1_given : SameNumbers (given 3 (at 0 0)) front_floats
  -- 2. Order 1 at (90,0): 1, 1, 0, 0.
  pub item_2 : SameNumbers (formulas 1 (whole 90) (whole 0)) left_gains
  pub item_2_given : SameNumbers (given 1 (at 90 0)) left_gains
  -- 3. Elevation 90: channels 2, 6, 12 are 1; 1 and 3 are 0. At any azimuth.
  pub item_3 : (a : Fraction) → Above (formulas 3 a (whole 90))
  pub item_3_given : (a : Float) → refuses_azimuth a ≡ false
      → Above (given 3 (record { azimuth = a; elevation = float (pos 90) }))
  -- 4. Stereo -100 gives 1, 0; 250 gives 0, 1.
  pub item_4_left : (defined_cosine (angle (number (float (negsuc 99)))) ≡ whole 1)
      × (defined_sine (angle (number (float (negsuc 99)))) ≡ whole 0)
  pub item_4_right : (defined_cosine (angle (number (float (pos 250)))) ≡ whole 0)
      × (defined_sine (angle (number (float (pos 250)))) ≡ whole 1)
  pub item_4_left_given : Stereo.outcome (float (negsuc 99))
      ≡ record { refusal = 0; left = one_float; right = zero_float }
  pub item_4_right_given : Stereo.outcome (float (pos 250))
      ≡ record { refusal = 0; left = zero_float; right = one_float }
  -- 5. 5.1; document 02, E3: "at 120 only Ls still sounds; at 0, C is now loudest, with L and R equal". The others are
  -- silent at 0.
  pub item_5_at_120 : tab 0 6 (is_silent Surround51 (whole 120)) ≡ true ∷ true ∷ true ∷ true ∷ false ∷ true ∷ []
  pub item_5_ls : sum_at Surround51 (whole 120) ≡ square (raw_at Surround51 (whole 120) 4)
  pub item_5_at_0 : tab 0 6 (is_silent Surround51 (whole 0)) ≡ false ∷ false ∷ false ∷ true ∷ true ∷ true ∷ []
  pub item_5_centre : raw_at Surround51 (whole 0) 2 ≡ whole 1
  pub item_5_equal : raw_at Surround51 (whole 0) 0 ≡ raw_at Surround51 (whole 0) 1
  pub item_5_loudest : Less (square (raw_at Surround51 (whole 0) 0)) (square (raw_at Surround51 (whole 0) 2))
  pub item_5_at_120_given : Surround.outcome Surround51 (float (pos 120))
      ≡ record { refusal = 0; gains = gains51 zero_float zero_float zero_float one_float }
  pub item_5_at_0_given : Surround.outcome Surround51 (float (pos 0))
      ≡ record { refusal = 0; gains = gains51 sides_at0 sides_at0 centre_at0 zero_float }
  -- 6. Root of 4 is 2; 2 gives bits 3FF6A09E667F3BCD.
  pub item_6_four : (r : Rooted) → RootPromise (float (pos 4)) r → r ≡ record { refusal = 0; value = float (pos 2) }
  pub item_6_two : (r : Rooted) → RootPromise (float (pos 2)) r → (r.refusal ≡ 0)
      × (to_bits binary64 r.value ≡ 0x3FF6A09E667F3BCD)
  -- 7. 1 + 2^-24 narrows to 1; 1 + 3x2^-24 to 1 + 2^-22.
  pub item_7_down : (y : Float) → NarrowPromise (fin false (2 ^ 24 + 1) (negsuc 23)) y → y ≡ one_float
  pub item_7_up : (y : Float) → NarrowPromise (fin false (2 ^ 24 + 3) (negsuc 23)) y
      → y ≡ fin false (2 ^ 22 + 1) (negsuc 21)
  -- 8. One speaker, weight 1, L = 2, left taps 1, 0.5, right 0, 1, samples 1, 0, 0: left 1, 0.5, 0; right 0, 1, 0.
  pub item_8 : heard drill [] (samples one_float) ≡ (one_float ∷ zero_float ∷ []) ∷ (half_float ∷ one_float ∷ [])
      ∷ (zero_float ∷ zero_float ∷ []) ∷ []
  -- 9. The same with NaN, 0, 0: two unsettled, then 0 and 0.
  pub item_9 : unsettled_in drill 0 [] (samples nan) ≡ 2
  pub item_9_each : unsettled_each drill 0 [] (samples nan) ≡ true ∷ true ∷ false ∷ []
  pub item_9_heard : heard drill [] (samples nan) ≡ (nan ∷ nan ∷ []) ∷ (nan ∷ nan ∷ []) ∷ (zero_float ∷ zero_float ∷ [])
      ∷ []
  -- 10. Rows at 0 and 450 tenths, speaker at 225 tenths: the first. All of them at elevation 0 (document 02, E6);
  -- whatever stands in the lists beyond the two rows.
  pub item_10 : (rest heights : List ℤ) → length rest ≡ 6 → length heights ≡ 6 → (r : Choice)
      → ChoicePromise (pos 0 ∷ pos 450 ∷ rest) (pos 0 ∷ pos 0 ∷ heights) 2 (pos 225) (pos 0) r
      → r ≡ record { refusal = 0; row = 0 }
  -- 11. The bank bytes above, and 14 at 1 without the last byte (document 02, E2: 9 is no longer given for a bank). E6:
  -- they read as that bank at elevation 0; written it is the file of version 2; they turn into that, and back. Whatever
  -- is lent.
  pub item_11_read : (zs es : List ℤ) (xs : List Float) → length zs ≡ 8 → length es ≡ 8 → length xs ≡ 8192
      → (o : ReadOutcome) → ReadPromise one_row_bytes zs es xs o → o ≡ read_bank one_row zs es xs
  pub item_11_written : (buffer : List ℕ) → length buffer ≡ 21 → (w : WriteOutcome) → WritePromise one_row buffer w
      → w ≡ record { answer = record { refusal = 0; offset = 0; bytes = 21 }; file = one_row_bytes2 }
  pub item_11_forward : (out : List ℕ) → length out ≡ 21 → (w : WriteOutcome) → ToVersion2Promise one_row_bytes out w
      → w ≡ record { answer = record { refusal = 0; offset = 0; bytes = 21 }; file = one_row_bytes2 }
  pub item_11_back : (out : List ℕ) → length out ≡ 19 → (w : WriteOutcome) → ToVersion1Promise one_row_bytes2 out w
      → w ≡ record { answer = record { refusal = 0; offset = 0; bytes = 19 }; file = one_row_bytes }
  pub item_11_cut : (zs es : List ℤ) (xs : List Float) → length zs ≡ 8 → length es ≡ 8 → length xs ≡ 8192
      → (o : ReadOutcome) → ReadPromise (take 18 one_row_bytes) zs es xs o
      → o ≡ read_refused (record { refusal = 14; offset = 1 }) zs es xs
