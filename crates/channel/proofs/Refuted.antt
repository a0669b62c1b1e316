-- Wrong answers of the look-ups, each held against the promise on an input where it breaks it: an angle, whatever it
-- is, where no speaker stands in the table; a refusal of the last that is in it; an angle beside a refusal; the LFE
-- behind; five channels of 5.1; and another number for what is no order. Assumes nothing.
use Rattle.std.specs.Prelude.{◌≡◌}
use Rattle.lists.specs.Prelude.{refl, ap, Bool, true, true≢false, ℕ, arith, ℤ, pos, Float, of_int}
use lib.Signed.{mag, lt_z}
use lib.Ieee.Positive.{positive}
use Rattle.formats.specs.Floats.{zero_float, float}
use Rattle.channel.specs.Layouts.{layout_channels, surround, minus, azimuth_answer, tenths_answer}
use Rattle.channel.specs.Layouts.{position_azimuth_answer}
use Rattle.channel.specs.Layouts.{position_tenths_answer}
use Rattle.channel.specs.Orders.{counted_order}
use Rattle.channel.specs.declared.Layout.{Layout}
use Rattle.channel.specs.declared.Layout.TheVariants.{Stereo, Surround51, Surround71, Custom}
use Rattle.channel.specs.Layouts.{CountTold}
use Rattle.channel.specs.Layouts.{Angle}
use Rattle.channel.specs.Layouts.{Tenths}
use Rattle.channel.proofs.Counts.{by_surround}

abbrev angle : ℕ → Float → Angle
angle n x = record { refusal = n; degrees = x }

abbrev tenths : ℕ → ℤ → Tenths
tenths n z = record { refusal = n; tenths = z }

-- ---- what the refusals of two equal answers are
same_angle : {n : ℕ} {x : Float} {r : Angle} → angle n x ≡ r → n ≡ r.refusal
same_angle h = ap (λ (a : Angle). a.refusal) h

same_tenths : {n : ℕ} {z : ℤ} {r : Tenths} → tenths n z ≡ r → n ≡ r.refusal
same_tenths h = ap (λ (a : Tenths). a.refusal) h

accepted_is_refused : ◌≡◌ {A = ℕ} 0 2 → ⊥
accepted_is_refused e = omega arith

refused_is_accepted : ◌≡◌ {A = ℕ} 2 0 → ⊥
refused_is_accepted e = omega arith

-- ---- the speakers of a Custom layout are computed: the table has none of them, and 2 and 0.0 is what is answered
custom_answer : azimuth_answer (Custom 4) 0 ≡ angle 2 zero_float
unfolding of_int
custom_answer = refl

custom_azimuth_lem : (x : Float) → angle 0 x ≡ azimuth_answer (Custom 4) 0 → ⊥
custom_azimuth_lem x h = accepted_is_refused (same_angle h)

custom_tenths : (z : ℤ) → tenths 0 z ≡ tenths_answer (Custom 4) 0 → ⊥
custom_tenths z h = accepted_is_refused (same_tenths h)

-- ---- a channel that the layout does not have
azimuth_of_channel_99 : (x : Float) → angle 0 x ≡ azimuth_answer Stereo 99 → ⊥
azimuth_of_channel_99 x h = accepted_is_refused (same_angle h)

tenths_of_channel_99 : (z : ℤ) → tenths 0 z ≡ tenths_answer Stereo 99 → ⊥
tenths_of_channel_99 z h = accepted_is_refused (same_tenths h)

-- ---- whole degrees for tenths: the left speaker of Stereo would stand at 3 degrees, and the second position at 4.5
degrees_for_tenths : tenths 0 (pos 30) ≡ tenths_answer Stereo 0 → ⊥
degrees_for_tenths h = let e : ◌≡◌ {A = ℕ} 30 300 = ap (λ (a : Tenths). mag a.tenths) h in omega arith

position_degrees_for_tenths : tenths 0 (pos 45) ≡ position_tenths_answer 1 → ⊥
position_degrees_for_tenths h = let e : ◌≡◌ {A = ℕ} 45 450 = ap (λ (a : Tenths). mag a.tenths) h in omega arith

-- ---- there are eight positions
azimuth_of_position_8 : (x : Float) → angle 0 x ≡ position_azimuth_answer 8 → ⊥
azimuth_of_position_8 x h = accepted_is_refused (same_angle h)

tenths_of_position_8 : (z : ℤ) → tenths 0 z ≡ position_tenths_answer 8 → ⊥
tenths_of_position_8 z h = accepted_is_refused (same_tenths h)

-- ---- the last of each is accepted
last_azimuth_refused : (x : Float) → angle 2 x ≡ azimuth_answer Surround71 7 → ⊥
last_azimuth_refused x h = refused_is_accepted (same_angle h)

last_tenths_refused : (z : ℤ) → tenths 2 z ≡ tenths_answer Surround71 7 → ⊥
last_tenths_refused z h = refused_is_accepted (same_tenths h)

last_position_refused : (x : Float) → angle 2 x ≡ position_azimuth_answer 7 → ⊥
last_position_refused x h = refused_is_accepted (same_angle h)

last_position_tenths_refused : (z : ℤ) → tenths 2 z ≡ position_tenths_answer 7 → ⊥
last_position_tenths_refused z h = refused_is_accepted (same_tenths h)

-- ---- a refusal hands back no angle, also not the one that the decoder gives the speaker
refused_with_an_angle : tenths 2 (minus 900) ≡ tenths_answer (Custom 4) 0 → ⊥
refused_with_an_angle h = true≢false (ap (λ (a : Tenths). lt_z a.tenths (pos 0)) h)

-- ---- the LFE counts as 0 degrees, in every surround layout
low_frequency_behind : (l : Layout) → surround l ≡ true → angle 0 (float (pos 180)) ≡ azimuth_answer l 3 → ⊥
unfolding of_int
low_frequency_behind = by_surround (λ (l : Layout). angle 0 (float (pos 180)) ≡ azimuth_answer l 3 → ⊥)
    (λ h. true≢false (ap above h)) (λ h. true≢false (ap above h))
  where
    above : Angle → Bool
    above a = positive a.degrees

low_frequency_filters_behind : (l : Layout) → surround l ≡ true → tenths 0 (pos 1800) ≡ tenths_answer l 3 → ⊥
low_frequency_filters_behind = by_surround (λ (l : Layout). tenths 0 (pos 1800) ≡ tenths_answer l 3 → ⊥)
    (λ h. true≢false (ap above h)) (λ h. true≢false (ap above h))
  where
    above : Tenths → Bool
    above a = lt_z (pos 0) a.tenths

-- ---- 5.1 has six channels
five_channels_of_51 : ◌≡◌ {A = CountTold} (record { refusal = 0; channels = 5 }) (layout_channels Surround51) → ⊥
five_channels_of_51 h = let e : ◌≡◌ {A = ℕ} 5 6 = ap (λ (c : CountTold). c.channels) h in omega arith

-- ---- what is no order is refused with 1, and not as a layout is
order_refused_as_layout : (n : ℕ) → ◌≡◌ {A = CountTold} (record { refusal = 2; channels = n }) (counted_order 4) → ⊥
order_refused_as_layout n h = let e : ◌≡◌ {A = ℕ} 2 1 = ap (λ (c : CountTold). c.refusal) h in omega arith
