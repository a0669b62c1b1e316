-- The rows and the weights of a speaker and of its partner. That the tables pair them is computed; 0 and 180 are their
-- own opposites: -0.0 and -180.0 give the bits that 0.0 and 180.0 give. Assumes nothing.
use Rattle.std.specs.Prelude.{◌≡◌, ◌&&◌, ◌||◌, ◌∷◌, ◌<◌}
use Rattle.lists.specs.Prelude.{refl, sym, ap, ◌∙◌, subst, Bool, true, false, not, cond, true≢false, and-eq-true_iff}
use Rattle.lists.specs.Prelude.{List, [], map, ℕ, zero-add, eqb, pos, length, take, Float, binary64, lt, round, add}
use Rattle.lists.specs.Prelude.{sub, mul, div, neg, of_int, of_bits, to_bits, eqb-true, not-false}
use lib.Ieee.Fits.{cond-fits, neg-fits, sub-fits, of_int-fits}
use lib.Ieee.Bits.{of_bits-to_bits}
use Rattle.lists.specs.Tables.{tab, any}
use Rattle.lists.proofs.Tests.{by_test}
use Rattle.formats.specs.Floats.{Held, zero_float, float}
use Rattle.checks.proofs.Checks.{any_off}
use Rattle.formats.proofs.Signs.{mul_negated_right}
use Rattle.series.specs.Angles.{turned}
use Rattle.angles.specs.Computed.{units, cut_angle, place}
use Rattle.channel.specs.declared.Layout.{Layout}
use Rattle.channel.specs.declared.Layout.TheVariants.{Mono, Stereo, Surround51, Surround71, Custom}
use Rattle.channel.specs.Layouts.{channels_of, position_azimuth}
use Rattle.matrix.specs.Mirror.{lateral}
use Rattle.numbers.specs.Normalization.{inverse_root_of}
use Rattle.rows.specs.Rows.{scaled}
use Rattle.harmonics.specs.Computed.{sin, cos, ◌·◌, waves_of, up_to}
use Rattle.harmonics.specs.Promise as Harmonics
use Rattle.decoder_matrix.specs.Speakers.{custom_azimuth, turned_back, azimuth_at, towards}
use Rattle.decoder_matrix.specs.Matrix.{row_towards, row_by}
use Rattle.virtual_speaker.specs.Computed.{cosine_of, weigh}
use Rattle.virtual_speaker.specs.Promise as Virtual
use Rattle.mirror.specs.Partners.{partner_in, symmetric, custom_partners, partners, position_partners}
use Rattle.mirror.specs.Scenes.{Swapped, SpeakersMirror}
use Rattle.mirror.proofs.Angles.{angle_mirrors, sine_stays}
use Rattle.mirror.proofs.Swapped.{times_odd, swapped_take, swapped_map}
use Rattle.mirror.proofs.Directions.{cosine_of_multiple, refusal_mirrored, direction_mirrors, gains_answered}
use Rattle.mirror.proofs.Directions.{weights_answered}

-- ---- an azimuth that lies where its opposite does, and so twice and three times it

abbrev same_place_of : Float → Bool
same_place_of a = eqb (place (neg a)) (place a)

record Own (a : Float) : Type 0 where
  once : place (neg a) ≡ place a
  twice : place (neg (float (pos 2) · a)) ≡ place (float (pos 2) · a)
  thrice : place (neg (float (pos 3) · a)) ≡ place (float (pos 3) · a)

is_own : Float → Bool
is_own a = same_place_of a && same_place_of (float (pos 2) · a) && same_place_of (float (pos 3) · a)

own_of : (a : Float) → is_own a ≡ true → Own a
unfolding is_own
own_of a t =
    let (first, third) = (and-eq-true_iff (same_place_of a && same_place_of (float (pos 2) · a))
    (same_place_of (float (pos 3) · a))).0 t in
    let (one, two) = (and-eq-true_iff (same_place_of a) (same_place_of (float (pos 2) · a))).0 first in
    record { once = eqb-true _ _ one; twice = eqb-true _ _ two; thrice = eqb-true _ _ third }

own_waves : (a : Float) → Own a → waves_of (towards (neg a)) ≡ waves_of (towards a)
unfolding waves_of
own_waves a o =
    λ i. record {
      cos_el = cos zero_float;
      sin_el = sin zero_float;
      sin_2el = sin (float (pos 2) · zero_float);
      cos_az = (angle_mirrors a).cosine i;
      sin_az = sine_stays a o.once i;
      cos_2az = cosine_of_multiple (float (pos 2)) a i;
      sin_2az = stays (float (pos 2)) o.twice i;
      cos_3az = cosine_of_multiple (float (pos 3)) a i;
      sin_3az = stays (float (pos 3)) o.thrice i;
    }
  where
    stays : (k : Float) → place (neg (k · a)) ≡ place (k · a) → sin (k · neg a) ≡ sin (k · a)
    stays k h = ap sin (mul_negated_right binary64 k a) ∙ sine_stays (k · a) h

-- ---- the tables

-- the azimuth across: 0 and 180 are their own
across_of : Float → Float
across_of a = cond (is_own a) a (neg a)

across_held : (a : Float) → Held a → Held (across_of a)
unfolding across_of
across_held a h = cond-fits binary64 (is_own a) a (neg a) h (neg-fits binary64 a h)

-- a partner stands at the azimuth across: told from the bits, by computing
is_across : (ℕ → Float) → List ℕ → ℕ → Bool
is_across azimuth pairs i =
    eqb (to_bits binary64 (azimuth (partner_in pairs i))) (to_bits binary64 (across_of (azimuth i)))

abbrev Paired : (ℕ → Float) → List ℕ → Type 0
Paired azimuth pairs = any (tab 0 (length pairs) (λ (i : ℕ). not (is_across azimuth pairs i))) ≡ false

-- what holds of each of some numbers holds of one of them
abbrev AllHold : (ℕ → Type 0) → List ℕ → Type 0
AllHold P [] = Unit {0}
AllHold P (k ∷ ks) = P k × AllHold P ks

one_of : (P : ℕ → Type 0) (ks : List ℕ) → AllHold P ks → (n : ℕ) → any (map (eqb n) ks) ≡ true → P n
one_of P [] h n t = absurd (true≢false (sym t))
one_of P (k ∷ ks) h n t = by_test (λ (b : Bool). b || any (map (eqb n) ks) ≡ true → P n) (eqb n k)
    (λ e u. subst P (sym (eqb-true n k e)) h.0) (λ e u. one_of P ks h.1 n u) t

pub of_symmetric : (P : ℕ → List ℕ → Type 0) → AllHold (λ (n : ℕ). P n (custom_partners n)) symmetric
    → ((n : ℕ) → P n []) → (n : ℕ) → P n (partners (Custom n))
of_symmetric P all none n =
    by_test (λ (b : Bool). P n (cond b (custom_partners n) [])) (any (map (eqb n) symmetric))
    (λ e. one_of (λ (k : ℕ). P k (custom_partners k)) symmetric all n e) (λ e. none n)

layout_paired : (l : Layout) → Paired (azimuth_at l) (partners l)
unfolding is_across across_of is_own to_bits custom_azimuth turned_back place cut_angle units turned neg lt add sub mul
    div
    round
    of_int
layout_paired Mono = refl
layout_paired Stereo = refl
layout_paired Surround51 = refl
layout_paired Surround71 = refl
layout_paired (Custom n) = of_symmetric (λ (k : ℕ) (pairs : List ℕ). Paired (azimuth_at (Custom k)) pairs)
    (refl, (refl, (refl, (refl, (refl, (refl, (refl, tt))))))) (λ k. refl) n

positions_paired : Paired position_azimuth position_partners
unfolding is_across across_of is_own to_bits place cut_angle units turned neg mul round of_int
positions_paired = refl

azimuth_held : (l : Layout) (i : ℕ) → Held (azimuth_at l i)
unfolding custom_azimuth turned_back
azimuth_held Mono i = of_int-fits binary64 _
azimuth_held Stereo i = of_int-fits binary64 _
azimuth_held Surround51 i = of_int-fits binary64 _
azimuth_held Surround71 i = of_int-fits binary64 _
azimuth_held (Custom n) i =
    let a : Float = custom_azimuth n i in
    cond-fits binary64 (lt (float (pos 180)) a) (sub binary64 a (float (pos 360))) a
    (sub-fits binary64 a (float (pos 360)))
    (sub-fits binary64 (mul binary64 (float (pos i)) (div binary64 (float (pos 360)) (float (pos n)))) (float (pos 90)))

partner_across : (azimuth : ℕ → Float) → ((i : ℕ) → Held (azimuth i)) → (pairs : List ℕ) → Paired azimuth pairs
    → (i : ℕ) → i < length pairs → azimuth (partner_in pairs i) ≡ across_of (azimuth i)
unfolding is_across
partner_across azimuth held pairs p i h =
    let a : Float = azimuth (partner_in pairs i) in
    let b : Float = across_of (azimuth i) in
    let none : not (is_across azimuth pairs i) ≡ false =
    ap (λ (k : ℕ). not (is_across azimuth pairs k)) (sym (zero-add i))
    ∙ any_off 0 (length pairs) (λ (k : ℕ). not (is_across azimuth pairs k)) p i h in
    let same : to_bits binary64 a ≡ to_bits binary64 b = eqb-true _ _ (not-false (is_across azimuth pairs i) none) in
    sym (of_bits-to_bits binary64 a (held (partner_in pairs i))) ∙ ap (of_bits binary64) same
    ∙ of_bits-to_bits binary64 b (across_held (azimuth i) (held i))

-- ---- whatever is given towards an azimuth
module _ (given : Float → List Float) (swaps : (a : Float) → Swapped (given a) (given (neg a)))
    (stays : (a : Float) → Own a → given (neg a) ≡ given a) where
  across_swapped : (a : Float) → Swapped (given a) (given (across_of a))
  unfolding across_of
  across_swapped a =
      by_test (λ (b : Bool). Swapped (given a) (given (cond b a (neg a)))) (is_own a)
      (λ e. subst (λ (xs : List Float). Swapped (given a) xs) (stays a (own_of a e)) (swaps a))
      (λ e. swaps a)

  partners_swapped : (azimuth : ℕ → Float) → ((i : ℕ) → Held (azimuth i)) → (pairs : List ℕ) → Paired azimuth pairs
      → (i : ℕ) → i < length pairs
      → Swapped (given (azimuth i)) (given (azimuth (partner_in pairs i)))
  partners_swapped azimuth held pairs p i h =
      subst (λ (b : Float). Swapped (given (azimuth i)) (given b)) (sym (partner_across azimuth held pairs p i h))
      (across_swapped (azimuth i))

-- ---- rows and weights

module _ (order : ℕ) where
  module _ (n channels : ℕ) where
    row_swaps : (a : Float) → Swapped (row_towards order n channels a) (row_towards order n channels (neg a))
    row_swaps a =
        let gains : Float → List Float = λ b. (Harmonics.outcome order (towards b)).gains in
        swapped_map lateral (times_odd binary64 (inverse_root_of n)) 0 (take channels (gains a))
        (take channels (gains (neg a)))
        (swapped_take lateral channels 0 (gains a) (gains (neg a)) (direction_mirrors order (towards a)).gains)

    row_stays : (a : Float) → Own a → row_towards order n channels (neg a) ≡ row_towards order n channels a
    row_stays a o = λ i. scaled (inverse_root_of n)
        (take channels (gains_answered (refusal_mirrored order (towards a) i) (up_to order (own_waves a o i))))

  rows_swapped : (l : Layout) (channels i : ℕ) → i < length (partners l)
      → Swapped (row_by order l (channels_of l) channels i)
      (row_by order l (channels_of l) channels (partner_in (partners l) i))
  rows_swapped l channels =
      let n : ℕ = channels_of l in
      partners_swapped (row_towards order n channels) (row_swaps n channels) (row_stays n channels) (azimuth_at l)
      (azimuth_held l) (partners l) (layout_paired l)

  abbrev weights_towards : Float → List Float
  weights_towards a = (Virtual.outcome order (towards a)).weights

  weights_stay : (a : Float) → Own a → weights_towards (neg a) ≡ weights_towards a
  weights_stay a o = λ i. weights_answered (refusal_mirrored order (towards a) i)
      (weigh (cosine_of order) (up_to order (own_waves a o i)))

  pub speakers_mirror : SpeakersMirror order
  speakers_mirror = record {
    row = row_swaps;
    rows = rows_swapped;
    weights = partners_swapped weights_towards (λ a. (direction_mirrors order (towards a)).weights) weights_stay
        position_azimuth (λ i. of_int-fits binary64 _) position_partners positions_paired;
  }
