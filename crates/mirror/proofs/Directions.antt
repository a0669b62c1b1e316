-- The gains of a mirrored direction. Each lateral channel is a product whose last factor is a sine of the azimuth, or
-- of twice or three times it; no other channel has such a factor. Assumes nothing.
use Rattle.std.specs.Prelude.{◌≡◌, ◌||◌, ◌∷◌, ◌++◌, ◌+◌}
use Rattle.lists.specs.Prelude.{refl, ap, ap₂, ◌∙◌, Bool, true, false, cond, List, map, ℕ, zero, suc, leb, pos, length}
use Rattle.lists.specs.Prelude.{length-append, length-map, get_or, Float, nan, binary64, mul, neg}
use Rattle.formats.specs.Floats.{zero_float, float}
use Rattle.formats.proofs.Signs.{mul_negated_right}
use Rattle.formats.proofs.Opposite.{mul_opposite}
use Rattle.channel.specs.Orders.{refuses_order}
use Rattle.matrix.specs.Mirror.{lateral}
use Rattle.harmonics.specs.Computed.{sin, cos, ◌·◌, waves_of, up_to}
use Rattle.harmonics.specs.Promise as Harmonics
use Rattle.harmonics.specs.declared.Direction.{Direction}
use Rattle.harmonics.specs.Promise.{Coefficients}
use Rattle.virtual_speaker.specs.Promise.{Weighted}
use Rattle.refusals.specs.Refusals.{answered}
use Rattle.virtual_speaker.specs.Weights.{degree_of}
use Rattle.virtual_speaker.specs.Computed.{cosine_of, weight, weigh}
use Rattle.formats.specs.Zeros.{unsigned_zero, Opposite}
use Rattle.mirror.specs.Scenes.{Swapped, mirrored_direction, DirectionMirrors}
use Rattle.mirror.proofs.Angles.{refused_negated, angle_mirrors}
use Rattle.mirror.proofs.Swapped.{SwappedAt, swapped_append, swapped_at, swapped_tab, swapped_by, times_odd}

-- ---- the sixteen

-- over the cosines and sines of the azimuth, of twice and of three times it
abbrev gains_by : ℕ → Float → Float → Float → Float → Float → Float → Float → List Float
gains_by order e c1 s1 c2 s2 c3 s3 =
    up_to order (record {
      cos_el = cos e;
      sin_el = sin e;
      sin_2el = sin (float (pos 2) · e);
      cos_az = c1;
      sin_az = s1;
      cos_2az = c2;
      sin_2az = s2;
      cos_3az = c3;
      sin_3az = s3;
    })

-- n channels from channel i on
record Part (i n : ℕ) (xs xs' : List Float) : Type 0 where
  long : length xs ≡ n
  swapped : SwappedAt lateral i xs xs'

part_append : (i n m : ℕ) (xs xs' ys ys' : List Float) → Part i n xs xs' → Part (i + n) m ys ys'
    → Part i (n + m) (xs ++ ys) (xs' ++ ys')
part_append i n m xs xs' ys ys' p q = record {
  long = length-append xs ys ∙ ap₂ ◌+◌ p.long q.long;
  swapped = swapped_append lateral i xs xs' ys ys' p.swapped (rw p.long q.swapped);
}

-- of a degree: beyond the order its channels are 0, swapped or not
abbrev none : List Float → List Float
none = map (λ x. zero_float)

part_of_degree : (b : Bool) (i : ℕ) (xs xs' : List Float) → SwappedAt lateral i xs xs'
    → SwappedAt lateral i (none xs) (none xs') → Part i (length xs) (cond b xs (none xs)) (cond b xs' (none xs'))
part_of_degree true i xs xs' h z = record { long = refl; swapped = h }
part_of_degree false i xs xs' h z = record { long = length-map xs (λ x. zero_float); swapped = z }

-- the sines s1, s2 and s3, and t1, t2 and t3 in their place
module _ (order : ℕ) (e c1 c2 c3 s1 t1 s2 t2 s3 t3 : Float)
    (h1 : Opposite t1 s1) (h2 : Opposite t2 s2) (h3 : Opposite t3 s3) where
  sines_swapped : Swapped (gains_by order e c1 s1 c2 s2 c3 s3) (gains_by order e c1 t1 c2 t2 c3 t3)
  unfolding up_to neg
  sines_swapped =
      let by1 : (k : Float) → Opposite (k · t1) (k · s1) = λ k. mul_opposite binary64 k s1 t1 h1 in
      let by2 : (k : Float) → Opposite (k · t2) (k · s2) = λ k. mul_opposite binary64 k s2 t2 h2 in
      let by3 : (k : Float) → Opposite (k · t3) (k · s3) = λ k. mul_opposite binary64 k s3 t3 h3 in
      (part_append 0 9 7 _ _ _ _
      (part_append 0 4 5 _ _ _ _
      (part_append 0 1 3 _ _ _ _ (part_of_degree (leb 0 order) 0 _ _ refl refl)
      (part_of_degree (leb 1 order) 1 _ _ (ap₂ ◌∷◌ (by1 _) refl) refl))
      (part_of_degree (leb 2 order) 4 _ _ (ap₂ ◌∷◌ (by2 _) (ap₂ ◌∷◌ (by1 _) refl)) refl))
      (part_of_degree (leb 3 order) 9 _ _ (ap₂ ◌∷◌ (by3 _) (ap₂ ◌∷◌ (by2 _) (ap₂ ◌∷◌ (by1 _) refl))) refl)).swapped

-- ---- at a direction

-- a multiple of the opposite angle is opposite to the multiple
pub cosine_of_multiple : (k a : Float) → cos (k · neg a) ≡ cos (k · a)
cosine_of_multiple k a = ap cos (mul_negated_right binary64 k a) ∙ (angle_mirrors (k · a)).cosine

sine_of_multiple : (k a : Float) → Opposite (sin (k · neg a)) (sin (k · a))
sine_of_multiple k a =
    ap (λ (x : Float). unsigned_zero (sin x)) (mul_negated_right binary64 k a) ∙ (angle_mirrors (k · a)).sine

-- whether they are given or not: the gains and the weights that are answered, by the refusal
abbrev pub gains_answered : ℕ → List Float → List Float
gains_answered n xs = (answered {A = Coefficients} n (record { refusal = 0; gains = xs })
    (λ k. record { refusal = k; gains = Harmonics.silent_gains })).gains

abbrev pub weights_answered : ℕ → List Float → List Float
weights_answered n xs = (answered {A = Weighted} n (record { refusal = 0; weights = xs })
    (λ k. record { refusal = k; weights = Harmonics.silent_gains })).weights

gains_swapped : (n : ℕ) (xs ys : List Float) → Swapped xs ys → Swapped (gains_answered n xs) (gains_answered n ys)
unfolding neg
gains_swapped zero xs ys h = h
gains_swapped (suc n) xs ys h = refl

weights_swapped : (n : ℕ) (xs ys : List Float) → Swapped xs ys → Swapped (weights_answered n xs) (weights_answered n ys)
unfolding neg
weights_swapped zero xs ys h = h
weights_swapped (suc n) xs ys h = refl

weigh_swapped : (c : Float) (xs ys : List Float) → Swapped xs ys → Swapped (weigh c xs) (weigh c ys)
unfolding weigh
weigh_swapped c xs ys h =
    swapped_tab lateral 0 16 (weighed_at xs) (weighed_at ys)
    (λ k. swapped_by lateral (times_odd binary64 (weight c (degree_of k))) k (get_or xs k nan) (get_or ys k nan)
    (swapped_at lateral xs ys h k))
  where
    weighed_at : List Float → ℕ → Float
    weighed_at zs k = mul binary64 (get_or zs k nan) (weight c (degree_of k))

module _ (order : ℕ) (d : Direction) where
  pub refusal_mirrored : Harmonics.refusal_of order (mirrored_direction d) ≡ Harmonics.refusal_of order d
  refusal_mirrored = ap (λ (b : Bool). cond (refuses_order order) 1
      (cond (b || Harmonics.refuses_elevation d.elevation) 3 0)) (refused_negated (float (pos 180)) d.azimuth)

  gains_mirrored : Swapped (up_to order (waves_of d)) (up_to order (waves_of (mirrored_direction d)))
  unfolding waves_of
  gains_mirrored =
      let a : Float = d.azimuth in
      let e : Float = d.elevation in
      let two : Float = float (pos 2) in
      let three : Float = float (pos 3) in
      (λ i. map unsigned_zero (gains_by order e ((angle_mirrors a).cosine i) (sin (neg a)) (cosine_of_multiple two a i)
      (sin (two · neg a)) (cosine_of_multiple three a i) (sin (three · neg a))))
      ∙ sines_swapped order e (cos a) (cos (two · a)) (cos (three · a)) (sin a) (sin (neg a)) (sin (two · a))
      (sin (two · neg a)) (sin (three · a)) (sin (three · neg a))
      (angle_mirrors a).sine (sine_of_multiple two a) (sine_of_multiple three a)

  pub direction_mirrors : DirectionMirrors order d
  direction_mirrors =
      let number : ℕ = Harmonics.refusal_of order d in
      let xs : List Float = up_to order (waves_of d) in
      let ys : List Float = up_to order (waves_of (mirrored_direction d)) in
      record {
        refusal = refusal_mirrored;
        gains = ap (λ (n : ℕ). map unsigned_zero (gains_answered n ys)) refusal_mirrored
            ∙ gains_swapped number xs ys gains_mirrored;
        weights =
            ap (λ (n : ℕ). map unsigned_zero (weights_answered n (weigh (cosine_of order) ys))) refusal_mirrored
            ∙ weights_swapped number (weigh (cosine_of order) xs) (weigh (cosine_of order) ys)
            (weigh_swapped (cosine_of order) xs ys gains_mirrored);
      }
