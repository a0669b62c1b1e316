-- The opposite angle is refused as the angle is, and its sine and cosine: it lies where what is left of the turn ends,
-- so that the shorter way from 0 is the same and the half of the turn the other one. Assumes nothing.
use Rattle.std.specs.Prelude.{◌≡◌, ◌⊎◌, ◌&&◌, ◌||◌, ◌+◌, ◌-◌, ◌/◌, ◌%◌, ◌^◌, ◌<◌}
use Rattle.lists.specs.Prelude.{refl, sym, ap, ap₂, ◌∙◌, subst, inl, inr, Bool, true, false, not, cond, and_comm, ℕ}
use Rattle.lists.specs.Prelude.{arith, eqb, ltb, lit<, pos, Float, nan, inf, fin, binary64, unlike, neg, le, div}
use Rattle.lists.specs.Prelude.{of_int, eqb-true, lt-ltb, le-ltb}
use Rattle.lists.proofs.Tests.{by_test, by_at_most, order_cases}
use Rattle.formats.specs.Floats.{zero_float}
use Rattle.formats.proofs.Signs.{unlike_not, neg_neg, le_negated, finite_negated}
use Rattle.fractions.specs.Fraction.{Fraction, signed, opposite}
use Rattle.series.specs.Angles.{turned}
use Rattle.series.specs.Sums.{sine}
use Rattle.series.proofs.Reduction.{turned_less, turned_opposite}
use Rattle.angles.specs.Computed.{one, turn, half, units, cut_angle, place, short, times, radian_units, nesting, nest}
use Rattle.angles.specs.Computed.{outermost}
use Rattle.angles.specs.Computed.{from_one, rounded_units, sine_at, cosine_at, wave_computed}
use Rattle.angles.specs.Limits.{limit, is_inside, refuses_angle}
use Rattle.refusals.specs.Refusals.{answered}
use Rattle.angles.specs.Promise.{Answer}
use Rattle.angles.specs.Promise.{is_refused}
use Rattle.harmonics.specs.Computed.{sin, cos}
use Rattle.formats.specs.Zeros.{unsigned_zero}
use Rattle.mirror.specs.Scenes.{AngleMirrors}

-- ---- it is refused when its opposite is, whatever the limit

inside_negated : (limit x : Float) → is_inside limit (neg x) ≡ is_inside limit x
unfolding is_inside
inside_negated limit x =
    ap₂ ◌&&◌ (le_negated limit x) (ap (le (neg x)) (sym (neg_neg limit)) ∙ le_negated x (neg limit))
    ∙ and_comm (le x limit) (le (neg limit) x)

pub refused_negated : (limit x : Float) → refuses_angle limit (neg x) ≡ refuses_angle limit x
unfolding refuses_angle
refused_negated limit x = ap₂ (λ (a b : Bool). not a || not b) (finite_negated x) (inside_negated limit x)

-- ---- where it lies

cut_negated : (d : Float) → cut_angle (neg d) ≡ opposite (cut_angle d)
unfolding cut_angle neg units
cut_negated nan = refl
cut_negated (inf s) = refl
cut_negated (fin true m e) = refl
cut_negated (fin false m e) = refl

-- two places that make up a turn, or are both 0
record WholeTurn (r r' : ℕ) : Type 0 where
  less : r' < turn
  sum : (r + r' ≡ 0) ⊎ (r + r' ≡ turn)

-- a cut angle is over 2 ^ 52; what is no number is cut to 0
cut_opposite : (d : Float) → WholeTurn (turned (cut_angle d)) (turned (opposite (cut_angle d)))
unfolding cut_angle turned
cut_opposite nan = record { less = lit< tt; sum = inl refl }
cut_opposite (inf s) = record { less = lit< tt; sum = inl refl }
cut_opposite (fin s m e) =
    let c : Fraction = signed s (units (fin s m e)) (2 ^ 52) in
    record { less = turned_less (opposite c) (lit< tt); sum = turned_opposite c (lit< tt) }

places_opposite : (d : Float) → WholeTurn (place d) (place (neg d))
unfolding place
places_opposite d = rw (cut_negated d) (cut_opposite d)

rest_of_turn : {r r' : ℕ} → WholeTurn r r' → r' ≡ (turn - r) % turn
rest_of_turn {r} {r'} o = go o.sum o.less
  where
    go : (r + r' ≡ 0) ⊎ (r + r' ≡ turn) → r' < turn → r' ≡ (turn - r) % turn
    go (inl e) h = omega arith
    go (inr e) h = omega arith

-- ---- the shorter way from 0 is the same

short_opposite : {r r' : ℕ} → WholeTurn r r' → short r' ≡ short r
unfolding short
short_opposite {r} {r'} o = go o.sum
  where
    go : (r + r' ≡ 0) ⊎ (r + r' ≡ turn) → short r' ≡ short r
    go (inl e) = let same : r' ≡ r = omega arith in ap short same
    go (inr e) =
        by_at_most (λ (x : ℕ). x ≡ short r) r' half
        (λ h'. by_at_most (λ (x : ℕ). r' ≡ x) r half (λ h. omega arith) (λ h. omega arith))
        (λ h'. by_at_most (λ (x : ℕ). turn - r' ≡ x) r half (λ h. omega arith) (λ h. omega arith))

-- ---- the cosine

cosine_opposite : {r r' : ℕ} → WholeTurn r r' → cosine_at r' ≡ cosine_at r
unfolding cosine_at
cosine_opposite o = let at : ℕ → Float = λ s. rounded_units (ltb one (outermost (radian_units s) 26))
    (from_one (outermost (radian_units s) 26)) in ap at (short_opposite o)

-- ---- the sine

-- the other sign of a size: the same float with the other sign, or 0.0 both times
rounded_negated : (b : Bool) (size : ℕ) → unsigned_zero (rounded_units (not b) size) ≡ unsigned_zero
    (neg (rounded_units b size))
unfolding rounded_units of_int div neg
rounded_negated b size =
    let n : ℕ = (size + 256) / 512 in
    signed_either b n (value n) (λ e. subst (λ (k : ℕ). unsigned_zero (value k) ≡ unsigned_zero (neg (value k)))
    (sym e) refl)
  where
    value : ℕ → Float
    value n = div binary64 (of_int binary64 (pos n)) (fin false 1 (pos 51))

    signed_either : (b : Bool) (n : ℕ) (v : Float) → (n ≡ 0 → unsigned_zero v ≡ unsigned_zero (neg v))
        → unsigned_zero (cond (not b) (cond (eqb n 0) v (neg v)) v)
        ≡ unsigned_zero (neg (cond b (cond (eqb n 0) v (neg v)) v))
    signed_either true n v h =
        by_test (λ (q : Bool). unsigned_zero v ≡ unsigned_zero (neg (cond q v (neg v)))) (eqb n 0)
        (λ e. h (eqb-true n 0 e)) (λ e. ap unsigned_zero (sym (neg_neg v)))
    signed_either false n v h =
        by_test (λ (q : Bool). unsigned_zero (cond q v (neg v)) ≡ unsigned_zero (neg v)) (eqb n 0)
        (λ e. h (eqb-true n 0 e)) (λ e. refl)

-- by whether it lies in the far half of the turn, and the shorter way from 0 in radians
sine_by : Bool → ℕ → Float
sine_by far x = rounded_units (unlike far (ltb one (outermost x 25))) (times x (from_one (outermost x 25)))

sine_by_negated : (far : Bool) (x : ℕ) → unsigned_zero (sine_by (not far) x) ≡ unsigned_zero (neg (sine_by far x))
unfolding sine_by
sine_by_negated far x =
    let over : Bool = ltb one (outermost x 25) in
    let size : ℕ = times x (from_one (outermost x 25)) in
    ap (λ (b : Bool). unsigned_zero (rounded_units b size)) (unlike_not far over)
    ∙ rounded_negated (unlike far over) size

-- at 0 and at half a turn, where the opposite angle lies in the same place, the sine is 0
abbrev Sineless : ℕ → Type 0
Sineless r = unsigned_zero (sine_at r) ≡ unsigned_zero (neg (sine_at r))

sine_at_none : Sineless 0
unfolding sine_at rounded_units radian_units short times nesting nest of_int div neg
sine_at_none = refl

sine_at_half : Sineless half
unfolding sine_at rounded_units radian_units short times nesting nest of_int div neg
sine_at_half = refl

sine_opposite : {r r' : ℕ} → WholeTurn r r' → unsigned_zero (sine_at r') ≡ unsigned_zero (neg (sine_at r))
unfolding sine_at sine_by
sine_opposite {r} {r'} o = go o.sum
  where
    same : (k : ℕ) → Sineless k → k ≡ r → k ≡ r' → unsigned_zero (sine_at r') ≡ unsigned_zero (neg (sine_at r))
    same k z e e' =
        sym (ap (λ (i : ℕ). unsigned_zero (sine_at i)) e') ∙ z ∙ ap (λ (i : ℕ). unsigned_zero (neg (sine_at i))) e

    across : ltb half r' ≡ not (ltb half r) → unsigned_zero (sine_at r') ≡ unsigned_zero (neg (sine_at r))
    across h = ap₂ (λ (far : Bool) (s : ℕ). unsigned_zero (sine_by far (radian_units s))) h (short_opposite o)
        ∙ sine_by_negated (ltb half r) (radian_units (short r))

    go : (r + r' ≡ 0) ⊎ (r + r' ≡ turn) → unsigned_zero (sine_at r') ≡ unsigned_zero (neg (sine_at r))
    go (inl e) = same 0 sine_at_none (omega arith) (omega arith)
    go (inr e) =
        order_cases r half
        (λ l. across (lt-ltb half r' (omega arith) ∙ ap not (sym (le-ltb half r (omega arith)))))
        (λ m. same half sine_at_half (omega arith) (omega arith))
        (λ g. across (le-ltb half r' (omega arith) ∙ ap not (sym (lt-ltb half r g))))

-- ---- the value that is answered, by whether the angle is refused
abbrev value_by : Bool → Float → Float
value_by b v = (answered {A = Answer} (cond b 3 0) (record { refusal = 0; value = v })
    (λ n. record { refusal = n; value = zero_float })).value

-- ---- where the opposite angle lies in the same place, the sine stays, its sign too
pub sine_stays : (d : Float) → place (neg d) ≡ place d → sin (neg d) ≡ sin d
unfolding sin wave_computed
sine_stays d h = ap₂ (λ (b : Bool) (a : ℕ). value_by b (sine_at a)) (refused_negated limit d) h

-- ---- of any float

pub angle_mirrors : (d : Float) → AngleMirrors d
unfolding sin cos wave_computed neg
angle_mirrors d = record {
  lies = rest_of_turn (places_opposite d);
  refusal = ap (λ (b : Bool). cond b 3 0) (refused_negated limit d);
  cosine = ap₂ value_by (refused_negated limit d) (cosine_opposite (places_opposite d));
  sine =
      ap (λ (b : Bool). unsigned_zero (value_by b (wave_computed sine (neg d)))) (refused_negated limit d)
      ∙ opposite_by (is_refused d) (wave_computed sine d) (wave_computed sine (neg d))
      (sine_opposite (places_opposite d));
}
  where
    opposite_by : (b : Bool) (v v' : Float) → unsigned_zero v' ≡ unsigned_zero (neg v)
        → unsigned_zero (value_by b v') ≡ unsigned_zero (neg (value_by b v))
    opposite_by true v v' h = refl
    opposite_by false v v' h = h
