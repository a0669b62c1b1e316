-- Each computed coefficient is within 2 ^ -42 of document 01's formula, which is 5 in magnitude at most. The nine sines
-- and cosines are known by the promise of `angles`, those of 2 and 3 times an angle carried from the rounded product to
-- the exact one; the sixteen are then expressions over them, and their bound is computed. Assumes nothing.
use Rattle.std.specs.Prelude.{◌≡◌, ◌∷◌, ◌^◌, ◌≤◌, ◌<◌}
use Rattle.lists.specs.Prelude.{refl, sym, ap, ◌∙◌, subst, subst₂, false, List, [], map, ℕ, T, lit≤, lit<, length}
use Rattle.lists.specs.Prelude.{get_or, set, Float, binary64, mul, round, of_int}
use Rattle.channel.specs.Orders.{refuses_order}
use Rattle.channel.proofs.Orders.{by_order_lem}
use Rattle.lists.specs.Tables.{every}
use Rattle.fractions.specs.Fraction.{Fraction, fraction, number, whole, magnitude, square, ◌⊖◌, ◌⊗◌, ◌⊘◌, AtMost}
use Rattle.fractions.specs.Fraction.{EachWithin}
use Rattle.fractions.proofs.Approximates.{Approximates}
use Rattle.fractions.proofs.Close.{size_mul, size_wider}
use Rattle.fractions.proofs.Within.{at_most_size, size_at_most, whole_size}
use Rattle.fractions.proofs.Restate.{part-⊗, ⊗-assoc}
use Rattle.fractions.proofs.Expression.{Expression, literal, held, ◌-'◌, ◌*'◌, run, exact, passes, within, each_within}
use Rattle.fractions.proofs.Expression.{sized, each_approximates, value, itself}
use Rattle.series.specs.Sums.{Wave, sine, cosine}
use Rattle.series.specs.Angles.{defined}
use Rattle.series.proofs.Laws.{defined_most, defined_size}
use Rattle.angles.specs.Promise.{outcome}
use Rattle.angles.proofs.Laws.{outcome_kept, accepted, value_near, value_carried}
use Rattle.harmonics.specs.Formulas.{Sines, sines_of, degree0, degree1, degree2, degree3, sixteen, formulas_over}
use Rattle.harmonics.specs.Formulas.{formulas}
use Rattle.harmonics.specs.Computed.{sin, cos, waves_of, up_to}
use Rattle.harmonics.specs.Promise.{gain_bits}
use Rattle.harmonics.specs.declared.Direction.{Direction}

-- ---- the sines and cosines of an angle, and of 2 or 3 times it
module _ (w : Wave) (x : Float) (X : 0 < (number x).over) (h : AtMost (magnitude (number x)) (whole 180)) where
  pub single : Approximates 50 defined_most (outcome w x).value (defined w (number x))
  single = record {
    near = value_near w x (outcome w x) (outcome_kept w x)
        (accepted x X (size_at_most (size_wider (at_most_size h) (lit≤ tt))));
    size = defined_size w (number x) X;
  }

  in_range : (n : ℕ) → n ≤ 3 → AtMost (magnitude (whole n ⊗ number x)) (whole 1079)
  in_range n l = size_at_most (size_mul 1079 (lit< tt) (lit≤ tt) (whole_size 1 n l) (at_most_size h))

  abbrev times : ℕ → Expression
  times n = held false n 0 *' itself x (whole 180) X h

  multiple : (n k : ℕ) → n ≤ 3 → k ≤ 49 → T (passes binary64 k (times n))
      → Approximates k defined_most (outcome w (mul binary64 (round binary64 false n 1) x)).value
      (defined w (whole n ⊗ number x))
  multiple n k l m t =
      let y = mul binary64 (round binary64 false n 1) x in
      value_carried w y (outcome w y) (outcome_kept w y) (whole n ⊗ number x) m (within binary64 k (times n) t)
      (in_range n l)

-- ---- the sixteen as expressions over the nine
pub record Known : Type 0 where
  pub cos_e : Expression
  pub sin_e : Expression
  pub sin2_e : Expression
  pub cos_a : Expression
  pub sin_a : Expression
  pub cos2_a : Expression
  pub sin2_a : Expression
  pub cos3_a : Expression
  pub sin3_a : Expression

abbrev decimal : ℕ → Expression
decimal n = literal false n (10 ^ 16)

abbrev int : ℕ → Expression
int n = held false n 0

abbrev half : Expression
half = held false 1 1

abbrev expressions : ℕ → Known → List Expression
expressions order v =
    let cos_e2 = v.cos_e *' v.cos_e in
    let cos_e3 = cos_e2 *' v.cos_e in
    let sin_e2 = v.sin_e *' v.sin_e in
    sixteen (int 0) order (int 1 ∷ [])
    (v.cos_e *' v.sin_a ∷ v.sin_e ∷ v.cos_e *' v.cos_a ∷ [])
    (decimal 8660254037844386 *' cos_e2 *' v.sin2_a
    ∷ decimal 8660254037844386 *' v.sin2_e *' v.sin_a
    ∷ half *' (int 3 *' v.sin_e *' v.sin_e -' int 1)
    ∷ decimal 8660254037844386 *' v.sin2_e *' v.cos_a
    ∷ decimal 8660254037844386 *' cos_e2 *' v.cos2_a
    ∷ [])
    (decimal 7905694150420949 *' cos_e3 *' v.sin3_a
    ∷ decimal 19364916731037085 *' cos_e2 *' v.sin_e *' v.sin2_a
    ∷ decimal 6123724356957945 *' v.cos_e *' (int 5 *' sin_e2 -' int 1) *' v.sin_a
    ∷ half *' v.sin_e *' (int 5 *' sin_e2 -' int 3)
    ∷ decimal 6123724356957945 *' v.cos_e *' (int 5 *' sin_e2 -' int 1) *' v.cos_a
    ∷ decimal 19364916731037085 *' cos_e2 *' v.sin_e *' v.cos2_a
    ∷ decimal 7905694150420949 *' cos_e3 *' v.cos3_a
    ∷ [])

-- ---- document 01's order of channels 6 and 12 and the program's are the same number: 1 / 2 times a number is the
-- number over 2
module _ (s : Sines) where
  sixth : Fraction
  sixth = fraction 1 0 2 ⊗ (whole 3 ⊗ s.sin_e ⊗ s.sin_e ⊖ whole 1)

  sixth_is : sixth ≡ (whole 3 ⊗ square s.sin_e ⊖ whole 1) ⊘ whole 2
  unfolding sixth
  sixth_is = part-⊗ (whole 3 ⊗ s.sin_e ⊗ s.sin_e ⊖ whole 1) 2
      ∙ ap (λ (n : Fraction). (n ⊖ whole 1) ⊘ whole 2) (⊗-assoc (whole 3) s.sin_e s.sin_e)

  twelfth : Fraction
  twelfth = fraction 1 0 2 ⊗ s.sin_e ⊗ (whole 5 ⊗ square s.sin_e ⊖ whole 3)

  twelfth_is : twelfth ≡ s.sin_e ⊗ (whole 5 ⊗ square s.sin_e ⊖ whole 3) ⊘ whole 2
  unfolding twelfth
  twelfth_is =
      let r = whole 5 ⊗ square s.sin_e ⊖ whole 3 in
      ⊗-assoc (fraction 1 0 2) s.sin_e r ∙ part-⊗ (s.sin_e ⊗ r) 2

  arranged : ℕ → Fraction → Fraction → List Fraction
  arranged order x y = sixteen (whole 0) order (degree0 s) (degree1 s) (set (degree2 s) 2 x) (set (degree3 s) 3 y)

  restated : (order : ℕ) → arranged order sixth twelfth ≡ formulas_over order s
  unfolding arranged formulas_over
  restated order = λ i. sixteen (whole 0) order (degree0 s) (degree1 s) (set (degree2 s) 2 (sixth_is i))
      (set (degree3 s) 3 (twelfth_is i))

-- ---- of an accepted direction

-- the sixteen are near their formulas, all as promised, and each as a caller may use it
pub record Bounded (d : Direction) (n : ℕ) : Type 0 where
  pub near : EachWithin gain_bits (up_to n (waves_of d)) (formulas n (number d.azimuth) (number d.elevation))
  pub each : (i : ℕ) (x : Float) (q : Fraction) → i < 16 → Approximates 42 (whole 5) (get_or (up_to n (waves_of d)) i x)
      (get_or (formulas n (number d.azimuth) (number d.elevation)) i q)

module _ (d : Direction) (A : 0 < (number d.azimuth).over) (a : AtMost (magnitude (number d.azimuth)) (whole 180))
    (E : 0 < (number d.elevation).over) (e : AtMost (magnitude (number d.elevation)) (whole 180)) where
  abbrev known : Known
  known = record {
    cos_e = value (single cosine d.elevation E e);
    sin_e = value (single sine d.elevation E e);
    sin2_e = value (multiple sine d.elevation E e 2 44 (lit≤ tt) (lit≤ tt) tt);
    cos_a = value (single cosine d.azimuth A a);
    sin_a = value (single sine d.azimuth A a);
    cos2_a = value (multiple cosine d.azimuth A a 2 44 (lit≤ tt) (lit≤ tt) tt);
    sin2_a = value (multiple sine d.azimuth A a 2 44 (lit≤ tt) (lit≤ tt) tt);
    cos3_a = value (multiple cosine d.azimuth A a 3 43 (lit≤ tt) (lit≤ tt) tt);
    sin3_a = value (multiple sine d.azimuth A a 3 43 (lit≤ tt) (lit≤ tt) tt);
  }

  abbrev sines : Sines
  sines = sines_of (number d.azimuth) (number d.elevation)

  -- the expressions are what the program computes and, exactly, document 01's formulas, so the tests bound the one by
  -- the other
  tested : (n : ℕ) → map (run binary64) (expressions n known) ≡ up_to n (waves_of d)
      → map exact (expressions n known) ≡ arranged sines n (sixth sines) (twelfth sines)
      → length (expressions n known) ≡ 16
      → T (every (passes binary64 gain_bits) (expressions n known))
      → T (every (sized binary64 42 5 1) (expressions n known)) → Bounded d n
  tested n r p l s t =
      let e = p ∙ restated sines n in
      record {
        near = subst₂ (EachWithin gain_bits) r e (each_within binary64 gain_bits (expressions n known) s);
        each = λ i x q h.
            subst₂ (λ (xs : List Float) (qs : List Fraction). Approximates 42 (whole 5) (get_or xs i x) (get_or qs i q))
            r e
            (each_approximates binary64 42 5 1 (expressions n known) t i x q (subst (λ (k : ℕ). i < k) (sym l) h));
      }

  pub bounded : (n : ℕ) → refuses_order n ≡ false → Bounded d n
  unfolding up_to waves_of sin cos arranged sixth twelfth of_int round
  bounded = by_order_lem (Bounded d) (tested 1 refl refl refl tt tt) (tested 2 refl refl refl tt tt)
      (tested 3 refl refl refl tt tt)
