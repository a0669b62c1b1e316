-- Expressions: what floats make of one (`run`), what it is exactly (`exact`), and a bound on the difference that is
-- computed from it (`bound`). One theorem, `sound`, says that the bound holds; so the bound of a formula is an
-- expression, the formula that `exact` of it is by computation, and `tt` (`within`). Errors are counted in units of 2 ^
-- -100, which is fine enough for both formats. Assumes nothing.
use Rattle.std.specs.Prelude.{◌≡◌, ◌∷◌, ◌&&◌, ◌+◌, ◌*◌, ◌/◌, ◌^◌, ◌≤◌, ◌<◌}
use Rattle.lists.specs.Prelude.{refl, sym, ap, ◌∙◌, subst, List, [], map, Bool, true, false, cond, ℕ, zero, suc}
use Rattle.lists.specs.Prelude.{zero-le, lt_irrefl, not-suc-le-zero, le_of_suc-le-suc, le_of_lt, lt_of_le_of_lt}
use Rattle.lists.specs.Prelude.{lt_of_not-le, sub-eq-zero_of_le, add-sub_of_le, zero-mul, zero-div, div-mul-le_self}
use Rattle.lists.specs.Prelude.{dec_le, arith, T, leb, ltb, leb→le, ltb→lt, lit<, pow_pos, length, get_or, Float}
use Rattle.lists.specs.Prelude.{Format, prec, emax, low, fits, round, neg, add, sub, mul, div}
use lib.Ieee.Fits.{and_l, and_r}
use Rattle.lists.specs.Tables.{every}
use Rattle.fractions.specs.Fraction.{Fraction, fraction, whole, opposite, magnitude, signed, number, ◌⊕◌, ◌⊖◌}
use Rattle.fractions.specs.Fraction.{◌⊗◌, ◌⊘◌, AtMost, Within, EachWithin}
use Rattle.fractions.proofs.Approximates.{Approximates}
use Rattle.fractions.proofs.Order.{left}
use Rattle.fractions.proofs.Magnitude.{magnitude_above_lem}
use Rattle.fractions.proofs.Close.{Size, Least, size_unit, ceiling, ceiling_ge}
use Rattle.fractions.proofs.Within.{within_refl, gap_size, within_counted, counted_within, size_at_most}
use Rattle.fractions.proofs.Within.{least_at_most}
use Rattle.fractions.proofs.Rounding.{rounding, fine}
use Rattle.fractions.proofs.Divide.{least_unit, least_add, least_mul, least_positive}
use Rattle.fractions.proofs.ExactInFormat.{fits_most}
use Rattle.fractions.proofs.Near.{Near, near_neg, near_add, near_sub, near_mul, near_div, near_literal}
use Rattle.fractions.proofs.Near.{near_held, quotient_most, quotient_result, quotient_error}

-- ---- a float of which something is known: it is within 2 ^ -bits of `exact`, which is `most` in magnitude at most
-- and `least` at least
pub record Known : Type 0 where
  pub float : Float
  pub exact : Fraction
  pub bits : ℕ
  pub most : Fraction
  pub least : Fraction
  pub near : Within bits (number float) exact
  pub size : AtMost (magnitude exact) most
  pub above : AtMost least exact

-- `literal s n d` is the float nearest to ±n / d, `held s n j` the float ±n / 2 ^ j
infixl 70 ◌+'◌ ◌-'◌
infixl 75 ◌*'◌ ◌/'◌
pub data Expression : Type 0 where
  known : Known → Expression
  literal held : Bool → ℕ → ℕ → Expression
  negated : Expression → Expression
  ◌+'◌ ◌-'◌ ◌*'◌ ◌/'◌ : Expression → Expression → Expression

abbrev pub run : Format → Expression → Float
run f (known v) = v.float
run f (literal s n d) = round f s n d
run f (held s n j) = round f s n (2 ^ j)
run f (negated a) = neg (run f a)
run f (a +' b) = add f (run f a) (run f b)
run f (a -' b) = sub f (run f a) (run f b)
run f (a *' b) = mul f (run f a) (run f b)
run f (a /' b) = div f (run f a) (run f b)

abbrev pub exact : Expression → Fraction
exact (known v) = v.exact
exact (literal s n d) = signed s n d
exact (held s n j) = signed s n (2 ^ j)
exact (negated a) = opposite (exact a)
exact (a +' b) = exact a ⊕ exact b
exact (a -' b) = exact a ⊖ exact b
exact (a *' b) = exact a ⊗ exact b
exact (a /' b) = exact a ⊘ exact b

-- ---- the bound, in units of 1 / scale: on the magnitude, on the error, and from below (0 where nothing is known),
-- and whether the laws that give them apply
abbrev pub scale : ℕ
scale = 2 ^ 100

pub record Bound : Type 0 where
  pub most : ℕ
  pub error : ℕ
  pub least : ℕ
  pub good : Bool

-- v, where both k and l are above 0
abbrev both : ℕ → ℕ → ℕ → ℕ
both k l v = cond (ltb 0 k && ltb 0 l) v 0

abbrev sum_bound : Format → Bound → Bound → ℕ → Bound
sum_bound f a b l =
    let B = a.most + a.error + (b.most + b.error) in
    record {
      most = a.most + b.most;
      error = rounding f B + (a.error + b.error);
      least = l;
      good = a.good && b.good && fine f scale B;
    }

abbrev product_bound : Format → Bound → Bound → Bound
product_bound f a b =
    let B = ceiling ((a.most + a.error) * (b.most + b.error)) scale in
    record {
      most = ceiling (a.most * b.most) scale;
      error = rounding f B + ceiling (a.error * (b.most + b.error) + a.most * b.error) scale;
      least = both a.least b.least (a.least * b.least / scale);
      good = a.good && b.good && fine f scale B;
    }

abbrev quotient_bound : Format → Bound → Bound → Bound
quotient_bound f a b = record {
  most = quotient_most scale a.most b.least;
  error = quotient_error f scale a.most a.error b.least b.error;
  least = 0;
  good = a.good && b.good && ltb b.error b.least && fine f scale
      (quotient_result scale a.most a.error b.least b.error);
}

abbrev literal_bound : Format → Bool → ℕ → ℕ → Bound
literal_bound f s n d = let B = ceiling (n * scale) d in
    record { most = B; error = rounding f B; least = cond s 0 (n * scale / d); good = ltb 0 d && fine f scale B }

abbrev pub bound : Format → Expression → Bound
bound f (known v) = record {
  most = ceiling (v.most.plus * scale) v.most.over;
  error = ceiling scale (2 ^ v.bits);
  least = left v.least * scale / v.least.over;
  good = ltb 0 v.most.over && ltb 0 v.least.over;
}
bound f (literal s n d) = literal_bound f s n d
bound f (held s n j) = record {
  most = ceiling (n * scale) (2 ^ j);
  error = 0;
  least = cond s 0 (n * scale / 2 ^ j);
  good = ltb n (2 ^ prec f) && leb j (low f);
}
bound f (negated a) = let b = bound f a in record { most = b.most; error = b.error; least = 0; good = b.good }
bound f (a +' b) = sum_bound f (bound f a) (bound f b)
    (both (bound f a).least (bound f b).least ((bound f a).least + (bound f b).least))
bound f (a -' b) = sum_bound f (bound f a) (bound f b) 0
bound f (a *' b) = product_bound f (bound f a) (bound f b)
bound f (a /' b) = quotient_bound f (bound f a) (bound f b)

-- ---- the theorem
pub record Bounds (b : Bound) (x q : Fraction) : Type 0 where
  pub near : Near scale x q b.most b.error
  pub above : 0 < b.least → Least scale q b.least

none : {A : Type 0} → 0 < 0 → A
none h = absurd (lt_irrefl 0 h)

most_size : (W : ℕ) (q m : Fraction) → 0 < m.over → AtMost (magnitude q) m → Size W q (ceiling (m.plus * W) m.over)
most_size W q m D h = size_unit D (ceiling_ge (m.plus * W) m.over D) (gap_size (omega arith))

least_size : (W : ℕ) (q l : Fraction) → 0 < l.over → AtMost l q → 0 < left l * W / l.over
    → Least W q (left l * W / l.over)
least_size W q l D h p =
    least_unit (left l * W / l.over) D (div-mul-le_self (left l * W) l.over) (go (dec_le l.minus l.plus))
  where
    go : Dec (l.minus ≤ l.plus) → Least l.over q (left l)
    go (yes m) =
        record {
          least =
              omega (
                arith,
                subst
                    (λ (n : ℕ). n * q.over + q.minus * l.over ≤ q.plus * l.over + l.minus * q.over)
                    (sym (add-sub_of_le m)) h,
              );
        }
    go (no n) = none
        (rw (← ap (λ (m : ℕ). m * W / l.over) (sub-eq-zero_of_le (le_of_lt (lt_of_not-le n)))
        ∙ ap (λ (m : ℕ). m / l.over) (zero-mul W) ∙ zero-div l.over) p)

both_says : (k l v : ℕ) → 0 < both k l v → (0 < k) × (0 < l) × (both k l v ≡ v)
both_says k l v = go (ltb 0 k) (ltb 0 l) (ltb→lt 0 k) (ltb→lt 0 l)
  where
    go : (s t : Bool) → (T s → 0 < k) → (T t → 0 < l) → 0 < cond (s && t) v 0
        → (0 < k) × (0 < l) × (cond (s && t) v 0 ≡ v)
    go true true g h p = (g tt, h tt, refl)
    go true false g h p = none p
    go false t g h p = none p

signed_least : (s : Bool) (n d W : ℕ) → 0 < cond s 0 (n * W / d) → Least W (signed s n d) (cond s 0 (n * W / d))
signed_least true n d W p = none p
signed_least false n d W p = record { least = omega (arith, div-mul-le_self (n * W) d) }

module _ (f : Format) where
  known_bounds : (v : Known) → T (ltb 0 v.most.over) → T (ltb 0 v.least.over)
      → Bounds (bound f (known v)) (number v.float) v.exact
  known_bounds v s t = record {
    near = record {
      close = within_counted (ceiling scale (2 ^ v.bits)) (ceiling_ge scale (2 ^ v.bits) (pow_pos v.bits))
          v.near;
      size = most_size scale v.exact v.most (ltb→lt 0 v.most.over s) v.size;
    };
    above = least_size scale v.exact v.least (ltb→lt 0 v.least.over t) v.above;
  }

  literal_bounds : (s : Bool) (n d : ℕ) → T (ltb 0 d) → T (fine f scale (ceiling (n * scale) d))
      → Bounds (literal_bound f s n d) (number (round f s n d)) (signed s n d)
  literal_bounds s n d D t =
      record { near = near_literal f scale s n d (ltb→lt 0 d D) t; above = signed_least s n d scale }

  held_bounds : (s : Bool) (n j : ℕ) → T (ltb n (2 ^ prec f)) → T (leb j (low f))
      → Bounds (bound f (held s n j)) (number (round f s n (2 ^ j))) (signed s n (2 ^ j))
  held_bounds s n j h l = record {
    near = near_held f scale s n j (ltb→lt n (2 ^ prec f) h) (leb→le j (low f) l);
    above = signed_least s n (2 ^ j) scale;
  }

  module _ {a b : Bound} {q r : Fraction} (x y : Float) (g : Bounds a (number x) q) (h : Bounds b (number y) r) where
    sum_bounds : T (fine f scale (a.most + a.error + (b.most + b.error)))
        → Bounds (sum_bound f a b (both a.least b.least (a.least + b.least))) (number (add f x y)) (q ⊕ r)
    sum_bounds t = record {
      near = near_add f x y g.near h.near t;
      above = λ p. let s = both_says a.least b.least (a.least + b.least) p in subst
          (λ (n : ℕ). Least scale (q ⊕ r) n) (sym s.2) (least_add (g.above s.0) (h.above s.1));
    }

    difference_bounds : T (fine f scale (a.most + a.error + (b.most + b.error)))
        → Bounds (sum_bound f a b 0) (number (sub f x y)) (q ⊖ r)
    difference_bounds t = record { near = near_sub f x y g.near h.near t; above = none }

    product_bounds : T (fine f scale (ceiling ((a.most + a.error) * (b.most + b.error)) scale))
        → Bounds (product_bound f a b) (number (mul f x y)) (q ⊗ r)
    product_bounds t = record { near = near_mul f x y g.near h.near t; above = least }
      where
        least : 0 < both a.least b.least (a.least * b.least / scale)
            → Least scale (q ⊗ r) (both a.least b.least (a.least * b.least / scale))
        least p =
            let s = both_says a.least b.least (a.least * b.least / scale) p in
            let k = g.above s.0 in
            let l = h.above s.1 in
            rw s.2 (least_mul (a.least * b.least / scale) (lit< tt) (div-mul-le_self (a.least * b.least) scale)
            (le_of_lt (least_positive s.0 g.near.close.second k))
            (le_of_lt (least_positive s.1 h.near.close.second l)) k l)

    quotient_bounds : T (ltb b.error b.least)
        → T (fine f scale (quotient_result scale a.most a.error b.least b.error))
        → Bounds (quotient_bound f a b) (number (div f x y)) (q ⊘ r)
    quotient_bounds l t =
        let k = ltb→lt b.error b.least l in
        record {
          near = near_div f x y g.near h.near.close (h.above (lt_of_le_of_lt zero-le k)) k t;
          above = none;
        }

  pub sound : (a : Expression) → T (bound f a).good → Bounds (bound f a) (number (run f a)) (exact a)
  sound (known v) t =
      let i = ltb 0 v.most.over in let j = ltb 0 v.least.over in known_bounds v (and_l i j t) (and_r i j t)
  sound (literal s n d) t = let i = ltb 0 d in let j = fine f scale (ceiling (n * scale) d) in literal_bounds s n d
      (and_l i j t) (and_r i j t)
  sound (held s n j) t =
      let i = ltb n (2 ^ prec f) in let k = leb j (low f) in held_bounds s n j (and_l i k t) (and_r i k t)
  sound (negated a) t = record { near = near_neg (run f a) (sound a t).near; above = none }
  sound (a +' b) t =
      let i = (bound f a).good in let j = (bound f b).good in let k = fine f scale
      ((bound f a).most + (bound f a).error + ((bound f b).most + (bound f b).error)) in
      sum_bounds (run f a) (run f b) (sound a (and_l i j (and_l (i && j) k t)))
      (sound b (and_r i j (and_l (i && j) k t))) (and_r (i && j) k t)
  sound (a -' b) t =
      let i = (bound f a).good in let j = (bound f b).good in let k = fine f scale
      ((bound f a).most + (bound f a).error + ((bound f b).most + (bound f b).error)) in
      difference_bounds (run f a) (run f b) (sound a (and_l i j (and_l (i && j) k t)))
      (sound b (and_r i j (and_l (i && j) k t))) (and_r (i && j) k t)
  sound (a *' b) t =
      let i = (bound f a).good in let j = (bound f b).good in let k = fine f scale
      (ceiling (((bound f a).most + (bound f a).error) * ((bound f b).most + (bound f b).error)) scale) in
      product_bounds (run f a) (run f b) (sound a (and_l i j (and_l (i && j) k t)))
      (sound b (and_r i j (and_l (i && j) k t))) (and_r (i && j) k t)
  sound (a /' b) t =
      let i = (bound f a).good in let j = (bound f b).good in let l = ltb (bound f b).error (bound f b).least in
      let k = fine f scale (quotient_result scale (bound f a).most (bound f a).error (bound f b).least
      (bound f b).error) in
      let u = and_l (i && j && l) k t in
      quotient_bounds (run f a) (run f b) (sound a (and_l i j (and_l (i && j) l u)))
      (sound b (and_r i j (and_l (i && j) l u))) (and_r (i && j) l u) (and_r (i && j && l) k t)

  -- ---- what a caller has of it
  -- the error is 2 ^ -k at most
  abbrev pub passes : ℕ → Expression → Bool
  passes k a = let b = bound f a in b.good && leb (b.error * 2 ^ k) scale

  pub within : (k : ℕ) (a : Expression) → T (passes k a) → Within k (number (run f a)) (exact a)
  within k a t =
      let i = (bound f a).good in let j = leb ((bound f a).error * 2 ^ k) scale in
      counted_within (lit< tt) (leb→le ((bound f a).error * 2 ^ k) scale (and_r i j t))
      (sound a (and_l i j t)).near.close

  -- and the exact value is n / d in magnitude at most
  abbrev pub sized : ℕ → ℕ → ℕ → Expression → Bool
  sized k n d a = passes k a && leb ((bound f a).most * d) (n * scale)

  pub approximates : (k n d : ℕ) (a : Expression) → T (sized k n d a)
      → Approximates k (fraction n 0 d) (run f a) (exact a)
  approximates k n d a t =
      let i = passes k a in let j = leb ((bound f a).most * d) (n * scale) in
      record {
        near = within k a (and_l i j t);
        size = size_at_most (size_unit (lit< tt) (leb→le ((bound f a).most * d) (n * scale) (and_r i j t))
            (sound a (and_l (bound f a).good (leb ((bound f a).error * 2 ^ k) scale) (and_l i j t))).near.size);
      }

  -- a row of expressions, by one test
  pub each_within : (k : ℕ) (l : List Expression) → T (every (passes k) l) → EachWithin k (map (run f) l) (map exact l)
  each_within k [] t = tt
  each_within k (a ∷ l) t = (
    within k a (and_l (passes k a) (every (passes k) l) t),
    each_within k l (and_r (passes k a) (every (passes k) l) t),
  )

  pub each_approximates : (k n d : ℕ) (l : List Expression) → T (every (sized k n d) l)
      → (i : ℕ) (x : Float) (q : Fraction) → i < length l
      → Approximates k (fraction n 0 d) (get_or (map (run f) l) i x) (get_or (map exact l) i q)
  each_approximates k n d [] t i x q h = absurd (not-suc-le-zero h)
  each_approximates k n d (a ∷ l) t zero x q h = approximates k n d a (and_l (sized k n d a) (every (sized k n d) l) t)
  each_approximates k n d (a ∷ l) t (suc i) x q h =
      each_approximates k n d l (and_r (sized k n d a) (every (sized k n d) l) t) i x q (le_of_suc-le-suc h)

-- ---- the ways to have a `Known`
-- a float that a callee says to be near an exact number
abbrev pub value : {k : ℕ} {b : Fraction} {x : Float} {q : Fraction} → Approximates k b x q → Expression
value {k} {b} {x} {q} h = known
    (record {
      float = x;
      exact = q;
      bits = k;
      most = b;
      least = opposite b;
      near = h.near;
      size = h.size;
      above = magnitude_above_lem q b h.size;
    })

-- a float that stands for itself, as a number that the caller gave
abbrev pub itself : (x : Float) (most : Fraction) → 0 < (number x).over → AtMost (magnitude (number x)) most
    → Expression
itself x m X h =
    value {k = 200} {b = m} {x = x} {q = number x} (record { near = within_refl 200 (number x) X; size = h })

-- a divisor, which is L / scale at least; no float of the format is as large as 2 ^ (emax + 1)
abbrev pub divisor : (f : Format) (L : ℕ) (y : Float) → 0 < (number y).over → T (fits f y) → Least scale (number y) L
    → Expression
divisor f L y Y t h = known (record {
  float = y;
  exact = number y;
  bits = 200;
  most = whole (2 ^ suc (emax f));
  least = fraction L 0 scale;
  near = within_refl 200 (number y) Y;
  size = fits_most f y Y t;
  above = least_at_most h;
})
