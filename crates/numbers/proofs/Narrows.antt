-- `rounded` is what document 01 says of a conversion (`rounded_narrows`), and nothing else is (`narrows_only`). In
-- every format. Assumes nothing.
use Rattle.std.specs.Prelude.{◌≡◌, ◌⊎◌, ◌&&◌, ◌||◌, ◌+◌, ◌-◌, ◌*◌, ◌/◌, ◌%◌, ◌^◌, ◌≤◌, ◌<◌}
use Rattle.lists.specs.Prelude.{refl, sym, ap, ◌∙◌, subst₂, inl, inr, Bool, true, false, not, cond, true≢false, ℕ, zero}
use Rattle.lists.specs.Prelude.{suc, le_trans, mul_assoc, mul_comm, mul-le-mul_right, le_of_mul-le-mul_right}
use Rattle.lists.specs.Prelude.{lt_of_mul-lt-mul_right, eq_of_mul-eq-mul_right, le-add_right, suc-mul, min-eq_left}
use Rattle.lists.specs.Prelude.{ℕ_discrete, arith, ℤ, T, leb, ltb, pow_pos, pow-add, suc_ones, Float, nan, inf, fin}
use Rattle.lists.specs.Prelude.{Format, prec, emax, low, up, down, size, odd, units, fits, is_nan, hid, ones, top}
use Rattle.lists.specs.Prelude.{to_bits, ltb-true, ltb-false, le-leb, lt-leb}
use lib.Ieee.Fits.{two, reach, down_pos, round_is, nan-fits, inf-fits}
use lib.Ieee.Exact.{HasValue, units_val}
use lib.Ieee.Scale.{finite, overflow}
use lib.Ieee.Nearest.{closest}
use Rattle.lists.proofs.Tests.{by_test, by_less}
use Rattle.fractions.specs.Fraction.{signed, number, Same, gap, apart, AsNear}
use Rattle.fractions.proofs.Order.{same_refl, same_sym, near_same}
use Rattle.formats.proofs.Digits.{twice}
use Rattle.formats.proofs.Patterns.{is_nan_lem, same_value, units_fits, units_bits, under_inf}
use Rattle.formats.proofs.Grid.{Units, held_units}
use Rattle.numbers.specs.Conversions.{infinite, negative, largest, beyond, too_large_of, Narrows}
use Rattle.numbers.specs.Computed.{rounded}
use Rattle.fractions.proofs.Number.{by_value, finite_number, value_finite, value_same, apart_like, apart_unlike}
use Rattle.formats.proofs.Dropped.{Dropped, dropped}
use Rattle.numbers.proofs.Rounded.{most_digits, leading, best, tie, next, best_zero, tie_zero, past_middle}
use Rattle.numbers.proofs.Rounded.{before_middle}

-- ---- what `units` is, by whether it overflows
module _ (f : Format) (s : Bool) (q k : ℕ) where
  abbrev Kind : Float → Bool → Type 0
  Kind v b = (infinite v ≡ not b) × (is_nan v ≡ false) × (negative v ≡ s)

  units_kind : Kind (units f s q k) (ltb (q * 2 ^ k) (overflow f))
  unfolding units odd is_nan
  units_kind = go (ltb (q * 2 ^ k) (overflow f)) q
    where
      go : (b : Bool) (q : ℕ) → Kind (cond b (odd (suc (prec f)) s q k (low f)) (inf s)) b
      go true zero = (refl, refl, refl)
      go true (suc q) = (refl, refl, refl)
      go false q = (refl, refl, refl)

  units_under : T (finite (units f s q k)) → q * 2 ^ k < overflow f
  unfolding units
  units_under = by_less (λ (v : Float). T (finite v) → q * 2 ^ k < overflow f) (q * 2 ^ k) (overflow f) (λ l t. l)
      (λ l t. absurd t)

-- ---- the last digit of a pattern is that of q
even_pattern : (f : Format) (s : Bool) (q k : ℕ) → q ≤ 2 ^ prec f → (k ≡ 0) ⊎ (hid f ≤ q) → q * 2 ^ k < overflow f
    → to_bits f (units f s q k) % 2 ≡ q % 2
even_pattern f s q k h g o =
    ap (λ (x : ℕ). x % 2) (units_bits f s q k h g ∙ ap (λ (x : ℕ). cond s (top f) 0 + x)
    (min-eq_left (under_inf f s q k h g o)))
    ∙ ap (λ (x : ℕ). (cond s (x * suc (ones f)) 0 + (k * x + q)) % 2) (twice (prec f - 1) (omega (arith, two f)))
    ∙ last s (2 ^ (prec f - 1 - 1)) (suc (ones f))
  where
    last : (s : Bool) (j o : ℕ) → (cond s (2 * j * o) 0 + (k * (2 * j) + q)) % 2 ≡ q % 2
    last true j o = omega arith
    last false j o = omega arith

-- ---- the middle beyond which a number is too large, in units
module _ (f : Format) where
  abbrev K : ℕ
  K = low f + suc (emax f) - prec f

  end : overflow f ≡ 2 ^ prec f * 2 ^ K
  end = ap (λ (x : ℕ). 2 ^ x) (omega (arith, two f, reach f)) ∙ pow-add 2 (prec f) K

  -- the largest number is one step of 2 ^ K units below the overflow
  largest_units : largest f * 2 ^ low f + 2 ^ K ≡ overflow f
  largest_units =
      ap (λ (x : ℕ). x + 2 ^ K) (mul_assoc (2 ^ prec f - 1) (2 ^ (suc (emax f) - prec f)) (2 ^ low f)
      ∙ ap (λ (x : ℕ). (2 ^ prec f - 1) * x)
      (sym (pow-add 2 (suc (emax f) - prec f) (low f))
      ∙ ap (λ (x : ℕ). 2 ^ x) (omega (arith, two f, reach f))))
      ∙ sym (suc-mul (2 ^ prec f - 1) (2 ^ K)) ∙ ap (λ (x : ℕ). x * 2 ^ K) (suc_ones (prec f)) ∙ sym end

  beyond_units : beyond f * 2 ^ low f ≡ overflow f
  beyond_units = mul_comm (2 ^ suc (emax f)) (2 ^ low f) ∙ sym (pow-add 2 (low f) (suc (emax f)))

  middle : (c : ℕ) → (largest f + beyond f) * c * 2 ^ low f + c * 2 ^ K ≡ 2 * (2 ^ prec f * (c * 2 ^ K))
  middle c = go (largest f) (beyond f) (2 ^ low f) (2 ^ K) (overflow f) (2 ^ prec f) largest_units beyond_units end
    where
      go : (l b L k o P : ℕ) → l * L + k ≡ o → b * L ≡ o → o ≡ P * k → (l + b) * c * L + c * k ≡ 2 * (P * (c * k))
      go l b L k o P x y z =
          omega (arith, ap (λ (t : ℕ). t * c) x, ap (λ (t : ℕ). t * c) y, ap (λ (t : ℕ). t * c) z)

-- ---- a number that is rounded
module _ (f : Format) (s : Bool) (m : ℕ) (e : ℤ) where
  abbrev a : ℕ
  a = m * up e

  abbrev c : ℕ
  c = down e

  abbrev n : ℕ
  n = a * 2 ^ low f

  abbrev k : ℕ
  k = size (n / c) - prec f

  abbrev q : ℕ
  q = closest n (c * 2 ^ k)

  d : Dropped f n c k
  d = dropped f n c (down_pos e)

  q_most : q ≤ 2 ^ prec f
  q_most = most_digits f n c k (down_pos e) d

  q_leads : (k ≡ 0) ⊎ (hid f ≤ q)
  q_leads = leading f n c k (down_pos e) d

  abbrev x : Float
  x = fin s m e

  abbrev r : Float
  r = units f s q k

  -- the three numbers, as fractions: x is a / c, r and the values y of the format are whole numbers of units
  L : 0 < 2 ^ low f
  L = pow_pos (low f)

  module _ (t : T (finite r)) where
    o : q * 2 ^ k < overflow f
    o = units_under f s q k t

    value : HasValue r s (q * 2 ^ k) (2 ^ low f)
    value = units_val f s q k o

    lined : q * 2 ^ k * c ≡ q * (c * 2 ^ k)
    lined = mul_assoc q (2 ^ k) c ∙ ap (λ (z : ℕ). q * z) (mul_comm (2 ^ k) c)

    off_r : apart (signed s a c) (signed s (q * 2 ^ k) (2 ^ low f)) ≡ gap n (q * (c * 2 ^ k))
    off_r = apart_like s a c (q * 2 ^ k) (2 ^ low f) ∙ ap (λ (z : ℕ). gap n z) lined

    -- another value y of the format, w units with a sign, which is j away from x
    record Beside (y : Float) : Type 0 where
      sign : Bool
      w : ℕ
      j : ℕ
      same : Same (number y) (signed sign w (2 ^ low f))
      away : apart (signed s a c) (signed sign w (2 ^ low f)) ≡ j
      nearer : gap n (q * (c * 2 ^ k)) ≤ j
      tied : j ≤ gap n (q * (c * 2 ^ k)) → (y ≡ r → ⊥) → q % 2 ≡ 0

    like : (y : Float) → T (fits f y) → Units f s y → Beside y
    like y h u = record {
      sign = s;
      w = u.w;
      j = gap n (u.w * c);
      same = value_same y s u.w (2 ^ low f) u.value;
      away = apart_like s a c u.w (2 ^ low f);
      nearer = best f n c k (down_pos e) d u.w u.grid;
      tied = λ l ne.
          tie f n c k (down_pos e) d u.w u.grid l
          (λ (i : u.w ≡ q * 2 ^ k). ne
          (same_value f s y r (q * 2 ^ k) h r_fits (rw (← i) u.value)
          value));
    }
      where
        r_fits : T (fits f r)
        r_fits = units_fits f s q k q_most

    unlike : (y : Float) → Units f (not s) y → Beside y
    unlike y u = record {
      sign = not s;
      w = u.w;
      j = n + u.w * c;
      same = value_same y (not s) u.w (2 ^ low f) u.value;
      away = apart_unlike s a c u.w (2 ^ low f);
      nearer = le_trans (best_zero f n c k (down_pos e) d) (le-add_right n (u.w * c));
      tied = λ l ne. tie_zero f n c k (down_pos e) d (le_trans (le-add_right n (u.w * c)) l);
    }

    beside : (y : Float) → T (fits f y) → T (finite y) → Beside y
    beside nan h p = absurd p
    beside (inf t) h p = absurd p
    beside (fin t i g) h p = go (either s t)
      where
        either : (s t : Bool) → (t ≡ s) ⊎ (t ≡ not s)
        either true true = inl refl
        either true false = inr refl
        either false true = inr refl
        either false false = inl refl

        go : (t ≡ s) ⊎ (t ≡ not s) → Beside (fin t i g)
        go (inl e) = like (fin t i g) h (rw (← e) (held_units f t i g h))
        go (inr e) = unlike (fin t i g) (rw (← e) (held_units f t i g h))

    nearest : (y : Float) → T (fits f y) → T (finite y) → AsNear (number x) (number r) (number y)
    nearest y h p =
        let b = beside y h p in
        near_same (number x) (signed s a c) (number r) (signed s (q * 2 ^ k) (2 ^ low f)) (number y)
        (signed b.sign b.w (2 ^ low f)) (down_pos e) L L
        (same_refl (number x)) (value_same r s (q * 2 ^ k) (2 ^ low f) value) b.same
        (mul-le-mul_right (2 ^ low f) (subst₂ (λ (i j : ℕ). i ≤ j) (sym off_r) (sym b.away) b.nearer))

    -- how near y is, in units
    as_near : (y : Float) (p : T (finite y)) (b : Beside y) → AsNear (number x) (number y) (number r)
        → b.j ≤ gap n (q * (c * 2 ^ k))
    as_near y p b l =
        let z = signed b.sign b.w (2 ^ low f) in
        subst₂ (λ (i j : ℕ). i ≤ j) b.away off_r
        (le_of_mul-le-mul_right
        (near_same (signed s a c) (number x) z (number y) (signed s (q * 2 ^ k) (2 ^ low f)) (number r) (down_pos e)
        (finite_number y p) (finite_number r t)
        (same_refl (number x)) (same_sym (number y) z b.same)
        (same_sym (number r) (signed s (q * 2 ^ k) (2 ^ low f)) (value_same r s (q * 2 ^ k) (2 ^ low f) value)) l)
        L)

    even : (y : Float) → T (fits f y) → T (finite y) → AsNear (number x) (number y) (number r) → (y ≡ r → ⊥)
        → to_bits f r % 2 ≡ 0
    even y h p l ne = let b = beside y h p in even_pattern f s q k q_most q_leads o ∙ b.tied (as_near y p b l) ne

    -- of two neighbours that are as near only one is even
    only : (y : Float) → T (fits f y) → Units f s y → AsNear (number x) (number y) (number r)
        → ((r ≡ y → ⊥) → to_bits f y % 2 ≡ 0) → y ≡ r
    unfolding like
    only y h u l even-y = go (ℕ_discrete u.w (q * 2 ^ k))
      where
        units_one : (v : Float) (i j : ℕ) → HasValue v s i (2 ^ low f) → HasValue v s j (2 ^ low f) → i ≡ j
        units_one v i j = by_value (λ v. HasValue v s j (2 ^ low f) → i ≡ j) s i (2 ^ low f)
            (λ m e p q. eq_of_mul-eq-mul_right (down e) (down_pos e) i j (sym p ∙ q.1)) v

        b : Beside y
        b = like y h u

        both : (W : ℕ) → (suc W ≡ q) ⊎ (W ≡ suc q) → W % 2 ≡ 0 → q % 2 ≡ 0 → ⊥
        both W (inl h) i j = omega arith
        both W (inr h) i j = omega arith

        clash : (u.w ≡ q * 2 ^ k → ⊥) → ⊥
        clash ne =
            let near = as_near y (value_finite y s u.w (2 ^ low f) u.value) b l in
            let v = next f n c k (down_pos e) d u.w u.grid near ne in
            let under : v.W * 2 ^ k < overflow f = rw (← v.is) u.grid.room in
            let differ : y ≡ r → ⊥ = λ (i : y ≡ r). ne
            (units_one r u.w (q * 2 ^ k) (rw (← i) u.value)
            value) in
            let is : units f s v.W k ≡ y = same_value f s (units f s v.W k) y (v.W * 2 ^ k)
            (units_fits f s v.W k v.most) h (units_val f s v.W k under)
            (rw (← v.is) u.value) in
            both v.W v.beside
            (sym (even_pattern f s v.W k v.most v.leads under) ∙ ap (λ (z : Float). to_bits f z % 2) is
            ∙ even-y (λ i. differ (sym i)))
            (b.tied near differ)

        go : Dec (u.w ≡ q * 2 ^ k) → y ≡ r
        go (yes i) = same_value f s y r (q * 2 ^ k) h (units_fits f s q k q_most)
            (rw (← i) u.value) value
        go (no ne) = absurd (clash ne)

  -- past the middle, and only there, r is an infinity
  large : infinite r ≡ too_large_of f x
  unfolding too_large_of
  large = (units_kind f s q k).0 ∙ past ∙ ap (λ (z : ℕ). leb ((largest f + beyond f) * c) (2 * z)) (size s)
    where
      size : (s : Bool) → a ≡ cond s 0 a + cond s a 0
      size true = omega arith
      size false = omega arith

      M : ℕ
      M = (largest f + beyond f) * c

      past : not (ltb (q * 2 ^ k) (overflow f)) ≡ leb M (2 * a)
      past =
          by_test (λ (b : Bool). not b ≡ leb M (2 * a)) (ltb (q * 2 ^ k) (overflow f))
          (λ l. sym (lt-leb M (2 * a)
          (lt_of_mul-lt-mul_right (2 ^ low f)
          (omega (
            arith,
            middle f c,
            before_middle f n c k (down_pos e) d (K f) (end f)
                (ltb-true _ _ l),
          )))))
          (λ l. sym (le-leb M (2 * a)
          (le_of_mul-le-mul_right
          (omega (arith, middle f c, past_middle f n c k (down_pos e) d (K f) (end f) (ltb-false _ _ l)))
          L)))

  fin_narrows : Narrows f x r
  unfolding is_nan
  fin_narrows = record {
    held = units_fits f s q k q_most;
    not_a_number = (units_kind f s q k).1;
    sign = (units_kind f s q k).2;
    large = large;
    nearest = λ y h t p i. nearest t y p i;
    even = λ y h t p i. even t y p i;
  }

-- what is no number stays
kept_narrows : (f : Format) (v : Float) → T (fits f v) → infinite v ≡ (infinite v || (finite v && too_large_of f v))
    → (T (finite v) → ⊥) → Narrows f v v
kept_narrows f v h l n = record {
  held = h;
  not_a_number = refl;
  sign = refl;
  large = l;
  nearest = λ y t. absurd (n t);
  even = λ y t. absurd (n t);
}

pub rounded_narrows : (f : Format) (x : Float) → Narrows f x (rounded f x)
unfolding rounded is_nan
rounded_narrows f nan = kept_narrows f nan (nan-fits f) refl (λ t. t)
rounded_narrows f (inf s) = kept_narrows f (inf s) (inf-fits f s) refl (λ t. t)
rounded_narrows f (fin s m e) =
    rw (round_is f s (m * up e) (down e)) (fin_narrows f s m e)

-- ---- nothing else is what document 01 says
kind_inf : (v : Float) → infinite v ≡ true → v ≡ inf (negative v)
kind_inf nan h = absurd (true≢false (sym h))
kind_inf (inf s) h = refl
kind_inf (fin s m e) h = absurd (true≢false (sym h))

kind_fin : (v : Float) → is_nan v ≡ false → infinite v ≡ false → T (finite v)
unfolding is_nan
kind_fin nan h k = absurd (true≢false h)
kind_fin (inf s) h k = absurd (true≢false k)
kind_fin (fin s m e) h k = tt

fin_only : (f : Format) (s : Bool) (m : ℕ) (e : ℤ) (y : Float) → Narrows f (x f s m e) y → y ≡ r f s m e
unfolding is_nan
fin_only f s m e nan h = absurd (true≢false h.not_a_number)
fin_only f s m e (inf t) h = let g = fin_narrows f s m e in ap inf (h.sign ∙ sym g.sign)
    ∙ sym (kind_inf (r f s m e) (g.large ∙ sym h.large))
fin_only f s m e (fin t i j) h =
    let g = fin_narrows f s m e in
    let p = kind_fin (r f s m e) g.not_a_number (g.large ∙ sym h.large) in
    only f s m e p (fin t i j) h.held
    (rw (← h.sign) (held_units f t i j h.held))
    (h.nearest (r f s m e) tt tt g.held p)
    (λ ne. h.even (r f s m e) tt tt g.held p (g.nearest (fin t i j) tt p h.held tt) ne)

pub narrows_only : (f : Format) (x y : Float) → Narrows f x y → y ≡ rounded f x
unfolding rounded is_nan
narrows_only f nan y h = is_nan_lem y h.not_a_number
narrows_only f (inf s) y h = kind_inf y h.large ∙ ap inf h.sign
narrows_only f (fin s m e) y h = fin_only f s m e y h ∙ sym (round_is f s (m * up e) (down e))
