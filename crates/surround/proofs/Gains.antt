-- The gains of an accepted azimuth: each raw gain over the root of the sum of squares is within 2 ^ -30, by squares, of
-- document 01's; not below 0; and exactly 0.0 where the raw gain is. One law for any layout of which the tests pass;
-- 5.1 and 7.1 pass them by computing. Assumes nothing.
use Rattle.std.specs.Prelude.{◌≡◌, ◌⊎◌, ◌||◌, ◌+◌, ◌*◌, ◌/◌, ◌^◌, ◌≤◌, ◌<◌}
use Rattle.lists.specs.Prelude.{refl, sym, ap, ◌∙◌, subst, subst₂, inl, inr, Bool, true, false, not, cond, ℕ, arith}
use Rattle.lists.specs.Prelude.{lt-ltb, le-ltb, T, leb, ltb, leb→le, lit<, lit≤, get_or, get_or-eq_default, Float, nan}
use Rattle.lists.specs.Prelude.{binary64, fits, div, of_int}
use lib.Ieee.Fits.{add-fits}
use lib.Ieee.Positive.{positive}
use Rattle.formats.specs.Floats.{zero_float}
use Rattle.lists.proofs.Tests.{cond_true, cond_false}
use Rattle.fractions.specs.Fraction.{Fraction, whole, number, magnitude, AtMost, is_less}
use Rattle.fractions.specs.Squares.{BySquares}
use Rattle.fractions.proofs.Roots.{RootOf}
use Rattle.fractions.proofs.Close.{Least}
use Rattle.fractions.proofs.Within.{at_most_least}
use Rattle.fractions.proofs.Divide.{least_unit, least_near, least_positive}
use Rattle.fractions.proofs.Operations.{number_positive}
use Rattle.fractions.proofs.Near.{Near}
use Rattle.fractions.proofs.Expression.{Expression, held, run, exact, scale, bound, sound, value}
use Rattle.fractions.proofs.Sums.{squares_from}
use Rattle.fractions.proofs.Normalised.{root_error, root_near, normal, normalised, quotient_not_below}
use Rattle.numbers.specs.Computed.{root_of}
use Rattle.numbers.proofs.Close.{root_close, root_positive}
use Rattle.numbers.proofs.Zeros.{zero_over}
use Rattle.lists.specs.Tables.{tab}
use Rattle.lists.proofs.Lists.{less_or_at_most}
use Rattle.lists.proofs.Tables.{length_tab, get_or_table}
use Rattle.channel.proofs.Counts.{by_surround}
use Rattle.channel.specs.Layouts.{channels_of, surround, low_frequency}
use Rattle.channel.specs.declared.Layout.{Layout}
use Rattle.channel.specs.declared.Layout.TheVariants.{Surround51, Surround71}
use Rattle.surround.specs.Formula.{speaker_at, distance, raw_at, sum_at, is_silent}
use Rattle.surround.specs.Computed.{channel_gain, raw_gains, sum_of, divided_by}
use Rattle.surround.specs.Promise.{surround_bits, surround_gains, SurroundWords}
use Rattle.surround.proofs.Raw.{channel_raw, channel_silent, channel_low}
use Rattle.surround.proofs.Clear.{channel_in_sum, clear}

-- in units of 1 / scale: S is 3 / 100 at least, its root 17 / 100, and a gain 1 and a little at most
abbrev least_sum : ℕ
least_sum = 3 * scale / 100

abbrev least_root : ℕ
least_root = 17 * scale / 100

abbrev most_gain : ℕ
most_gain = scale + 2 ^ 70

module _ (l : Layout) (a : Float) (A : 0 < (number a).over) (H : AtMost (magnitude (number a)) (whole 180)) where
  abbrev n : ℕ
  n = channels_of l

  abbrev q : Fraction
  q = number a

  abbrev gain : ℕ → Expression
  gain c = value (channel_raw l a c A H).known

  abbrev squares : Expression
  squares = squares_from (held false 0 0) (tab 0 n gain)

  abbrev sum : Float
  sum = sum_of n (raw_gains l a n)

  abbrev root : Float
  root = root_of binary64 sum

  -- what a layout has to pass
  record Passes : Type 0 where
    good : T (bound binary64 squares).good
    clearly : T (leb (1 + (bound binary64 squares).error) least_sum)
    fine : T (normal binary64 surround_bits (bound binary64 (gain 0)).most (bound binary64 (gain 0)).error most_gain
        (root_error (2 ^ 53) (bound binary64 squares).most (bound binary64 squares).error) least_root least_sum)
    run_is : run binary64 squares ≡ sum
    exact_is : exact squares ≡ sum_at l q
    fit : T (fits binary64 sum)
    small : n ≤ 16

  module _ (e : surround l ≡ true) (p : Passes) where
    sum_near : Near scale (number sum) (sum_at l q) (bound binary64 squares).most (bound binary64 squares).error
    sum_near = subst₂ (λ (x : Float) (s : Fraction). Near scale (number x) s (bound binary64 squares).most
        (bound binary64 squares).error) p.run_is p.exact_is (sound binary64 squares p.good).near

    sum_least : Least scale (sum_at l q) least_sum
    sum_least = least_unit least_sum (lit< tt) (lit≤ tt) (at_most_least (clear q A H l e))

    sum_positive : T (positive sum)
    sum_positive = number_positive sum
        (least_positive (lit< tt) sum_near.close.first
        (least_near 1 (leb→le _ _ p.clearly) sum_near.close sum_least))

    root_law : RootOf (2 ^ 53) (number root) (number sum)
    root_law = root_close binary64 sum p.fit sum_positive

    above_zero : T (positive root)
    above_zero = root_positive binary64 sum p.fit sum_positive

    zero_divided : div binary64 zero_float root ≡ zero_float
    unfolding of_int
    zero_divided = zero_over root above_zero

    -- ---- a channel
    near : (c : ℕ) → c < n → BySquares surround_bits (number (div binary64 (channel_gain l a c) root)) (raw_at l q c)
        (sum_at l q)
    near c h =
        normalised binary64 surround_bits most_gain least_root (channel_gain l a c) root (raw_at l q c) (sum_at l q)
        p.fine
        (sound binary64 (gain c) tt).near root_law.positive
        (root_near (2 ^ 53) (number root) (lit≤ tt) root_law sum_near) sum_least (channel_in_sum l q c h)

    not_below_lem : (c : ℕ) → AtMost (whole 0) (number (div binary64 (channel_gain l a c) root))
    not_below_lem c = quotient_not_below binary64 (channel_gain l a c) root (channel_raw l a c A H).known.near.first
        above_zero (channel_raw l a c A H).not_below_lem

    -- ---- the sixteen places of the answer
    quotient : ℕ → Float
    quotient c = div binary64 (get_or (raw_gains l a n) c nan) root

    place_is : (c : ℕ) → c < 16 → get_or (surround_gains l a) c zero_float ≡ quotient c
    unfolding surround_gains divided_by quotient
    place_is c = get_or_table 16 quotient c zero_float

    raw : ℕ → Float
    raw c = cond (ltb c n) (channel_gain l a c) zero_float

    raw_is : (c : ℕ) → c < 16 → get_or (raw_gains l a n) c nan ≡ raw c
    unfolding raw_gains raw
    raw_is c = get_or_table 16 raw c nan

    channel_is : (c : ℕ) → c < n → get_or (surround_gains l a) c zero_float ≡ div binary64 (channel_gain l a c) root
    unfolding quotient raw
    channel_is c h =
        let k : c < 16 = omega (arith, p.small) in
        place_is c k ∙ ap (λ (x : Float). div binary64 x root)
        (raw_is c k ∙ cond_true (channel_gain l a c) zero_float (lt-ltb c n h))

    -- beyond the channels of the layout
    beyond_is : (c : ℕ) → n ≤ c → get_or (surround_gains l a) c zero_float ≡ zero_float
    unfolding quotient raw surround_gains divided_by
    beyond_is c h = go (less_or_at_most c 16)
      where
        go : (c < 16) ⊎ (16 ≤ c) → get_or (surround_gains l a) c zero_float ≡ zero_float
        go (inl k) = place_is c k ∙ ap (λ (x : Float). div binary64 x root)
            (raw_is c k ∙ cond_false (channel_gain l a c) zero_float (le-ltb c n h)) ∙ zero_divided
        go (inr k) = get_or-eq_default (surround_gains l a) zero_float {n = c}
            (omega (arith, length_tab 0 16 quotient))

    zeroed : (c : ℕ) → channel_gain l a c ≡ zero_float → get_or (surround_gains l a) c zero_float ≡ zero_float
    zeroed c e = go (less_or_at_most c n)
      where
        go : (c < n) ⊎ (n ≤ c) → get_or (surround_gains l a) c zero_float ≡ zero_float
        go (inl h) = channel_is c h ∙ ap (λ (x : Float). div binary64 x root) e ∙ zero_divided
        go (inr h) = beyond_is c h

    silent : (c : ℕ) → T (is_silent l q c) → get_or (surround_gains l a) c zero_float ≡ zero_float
    unfolding is_silent
    silent c t = go (leb n c) (low_frequency l c) (is_less (distance q (speaker_at l c)) (whole 90)) (leb→le n c)
        (channel_low l a c A H) (channel_silent l a c A H) t
      where
        go : (b f d : Bool) → (T b → n ≤ c) → (f ≡ true → channel_gain l a c ≡ zero_float)
            → (d ≡ false → channel_gain l a c ≡ zero_float) → T (b || f || not d)
            → get_or (surround_gains l a) c zero_float ≡ zero_float
        go true f d u v w t = beyond_is c (u tt)
        go false true d u v w t = zeroed c (v refl)
        go false false false u v w t = zeroed c (w refl)
        go false false true u v w t = absurd t

    the_gains : SurroundWords l a (λ c. get_or (surround_gains l a) c zero_float)
    the_gains = record {
      clear = clear q A H l e;
      near = λ c h. subst (λ (x : Float). BySquares surround_bits (number x) (raw_at l q c) (sum_at l q))
          (sym (channel_is c h)) (near c h);
      above = λ c h. subst (λ (x : Float). AtMost (whole 0) (number x)) (sym (channel_is c h)) (not_below_lem c);
      silent = silent;
    }

passes_51 : (a : Float) (A : 0 < (number a).over) (H : AtMost (magnitude (number a)) (whole 180))
    → Passes Surround51 a A H
unfolding sum_of raw_gains of_int
passes_51 a A H = record {
  good = tt;
  clearly = tt;
  fine = tt;
  run_is = refl;
  exact_is = refl;
  fit = add-fits binary64 _ _;
  small = lit≤ tt;
}

passes_71 : (a : Float) (A : 0 < (number a).over) (H : AtMost (magnitude (number a)) (whole 180))
    → Passes Surround71 a A H
unfolding sum_of raw_gains of_int
passes_71 a A H = record {
  good = tt;
  clearly = tt;
  fine = tt;
  run_is = refl;
  exact_is = refl;
  fit = add-fits binary64 _ _;
  small = lit≤ tt;
}

-- so the sum of the squares has a root
pub sum_above_zero : (l : Layout) (a : Float) → surround l ≡ true → 0 < (number a).over
    → AtMost (magnitude (number a)) (whole 180) → T (positive (sum_of (channels_of l) (raw_gains l a (channels_of l))))
sum_above_zero l a e A H =
    sum_positive l a A H e (by_surround (λ (l : Layout). Passes l a A H) (passes_51 a A H) (passes_71 a A H) l e)

pub gains : (l : Layout) (a : Float) → surround l ≡ true → 0 < (number a).over
    → AtMost (magnitude (number a)) (whole 180) → SurroundWords l a (λ c. get_or (surround_gains l a) c zero_float)
gains l a e A H =
    the_gains l a A H e (by_surround (λ (l : Layout). Passes l a A H) (passes_51 a A H) (passes_71 a A H) l e)
