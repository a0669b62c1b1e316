-- Wrong answers of another shape: an LFE that is silent, refuted at every order of 5.1 and 7.1; an answer that refuses
-- always, on 5.1 at order 1; and weights that are too far off. Assumes nothing.
use Rattle.std.specs.Prelude.{◌<◌, ◌≡◌}
use Rattle.lists.specs.Prelude.{ℕ, arith, refl, sym, ap, subst, ◌∙◌, Bool, true, false, not, cond, true≢false, List}
use Rattle.lists.specs.Prelude.{pos, negsuc, eqb, le→leb, lit<, length, get_or, Float, nan, fin, size, units, round}
use Rattle.lists.specs.Prelude.{of_int, le, neg, mul, div}
use lib.Ieee.Positive.{positive}
use Rattle.fractions.specs.Fraction.{whole, number}
use Rattle.fractions.specs.Squares.{BySquares}
use Rattle.numbers.specs.Computed.{root_of, whole_root}
use Rattle.lists.specs.Tables.{chunk}
use Rattle.formats.specs.Floats.{zero_float, float}
use Rattle.refusals.proofs.Chains.{none_holds}
use Rattle.numbers.specs.Normalization.{inverse_root_of}
use Rattle.channel.specs.declared.Layout.{Layout}
use Rattle.channel.specs.declared.Layout.TheVariants.{Mono, Stereo, Surround51, Surround71, Custom}
use Rattle.channel.specs.Layouts.{channels_of, surround}
use Rattle.channel.specs.Orders.{refuses_order, channels_of_order}
use Rattle.channel.proofs.Orders.{by_order_lem}
use Rattle.harmonics.specs.Formulas.{formulas_over}
use Rattle.harmonics.specs.Computed.{up_to}
use Rattle.angles.specs.Limits.{is_inside, refuses_angle}
use Rattle.rows.specs.Rows.{computed_by}
use Rattle.decoder_matrix.specs.Matrix.{row_towards, matrix_of, formula_at}
use Rattle.decoder_matrix.specs.Promise.{matrix_bits, WeightsAnswer, checks_of, refusal_of, DecoderMatrixPromise}
use Rattle.decoder_matrix.proofs.LowFrequency.{low_frequency_row}

-- the first weight of the row of 0 degrees, 1.0/root(n), is above 0
sounds : (l : Layout) → surround l ≡ true → (order : ℕ) → refuses_order order ≡ false
    → positive (get_or (row_towards order (channels_of l) (channels_of_order order) (float (pos 0))) 0 nan) ≡ true
unfolding inverse_root_of root_of whole_root size units div round mul of_int le neg refuses_angle is_inside up_to
sounds Mono e = absurd (true≢false (sym e))
sounds Stereo e = absurd (true≢false (sym e))
sounds Surround51 e = by_order_lem
    (λ (order : ℕ). positive (get_or (row_towards order 6 (channels_of_order order) (float (pos 0))) 0 nan) ≡ true) refl
    refl refl
sounds Surround71 e = by_order_lem
    (λ (order : ℕ). positive (get_or (row_towards order 8 (channels_of_order order) (float (pos 0))) 0 nan) ≡ true) refl
    refl refl
sounds (Custom n) e = absurd (true≢false (sym e))

-- a row of zeros for the LFE, because the panner gives it none
pub low_frequency_silent : (order : ℕ) (l : Layout) (w : List Float) (r : WeightsAnswer)
    → DecoderMatrixPromise order l w r
    → refusal_of order l w ≡ 0 → surround l ≡ true
    → get_or (chunk (channels_of_order order) 3 r.weights) 0 nan ≡ zero_float → ⊥
low_frequency_silent order l w r p z e h =
    true≢false
    (sym (sounds l e order (none_holds (checks_of order l w) tt z).0)
    ∙ ap (λ (xs : List Float). positive (get_or xs 0 nan))
    (sym (low_frequency_row order l w r p z 3 (ap (λ (b : Bool). cond b true false) e)))
    ∙ ap positive h)

pub refuses_always : (w : List Float) → length w ≡ 24 → (r : WeightsAnswer) → DecoderMatrixPromise 1 Surround51 w r
    → r.refusal ≡ 5
    → ⊥
refuses_always w long r p h = no
    (sym h ∙ ap (λ (c : WeightsAnswer). c.refusal)
    (p.bits ∙ ap (λ (n : ℕ). computed_by (cond (not (eqb n 24)) 5 0) (matrix_of 1 Surround51) w) long))
  where
    no : ◌≡◌ {A = ℕ} 5 0 → ⊥
    no h = omega arith

-- a weight x of the first channel in the row of the first speaker, at order 1
module _ (l : Layout) (w : List Float) (r : WeightsAnswer) (p : DecoderMatrixPromise 1 l w r) (x : Float)
    (h : get_or (chunk 4 0 r.weights) 0 nan ≡ x) where
  -- it is within document 01's bound of the harmonic, 1, over the root of n
  weighs : refusal_of 1 l w ≡ 0 → 0 < channels_of l → BySquares matrix_bits (number x) (formula_at 1 l 0 0)
      (whole (channels_of l))
  weighs z some = subst (λ (y : Float). BySquares matrix_bits (number y) (formula_at 1 l 0 0) (whole (channels_of l))) h
      (p.words z 0 0 some (lit< tt))

-- 1/n for 1/root(n): a weight of 1/2 for two speakers
pub over_n : (w : List Float) → length w ≡ 8 → (r : WeightsAnswer) → DecoderMatrixPromise 1 Stereo w r
    → get_or (chunk 4 0 r.weights) 0 nan ≡ fin false 1 (negsuc 0) → ⊥
unfolding formulas_over
over_n w long r p h = le→leb _ _
    (weighs Stereo w r p (fin false 1 (negsuc 0)) h (ap (λ (n : ℕ). cond (not (eqb n 8)) 5 0) long) (lit< tt)).above

-- off by 2^-32, twice what document 01 allows: a single speaker has a weight of 1
pub off_by_twice : (w : List Float) → length w ≡ 4 → (r : WeightsAnswer) → DecoderMatrixPromise 1 Mono w r
    → get_or (chunk 4 0 r.weights) 0 nan ≡ fin false 4294967295 (negsuc 31) → ⊥
unfolding formulas_over
off_by_twice w long r p h = le→leb _ _
    (weighs Mono w r p (fin false 4294967295 (negsuc 31)) h (ap (λ (n : ℕ). cond (not (eqb n 4)) 5 0) long)
    (lit< tt)).above
