-- The answers of `compute_decoder_matrix`, by the tests that were gone through. Assumes nothing.
use Rattle.std.specs.Prelude.{◌*◌, ◌≤◌, ◌<◌, ◌≡◌}
use Rattle.lists.specs.Prelude.{ℕ, zero, suc, arith, refl, sym, ap, ◌∙◌, subst, Bool, true, false, not, cond, List, []}
use Rattle.lists.specs.Prelude.{eqb-true, eqb, length, get_or, take, length-take, length-map, Float, nan, binary64, mul}
use Rattle.refusals.proofs.Chains.{none_holds}
use Rattle.rows.specs.Rows.{computed_by}
use Rattle.fractions.specs.Fraction.{whole, number}
use Rattle.fractions.specs.Squares.{BySquares}
use Rattle.lists.specs.Tables.{tab, chunk}
use Rattle.lists.proofs.Tables.{length_tab, get_or_table}
use Rattle.numbers.specs.Normalization.{inverse_root_of}
use Rattle.rows.specs.Computed.{put_rows}
use Rattle.rows.proofs.WeightsAnswers.{computed_weights}
use Rattle.rows.proofs.Joined.{AllOf, put_joined, row_found}
use Rattle.channel.specs.declared.Layout.{Layout}
use Rattle.channel.specs.Layouts.{channels_of, refuses_channels}
use Rattle.channel.specs.Orders.{refuses_order, channels_of_order}
use Rattle.channel.proofs.Orders.{few_channels}
use Rattle.harmonics.specs.Promise as Harmonics
use Rattle.harmonics.proofs.Laws.{outcome_kept, gains_length}
use Rattle.decoder_matrix.specs.Speakers.{azimuth_by, towards}
use Rattle.decoder_matrix.specs.Matrix.{row_by, rows_by, matrix_of, formula_at}
use Rattle.decoder_matrix.specs.Promise.{matrix_bits, WeightsAnswer, checks_of, refusal_of, outcome}
use Rattle.decoder_matrix.specs.Promise.{DecoderMatrixPromise}
use Rattle.decoder_matrix.proofs.Near.{near}

-- ---- the rows
module _ (order : ℕ) (l : Layout) (n channels : ℕ) (m : channels ≤ 16) where
  length_chunk : (i : ℕ) → length (row_by order l n channels i) ≡ channels
  length_chunk i =
      let d = towards (azimuth_by l n i) in
      let g = (Harmonics.outcome order d).gains in
      length-map (take channels g) (λ (x : Float). mul binary64 x (inverse_root_of n)) ∙ length-take channels g
      ∙ omega (arith, gains_length order d (Harmonics.outcome order d) (outcome_kept order d))

  all_rows_lem : (s k : ℕ) → AllOf channels (tab s k (row_by order l n channels))
  all_rows_lem s zero = tt
  all_rows_lem s (suc k) = (length_chunk s, all_rows_lem (suc s) k)

module _ (order : ℕ) (l : Layout) (weights : List Float) where
  -- ---- the answer by its tests
  abbrev answer : Bool → Bool → Bool → WeightsAnswer
  answer a b c = computed_by (cond a 1 (cond b 2 (cond c 5 0))) (matrix_of order l) weights

  abbrev unlike : Bool
  unlike = not (eqb (length weights) (channels_of l * channels_of_order order))

  -- ---- what the definition gives keeps all of the promise
  pub row_is : (i : ℕ) → refuses_order order ≡ false → i < channels_of l
      → chunk (channels_of_order order) i (matrix_of order l)
      ≡ row_by order l (channels_of l) (channels_of_order order) i
  row_is i o h =
      let n = channels_of l in
      let k = channels_of_order order in
      let f = row_by order l n k in
      row_found k (tab 0 n f) i [] (all_rows_lem order l n k (few_channels order o).1 0 n)
      (subst (λ (m : ℕ). i < m) (sym (length_tab 0 n f)) h) ∙ get_or_table n f i [] h

  pub weights_are : refusal_of order l weights ≡ 0 → (outcome order l weights).weights ≡ matrix_of order l
  weights_are = computed_weights (matrix_of order l) weights (refusal_of order l weights)

  kept : DecoderMatrixPromise order l weights (outcome order l weights)
  kept = record {
    bits = refl;
    words = λ z i c h k.
        let off = none_holds (checks_of order l weights) tt z in
        subst (λ (xs : List Float). BySquares matrix_bits (number (get_or xs c nan)) (formula_at order l i c)
        (whole (channels_of l)))
        (sym (ap (chunk (channels_of_order order) i) (weights_are z) ∙ row_is i off.0 h))
        (near order l off.0 off.1.0 i h c k (few_channels order off.0).1);
  }

  -- ---- the four answers of the program
  by_tests : (a b c : Bool) → refuses_order order ≡ a → refuses_channels (channels_of l) ≡ b → unlike ≡ c
      → DecoderMatrixPromise order l weights (answer a b c)
  by_tests a b c p q r = subst (DecoderMatrixPromise order l weights) (λ i. answer (p i) (q i) (r i)) kept

  pub order_refused_lem : refuses_order order ≡ true → DecoderMatrixPromise order l weights
      (record { refusal = 1; weights = weights })
  order_refused_lem o = by_tests true (refuses_channels (channels_of l)) unlike o refl refl

  pub layout_refused_lem : refuses_order order ≡ false → refuses_channels (channels_of l) ≡ true
      → DecoderMatrixPromise order l weights (record { refusal = 2; weights = weights })
  layout_refused_lem o u = by_tests false true unlike o u refl

  pub length_refused : refuses_order order ≡ false → refuses_channels (channels_of l) ≡ false
      → eqb (length weights) (channels_of l * channels_of_order order) ≡ false
      → DecoderMatrixPromise order l weights (record { refusal = 5; weights = weights })
  length_refused o u e = by_tests false false true o u (ap not e)

  pub matrix_put : (after : List Float) → refuses_order order ≡ false → refuses_channels (channels_of l) ≡ false
      → eqb (length weights) (channels_of l * channels_of_order order) ≡ true
      → after ≡ put_rows (channels_of_order order) weights 0 (rows_by order l (channels_of l) (channels_of_order order))
      → DecoderMatrixPromise order l weights (record { refusal = 0; weights = after })
  matrix_put after o u e h =
      let n = channels_of l in
      let k = channels_of_order order in
      let rs = rows_by order l n k in
      subst (λ (xs : List Float). DecoderMatrixPromise order l weights (record { refusal = 0; weights = xs }))
      (sym (h ∙ put_joined k rs [] weights (all_rows_lem order l n k (few_channels order o).1 0 n)
      (eqb-true (length weights) (n * k) e ∙ ap (λ (m : ℕ). m * k) (sym (length_tab 0 n (row_by order l n k))))))
      (by_tests false false false o u (ap not e))
