-- The right ear's weights are the left ear's with the lateral channels negated, bit for bit, and negating these
-- channels of a frame swaps what the ears hear of it (`mirrors`). Shown once over the order: by order go only the
-- lengths of the rows, and that no literal is 0, which has no opposite, by computing. Assumes nothing.
use Rattle.std.specs.Prelude.{◌≡◌, ◌∷◌, ◌++◌}
use Rattle.lists.specs.Prelude.{refl, sym, ap, ◌∙◌, subst, Bool, true, false, List, [], map-map, map-append, append-nil}
use Rattle.lists.specs.Prelude.{flatten, ℕ, zero, suc, T, lit<, ℤ, pos, negsuc, neg_ℤ, length, Float, binary64, mul}
use Rattle.lists.specs.Prelude.{neg}
use Rattle.refusals.proofs.First.{passed}
use Rattle.rows.proofs.WeightsAnswers.{computed_refusal, computed_weights}
use Rattle.formats.specs.Floats.{zero_float, literal}
use Rattle.formats.proofs.Signs.{neg_neg, literal_negated, mul_negated}
use Rattle.numbers.specs.Computed.{narrowed}
use Rattle.lists.specs.Tables.{chunk, every}
use Rattle.numbers.specs.Normalization.{inverse_root_of}
use Rattle.planes.specs.Sums.{total, mixed}
use Rattle.rows.specs.Rows.{scaled}
use Rattle.rows.proofs.Joined.{AllOf, row_found}
use Rattle.channel.specs.Orders.{refuses_order, channels_of_order, by_order}
use Rattle.channel.proofs.Orders.{by_order_lem, one_of_three}
use Rattle.matrix.specs.Mirror.{lateral, mirrored}
use Rattle.matrix.specs.Rows.{Ear, left, right, foa, soa, toa, ear_place, hundredths, literals, binaural_rows}
use Rattle.matrix.specs.Promise.{WeightsAnswer, BinauralRowsPromise, refusal_of, outcome}
use Rattle.matrix.specs.Ears.{other, ear_row, ear_signal, Mirrors}
use Rattle.matrix.proofs.Mirror.{negated_twice, map_negated, products_negated}

-- ---- the weight of a literal

abbrev is_not0 : ℤ → Bool
is_not0 (pos zero) = false
is_not0 (pos (suc n)) = true
is_not0 (negsuc n) = true

literal_opposite : (z : ℤ) → T (is_not0 z) → literal (neg_ℤ z) 100 ≡ neg (literal z 100)
literal_opposite (pos zero) t = absurd t
literal_opposite (pos (suc n)) t = literal_negated n 100
literal_opposite (negsuc n) t = sym (ap neg (literal_negated n 100) ∙ neg_neg (literal (pos (suc n)) 100))

abbrev weight : ℤ → Float
weight z = mul binary64 (literal z 100) (inverse_root_of 2)

weight_opposite : (z : ℤ) → T (is_not0 z) → weight (neg_ℤ z) ≡ neg (weight z)
weight_opposite z t = ap (λ (x : Float). mul binary64 x (inverse_root_of 2)) (literal_opposite z t)
    ∙ mul_negated binary64 (literal z 100) (inverse_root_of 2)

-- ---- a sum over a frame: it is the same whether the samples are negated or their weights

pub mixed_mirrored : (w frame : List Float) → mixed (mirrored neg w) frame ≡ mixed w (mirrored neg frame)
unfolding mixed
mixed_mirrored w frame =
    ap (λ (l : List Float). narrowed (total zero_float l)) (sym (products_negated lateral 0 frame w))

-- ---- the rows

abbrev weights : ℕ → Ear → List Float
weights n e = scaled (inverse_root_of 2) (literals (hundredths n e))

weights_opposite : (n : ℕ) → weights n right ≡ mirrored neg (weights n left)
unfolding hundredths
weights_opposite n =
    let zs : List ℤ = by_order n foa soa toa in
    map-map (λ (x : Float). mul binary64 x (inverse_root_of 2)) (λ (z : ℤ). literal z 100) (mirrored neg_ℤ zs)
    ∙ map_negated neg_ℤ neg weight is_not0 weight_opposite lateral 0 zs
    (one_of_three (λ (zs : List ℤ). T (every is_not0 zs)) tt tt tt n)
    ∙ ap (mirrored neg)
    (sym (map-map (λ (x : Float). mul binary64 x (inverse_root_of 2)) (λ (z : ℤ). literal z 100) zs))

-- each has a weight for each channel
length_weights : (e : Ear) (n : ℕ) → refuses_order n ≡ false → length (weights n e) ≡ channels_of_order n
unfolding hundredths
length_weights left = by_order_lem (λ (n : ℕ). length (weights n left) ≡ channels_of_order n) refl refl refl
length_weights right = by_order_lem (λ (n : ℕ). length (weights n right) ≡ channels_of_order n) refl refl refl

rows_joined : (n : ℕ) → binaural_rows n ≡ flatten (weights n left ∷ weights n right ∷ [])
unfolding binaural_rows flatten
rows_joined n =
    map-append (λ (x : Float). mul binary64 x (inverse_root_of 2)) (literals (hundredths n left))
    (literals (hundredths n right))
    ∙ ap (λ (r : List Float). weights n left ++ r) (sym (append-nil (weights n right)))

module _ (n : ℕ) (order : refuses_order n ≡ false) where
  -- both, each found where it stands
  ear_row_lem : (e : Ear) → ear_row n (binaural_rows n) e ≡ weights n e
  ear_row_lem e = ap (chunk (channels_of_order n) (ear_place e)) (rows_joined n) ∙ found e
    where
      both : List (List Float)
      both = weights n left ∷ weights n right ∷ []

      long : AllOf (channels_of_order n) both
      long = (length_weights left n order, (length_weights right n order, tt))

      found : (e : Ear) → chunk (channels_of_order n) (ear_place e) (flatten both) ≡ weights n e
      found left = row_found (channels_of_order n) both 0 [] long (lit< tt)
      found right = row_found (channels_of_order n) both 1 [] long (lit< tt)

  right_is : ear_row n (binaural_rows n) right ≡ mirrored neg (ear_row n (binaural_rows n) left)
  right_is = ear_row_lem right ∙ weights_opposite n ∙ ap (mirrored neg) (sym (ear_row_lem left))

  -- the mirrored frame at the left ear, and so, a frame being its mirrored one mirrored, at the right ear
  at_left : (frame : List Float) → ear_signal n (binaural_rows n) left (mirrored neg frame)
      ≡ ear_signal n (binaural_rows n)
      right frame
  at_left frame = sym (ap (λ (w : List Float). mixed w frame) right_is
      ∙ mixed_mirrored (ear_row n (binaural_rows n) left) frame)

  swap : (e : Ear) (frame : List Float) → ear_signal n (binaural_rows n) (other e) (mirrored neg frame)
      ≡ ear_signal n (binaural_rows n) e frame
  swap right frame = at_left frame
  swap left frame =
      sym (at_left (mirrored neg frame)) ∙ ap (ear_signal n (binaural_rows n) left)
      (negated_twice neg lateral neg_neg 0 frame)

  pub mirrors : Mirrors n (binaural_rows n)
  mirrors = record { right_row = right_is; swaps = swap }

-- so do the weights that any program leaves that meets the promise, which are these
module _ (n : ℕ) (lent weights : List Float)
    (p : BinauralRowsPromise n lent (record { refusal = 0; weights = weights })) where
  accepted : refusal_of n lent ≡ 0
  unfolding outcome
  accepted = sym (ap (λ (o : WeightsAnswer). o.refusal) p ∙ computed_refusal (binaural_rows n) lent (refusal_of n lent))

  pub computed_order : refuses_order n ≡ false
  computed_order = (passed (refuses_order n) 0 _ accepted).0

  pub computed_rows : weights ≡ binaural_rows n
  unfolding outcome
  computed_rows = ap (λ (o : WeightsAnswer). o.weights) p
      ∙ computed_weights (binaural_rows n) lent (refusal_of n lent) accepted

  pub computed_mirrors : Mirrors n weights
  computed_mirrors = subst (Mirrors n) (sym computed_rows) (mirrors n computed_order)
