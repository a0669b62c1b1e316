-- Two rows put one behind the other fill a list of their length; another length is refused. Assumes nothing.
use Rattle.std.specs.Prelude.{◌+◌, ◌≡◌, ◌∷◌, ◌++◌}
use Rattle.lists.specs.Prelude.{ℕ, arith, sym, ap, ◌∙◌, Bool, not, List, [], append-nil, map-append, eq-eqb, ne_eqb}
use Rattle.lists.specs.Prelude.{length, drop, length-drop, length-map, drop_of_length-le, sets, Float, binary64, mul}
use Rattle.refusals.specs.Refusals.{first_of, ◌when◌}
use Rattle.numbers.specs.Normalization.{inverse_root_of}
use Rattle.rows.specs.Rows.{scaled, computed_by}
use Rattle.rows.proofs.PutAppends.{put_behind}
use Rattle.matrix.specs.Promise.{WeightsAnswer}
use Rattle.matrix.specs.Computed.{rows_put}

-- of any lists
fill : {A : Type 0} (xs ys w : List A) → length w ≡ length xs + length ys → sets (sets w 0 xs) (length xs) ys ≡ xs ++ ys
fill {A = A} xs ys w n =
    let rest : List A = drop (length xs) w in
    let long : length rest ≡ length ys = length-drop (length xs) w ∙ omega arith in
    ap (λ (v : List A). sets v (length xs) ys) (put_behind [] xs w (omega arith))
    ∙ put_behind xs ys rest (omega arith)
    ∙ ap (λ (v : List A). xs ++ ys ++ v) (drop_of_length-le rest {i = length ys} (omega arith))
    ∙ append-nil (xs ++ ys)

ears_put : (f : Float) (left right w : List Float) → length w ≡ length left + length right
    → sets (sets w 0 (scaled f left)) (length left) (scaled f right) ≡ scaled f (left ++ right)
ears_put f left right w n =
    let l : length (scaled f left) ≡ length left = length-map left (λ (x : Float). mul binary64 x f) in
    let r : length (scaled f right) ≡ length right = length-map right (λ (x : Float). mul binary64 x f) in
    ap (λ (k : ℕ). sets (sets w 0 (scaled f left)) k (scaled f right)) (sym l)
    ∙ fill (scaled f left) (scaled f right) w (omega arith)
    ∙ sym (map-append (λ (x : Float). mul binary64 x f) left right)

module _ (left right w : List Float) where
  -- by whether the length fits
  abbrev answer : Bool → WeightsAnswer
  answer b = computed_by (first_of (5 when not b ∷ [])) (scaled (inverse_root_of 2) (left ++ right)) w

  pub put_unfit : (length w ≡ length left + length right → ⊥)
      → record { refusal = 5; weights = w } ≡ rows_put left right w
  put_unfit n = sym (ap answer (ne_eqb (length w) (length left + length right) n))

  pub fits : (f : Float) (v u : List Float) → length w ≡ length left + length right → f ≡ inverse_root_of 2
      → v ≡ sets w 0 (scaled f left) → u ≡ sets v (length left) (scaled f right)
      → record { refusal = 0; weights = u } ≡ rows_put left right w
  fits f v u n e p q =
      ap (λ (xs : List Float). record { refusal = 0; weights = xs })
      (q ∙ ap (λ (xs : List Float). sets xs (length left) (scaled f right)) p ∙ ears_put f left right w n
      ∙ ap (λ (g : Float). scaled g (left ++ right)) e)
      ∙ sym (ap answer (eq-eqb (length w) (length left + length right) n))
