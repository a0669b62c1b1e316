-- Records in bytes that come in two parts, wherever they are cut: those of the first part, and then those of what the
-- first part left over with the second behind it. So whoever takes whole records and keeps the rest takes the same
-- ones, however the bytes come. One law for every size of a record, and for whatever it says. Assumes nothing.
use Rattle.std.specs.Prelude.{◌≡◌, ◌++◌, ◌+◌, ◌*◌, ◌/◌, ◌<◌}
use Rattle.lists.specs.Prelude.{sym, ap, ◌∙◌, List, [], append_assoc, append-nil, ℕ, add-zero, zero-add, add-mul}
use Rattle.lists.specs.Prelude.{mul-add-div_right, mul-div_cancel, div-mul-le_self, lt-div-mul-add, div-eq_of_lt, arith}
use Rattle.lists.specs.Prelude.{length, take, drop, length-append, length-drop, take-append-drop, take-append-le}
use Rattle.lists.specs.Prelude.{drop-append-le, drop_at, drop-drop, length-take-le}
use Rattle.lists.specs.Tables.{tab, chunk}
use Rattle.lists.proofs.Tables.{tab_ext, tab_append, tab_moved, chunk_end}
use Rattle.ears_wire.specs.Records.{whole_in_of, each_in, rest_in}
use Rattle.ears_wire.specs.Frames.{frame_of, line_frames}

module _ (w : ℕ) (some : 0 < w) where
  -- k records, and bytes behind them
  module _ (a b : List ℕ) (k : ℕ) (e : length a ≡ k * w) where
    whole_both : whole_in_of w (a ++ b) ≡ k + whole_in_of w b
    whole_both =
        ap (λ (n : ℕ). n / w) (length-append a b ∙ ap (λ (n : ℕ). n + length b) e) ∙ mul-add-div_right some k (length b)

    whole_first : whole_in_of w a ≡ k
    whole_first = ap (λ (n : ℕ). n / w) e ∙ mul-div_cancel k some

    row_first : (i : ℕ) → i < 0 + k → chunk w i (a ++ b) ≡ chunk w i a
    row_first i h =
        let end = chunk_end i k w (length a) (omega arith) e in
        ap (take w) (drop-append-le (i * w) a b (omega (arith, end)))
        ∙ take-append-le w (drop (i * w) a) b (omega (arith, end, length-drop (i * w) a))

    row_second : (i : ℕ) → chunk w (k + i) (a ++ b) ≡ chunk w i b
    row_second i = ap (take w) (ap (λ (n : ℕ). drop n (a ++ b)) (add-mul k i w)
        ∙ sym (drop-drop (i * w) (k * w) (a ++ b)) ∙ ap (drop (i * w)) (drop_at a b (k * w) e))

    each_both : {A : Type 0} (says : List ℕ → A) → each_in w says (a ++ b) ≡ each_in w says a ++ each_in w says b
    each_both {A} says =
        let at : ℕ → A = λ i. says (chunk w i (a ++ b)) in
        ap (λ (m : ℕ). tab 0 m at) whole_both
        ∙ tab_append 0 k (whole_in_of w b) at
        ∙ ap (λ (l : List A). l ++ tab (0 + k) (whole_in_of w b) at)
        (tab_ext 0 k at (λ i. says (chunk w i a)) (λ i h. ap says (row_first i h))
        ∙ ap (λ (m : ℕ). tab 0 m (λ i. says (chunk w i a))) (sym whole_first))
        ∙ ap (λ (l : List A). each_in w says a ++ l)
        (ap (λ (j : ℕ). tab j (whole_in_of w b) at) (zero-add k ∙ sym (add-zero k)) ∙ tab_moved k 0 (whole_in_of w b) at
        ∙ tab_ext 0 (whole_in_of w b) (λ i. at (k + i)) (λ i. says (chunk w i b)) (λ i h. ap says (row_second i)))

    rest_both : rest_in w (a ++ b) ≡ rest_in w b
    rest_both =
        ap (λ (m : ℕ). drop m (a ++ b)) (ap (λ (n : ℕ). n * w) whole_both ∙ add-mul k (whole_in_of w b) w)
        ∙ sym (drop-drop (whole_in_of w b * w) (k * w) (a ++ b))
        ∙ ap (drop (whole_in_of w b * w)) (drop_at a b (k * w) e)

  -- wherever the bytes are cut
  module _ (s t : List ℕ) where
    -- the bytes of the whole records of the first part
    wholes : List ℕ
    wholes = take (whole_in_of w s * w) s

    long : length wholes ≡ whole_in_of w s * w
    unfolding wholes
    long = length-take-le (whole_in_of w s * w) s (div-mul-le_self (length s) w)

    parts : s ≡ wholes ++ rest_in w s
    unfolding wholes
    parts = sym (take-append-drop (whole_in_of w s * w) s)

    apart : s ++ t ≡ wholes ++ (rest_in w s ++ t)
    apart = ap (λ (l : List ℕ). l ++ t) parts ∙ append_assoc wholes (rest_in w s) t

    -- fewer bytes are left over than a record has
    pub rest_short : length (rest_in w s) < w
    rest_short = omega (arith, length-drop (whole_in_of w s * w) s, lt-div-mul-add {a = length s} some)

    pub cut_whole : whole_in_of w (s ++ t) ≡ whole_in_of w s + whole_in_of w (rest_in w s ++ t)
    cut_whole = ap (whole_in_of w) apart ∙ whole_both wholes (rest_in w s ++ t) (whole_in_of w s) long

    pub cut_rest : rest_in w (s ++ t) ≡ rest_in w (rest_in w s ++ t)
    cut_rest = ap (rest_in w) apart ∙ rest_both wholes (rest_in w s ++ t) (whole_in_of w s) long

    module _ {A : Type 0} (says : List ℕ → A) where
      none : each_in w says (rest_in w s) ≡ []
      none = ap (λ (m : ℕ). tab 0 m (λ i. says (chunk w i (rest_in w s)))) (div-eq_of_lt rest_short)

      each_first : each_in w says s ≡ each_in w says wholes
      each_first =
          ap (each_in w says) parts ∙ each_both wholes (rest_in w s) (whole_in_of w s) long says
          ∙ ap (λ (l : List A). each_in w says wholes ++ l) none
          ∙ append-nil (each_in w says wholes)

      pub cut_each : each_in w says (s ++ t) ≡ each_in w says s ++ each_in w says (rest_in w s ++ t)
      cut_each =
          ap (each_in w says) apart ∙ each_both wholes (rest_in w s ++ t) (whole_in_of w s) long says
          ∙ ap (λ (l : List A). l ++ each_in w says (rest_in w s ++ t)) (sym each_first)

-- of the frames of a line
pub cut_frames : (s t : List ℕ) → line_frames (s ++ t) ≡ line_frames s ++ line_frames (rest_in 24 s ++ t)
cut_frames s t = cut_each 24 (omega arith) s t frame_of
