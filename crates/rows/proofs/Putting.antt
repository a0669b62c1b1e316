-- A row put number by number: the numbers that are left, put where they belong, give the list that is promised. Assumes
-- nothing.
use Rattle.std.specs.Prelude.{◌+◌, ◌≤◌, ◌<◌, ◌≡◌, ◌∷◌}
use Rattle.lists.specs.Prelude.{ℕ, suc, add-one, le_trans, le-suc, refl, sym, ap, ◌∙◌, List, [], length, get_or, set}
use Rattle.lists.specs.Prelude.{drop, drop_of_length-le, sets, set_out, drop-cons, Float, binary64, mul}
use Rattle.rows.specs.Rows.{scaled}

-- what falls behind the end is left out
sets_out : {A : Type 0} (l : List A) (i : ℕ) (vs : List A) → length l ≤ i → sets l i vs ≡ l
sets_out l i [] h = refl
sets_out {A = A} l i (a ∷ vs) h = ap (λ (m : List A). sets m (suc i) vs) (set_out l i a h)
    ∙ sets_out l (suc i) vs (le_trans h (le-suc i))

-- the numbers from i on are left, to be put from `to` on
abbrev pub left : List Float → Float → List Float → ℕ → ℕ → List Float
left row scale weights to i = sets weights to (scaled scale (drop i row))

module _ (row : List Float) (scale : Float) (weights : List Float) (to i : ℕ) where
  pub one_put : (x : Float) → i < length row
      → left row scale (set weights to (mul binary64 (get_or row i x) scale)) (to + 1) (i + 1)
      ≡ left row scale weights to i
  one_put x h =
      rw (add-one to, add-one i) (ap (λ (xs : List Float). sets weights to (scaled scale xs))
      (sym (drop-cons row i x h)))

  pub one_left_out : length weights ≤ to → left row scale weights to (i + 1) ≡ left row scale weights to i
  one_left_out out = sets_out weights to (scaled scale (drop (i + 1) row)) out
      ∙ sym (sets_out weights to (scaled scale (drop i row)) out)

  pub all_put : length row ≤ i → weights ≡ left row scale weights to i
  all_put h = ap (λ (xs : List Float). sets weights to (scaled scale xs)) (sym (drop_of_length-le row h))
