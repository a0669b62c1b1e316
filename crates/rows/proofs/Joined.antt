-- Rows of one length, put one behind another into a list that just has room for them, make the list of them joined; and
-- each is found there again. Assumes nothing.
use Rattle.std.specs.Prelude.{◌+◌, ◌-◌, ◌*◌, ◌<◌, ◌≡◌, ◌∷◌, ◌++◌}
use Rattle.lists.specs.Prelude.{ℕ, zero, suc, zero-mul, not-suc-le-zero, le_of_suc-le-suc, arith, sym, ap, ◌∙◌, List}
use Rattle.lists.specs.Prelude.{[], flatten, append_assoc, length, get_or, take, drop, length-append, length-drop}
use Rattle.lists.specs.Prelude.{drop_of_length-le, take-append_seam, drop-append-add}
use Rattle.rows.specs.Computed.{put_rows}
use Rattle.rows.proofs.PutAppends.{put_behind}

-- each of the rows has n numbers
abbrev pub AllOf : {A : Type 0} → ℕ → List (List A) → Type 0
AllOf n [] = Unit {0}
AllOf n (r ∷ rs) = (length r ≡ n) × AllOf n rs

less : (a b k n : ℕ) → a ≡ n → b ≡ suc k * n → b - a ≡ k * n
less a b k n s e = omega arith

module _ {A : Type 0} (n : ℕ) where
  pub put_joined : (rs : List (List A)) (done rest : List A) → AllOf n rs → length rest ≡ length rs * n
      → put_rows n (done ++ rest) (length done) rs ≡ done ++ flatten rs
  unfolding flatten
  put_joined [] done rest h e = ap (λ (xs : List A). done ++ xs) (drop_of_length-le rest {i = 0} (omega arith))
  put_joined (r ∷ rs) done rest h e =
      let left : List A = drop (length r) rest in
      ap (λ (xs : List A). put_rows n xs (length done + n) rs) (put_behind done r rest (omega (arith, h.0)))
      ∙ ap (λ (k : ℕ). put_rows n (done ++ r ++ left) k rs)
      (ap (λ (k : ℕ). length done + k) (sym h.0) ∙ sym (length-append done r))
      ∙ put_joined rs (done ++ r) left h.1
      (length-drop (length r) rest ∙ less (length r) (length rest) (length rs) n h.0 e)
      ∙ append_assoc done r (flatten rs)

  pub row_found : (rs : List (List A)) (i : ℕ) (d : List A) → AllOf n rs → i < length rs
      → take n (drop (i * n) (flatten rs)) ≡ get_or rs i d
  unfolding flatten
  row_found [] i d h l = absurd (not-suc-le-zero l)
  row_found (r ∷ rs) zero d h l =
      ap (λ (k : ℕ). take n (drop k (r ++ flatten rs))) (zero-mul n)
      ∙ ap (λ (k : ℕ). take k (r ++ flatten rs)) (sym h.0) ∙ take-append_seam r (flatten rs)
  row_found (r ∷ rs) (suc i) d h l =
      let further : suc i * n ≡ length r + i * n = omega (arith, h.0) in
      ap (λ (k : ℕ). take n (drop k (r ++ flatten rs))) further
      ∙ ap (take n) (drop-append-add r (flatten rs) (i * n))
      ∙ row_found rs i d h.1 (le_of_suc-le-suc l)
