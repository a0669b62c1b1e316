-- An array that a closure makes place by place (`std::array::from_fn`) is the table of what its calls answer, where
-- they leave the closure as it was. Assumes nothing.
use Rattle.std.specs.Prelude.{◌≡◌, ◌+◌, ◌<◌, zero, suc}
use Rattle.lists.specs.Prelude.{sym, ap, ◌∙◌, subst, List, ℕ, arith, get_or}
use denote.Param.Members.{Mut, Called}
use Rattle.std.specs.Array.{IsFromFnResult, IsFromFnResultFrom}
use Rattle.lists.specs.Tables.{tab}
use Rattle.lists.proofs.Tables.{tab_is}

module _ {F B : Type 0} (g : Mut F (ℕ × Unit {0}) B) (v : ℕ → B) (f : F)
    (answers : (i : ℕ) (y : B) (q : F) → Called g f (i, tt) y q → (y ≡ v i) × (q ≡ f)) where
  made_at : (ys : List B) (n i k m : ℕ) → IsFromFnResultFrom g f ys i n → k < n → m ≡ i + k
      → get_or ys m (v 0) ≡ v m
  made_at ys zero i k m r h e = absurd (omega arith)
  made_at ys (suc n) i zero m r h e =
      let here : m ≡ i = omega arith in
      ap (λ (j : ℕ). get_or ys j (v 0)) here ∙ r.2.1 (v 0) ∙ (answers i r.1 r.0 r.3).0
      ∙ ap v (sym here)
  made_at ys (suc n) i (suc k) m r h e =
      made_at ys n (i + 1) k m
      (subst (λ (p : F). IsFromFnResultFrom g p ys (i + 1) n) (answers i r.1 r.0 r.3).1 r.4) (omega arith)
      (omega arith)

  pub made_table : {ys : List B} {n : ℕ} → IsFromFnResult g f ys n → ys ≡ tab 0 n v
  made_table {ys} {n} r =
      sym (tab_is ys (v 0) v (λ k h. sym (made_at ys n 0 k k r.each (omega (arith, r.long)) (omega arith))))
      ∙ ap (λ (k : ℕ). tab 0 k v) r.long
