-- More than j frames are to go exactly if a damaged one is among the newest L - 1 - j, or if more than j plus the
-- number of these frames were to go before them (`to_go_any`). Assumes nothing.
use Rattle.std.specs.Prelude.{◌≡◌, ◌||◌, ◌∷◌, ◌+◌, ◌-◌, ◌≤◌, ◌<◌}
use Rattle.lists.specs.Prelude.{sym, ap, ◌∙◌, ⊎_elim, Bool, true, false, List, [], ℕ, zero, suc, not-suc-le-zero}
use Rattle.lists.specs.Prelude.{add-zero, sub-one, arith, lt-ltb, le-ltb, ltb, length, take, take-nil}
use Rattle.lists.specs.Tables.{any}
use Rattle.lists.proofs.Lists.{less_or_at_most}
use Rattle.hrtf_rings.specs.Held.{to_go_after}

ltb_pred : (j t : ℕ) → ltb j (t - 1) ≡ ltb (suc j) t
ltb_pred j t =
    ⊎_elim
    (λ (lt : suc j < t). lt-ltb j (t - 1) (omega arith) ∙ sym (lt-ltb (suc j) t lt))
    (λ (ge : t ≤ suc j). le-ltb j (t - 1) (omega arith) ∙ sym (le-ltb (suc j) t ge))
    (less_or_at_most (suc j) t)

-- fewer than L are to go, if fewer were
pub to_go_below : (n go : ℕ) (bs : List Bool) → go < n → to_go_after n go bs < n
to_go_below n go [] h = h
to_go_below n go (true ∷ bs) h = omega arith
to_go_below n go (false ∷ bs) h = omega (arith, to_go_below n go bs h)

pub to_go_any : (n go : ℕ) (bs : List Bool) (j k : ℕ) → go < n → k ≡ n - 1 - j
    → ltb j (to_go_after n go bs) ≡ (any (take k bs) || ltb (j + length bs) go)
to_go_any n go [] j k h e =
    ap (λ (i : ℕ). ltb i go) (sym (add-zero j)) ∙ ap (λ (b : Bool). b || ltb (j + 0) go) (ap any (sym (take-nil k)))
to_go_any n go (true ∷ bs) j zero h e =
    le-ltb j (n - 1) (omega arith) ∙ sym (le-ltb (j + suc (length bs)) go (omega arith))
to_go_any n go (true ∷ bs) j (suc k) h e = lt-ltb j (n - 1) (omega arith)
to_go_any n go (false ∷ bs) j zero h e =
    ltb_pred j (to_go_after n go bs) ∙ to_go_any n go bs (suc j) zero h (omega arith)
    ∙ ap (λ (i : ℕ). ltb i go) (omega arith)
to_go_any n go (false ∷ bs) j (suc k) h e =
    ltb_pred j (to_go_after n go bs) ∙ to_go_any n go bs (suc j) k h (omega arith)
    ∙ ap (λ (i : ℕ). any (take k bs) || ltb i go) (omega arith)

-- the newest of them, and the rest
pub any_take_cons : (n : ℕ) (b : Bool) (bs : List Bool) → 0 < n → any (take n (b ∷ bs)) ≡ (b || any (take (n - 1) bs))
any_take_cons zero b bs h = absurd (not-suc-le-zero h)
any_take_cons (suc n) b bs h = ap (λ (k : ℕ). b || any (take k bs)) (sym (sub-one (suc n)))
