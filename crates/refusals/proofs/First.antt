-- Of the refusal numbers: 0 is given where no test holds, and one above it is no acceptance. And of what is answered by
-- such a number. Assumes nothing.
use Rattle.std.specs.Prelude.{◌≡◌, ◌||◌, ◌<◌}
use Rattle.lists.specs.Prelude.{refl, sym, ap, ◌∙◌, Bool, true, false, cond, true≢false, ℕ, zero, suc, suc-ne-zero}
use Rattle.lists.specs.Prelude.{arith}
use Rattle.refusals.specs.Refusals.{answered}

-- where no number is given the first test does not hold, and the rest give none
pub passed : (b : Bool) (k x : ℕ) → cond b (suc k) x ≡ 0 → (b ≡ false) × (x ≡ 0)
passed true k x e = absurd (suc-ne-zero k e)
passed false k x e = (refl, e)

-- nor does one of two that are joined
pub or_off : (a b : Bool) → (a || b) ≡ false → (a ≡ false) × (b ≡ false)
or_off true b e = absurd (true≢false e)
or_off false b e = (refl, e)

-- a number above 0 is no acceptance
pub not_accepted : {r : ℕ} (n : ℕ) → 0 < n → r ≡ n → r ≡ 0 → ⊥
not_accepted n h e k = let z : n ≡ 0 = sym e ∙ k in omega arith

-- the answer to an acceptance, and to a refusal
module _ {A : Type 0} (accepted : A) (refused : ℕ → A) where
  pub answered_accepted : (r : ℕ) → r ≡ 0 → answered r accepted refused ≡ accepted
  answered_accepted r e = ap (λ (n : ℕ). answered n accepted refused) e

  pub answered_refused : (r : ℕ) → (r ≡ 0 → ⊥) → answered r accepted refused ≡ refused r
  answered_refused zero h = absurd (h refl)
  answered_refused (suc n) h = refl

  -- so a refusal is known by its number
  pub answered_by_lem : (r n : ℕ) → 0 < n → r ≡ n → refused n ≡ answered r accepted refused
  answered_by_lem r n h e = ap refused (sym e) ∙ sym (answered_refused r (not_accepted n h e))

  -- and what an answer tells is the number that it is given by
  pub answered_number : (told : A → ℕ) → told accepted ≡ 0 → (r : ℕ) → told (refused r) ≡ r
      → told (answered r accepted refused) ≡ r
  answered_number told none zero same = none
  answered_number told none (suc n) same = same
