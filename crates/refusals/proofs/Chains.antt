-- Lists of checks: the number given is that of the first that holds; there is no refusal where none holds, and only
-- there if no check has the number 0; and one list that goes on after another, which decides where the first refuses
-- nothing. Assumes nothing.
use Rattle.std.specs.Prelude.{◌≡◌, ◌&&◌, ◌∷◌, ◌++◌}
use Rattle.lists.specs.Prelude.{refl, ◌∙◌, Bool, true, false, cond, List, [], ℕ, zero, suc, T, ltb}
use lib.Ieee.Fits.{and_l, and_r}
use Rattle.refusals.specs.Refusals.{Check, first_of}
use Rattle.refusals.proofs.First.{passed}
use Rattle.lists.proofs.Tests.{cond_true, cond_false}

-- none of the checks has the number 0; of a list that is written out, by computing
abbrev pub numbered : List Check → Bool
numbered [] = true
numbered (c ∷ cs) = ltb 0 c.number && numbered cs

-- no check holds
abbrev pub Off : List Check → Type 0
Off [] = Unit {0}
Off (c ∷ cs) = (c.holds ≡ false) × Off cs

-- the check at a place, counted from 0, is the first that holds; and its number
abbrev pub FirstAt : ℕ → List Check → Type 0
FirstAt k [] = ⊥
FirstAt zero (c ∷ cs) = c.holds ≡ true
FirstAt (suc k) (c ∷ cs) = (c.holds ≡ false) × FirstAt k cs

abbrev pub number_at : ℕ → List Check → ℕ
number_at k [] = 0
number_at zero (c ∷ cs) = c.number
number_at (suc k) (c ∷ cs) = number_at k cs

-- the first that holds gives its number
pub first_holds : (k : ℕ) (cs : List Check) → FirstAt k cs → first_of cs ≡ number_at k cs
first_holds k [] h = absurd h
first_holds zero (c ∷ cs) h = cond_true c.number (first_of cs) h
first_holds (suc k) (c ∷ cs) h = cond_false c.number (first_of cs) h.0 ∙ first_holds k cs h.1

-- where none holds there is no refusal; `none_holds` is the converse
pub off_accepts : (cs : List Check) → Off cs → first_of cs ≡ 0
off_accepts [] h = refl
off_accepts (c ∷ cs) h = cond_false c.number (first_of cs) h.0 ∙ off_accepts cs h.1

-- a refusal by the first list is the refusal
pub first_refused : (cs ds : List Check) → (first_of cs ≡ 0 → ⊥) → first_of (cs ++ ds) ≡ first_of cs
first_refused [] ds n = absurd (n refl)
first_refused (c ∷ cs) ds n = go c.holds (first_refused cs ds) n
  where
    go : (b : Bool) → ((first_of cs ≡ 0 → ⊥) → first_of (cs ++ ds) ≡ first_of cs)
        → (cond b c.number (first_of cs) ≡ 0 → ⊥) → cond b c.number (first_of (cs ++ ds)) ≡ cond b c.number
        (first_of cs)
    go true f n = refl
    go false f n = f n

-- where no number is given the first check does not hold, and the rest give none
none_given : (b : Bool) (n x : ℕ) → T (ltb 0 n) → cond b n x ≡ 0 → (b ≡ false) × (x ≡ 0)
none_given b zero x t e = absurd t
none_given b (suc k) x t e = passed b k x e

module _ (c : Check) (cs : List Check) (t : T (numbered (c ∷ cs))) (e : first_of (c ∷ cs) ≡ 0) where
  here_off : (c.holds ≡ false) × (first_of cs ≡ 0)
  here_off = none_given c.holds c.number (first_of cs) (and_l (ltb 0 c.number) (numbered cs) t) e

  others : T (numbered cs)
  others = and_r (ltb 0 c.number) (numbered cs) t

-- where the first list gives none the second decides
pub first_accepted : (cs ds : List Check) → T (numbered cs) → first_of cs ≡ 0 → first_of (cs ++ ds) ≡ first_of ds
first_accepted [] ds t e = refl
first_accepted (c ∷ cs) ds t e = cond_false c.number (first_of (cs ++ ds)) (here_off c cs t e).0
    ∙ first_accepted cs ds (others c cs t e) (here_off c cs t e).1

-- and no check holds
pub none_holds : (cs : List Check) → T (numbered cs) → first_of cs ≡ 0 → Off cs
none_holds [] t e = tt
none_holds (c ∷ cs) t e = ((here_off c cs t e).0, none_holds cs (others c cs t e) (here_off c cs t e).1)
