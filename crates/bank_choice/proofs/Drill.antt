-- Item 10 of the marked drill table, at elevation 0 throughout: with rows at 0 and 450 tenths, a speaker at 225 tenths
-- takes the first. It is document 01's choice (`one_elevation_as_before`). Assumes nothing.
use Rattle.std.specs.Prelude.{◌≡◌, ◌∷◌, ◌<◌}
use Rattle.lists.specs.Prelude.{refl, sym, ◌∙◌, true, List, ℕ, zero, suc, arith, lit<, lit≤, ℤ, pos, length, get_or}
use Rattle.bank_choice.specs.Choice.{Choice}
use Rattle.bank_choice.specs.Choice.{in_tenths, is_elevation, choice_refusal, ChoicePromise}
use Rattle.bank_choice.specs.Nearest.{angle_apart, TakesByAzimuth, OneElevation}
use Rattle.bank_choice.proofs.Takes.{takes_one}
use Rattle.bank_choice.proofs.Meets.{refusal_is}
use Rattle.bank_choice.proofs.Level.{one_elevation_as_before}

-- of the first two places
two : (P : ℕ → Type 0) → P 0 → P 1 → (j : ℕ) → j < 2 → P j
two P x y zero h = x
two P x y (suc zero) h = y
two P x y (suc (suc j)) h = absurd (omega arith)

-- lists of 8 that start with rows at 0 and 450, at elevation 0; what stands beyond the two rows does not count
module _ (rest : List ℤ) (six : length rest ≡ 6) (heights : List ℤ) (six-heights : length heights ≡ 6)
    (r : Choice) where
  accepted : (p : ℤ) → in_tenths p ≡ true → choice_refusal (pos 0 ∷ pos 450 ∷ rest) (pos 0 ∷ pos 0 ∷ heights) 2 p
      (pos 0)
      ≡ 0
  unfolding choice_refusal is_elevation
  accepted p h = rw (h, six, six-heights)

  at_zero : (j : ℕ) → j < 2 → get_or (pos 0 ∷ pos 0 ∷ heights) j (pos 0) ≡ pos 0
  at_zero = two (λ j. get_or (pos 0 ∷ pos 0 ∷ heights) j (pos 0) ≡ pos 0) refl refl

  both_level : OneElevation (pos 0 ∷ pos 0 ∷ heights) 2
  both_level i j h g = at_zero i h ∙ sym (at_zero j g)

  -- the row that document 01 names is the answer
  as_before : (p : ℤ) → in_tenths p ≡ true → (row : ℕ) → TakesByAzimuth (pos 0 ∷ pos 450 ∷ rest) 2 p row
      → ChoicePromise (pos 0 ∷ pos 450 ∷ rest) (pos 0 ∷ pos 0 ∷ heights) 2 p (pos 0) r
      → r ≡ record { refusal = 0; row = row }
  as_before p h row t x =
      let none = refusal_is _ _ 2 p (pos 0) r x ∙ accepted p h in
      let same : r.row ≡ row = takes_one _ _ p (pos 0) 2 _ _ (x.words none)
      ((one_elevation_as_before _ _ 2 p (pos 0) both_level row).1 t) in
      (λ i. record { refusal = none i; row = same i })

  pub drill_tie : ChoicePromise (pos 0 ∷ pos 450 ∷ rest) (pos 0 ∷ pos 0 ∷ heights) 2 (pos 225) (pos 0) r
      → r ≡ record { refusal = 0; row = 0 }
  unfolding in_tenths angle_apart
  drill_tie = as_before (pos 225) refl 0
      (record { among = lit< tt; nearest = two _ (lit≤ tt) (lit≤ tt); earliest = λ j h. absurd (omega arith) })

  -- a speaker that is nearer to the second takes it
  pub drill_second : ChoicePromise (pos 0 ∷ pos 450 ∷ rest) (pos 0 ∷ pos 0 ∷ heights) 2 (pos 226) (pos 0) r
      → r ≡ record { refusal = 0; row = 1 }
  unfolding in_tenths angle_apart
  drill_second = as_before (pos 226) refl 1
      (record {
        among = lit< tt;
        nearest = two _ (lit≤ tt) (lit≤ tt);
        earliest = λ j h. let e : j ≡ 0 = omega arith in rw e (lit< tt);
      })
