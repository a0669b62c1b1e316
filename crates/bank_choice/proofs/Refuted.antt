-- Answers of another shape than the code's, each of which breaks the promise on a worked input or on every one. Assumes
-- nothing.
use Rattle.std.specs.Prelude.{◌≡◌, ◌∷◌, ◌≤◌, ◌<◌}
use Rattle.lists.specs.Prelude.{refl, sym, ap, inl, inr, List, ℕ, arith, eqb-true, not-false, lit<, ℤ, pos, negsuc}
use Rattle.lists.specs.Prelude.{length}
use Rattle.refusals.proofs.Chains.{none_holds}
use Rattle.bank_choice.specs.Choice.{Choice}
use Rattle.bank_choice.specs.Nearest.{angle_apart, elevation_away}
use Rattle.bank_choice.specs.Choice.{choice_checks, choice_refusal, ChoicePromise}
use Rattle.bank_choice.proofs.Meets.{refusal_is}
use Rattle.bank_choice.proofs.Drill.{drill_tie, drill_second}

module _ (rest : List ℤ) (six : length rest ≡ 6) (heights : List ℤ) (six-heights : length heights ≡ 6) where
  -- every speaker takes the first row
  first_always : ChoicePromise (pos 0 ∷ pos 450 ∷ rest) (pos 0 ∷ pos 0 ∷ heights) 2 (pos 226) (pos 0)
      (record { refusal = 0; row = 0 }) → ⊥
  first_always x = let z : ◌≡◌ {A = ℕ} 0 1 = ap (λ (r : Choice). r.row)
      (drill_second rest six heights six-heights _ x) in omega arith

  -- every choice is refused
  refuses_always : ChoicePromise (pos 0 ∷ pos 450 ∷ rest) (pos 0 ∷ pos 0 ∷ heights) 2 (pos 225) (pos 0)
      (record { refusal = 2; row = 0 }) → ⊥
  refuses_always x = let z : ◌≡◌ {A = ℕ} 2 0 = ap (λ (r : Choice). r.refusal)
      (drill_tie rest six heights six-heights _ x) in omega arith

module _ (zs es : List ℤ) (n row : ℕ) (p q : ℤ) (x : ChoicePromise zs es n p q
    (record { refusal = 0; row = row })) where
  -- rows beyond the first are looked at: a row among the others is taken, however near it is
  beyond_the_rows : n ≤ row → ⊥
  beyond_the_rows h = omega (arith, h, (x.words refl).among)

  -- a row is taken for its azimuth, though another is nearer in elevation
  by_azimuth_alone : (j : ℕ) → j < n → elevation_away es q j < elevation_away es q row → ⊥
  by_azimuth_alone j h l = (x.words refl).nearest j h (inl l)

  -- a list of seven elevations is accepted
  seven_elevations : length es ≡ 7 → ⊥
  unfolding choice_refusal
  seven_elevations h =
      let accepted = sym (refusal_is zs es n p q _ x) in
      let eight = eqb-true (length es) 8
      (not-false _ (none_holds (choice_checks zs es n p q) tt accepted).1.1.1.1.0) in
      omega arith

module _ (rest heights : List ℤ) where
  -- the row in front, which is 10 tenths up, is taken and not the one that is behind and level
  in_front_though_higher : ChoicePromise (pos 0 ∷ pos 1800 ∷ rest) (pos 10 ∷ pos 0 ∷ heights) 2 (pos 0) (pos 0)
      (record { refusal = 0; row = 0 }) → ⊥
  unfolding elevation_away
  in_front_though_higher x = by_azimuth_alone _ _ 2 0 _ _ x 1 (lit< tt) (lit< tt)

  -- elevations are taken modulo a turn: a row at 3600 would be at no distance from a speaker at 0, and is farther than
  -- one at 100
  elevation_modulo_a_turn : ChoicePromise (pos 0 ∷ pos 0 ∷ rest) (pos 3600 ∷ pos 100 ∷ heights) 2 (pos 0) (pos 0)
      (record { refusal = 0; row = 0 }) → ⊥
  unfolding elevation_away
  elevation_modulo_a_turn x = by_azimuth_alone _ _ 2 0 _ _ x 1 (lit< tt) (lit< tt)

  -- the difference of azimuths is modulo two turns: a speaker at -1799 would be a turn away from a row at 1800, which
  -- is a tenth away
  two_turns : ChoicePromise (pos 0 ∷ pos 1800 ∷ rest) (pos 0 ∷ pos 0 ∷ heights) 2 (negsuc 1798) (pos 0)
      (record { refusal = 0; row = 0 }) → ⊥
  unfolding elevation_away angle_apart
  two_turns x = (x.words refl).nearest 1 (lit< tt) (inr (refl, lit< tt))
