-- What row choice answers at each of its tests. Assumes nothing.
use Rattle.std.specs.Prelude.{◌≡◌, ◌-◌, ◌≤◌, ◌<◌}
use Rattle.lists.specs.Prelude.{refl, sym, ap, ◌∙◌, true, false, not, List, ℕ, arith, eq-eqb, ne_eqb, ℤ, length}
use Rattle.refusals.specs.Refusals.{outside}
use Rattle.refusals.proofs.First.{answered_accepted, answered_by_lem, answered_number}
use Rattle.refusals.proofs.Chains.{first_holds, off_accepts}
use Rattle.bank_choice.specs.Choice.{Choice}
use Rattle.bank_choice.specs.Choice.{in_tenths, is_elevation, choice_checks, choice_refusal, chose, refused_with}
use Rattle.bank_choice.specs.Choice.{choice_of, ChoicePromise}
use Rattle.bank_choice.specs.Computed.{nearest_from}
use Rattle.bank_choice.proofs.Takes.{takes}

module _ (zs es : List ℤ) (n : ℕ) (p q : ℤ) where
  -- the number answered is that of the first test that holds
  pub refusal_is : (r : Choice) → ChoicePromise zs es n p q r → r.refusal ≡ choice_refusal zs es n p q
  unfolding choice_of
  refusal_is r x = ap (λ (c : Choice). c.refusal) x.bits
      ∙ answered_number (chose _) refused_with (λ (c : Choice). c.refusal) refl (choice_refusal zs es n p q) refl

  refused : (k : ℕ) → 0 < k → choice_refusal zs es n p q ≡ k → ChoicePromise zs es n p q (refused_with k)
  unfolding choice_of
  refused k h e = record { bits = answered_by_lem _ refused_with _ k h e; words = λ z. absurd (omega arith) }

  pub no_rows : outside n 8 ≡ true → ChoicePromise zs es n p q (refused_with 2)
  unfolding choice_refusal
  no_rows h = refused 2 (omega arith) (first_holds 0 (choice_checks zs es n p q) h)

  module _ (rows : outside n 8 ≡ false) where
    pub no_azimuth : in_tenths p ≡ false → ChoicePromise zs es n p q (refused_with 3)
    unfolding choice_refusal
    no_azimuth h = refused 3 (omega arith) (first_holds 1 (choice_checks zs es n p q) (rows, ap not h))

    module _ (tenths : in_tenths p ≡ true) where
      pub no_elevation : is_elevation q ≡ false → ChoicePromise zs es n p q (refused_with 3)
      unfolding choice_refusal
      no_elevation h = refused 3 (omega arith)
          (first_holds 2 (choice_checks zs es n p q) (rows, (ap not tenths, ap not h)))

      module _ (height : is_elevation q ≡ true) where
        pub no_azimuths : (length zs ≡ 8 → ⊥) → ChoicePromise zs es n p q (refused_with 5)
        unfolding choice_refusal
        no_azimuths h = refused 5 (omega arith)
            (first_holds 3 (choice_checks zs es n p q)
            (rows, (ap not tenths, (ap not height, ap not (ne_eqb (length zs) 8 h)))))

        pub no_elevations : length zs ≡ 8 → (length es ≡ 8 → ⊥) → ChoicePromise zs es n p q (refused_with 5)
        unfolding choice_refusal
        no_elevations full h =
            refused 5 (omega arith)
            (first_holds 4 (choice_checks zs es n p q) (
              rows,
              (
                ap not tenths,
                (ap not height, (ap not (eq-eqb (length zs) 8 full), ap not (ne_eqb (length es) 8 h))),
              ),
            ))

        module _ (full : length zs ≡ 8) (high : length es ≡ 8) where
          -- what crates above ask for: none of the tests holds
          pub none_refused : choice_refusal zs es n p q ≡ 0
          unfolding choice_refusal
          none_refused = off_accepts (choice_checks zs es n p q) (
            rows,
            (
              ap not tenths,
              (ap not height, (ap not (eq-eqb (length zs) 8 full), (ap not (eq-eqb (length es) 8 high), tt))),
            ),
          )

          pub chosen : (r : ℕ) → r ≡ nearest_from zs es p q 0 1 (n - 1) → 1 ≤ n
              → ChoicePromise zs es n p q (record { refusal = 0; row = r })
          unfolding choice_of
          chosen r e g = record {
            bits = ap chose e ∙ sym (answered_accepted _ refused_with _ none_refused);
            words = λ z. rw e (takes zs es p q n g);
          }
