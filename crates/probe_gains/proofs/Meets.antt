-- Which of the six answers is given. Assumes nothing.
use Rattle.std.specs.Prelude.{◌≡◌, ◌⊎◌}
use Rattle.lists.specs.Prelude.{◌∙◌, List, inl, inr, ⊎_elim, ℕ, eq-eqb, ne_eqb}
use Rattle.probe_request.specs.Requests.{weights_lent}
use Rattle.probe_answer.specs.Answers.{Draft, none}
use Rattle.probe_gains.specs.Answers.{rows_answer, decoder_answer, matrix_answer, answer_of}

module _ (operation : ℕ) (args out : List ℕ) where
  pub first : (w : ℕ) {d : Draft} → d ≡ rows_answer w args out → operation ≡ 9 → d ≡ matrix_answer operation w args out
  unfolding matrix_answer
  first w p e = p ∙ rw (eq-eqb operation 9 e)

  pub second : (w : ℕ) {d : Draft} → d ≡ decoder_answer w args out → (operation ≡ 9 → ⊥)
      → d ≡ matrix_answer operation w args out
  unfolding matrix_answer
  second w p e = p ∙ rw (ne_eqb operation 9 e)

  pub either : {d : Draft} → d ≡ matrix_answer operation (weights_lent args 0) args out
      → (operation ≡ 9) ⊎ (operation ≡ 15) → d ≡ answer_of operation args out
  unfolding matrix_answer answer_of
  either p h = p ∙ ⊎_elim (λ e. rw e) (λ e. rw e) h

  pub not_chosen : ((operation ≡ 9) ⊎ (operation ≡ 15) → ⊥) → (operation ≡ 10 → ⊥) → (operation ≡ 11 → ⊥)
      → (operation ≡ 12 → ⊥) → (operation ≡ 13 → ⊥) → none out ≡ answer_of operation args out
  unfolding answer_of
  not_chosen a b c d e =
      rw (
        ne_eqb operation 9 (λ h. a (inl h)),
        ne_eqb operation 10 b,
        ne_eqb operation 11 c,
        ne_eqb operation 12 d,
        ne_eqb operation 13 e,
        ne_eqb operation 15 (λ h. a (inr h)),
      )
