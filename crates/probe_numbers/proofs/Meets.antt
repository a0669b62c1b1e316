-- Which wave is asked for, and which of the five answers is given. Assumes nothing.
use Rattle.std.specs.Prelude.{◌≡◌, ◌≤◌}
use Rattle.lists.specs.Prelude.{refl, sym, List, ℕ, eq-eqb, ne_eqb}
use Rattle.series.specs.Sums.{sine, cosine}
use Rattle.probe_answer.specs.Answers.{none}
use Rattle.probe_answer.proofs.Meets.{of_two}
use Rattle.probe_numbers.specs.Answers.{wave_of, wave_answer, answer_of}

module _ (operation : ℕ) where
  pub is_sine : operation ≡ 4 → sine ≡ wave_of operation
  is_sine e = sym (rw (eq-eqb operation 4 e))

  pub is_cosine : (operation ≡ 4 → ⊥) → cosine ≡ wave_of operation
  is_cosine e = sym (rw (ne_eqb operation 4 e))

  module _ (args out : List ℕ) where
    pub either : 4 ≤ operation → operation ≤ 5 → wave_answer operation args out ≡ answer_of operation args out
    unfolding answer_of
    either l h = of_two wave_answer answer_of 4 operation l h refl refl

    pub not_chosen : (operation ≡ 1 → ⊥) → (operation ≡ 2 → ⊥) → (operation ≡ 3 → ⊥) → (operation ≡ 4 → ⊥)
        → (operation ≡ 5 → ⊥) → none out ≡ answer_of operation args out
    unfolding answer_of
    not_chosen a b c d e =
        rw (
          ne_eqb operation 1 a,
          ne_eqb operation 2 b,
          ne_eqb operation 3 c,
          ne_eqb operation 4 d,
          ne_eqb operation 5 e,
        )
