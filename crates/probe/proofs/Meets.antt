-- Which family answers an operation. Assumes nothing.
use mathlib.Core.Path.{◌≡◌, sym}
use mathlib.Core.List.{List}
use mathlib.Core.Logic.{◌⊎◌, inl, inr, ⊎_elim}
use Prim.Native.Nat.{ℕ, ◌≤◌, ◌<◌}
use native.Mathlib.Decide.{dec_lt}
use native.Mathlib.Omega.{arith}
use borrow.Author.Tests.{ne_eqb}
use Rattle.refusals.proofs.Ranges.{within_in, within_high}
use Rattle.probe_answer.specs.Answers.{none}
use Rattle.probe_numbers.specs.Answers as Numbers
use Rattle.probe_bank.specs.Answers as Bank
use Rattle.probe_gains.specs.Answers as Gains
use Rattle.probe_planes.specs.Answers as Planes
use Rattle.probe_hrtf.specs.Answers as Hrtf
use Rattle.probe_setup.specs.Answers as Setup
use Rattle.probe_script.specs.Answers as Script
use Rattle.probe_replay.specs.Answers as Replay
use Rattle.probe.specs.Answers.{answer_of}

module _ (operation : ℕ) (args out : List ℕ) where
  pub of_numbers : 1 ≤ operation → operation ≤ 5 → Numbers.answer_of operation args out ≡ answer_of operation args out
  unfolding answer_of
  of_numbers l h = sym (rw (within_in 1 5 operation l h))

  pub of_bank : 6 ≤ operation → operation ≤ 8 → Bank.answer_of operation args out ≡ answer_of operation args out
  unfolding answer_of
  of_bank l h = sym (rw (within_high 1 5 operation (omega arith) (omega arith), within_in 6 8 operation l h))

  pub of_gains : 9 ≤ operation → operation ≤ 13 → Gains.answer_of operation args out ≡ answer_of operation args out
  unfolding answer_of
  of_gains l h =
      sym (rw (
        within_high 1 5 operation (omega arith) (omega arith),
        within_high 6 8 operation (omega arith) (omega arith),
        within_in 9 13 operation l h,
      ))

  pub of_matrix : operation ≡ 15 → Gains.answer_of operation args out ≡ answer_of operation args out
  unfolding answer_of
  of_matrix e = rw e

  pub of_planes : (operation ≡ 14) ⊎ (operation ≡ 16) → Planes.answer_of operation args out
      ≡ answer_of operation args out
  unfolding answer_of
  of_planes = ⊎_elim (λ e. rw e) (λ e. rw e)

  pub of_hrtf : ((operation ≡ 14) ⊎ (operation ≡ 16) → ⊥) → (operation ≡ 15 → ⊥) → 14 ≤ operation → operation < 19
      → Hrtf.answer_of operation args out ≡ answer_of operation args out
  unfolding answer_of
  of_hrtf planes matrix l h =
      let not_pan : operation ≡ 14 → ⊥ = λ e. planes (inl e) in
      let not_decode : operation ≡ 16 → ⊥ = λ e. planes (inr e) in
      elim (dec_lt operation 18) [
        | yes k ↦ let e : operation ≡ 17 = omega arith in rw e
        | no k ↦ let e : operation ≡ 18 = omega arith in rw e
      ]

  pub of_setup : 19 ≤ operation → operation ≤ 20 → Setup.answer_of operation args out ≡ answer_of operation args out
  unfolding answer_of
  of_setup l h =
      elim (dec_lt operation 20) [
        | yes k ↦ let e : operation ≡ 19 = omega arith in rw e
        | no k ↦ let e : operation ≡ 20 = omega arith in rw e
      ]

  pub of_script : operation ≡ 21 → Script.answer_of operation args out ≡ answer_of operation args out
  unfolding answer_of
  of_script e = rw e

  pub of_replay : operation ≡ 22 → Replay.answer_of operation args out ≡ answer_of operation args out
  unfolding answer_of
  of_replay e = rw e

  pub of_conversions : 23 ≤ operation → operation ≤ 24 → Bank.answer_of operation args out
      ≡ answer_of operation args out
  unfolding answer_of
  of_conversions l h =
      elim (dec_lt operation 24) [
        | yes k ↦ let e : operation ≡ 23 = omega arith in rw e
        | no k ↦ let e : operation ≡ 24 = omega arith in rw e
      ]

  pub of_sum : operation ≡ 25 → Hrtf.answer_of operation args out ≡ answer_of operation args out
  unfolding answer_of
  of_sum e = rw e

  pub of_none : (1 ≤ operation → 25 < operation) → none out ≡ answer_of operation args out
  unfolding answer_of
  of_none far =
      elim (dec_lt operation 1) [
        | yes k ↦ let e : operation ≡ 0 = omega arith in rw e
        | no k ↦
            let h : 25 < operation = far (omega arith) in
            sym
            (rw (
              within_high 1 5 operation (omega arith) (omega arith),
              within_high 6 8 operation (omega arith) (omega arith),
              within_high 9 13 operation (omega arith) (omega arith),
              ne_eqb operation 14 (λ e. omega arith),
              ne_eqb operation 15 (λ e. omega arith),
              ne_eqb operation 16 (λ e. omega arith),
              within_high 17 18 operation (omega arith) (omega arith),
              within_high 19 20 operation (omega arith) (omega arith),
              ne_eqb operation 21 (λ e. omega arith),
              ne_eqb operation 22 (λ e. omega arith),
              within_high 23 24 operation (omega arith) (omega arith),
              ne_eqb operation 25 (λ e. omega arith),
            ))
      ]
