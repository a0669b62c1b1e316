-- Answers of `check_version` that its promise rules out, of every file in another version. Assumes nothing.
use Rattle.std.specs.Prelude.{◌≡◌, ◌≤◌}
use Rattle.lists.specs.Prelude.{sym, ◌∙◌, List, ℕ, arith, length}
use Rattle.bank_form.specs.Fault.{Fault}
use Rattle.bank_form.specs.Fault.{version_in, wrong}
use Rattle.bank_form.proofs.Walk.{same_number}
use Rattle.bank_form.proofs.Conversions.{conversion_fault}
use Rattle.bank_check.specs.Checked.{VersionCheckPromise}

module _ (v : ℕ) (s : List ℕ) (some : 1 ≤ length s) (other : version_in s ≡ v → ⊥) (r : Fault)
    (checked : VersionCheckPromise v s r) where
  told : r ≡ wrong 13 0
  told = checked.bits ∙ conversion_fault.other v s some other

  -- it is found good
  other_version_good : r.refusal ≡ 0 → ⊥
  other_version_good e =
      let z : ◌≡◌ {A = ℕ} 0 13 = sym e ∙ same_number told in
      omega arith

  -- what else is wrong with it is told first
  other_version_told_late : (r.refusal ≡ 13 → ⊥) → ⊥
  other_version_told_late late = late (same_number told)
