-- Each refusal has a number of its own, above 0: so an answer is known by its number and its value, and whoever is
-- answered learns from the number whether it was accepted. Assumes nothing.
use Rattle.std.specs.Prelude.{◌≡◌, ◌<◌, Option, Some, None, Result, Ok, Err, IsOk, IsErrAnd, ⊤}
use Rattle.lists.specs.Prelude.{refl, sym, ap, ◌∙◌, ℕ, arith, lit<, cond, eqb}
use Rattle.std.proofs.lemmas.Result.{err_from_is_err_and}
use Rattle.refusals.specs.Numbers.{number_of, number_in, number_found, value_in, Told, told}
use Rattle.refusals.specs.declared.Refusal.{Refusal}
use Rattle.refusals.specs.declared.Refusal.TheVariants.{Order, Count, Angle, FilterLength, Misfit, Frames, NotFinite}
use Rattle.refusals.specs.declared.Refusal.TheVariants.{Desk}
use Rattle.refusals.specs.declared.Refusal.TheVariants.{PartFrame, Rootless, CueOrder, CueCount, Version, FileLength}
use Rattle.refusals.specs.declared.Refusal.TheVariants.{RowCount, TapCount, Row, Tap, Cut, Elevation, Raised}

-- the refusal that has a number
abbrev named : ℕ → Refusal
named n =
    cond (eqb n 1) Order (cond (eqb n 2) Count (cond (eqb n 3) Angle (cond (eqb n 4) FilterLength (
    cond (eqb n 5) Misfit (cond (eqb n 6) Frames (cond (eqb n 7) NotFinite (cond (eqb n 8) Desk (
    cond (eqb n 9) PartFrame (cond (eqb n 10) Rootless (cond (eqb n 11) CueOrder (cond (eqb n 12) CueCount (
    cond (eqb n 13) Version (cond (eqb n 14) FileLength (cond (eqb n 15) RowCount (cond (eqb n 16) TapCount (
    cond (eqb n 17) Row (cond (eqb n 18) Tap (cond (eqb n 19) Cut (cond (eqb n 20) Elevation (Raised))))))))))))))))))))

named_number : (r : Refusal) → named (number_of r) ≡ r
named_number Order = refl
named_number Count = refl
named_number Angle = refl
named_number FilterLength = refl
named_number Misfit = refl
named_number Frames = refl
named_number NotFinite = refl
named_number Desk = refl
named_number PartFrame = refl
named_number Rootless = refl
named_number CueOrder = refl
named_number CueCount = refl
named_number Version = refl
named_number FileLength = refl
named_number RowCount = refl
named_number TapCount = refl
named_number Row = refl
named_number Tap = refl
named_number Cut = refl
named_number Elevation = refl
named_number Raised = refl

pub number_above : (r : Refusal) → 0 < number_of r
number_above Order = lit< tt
number_above Count = lit< tt
number_above Angle = lit< tt
number_above FilterLength = lit< tt
number_above Misfit = lit< tt
number_above Frames = lit< tt
number_above NotFinite = lit< tt
number_above Desk = lit< tt
number_above PartFrame = lit< tt
number_above Rootless = lit< tt
number_above CueOrder = lit< tt
number_above CueCount = lit< tt
number_above Version = lit< tt
number_above FileLength = lit< tt
number_above RowCount = lit< tt
number_above TapCount = lit< tt
number_above Row = lit< tt
number_above Tap = lit< tt
number_above Cut = lit< tt
number_above Elevation = lit< tt
number_above Raised = lit< tt

pub number_apart : (r t : Refusal) → number_of r ≡ number_of t → r ≡ t
number_apart r t e = sym (named_number r) ∙ ap named e ∙ named_number t

pub found_apart : (x y : Option Refusal) → number_found x ≡ number_found y → x ≡ y
found_apart None None e = refl
found_apart None (Some t) e = let h : 0 < number_of t = number_above t in absurd (omega arith)
found_apart (Some r) None e = let h : 0 < number_of r = number_above r in absurd (omega arith)
found_apart (Some r) (Some t) e = ap Some (number_apart r t e)

module _ {A : Type 0} (other : A) where
  -- an answer is known by its number and its value
  pub told_apart : (x y : Result A Refusal) → number_in x ≡ number_in y → value_in other x ≡ value_in other y → x ≡ y
  told_apart (Ok a) (Ok b) n v = ap Ok v
  told_apart (Ok a) (Err t) n v = let h : 0 < number_of t = number_above t in absurd (omega arith)
  told_apart (Err r) (Ok b) n v = let h : 0 < number_of r = number_above r in absurd (omega arith)
  told_apart (Err r) (Err t) n v = ap Err (number_apart r t n)

  pub told_once : (x y : Result A Refusal) → told other x ≡ told other y → x ≡ y
  told_once x y e = told_apart x y (ap (λ (t : Told A). t.refusal) e) (ap (λ (t : Told A). t.value) e)

-- what is not refused is accepted
pub accepted_ok : {A : Type 0} (r : Result A Refusal) → number_in r ≡ 0 → IsOk r
accepted_ok (Ok a) e = refl
accepted_ok (Err r) e = let h : 0 < number_of r = number_above r in absurd (omega arith)

-- an answer that has no value is known by its number
pub done_apart : (x y : Result ⊤ Refusal) → number_in x ≡ number_in y → x ≡ y
done_apart x y e = told_apart tt x y e refl

-- what `?` hands on is the refusal that it was given
pub handed_on : {A : Type 0} (x : Result A Refusal) (r : Refusal) → IsErrAnd x (λ t. t ≡ r) → x ≡ Err r
handed_on x r h = let p = err_from_is_err_and x h in p.1 ∙ ap Err p.2
