-- Which number each refusal has: document 01, 'Refusal numbers', and document 02. Code hands a refusal on by its name,
-- in the `Err` of a `Result`; a promise says which number that is, 0 where nothing is refused, as document 01 does.
-- Definitions only.
use Rattle.lists.specs.Prelude.{ℕ}
use Rattle.std.specs.Prelude.{Option, Some, None, Result, Ok, Err}
use Rattle.std.specs.Result.{result_unwrap_or}
use Rattle.refusals.specs.declared.Refusal.{Refusal}
use Rattle.refusals.specs.declared.Refusal.TheVariants.{Order, Count, Angle, FilterLength, Misfit, Frames, NotFinite}
use Rattle.refusals.specs.declared.Refusal.TheVariants.{Desk}
use Rattle.refusals.specs.declared.Refusal.TheVariants.{PartFrame, Rootless, CueOrder, CueCount, Version, FileLength}
use Rattle.refusals.specs.declared.Refusal.TheVariants.{RowCount, TapCount, Row, Tap, Cut, Elevation, Raised}

abbrev pub number_of : Refusal → ℕ
number_of Order = 1
number_of Count = 2
number_of Angle = 3
number_of FilterLength = 4
number_of Misfit = 5
number_of Frames = 6
number_of NotFinite = 7
number_of Desk = 8
number_of PartFrame = 9
number_of Rootless = 10
number_of CueOrder = 11
number_of CueCount = 12
number_of Version = 13
number_of FileLength = 14
number_of RowCount = 15
number_of TapCount = 16
number_of Row = 17
number_of Tap = 18
number_of Cut = 19
number_of Elevation = 20
number_of Raised = 21

-- the refusal that a test finds: 0 where it finds none
abbrev pub number_found : Option Refusal → ℕ
number_found None = 0
number_found (Some r) = number_of r

module _ {A : Type 0} where
  -- the refusal in an answer: 0 where it is accepted
  abbrev pub number_in : Result A Refusal → ℕ
  number_in (Ok a) = 0
  number_in (Err r) = number_of r

  -- what is answered, and another value where that is refused
  abbrev pub value_in : A → Result A Refusal → A
  value_in other r = result_unwrap_or r other

-- what is told of an answer: the number, and beside it the value, which is another one where the answer is refused
pub record Told (A : Type 0) : Type 0 where
  pub refusal : ℕ
  pub value : A

abbrev pub told : {A : Type 0} → A → Result A Refusal → Told A
told other r = record { refusal = number_in r; value = value_in other r }
