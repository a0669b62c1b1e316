-- Document 01, 'Refusal numbers': "Checked in rising order; the first that holds is given, and none is given
-- otherwise." Definitions only. An operation lists its tests in the order in which they are checked, each with its
-- number. The order is that of the list, so that a number which has to stand elsewhere than its size says (as some of
-- the later requests ask) is a matter of where it is written.
use Rattle.std.specs.Prelude.{◌∷◌}
use Rattle.lists.specs.Prelude.{ℕ, zero, suc, Bool, cond, not, List, []}
use Rattle.refusals.specs.Ranges.{within}

pub record Check : Type 0 where
  pub number : ℕ
  pub holds : Bool

infix 70 ◌when◌
abbrev pub ◌when◌ : ℕ → Bool → Check
n when b = record { number = n; holds = b }

-- the number of the first test that holds; 0, accepted, where none does
abbrev pub first_of : List Check → ℕ
first_of [] = 0
first_of (c ∷ cs) = cond c.holds c.number (first_of cs)

-- what is given where nothing is refused, and what to a refusal
module _ {A : Type 0} where
  abbrev pub answered : ℕ → A → (ℕ → A) → A
  answered zero accepted refused = accepted
  answered (suc n) accepted refused = refused (suc n)

-- a count is not 1..top: "ambisonic order is not 1, 2 or 3", "Custom n is 0 or above 16", "speakers or bank rows are
-- not 1..8", "channels not 1..16", "L is 0 or above 512"
abbrev pub outside : ℕ → ℕ → Bool
outside n top = not (within 1 top n)
