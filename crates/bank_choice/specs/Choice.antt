-- Document 01, 'Filter bank file': "A speaker, its azimuth given in whole tenths -1800..1800 (else 3), takes, among the
-- first 1..8 rows (else 2) of a list of 8 azimuths (else 5), the one nearest it .." Document 02, E6: "A speaker's
-- elevation is given in whole tenths too, -900..900, else 3"; and of the elevations too there is a list of 8.
-- Definitions only.
use Rattle.std.specs.Prelude.{◌≡◌, ◌∷◌, ◌-◌, ◌≤◌, Result}
use Rattle.lists.specs.Prelude.{Bool, not, List, [], ℕ, eqb, ℤ, pos, negsuc, length}
use Rattle.refusals.specs.Ranges.{between}
unfoldable pub use Rattle.refusals.specs.Ranges.{is_elevation}
use Rattle.refusals.specs.declared.Refusal.{Refusal}
use Rattle.refusals.specs.Numbers.{number_in, value_in}
use Rattle.refusals.specs.Refusals.{Check, ◌when◌, first_of, answered, outside}
use Rattle.bank_choice.specs.Nearest.{Takes, TakesByAzimuth, OneElevation}
use Rattle.bank_choice.specs.Computed.{nearest_from}

-- what a choice answers: a refusal's number and row 0, or 0 with the row
pub record Choice : Type 0 where
  pub refusal : ℕ
  pub row : ℕ

abbrev pub choice : Result ℕ Refusal → Choice
choice r = record { refusal = number_in r; row = value_in 0 r }

-- a speaker's azimuth, -1800 .. 1800
unfoldable pub in_tenths : ℤ → Bool
in_tenths p = between (negsuc 1799) (pos 1800) p

abbrev pub choice_checks : List ℤ → List ℤ → ℕ → ℤ → ℤ → List Check
choice_checks zs es n p q = 2 when outside n 8 ∷ 3 when not (in_tenths p) ∷ 3 when not (is_elevation q)
    ∷ 5 when not (eqb (length zs) 8) ∷ 5 when not (eqb (length es) 8) ∷ []

unfoldable pub choice_refusal : List ℤ → List ℤ → ℕ → ℤ → ℤ → ℕ
choice_refusal zs es n p q = first_of (choice_checks zs es n p q)

abbrev pub chose : ℕ → Choice
chose row = record { refusal = 0; row = row }

abbrev pub refused_with : ℕ → Choice
refused_with k = record { refusal = k; row = 0 }

unfoldable pub choice_of : List ℤ → List ℤ → ℕ → ℤ → ℤ → Choice
choice_of zs es n p q = answered (choice_refusal zs es n p q) (chose (nearest_from zs es p q 0 1 (n - 1))) refused_with

pub record ChoicePromise (zs es : List ℤ) (n : ℕ) (p q : ℤ) (r : Choice) : Type 0 where
  pub bits : r ≡ choice_of zs es n p q
  pub words : r.refusal ≡ 0 → Takes zs es n p q r.row

-- the row that the walk finds is the one that the words name, which is one alone (`takes_one`): so whoever cites
-- `choice_of` cites these words
abbrev pub ChoiceMeets : Type 0
ChoiceMeets = (zs es : List ℤ) (p q : ℤ) (n : ℕ) → 1 ≤ n → Takes zs es n p q (nearest_from zs es p q 0 1 (n - 1))

-- where the rows stand at one elevation, the row taken is document 01's
abbrev pub OneElevationAsBefore : Type 0
OneElevationAsBefore = (zs es : List ℤ) (n : ℕ) (p q : ℤ) → OneElevation es n → (r : ℕ)
    → (Takes zs es n p q r → TakesByAzimuth zs n p r) × (TakesByAzimuth zs n p r → Takes zs es n p q r)
