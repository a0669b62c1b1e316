-- Document 01: "Reset makes every ring 0.0, both numbers 0", and of its refusals 2, 4 and 5. Definitions only.
use Rattle.std.specs.Prelude.{◌*◌, ◌≡◌, ◌∷◌, Result}
use Rattle.lists.specs.Prelude.{ℕ, not, List, [], eqb, length, replicate, Float}
use Rattle.formats.specs.Floats.{zero_float}
use Rattle.refusals.specs.Refusals.{Check, first_of, ◌when◌, answered, outside}
use Rattle.refusals.specs.Numbers.{number_in, value_in}
use Rattle.refusals.specs.declared.Refusal.{Refusal}
use Rattle.hrtf_desk.specs.declared.Desk.{Desk}
use Rattle.hrtf_desk.specs.Numbers.{zeroed}
use Rattle.hrtf_history.specs.Setup.{Setup}
use Rattle.hrtf_rings.specs.Held.{Represents}

abbrev pub reset_checks : ℕ → ℕ → List Float → List Check
reset_checks speakers L rings =
    2 when outside speakers 8 ∷ 4 when outside L 512 ∷ 5 when not (eqb (length rings) (speakers * L)) ∷ []

unfoldable pub reset_refusal : ℕ → ℕ → List Float → ℕ
reset_refusal speakers L rings = first_of (reset_checks speakers L rings)

-- what is told of a reset: the number, and the desk, which is the one given in where it is refused
pub record Rested : Type 0 where
  pub refusal : ℕ
  pub desk : Desk

abbrev pub reset_told : Desk → Result Desk Refusal → Rested
reset_told d r = record { refusal = number_in r; desk = value_in d r }

-- the answer, and what the lent rings hold
pub record ResetOutcome : Type 0 where
  pub answer : Rested
  pub rings : List Float

abbrev pub reset_by_of : ℕ → Desk → List Float → ResetOutcome
reset_by_of n d rings =
    answered n (record { answer = record { refusal = 0; desk = zeroed }; rings = replicate (length rings) zero_float })
    (λ k. record { answer = record { refusal = k; desk = d }; rings = rings })

unfoldable pub reset_outcome : Desk → ℕ → ℕ → List Float → ResetOutcome
reset_outcome d speakers L rings = reset_by_of (reset_refusal speakers L rings) d rings

-- beside the equation: what an accepted reset leaves stands for the empty past, whatever is set up with those speakers
-- and that L
pub record ResetPromise (d : Desk) (speakers L : ℕ) (rings : List Float) (o : ResetOutcome) : Type 0 where
  pub bits : o ≡ reset_outcome d speakers L rings
  pub words : reset_refusal speakers L rings ≡ 0 → (u : Setup) → u.speakers ≡ speakers → u.L ≡ L
      → Represents u [] (record { rings = o.rings; desk = o.answer.desk })
