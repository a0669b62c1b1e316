-- Everything that a set-up hands back, by its refusal: first what the operation offers, then 2 (bank rows not 1..8) and
-- 5 (a list of azimuths or of elevations that is not of 8, weights other than speakers x channels). Definitions only.
use Rattle.std.specs.Prelude.{◌*◌, ◌∷◌}
use Rattle.lists.specs.Prelude.{ℕ, not, List, [], eqb, ℤ, length, Float}
use Rattle.refusals.specs.Refusals.{Check, first_of, ◌when◌, answered, outside}
use Rattle.lists.specs.Tables.{tab}
use Rattle.std.specs.Prelude.{Result}
use Rattle.refusals.specs.Numbers.{number_in, value_in}
use Rattle.refusals.specs.declared.Refusal.{Refusal}
use Rattle.hrtf_setup.specs.declared.Arranged.{Arranged}
use Rattle.hrtf_setup.specs.declared.Speakers.{Speakers}
use Rattle.hrtf_setup.specs.Speakers.{rows_of, weight_at}

-- what is wanted: whether it is offered, whose speakers, how many of them, and how many channels
pub record Wanted : Type 0 where
  pub check : Check
  pub whose : Speakers
  pub speakers : ℕ
  pub channels : ℕ

abbrev pub later_checks : ℕ → List ℤ → List ℤ → ℕ → List Float → List Check
later_checks size azimuths elevations rows weights =
    2 when outside rows 8 ∷ 5 when not (eqb (length azimuths) 8) ∷ 5 when not (eqb (length elevations) 8)
    ∷ 5 when not (eqb (length weights) size) ∷ []

unfoldable pub later_refusal : ℕ → List ℤ → List ℤ → ℕ → List Float → ℕ
later_refusal size azimuths elevations rows weights = first_of (later_checks size azimuths elevations rows weights)

unfoldable pub refusal_of : Wanted → List ℤ → List ℤ → ℕ → List Float → ℕ
refusal_of w azimuths elevations rows weights =
    first_of (w.check ∷ later_checks (w.speakers * w.channels) azimuths elevations rows weights)

-- what is told of a set-up: the number, and how many speakers and channels it has, none where it is refused
pub record SetupAnswer : Type 0 where
  pub refusal : ℕ
  pub speakers : ℕ
  pub channels : ℕ

abbrev pub none : Arranged
none = record { speakers = 0; channels = 0 }

abbrev pub setup_answer : Result Arranged Refusal → SetupAnswer
setup_answer r =
    record { refusal = number_in r; speakers = (value_in none r).speakers; channels = (value_in none r).channels }

-- the answer, and what the two lists hold
pub record Arrangement : Type 0 where
  pub answer : SetupAnswer
  pub weights : List Float
  pub rows : List ℕ

abbrev pub arranged_by : ℕ → Speakers → ℕ → ℕ → List ℤ → List ℤ → ℕ → List Float → List ℕ → Arrangement
arranged_by n k speakers channels azimuths elevations rows weights given =
    answered n
    (record {
      answer = record { refusal = 0; speakers = speakers; channels = channels };
      weights = tab 0 (speakers * channels) (weight_at k channels);
      rows = rows_of k speakers azimuths elevations rows given;
    })
    (λ m. record { answer = record { refusal = m; speakers = 0; channels = 0 }; weights = weights; rows = given })

unfoldable pub arrangement : Wanted → List ℤ → List ℤ → ℕ → List Float → List ℕ → Arrangement
arrangement w azimuths elevations rows weights given = arranged_by (refusal_of w azimuths elevations rows weights)
    w.whose w.speakers w.channels azimuths elevations rows weights given
