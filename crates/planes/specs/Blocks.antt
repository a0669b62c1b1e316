-- Document 01, 'Refusal numbers': "A refusal returns its number, counts of 0, [..]; lent memory stays the same. [..] An
-- accepted block plays every frame it is given and returns that number as its sample count. Zero frames is accepted and
-- changes nothing. Frames of a plane beyond the count are unchanged." Definitions only.
use Rattle.lists.specs.Prelude.{ℕ, List, Float}
use Rattle.std.specs.Prelude.{Result}
use Rattle.refusals.specs.Refusals.{answered}
use Rattle.refusals.specs.Numbers.{number_in, value_in}
use Rattle.refusals.specs.declared.Refusal.{Refusal}
use Rattle.planes.specs.Planes.{with_frames}

-- what is given back: the answer, and what the output planes hold
pub record Block (A : Type 0) : Type 0 where
  pub answer : A
  pub out : List Float

-- a refusal, so many frames at a stride, what is played, and the output planes as they were lent; an answer is made of
-- a refusal and a sample count
abbrev pub block_of : {A : Type 0} → (ℕ → ℕ → A) → ℕ → ℕ → ℕ → List (List Float) → List Float → Block A
block_of answer refusal frames stride played out =
    answered refusal (record {
      answer =
          answer 0 frames;
      out = with_frames out stride 0 played;
    }) (λ n. record { answer = answer n 0; out = out })

-- ---- what is told of a block: the number, and how many frames were played, none where it is refused
pub record Played : Type 0 where
  pub refusal : ℕ
  pub samples : ℕ

abbrev pub played : Result ℕ Refusal → Played
played r = record { refusal = number_in r; samples = value_in 0 r }
