-- The position of a virtual speaker, made of its azimuth; and its direction, which is 0 and 0 where there is none.
-- Assumes nothing.
use Rattle.std.specs.Prelude.{◌≡◌}
use Rattle.lists.specs.Prelude.{refl, sym, ap, ◌∙◌, ℕ, zero, suc}
use Rattle.refusals.specs.Refusals.{answered}
use Rattle.formats.specs.Floats.{zero_float}
use Rattle.channel.specs.Layouts.{positions, missing, position_azimuth, position_azimuth_answer}
use Rattle.channel.specs.Layouts.{Angle}
use Rattle.channel.proofs.Tables.{degrees_answered_lem}
use Rattle.virtual_speaker.specs.Promise.{position_of, position_answer}
use Rattle.virtual_speaker.specs.Promise.{Position}

-- all at 0 degrees elevation
abbrev made : Angle → Position
made a = record { refusal = a.refusal; direction = record { azimuth = a.degrees; elevation = zero_float } }

pub position_by : (i : ℕ) (a : Angle) → a ≡ position_azimuth_answer i → made a ≡ position_answer i
position_by i a e = ap made e ∙ through (missing positions i)
  where
    through : (n : ℕ)
        → made (answered n (record { refusal = 0; degrees = position_azimuth i })
        (λ k. record { refusal = k; degrees = zero_float }))
        ≡ answered n (record { refusal = 0; direction = position_of i })
        (λ k. record { refusal = k; direction = record { azimuth = zero_float; elevation = zero_float } })
    through zero = refl
    through (suc n) = refl

pub position_direction : (i : ℕ) → (position_answer i).direction ≡ position_of i
position_direction i = ap (λ (p : Position). p.direction)
    (sym (position_by i (position_azimuth_answer i) refl) ∙ ap made (degrees_answered_lem positions i))
