-- Damage is judged on the signals: the largest f32, at a weight of 2.0, is a finite sample whose signal narrows to an
-- infinite one. By computing the definitions. Assumes nothing.
use Rattle.std.specs.Prelude.{◌≡◌, ◌∷◌}
use Rattle.lists.specs.Prelude.{refl, false, true, [], pos, Float, fin, add, mul, sum, round, size, span, climb, units}
use Rattle.lists.specs.Prelude.{odd}
use Rattle.numbers.specs.Computed.{rounded}
use Rattle.checks.specs.Finite.{has_nonfinite}
use Rattle.planes.specs.Sums.{mixed}
use Rattle.hrtf_history.specs.Signals.{damaged}
use Rattle.hrtf_history.specs.History.{unsettled_in}
use Rattle.hrtf_history.specs.Drill.{one_speaker}

abbrev pub largest : Float
largest = fin false 16777215 (pos 104)

abbrev pub two : Float
two = fin false 2 (pos 0)

loud_finite : has_nonfinite (largest ∷ []) ≡ false
loud_finite = refl

loud_damaged : damaged (one_speaker two) (largest ∷ []) ≡ true
unfolding mixed rounded add mul sum round size span climb units odd
loud_damaged = refl

pub loud_unsettled : unsettled_in (one_speaker two) 0 [] ((largest ∷ []) ∷ []) ≡ 1
unfolding mixed rounded add mul sum round size span climb units odd
loud_unsettled = refl
