-- Document 01, 'Refusal numbers': 1 is given exactly when "ambisonic order is not 1, 2 or 3"; and an order has (order +
-- 1)² channels, those of the harmonics up to its degree. And a choice by the order. Definitions only.
use Rattle.std.specs.Prelude.{◌+◌, ◌*◌}
use Rattle.lists.specs.Prelude.{ℕ, Bool, cond, eqb}
use Rattle.refusals.specs.Refusals.{outside}
use Rattle.channel.specs.Layouts.{channels_answer}
use Rattle.channel.specs.Layouts.{CountTold}

abbrev pub refuses_order : ℕ → Bool
refuses_order n = outside n 3

abbrev pub channels_of_order : ℕ → ℕ
channels_of_order n = (n + 1) * (n + 1)

abbrev pub counted_order : ℕ → CountTold
counted_order n = channels_answer 1 (refuses_order n) (channels_of_order n)

-- one of three, by the order: what is no order is refused, and gets the third
abbrev pub by_order : {X : Type 0} → ℕ → X → X → X → X
by_order n first second third = cond (eqb n 1) first (cond (eqb n 2) second third)
