-- What the crates above cite of the surround gains, beside their promise: the refusal of the answer that the definition
-- gives. Assumes nothing.
use Rattle.std.specs.Prelude.{◌≡◌}
use Rattle.lists.specs.Prelude.{refl, Float}
use Rattle.refusals.proofs.First.{answered_number}
use Rattle.channel.specs.declared.Layout.{Layout}
use Rattle.harmonics.specs.Promise.{silent_gains}
use Rattle.surround.specs.Promise.{SurroundGains}
use Rattle.surround.specs.Promise.{refusal_of, surround_gains, outcome}

pub refusal_is : (l : Layout) (a : Float) → (outcome l a).refusal ≡ refusal_of l a
refusal_is l a =
    answered_number (record { refusal = 0; gains = surround_gains l a })
    (λ n. record { refusal = n; gains = silent_gains })
    (λ (g : SurroundGains). g.refusal) refl (refusal_of l a) refl
