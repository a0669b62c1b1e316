-- `harmonics::sin` meets its contract. Assumes nothing.
use Rattle.lists.specs.Prelude.{ap, ◌∙◌, of_bits}
use Rattle.angles.specs.Promise.{Answer}
use Rattle.harmonics.specs.Computed.{sin}
use Rattle.harmonics.proofs.sin.Goals as goal

pub returns : goal.returns
unfolding sin of_bits
returns c = c.unwrap_or.ensures ∙ ap (λ (r : Answer). r.value) c.sine.ensures.bits
