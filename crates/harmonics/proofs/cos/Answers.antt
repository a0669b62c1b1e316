-- `harmonics::cos` meets its contract. Assumes nothing.
use Rattle.lists.specs.Prelude.{ap, ◌∙◌, of_bits}
use Rattle.angles.specs.Promise.{Answer}
use Rattle.harmonics.specs.Computed.{cos}
use Rattle.harmonics.proofs.cos.Goals as goal

pub returns : goal.returns
unfolding cos of_bits
returns c = c.unwrap_or.ensures ∙ ap (λ (r : Answer). r.value) c.cosine.ensures.bits
