-- `planes::mix` meets its contract: `Mixing`. Assumes nothing.
use Rattle.planes.proofs.Mixing.{mixing_more, mixing_all}
use Rattle.planes.proofs.mix.Goals as goal

pub loop-weight-preserved : goal.loop-weight-preserved
loop-weight-preserved c = search mixing_more

pub returns : goal.returns
returns c = search mixing_all
