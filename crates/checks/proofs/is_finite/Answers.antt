-- `checks::is_finite` meets its contract. Assumes nothing.
use Rattle.lists.specs.Prelude.{◌∙◌}
use Rattle.checks.proofs.Tests.{finite_is}
use Rattle.checks.proofs.is_finite.Goals as goal

pub returns : goal.returns
returns c = c.is_finite.ensures.value ∙ finite_is c.args.x
