-- `checks::is_product` meets its contract. Assumes nothing.
use Rattle.std.specs.Prelude.{◌<◌}
use Rattle.lists.specs.Prelude.{arith}
use Rattle.checks.proofs.Tests.{product_of_remainder, product_of_quotient}
use Rattle.checks.proofs.is_product.Goals as goal

pub returns : goal.returns
returns c = let some : 0 < c.before.before.args.a = omega arith in product_of_quotient _ _ _ some c.if-n-a-ne0.false

pub returns-then-n-a-ne0 : goal.returns-then-n-a-ne0
returns-then-n-a-ne0 c = product_of_remainder _ _ _ c.if-n-a-ne0.true
