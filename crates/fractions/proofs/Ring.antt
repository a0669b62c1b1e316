-- How an equation or an inequality between polynomials over the whole numbers is shown where they have too many
-- products for `omega arith`, which otherwise multiplies out by itself: `simp ring` writes each side as a sum of sorted
-- products, in the goal and in each fact, and omega does the rest, the products being its unknowns. Where too many
-- facts are in reach, such a law is stated over plain numbers, and the record's fields are handed to it. Assumes
-- nothing.
use Rattle.lists.specs.Prelude.{mul-add, add-mul, mul_assoc, mul_comm, mul_left_comm}

pub ruleset ring = (mul-add, add-mul, mul_assoc, mul_comm, mul_left_comm)
