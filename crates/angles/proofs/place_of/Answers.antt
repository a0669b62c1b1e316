-- `angles::place_of` meets its contract. Assumes nothing.
use Rattle.lists.specs.Prelude.{refl, sym, ◌∙◌, of_bits, of_int}
use Rattle.angles.proofs.Meets.{inside}
use Rattle.angles.proofs.place_of.Goals as goal

pub returns-then-not-is_inside : goal.returns-then-not-is_inside
unfolding of_bits of_int
returns-then-not-is_inside c = (sym c.is_inside.ensures ∙ c.if-not-is_inside.true, refl)

pub turned-requires : goal.turned-requires
unfolding of_bits of_int
turned-requires c = inside _ _ c.is_inside.ensures c.if-not-is_inside.false

pub returns : goal.returns
unfolding of_bits of_int
returns c = (sym c.is_inside.ensures ∙ c.if-not-is_inside.false, c.turned.ensures)
