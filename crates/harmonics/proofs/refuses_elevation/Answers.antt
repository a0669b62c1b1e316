-- `harmonics::refuses_elevation` meets its contract. Assumes nothing.
use Rattle.lists.specs.Prelude.{sym, ap, ◌∙◌, not, pos, lit<, of_bits, of_int}
use Rattle.formats.specs.Floats.{float}
use Rattle.angles.proofs.Limits.{refused_is}
use Rattle.harmonics.proofs.refuses_elevation.Goals as goal

pub returns : goal.returns
unfolding of_bits of_int
returns c = ap not c.is_inside.ensures ∙ sym (refused_is (float (pos 90)) c.before.args.elevation (lit< tt))
