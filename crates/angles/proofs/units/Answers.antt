-- `angles::units` meets its contract: times 2 ^ 52 the angle is exact, and what is cut off is a fraction of a unit.
-- Assumes nothing.
use Rattle.lists.specs.Prelude.{sym, ◌∙◌, subst, T, binary64, fits, of_bits}
use Rattle.angles.proofs.Floats.{upright_cut}
use Rattle.angles.proofs.units.Goals.{Start}
use Rattle.angles.proofs.units.Goals as goal

-- what owning an `f64` tells: the format holds it
held : (c : Start) → T (fits binary64 c.args.d)
held c = subst T (sym c.well_formed.0.1) tt

pub truncating_f64_to_u64-requires : goal.truncating_f64_to_u64-requires
unfolding of_bits
truncating_f64_to_u64-requires c = let k = upright_cut c.args.d (held c) c.requires in record {
  lower_bound = k.above;
  upper_bound = k.under;
}

pub returns : goal.returns
unfolding of_bits
returns c = c.truncating_f64_to_u64.ensures ∙ (upright_cut c.before.args.d (held c.before) c.before.requires).is
