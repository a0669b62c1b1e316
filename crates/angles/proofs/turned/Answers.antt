-- `angles::turned` meets its contract: an angle below 0 lies what its opposite's units are short of a turn. Assumes
-- nothing.
use Rattle.std.specs.Prelude.{◌-◌, ◌%◌}
use Rattle.lists.specs.Prelude.{ap, ◌∙◌, ℕ, of_bits, of_int}
use Rattle.angles.specs.Computed.{turn}
use Rattle.angles.proofs.Floats.{negated, itself}
use Rattle.angles.proofs.turned.Goals as goal

pub returns-then-d : goal.returns-then-d
unfolding of_bits of_int
returns-then-d c =
    let s = c.before.before in
    let n = negated s.args.d s.requires c.before.if-d.true in
    ap (λ (u : ℕ). (turn - u % turn) % turn) (c.units.ensures ∙ n.1) ∙ n.2

pub returns-else-d : goal.returns-else-d
unfolding of_bits of_int
returns-else-d c =
    let s = c.before.before in
    ap (λ (u : ℕ). u % turn) c.units-else-d.ensures ∙ (itself s.args.d s.requires c.before.if-d.false).1

pub units-requires : goal.units-requires
unfolding of_bits of_int
units-requires c = (negated c.before.args.d c.before.requires c.if-d.true).0

pub units-requires-else-d : goal.units-requires-else-d
unfolding of_bits of_int
units-requires-else-d c = (itself c.before.args.d c.before.requires c.if-d.false).0
