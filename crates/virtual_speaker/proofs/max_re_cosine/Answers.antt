-- `virtual_speaker::max_re_cosine` meets its contract: the table holds the literals of specs/Computed.antt, by
-- computing. Assumes nothing.
use Rattle.lists.specs.Prelude.{sym, arith, ap, ◌∙◌, of_bits, round, ne_eqb}
use Rattle.lists.proofs.Tests.{cond_false}
use Rattle.virtual_speaker.specs.Computed.{cosine_of}
use Rattle.virtual_speaker.proofs.max_re_cosine.Goals as goal

pub returns-in-1 : goal.returns-in-1
unfolding of_bits round
returns-in-1 c = ap cosine_of (sym c.in-1.is)

pub returns-in-2 : goal.returns-in-2
unfolding of_bits round
returns-in-2 c = ap cosine_of (sym c.in-2.is)

pub returns-in_default : goal.returns-in_default
unfolding of_bits round
returns-in_default c = sym (cond_false _ _ (ne_eqb c.args.order 1 (omega arith))
    ∙ cond_false _ _ (ne_eqb c.args.order 2 (omega arith)))
