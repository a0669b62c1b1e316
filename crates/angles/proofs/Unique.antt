-- No two answers meet a promise. Document 01's words alone leave room, 2 ^ -40 either way: it is the equation that
-- leaves none. Assumes nothing.
use Rattle.lists.specs.OneAnswer.{AllowsOneAnswer}
use Rattle.lists.specs.Prelude.{sym, ◌∙◌}
use Rattle.lists.proofs.Determined.{determined_by}
use Rattle.formats.specs.Floats.{zero_float}
use Rattle.refusals.proofs.Numbers.{told_once}
use Rattle.angles.specs.contracts.is_inside as is_inside
use Rattle.angles.proofs.is_inside.Reads as is_inside_reads
use Rattle.angles.specs.contracts.sine as sine
use Rattle.angles.proofs.sine.Reads as sine_reads
use Rattle.angles.specs.contracts.cosine as cosine
use Rattle.angles.proofs.cosine.Reads as cosine_reads

is_inside_unique : AllowsOneAnswer is_inside.ended is_inside_reads.Learnt
is_inside_unique κs a = determined_by (λ z h i. (h i, _))

pub sine_unique : AllowsOneAnswer sine.ended sine_reads.Learnt
sine_unique κs a x y p q = λ i. (told_once zero_float x.0 y.0 (p.bits ∙ sym q.bits) i, _)

pub cosine_unique : AllowsOneAnswer cosine.ended cosine_reads.Learnt
cosine_unique κs a x y p q = λ i. (told_once zero_float x.0 y.0 (p.bits ∙ sym q.bits) i, _)
