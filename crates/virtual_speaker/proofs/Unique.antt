-- No two answers meet a promise. Document 01's words alone leave room, 2 ^ -34 either way: it is the equation that
-- leaves none. Assumes nothing.
use Rattle.lists.specs.OneAnswer.{AllowsOneAnswer}
use Rattle.lists.specs.Prelude.{sym, ap, ◌∙◌}
use Rattle.refusals.proofs.Numbers.{told_apart}
use Rattle.harmonics.specs.Promise.{silent_gains}
use Rattle.virtual_speaker.specs.Promise.{Weighted, Position, straight_ahead}
use Rattle.virtual_speaker.specs.contracts.compute_sh_coefficients_max_re as compute_sh_coefficients_max_re
use Rattle.virtual_speaker.proofs.compute_sh_coefficients_max_re.Reads as compute_sh_coefficients_max_re_reads
use Rattle.virtual_speaker.specs.contracts.foa_position as foa_position
use Rattle.virtual_speaker.proofs.foa_position.Reads as foa_position_reads

pub compute_sh_coefficients_max_re_unique : AllowsOneAnswer compute_sh_coefficients_max_re.ended
    compute_sh_coefficients_max_re_reads.Learnt
compute_sh_coefficients_max_re_unique κs a x y p q =
    let same = p.bits ∙ sym q.bits in
    λ i. (
      told_apart silent_gains x.0 y.0 (ap (λ (w : Weighted). w.refusal) same)
          (ap (λ (w : Weighted). w.weights) same) i,
      _,
    )

pub foa_position_unique : AllowsOneAnswer foa_position.ended foa_position_reads.Learnt
foa_position_unique κs a x y p q =
    let same = p ∙ sym q in
    λ i. (
      told_apart straight_ahead x.0 y.0 (ap (λ (t : Position). t.refusal) same)
          (ap (λ (t : Position). t.direction) same) i,
      _,
    )
