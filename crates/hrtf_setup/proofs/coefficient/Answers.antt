-- `hrtf_setup::coefficient` meets its contract. Assumes nothing.
use Rattle.lists.specs.Prelude.{sym, ap, ◌∙◌, arith, List, Float, get_or, get_or-eq_default, nan, div, of_bits}
use Rattle.harmonics.specs.declared.Direction.{Direction}
use Rattle.virtual_speaker.specs.Promise.{Position, Weighted, outcome, position_of}
use Rattle.virtual_speaker.proofs.Laws.{outcome_kept, weights_length, position_direction}
use Rattle.hrtf_setup.proofs.coefficient.Goals as goal

pub returns-then-channel-lt16 : goal.returns-then-channel-lt16
unfolding of_bits
returns-then-channel-lt16 c =
    let a = c.args in
    ap (λ (w : List Float). get_or w a.channel nan)
    (c.unwrap_or-weights.ensures
    ∙ ap (λ (w : Weighted). w.weights) c.compute_sh_coefficients_max_re-weights.ensures.bits)
    ∙ ap (λ (d : Direction). get_or (outcome a.order d).weights a.channel nan)
    (c.unwrap_or-direction.ensures ∙ ap (λ (p : Position). p.direction) c.foa_position.ensures ∙ position_direction a.s)

pub returns : goal.returns
unfolding of_bits div
returns c =
    let a = c.args in
    let d = position_of a.s in
    let long = weights_length a.order d (outcome a.order d) (outcome_kept a.order d) in
    sym (get_or-eq_default (outcome a.order d).weights nan (omega (arith, long, c.if-channel-lt16.false)))
