-- `virtual_speaker::compute_sh_coefficients_max_re` meets its contract. Assumes nothing.
use Rattle.lists.specs.Prelude.{ap, ◌∙◌, subst, Float}
use Rattle.harmonics.specs.Promise.{coefficients, HarmonicsPromise}
use Rattle.virtual_speaker.specs.Computed.{weigh}
use Rattle.virtual_speaker.proofs.Meets.{weighed_kept}
use Rattle.virtual_speaker.proofs.compute_sh_coefficients_max_re.Goals as goal

pub returns : goal.returns
returns c =
    let coeffs = c.in_ok-coeffs.coeffs in
    weighed_kept _ _ _
    (subst (λ r. HarmonicsPromise c.args.order c.args.direction (coefficients r)) c.in_ok-coeffs.was
    c.compute_sh_coefficients.ensures) _
    (c.weigh.ensures ∙ ap (λ (k : Float). weigh k coeffs) c.max_re_cosine.ensures)
