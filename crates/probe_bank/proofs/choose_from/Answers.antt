-- `probe_bank::choose_from` meets its contract. Assumes nothing.
use Rattle.lists.specs.Prelude.{◌∙◌}
use mir.Syntax.{w16}
use Rattle.big_endian.proofs.Signed.{back}
use Rattle.probe_bank.specs.Answers.{refusal_and_number}
use Rattle.probe_bank.proofs.Meets.{choice_misfit, choice_read}
use Rattle.probe_bank.proofs.choose_from.Goals as goal

pub returns : goal.returns
returns c =
    let args = c.args in
    let azimuth = c.get_i16-azimuth in
    let elevation = c.get_i16-elevation in
    choice_read args.args.now args.azimuths.now args.elevations.now args.out.now _ _ _ _ _ _ _
    c.if-args-elevations_at.false c.get_list.ensures
    c.get_list-2.ensures c.number-rows.ensures
    (back w16 azimuth.result azimuth.type_inv ∙ azimuth.ensures)
    (back w16 elevation.result elevation.type_inv ∙ elevation.ensures)
    c.nearest_row-answer.ensures.bits
    (c.put_refusal_and_number.ensures
    ∙ (λ i. refusal_and_number (c.number_in.ensures i) (c.unwrap_or.ensures i) args.out.now))

pub returns-then-args-elevations_at : goal.returns-then-args-elevations_at
returns-then-args-elevations_at c = search choice_misfit
