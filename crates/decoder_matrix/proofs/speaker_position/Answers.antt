-- `decoder_matrix::speaker_position` meets its contract: a Custom layout computes, every other reads its table. Assumes
-- nothing.
use Rattle.lists.specs.Prelude.{ap, ◌∙◌, of_bits}
use Rattle.channel.specs.Layouts.{speakers}
use Rattle.channel.specs.Layouts.{Angle}
use Rattle.channel.proofs.Tables.{degrees_answered_lem}
use Rattle.decoder_matrix.proofs.Speakers.{by_table}
use Rattle.decoder_matrix.proofs.speaker_position.Goals as goal

-- the layout is one of the four before Custom
pub returns : goal.returns
unfolding of_bits
returns c =
    c.unwrap_or.ensures
    ∙ ap (λ (r : Angle). r.degrees) (c.speaker_azimuth.ensures ∙ degrees_answered_lem (speakers c.args.layout) c.args.i)
    ∙ by_table c.args.layout c.args.n c.args.i c.in_default.not-Custom
