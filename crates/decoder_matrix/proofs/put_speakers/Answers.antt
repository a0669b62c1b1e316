-- `decoder_matrix::put_speakers` meets its contract: `Filling`. Assumes nothing.
use Rattle.lists.specs.Prelude.{arith, ap, ◌∙◌, Float, take, sets}
use Rattle.numbers.proofs.Normalization.{inverse_ok, inverse_known}
use Rattle.rows.specs.Rows.{scaled}
use Rattle.harmonics.specs.Promise.{outcome}
use Rattle.decoder_matrix.specs.Speakers.{azimuth_by, towards}
use Rattle.decoder_matrix.specs.Matrix.{row_by}
use Rattle.decoder_matrix.proofs.Filling.{filling_more}
use Rattle.decoder_matrix.proofs.put_speakers.Goals as goal

pub unwrap-scale-requires : goal.unwrap-scale-requires
unwrap-scale-requires c = inverse_ok c.args.n _ c.requires.0 c.inverse_root.ensures

pub loop-i-preserved : goal.loop-i-preserved
loop-i-preserved c =
    let a = c.args in
    let at = c.loop-i in
    filling_more a.weights.now a.channels a.n (row_by a.order a.layout a.n a.channels)
    at.weights at.at at.i at.invariant c.put_speaker.new.weights (omega arith) c.loop-i-test.true
    (c.put_speaker.ensures
    ∙ ap (λ (z : Float). sets at.weights at.at
    (scaled c.unwrap-scale.result (take a.channels (outcome a.order (towards z)).gains)))
    c.speaker_position-azimuth.ensures
    ∙ ap (λ (s : Float). sets at.weights at.at
    (scaled s (take a.channels (outcome a.order (towards (azimuth_by a.layout a.n at.i))).gains)))
    (inverse_known a.n _ _ c.requires.0 c.inverse_root.ensures c.unwrap-scale.ensures))
