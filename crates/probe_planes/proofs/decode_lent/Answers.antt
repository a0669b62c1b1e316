-- `probe_planes::decode_lent` meets its contract. Assumes nothing.
use Rattle.lists.specs.Prelude.{◌∙◌}
use Rattle.planes.specs.Blocks.{played}
use Rattle.probe_answer.specs.Answers as Shown
use Rattle.probe_planes.proofs.Decoded.{decode_plays}
use Rattle.probe_planes.proofs.decode_lent.Goals as goal

pub returns : goal.returns
returns c =
    let a = c.args in
    decode_plays a.args.now a.out.now a.weights.now a.inputs.now a.planes.now _ _ _ _ _ _ _ _
    (played c.process-decoded.result) _ c.requires c.get_list.ensures c.get_list-2.ensures c.get_list-3.ensures
    c.number.ensures c.number-2.ensures c.number-3.ensures c.number-4.ensures c.process-decoded.ensures
    (c.put_played.ensures
    ∙ (λ i. Shown.played (c.number_in.ensures i) (c.unwrap_or.ensures i) c.process-decoded.new.out a.out.now))
