-- `probe_planes::pan_lent` meets its contract. Assumes nothing.
use Rattle.lists.specs.Prelude.{◌∙◌}
use Rattle.planes.specs.Blocks.{played}
use Rattle.probe_answer.specs.Answers as Shown
use Rattle.probe_planes.proofs.Panned.{pan_plays}
use Rattle.probe_planes.proofs.pan_lent.Goals as goal

pub returns : goal.returns
returns c =
    let a = c.args in
    pan_plays a.args.now a.out.now a.input.now a.planes.now _ _ _ _ _ _ _ _ _ (played c.process-panned.result) _
    c.requires c.get_list.ensures c.get_list-2.ensures c.command.ensures c.layout.ensures c.number.ensures
    c.number-2.ensures c.number-3.ensures c.number-4.ensures c.process-panned.ensures.bits
    (c.put_played.ensures
    ∙ (λ i. Shown.played (c.number_in.ensures i) (c.unwrap_or.ensures i) c.process-panned.new.out a.out.now))
