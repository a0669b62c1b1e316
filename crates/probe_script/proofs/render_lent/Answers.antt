-- `probe_script::render_lent` meets its contract. Assumes nothing.
use Rattle.planes.specs.Blocks.{played}
use Rattle.probe_script.proofs.Shown.{renders}
use Rattle.probe_script.proofs.render_lent.Goals as goal

pub returns : goal.returns
returns c =
    let a = c.args in
    renders a.args.now a.count a.input.now _ a.planes.now _ _ _ _ _ _ (played c.render_first.result)
    c.requires.0 c.requires.1
    c.get_list.ensures c.all_cues.ensures c.number.ensures c.number-2.ensures c.number-3.ensures c.number-4.ensures
    c.render_first.ensures.bits
