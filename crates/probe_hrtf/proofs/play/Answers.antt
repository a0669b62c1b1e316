-- `probe_hrtf::play` meets its contract: what is handed to the convolver stands in the arguments, and its outcome is
-- put part by part. Assumes nothing.
use Rattle.probe_hrtf.proofs.Blocks.{played}
use Rattle.probe_hrtf.proofs.play.Goals as goal

pub returns : goal.returns
returns c =
    played _ _ _ _ _ _ _ c.put_list.ensures c.put_list-after_rings.ensures
    c.put_counts-after_counts.ensures c.process-played.ensures.bits c.shape.ensures
    c.desk-given.ensures c.number.ensures c.number-2.ensures
    c.eight-row_of.ensures
