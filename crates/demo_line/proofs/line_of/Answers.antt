-- `demo_line::line_of` meets its contract: `Begun`. Assumes nothing.
use Rattle.lists.specs.Prelude.{refl, ◌∙◌, arith}
use Rattle.planes.specs.Planes.{sample_at}
use Rattle.demo_line.proofs.Line.{begun_none, begun_more, begun_whole, line_frames_lem}
use Rattle.demo_line.proofs.line_of.Goals as goal

pub loop-i-init : goal.loop-i-init
loop-i-init c = begun_none _ 192 _ refl

pub loop-i-preserved : goal.loop-i-preserved
loop-i-preserved c =
    begun_more _ 192 _ c.loop-i.line _ c.loop-i.i _ c.loop-i.invariant (omega arith) c.sample-x.ensures
    c.put_f32.ensures

pub returns : goal.returns
returns c =
    begun_whole _ 192 _ c.loop-i.line c.loop-i.i c.loop-i.invariant (omega arith)
    ∙ line_frames_lem (sample_at c.args.planes.now 32)
