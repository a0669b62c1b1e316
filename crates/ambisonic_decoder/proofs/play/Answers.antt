-- `ambisonic_decoder::play` meets its contract: `Framing`. Assumes nothing.
use Rattle.planes.proofs.Framing.{framing_more}
use Rattle.ambisonic_decoder.proofs.play.Goals as goal

pub loop-n-preserved : goal.loop-n-preserved
loop-n-preserved c =
    framing_more _ _ _ _ _ _ c.loop-n.invariant c.mix_frame.new.out c.loop-n-test.true c.mix_frame.ensures.put
