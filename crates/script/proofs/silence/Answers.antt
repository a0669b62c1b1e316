-- `script::silence` meets its contract: `panner`'s `Parts`. Assumes nothing.
use Rattle.planes.proofs.Framing.{parting_more}
use Rattle.script.specs.Rendering.{silent}
use Rattle.script.proofs.silence.Goals as goal

pub loop-n-preserved : goal.loop-n-preserved
loop-n-preserved c =
    let a = c.args in
    let at = c.loop-n in
    parting_more a.out.now a.stride a.from a.to (λ k. silent a.planes) at.out at.n at.invariant c.mute.new.out
    c.loop-n-test.true c.mute.ensures
