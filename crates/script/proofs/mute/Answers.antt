-- `script::mute` meets its contract: `planes`' `Sampling`. Assumes nothing.
use Rattle.lists.specs.Prelude.{refl, of_bits, of_int}
use Rattle.formats.specs.Floats.{zero_float}
use Rattle.planes.proofs.Framing.{sampling_more}
use Rattle.script.proofs.mute.Goals as goal

pub loop-p-preserved : goal.loop-p-preserved
unfolding of_bits of_int
loop-p-preserved c =
    let a = c.args in
    let at = c.loop-p in
    sampling_more a.out.now a.stride a.frame a.planes (λ k. zero_float) at.out at.p at.invariant _ c.put_sample.new.xs
    c.loop-p-test.true refl c.put_sample.ensures
