-- `hrtf::frames::ears_of` meets its contract: `Adding`. Assumes nothing.
use Rattle.std.specs.Prelude.{◌<◌}
use Rattle.std.proofs.lemmas.List.{get_or-take}
use Rattle.lists.specs.Prelude.{ap, arith}
use Rattle.hrtf.specs.declared.frames.Scaled.{Scaled}
use Rattle.hrtf.proofs.Ears.{adding_more, adding_all}
use Rattle.hrtf.proofs.frames.ears_of.Goals as goal

pub loop-s-preserved : goal.loop-s-preserved
loop-s-preserved c =
    let below : c.loop-s.s < c.args.scaled.shape.speakers = omega arith in
    adding_more c.loop-s.invariant below (rw get_or-take at c.of_speaker-parts.ensures)

pub returns : goal.returns
returns c =
    adding_all c.loop-s.invariant (omega arith)
    (ap (λ (k : Scaled). k.inverse_root) c.requires.factor)
    c.narrow.ensures.bits c.narrow-2.ensures.bits
