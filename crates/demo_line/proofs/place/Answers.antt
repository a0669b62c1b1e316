-- `demo_line::place` meets its contract: `Places`. Assumes nothing.
use Rattle.lists.specs.Prelude.{refl, ap}
use Rattle.planes.specs.Blocks.{played}
use Rattle.refusals.specs.Numbers.{number_in}
use Rattle.demo_line.proofs.Places.{place_played}
use Rattle.demo_line.proofs.place.Goals as goal

pub returns : goal.returns
returns c =
    place_played c.args.bytes.now _ _ _ _ (played c.process.result) c.get_f64-azimuth.ensures c.voice_of-voice.ensures
    refl c.process.ensures (ap number_in c.in_ok-process.was) _ c.line_of.ensures
