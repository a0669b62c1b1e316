-- `hrtf::parts::of_speaker` meets its contract: `SpeakerParts` says where the ring and the taps stand. Assumes nothing.
use Rattle.lists.specs.Prelude.{suc}
use Rattle.hrtf.proofs.SpeakerParts.{parts_asked, parts_there}
use Rattle.hrtf.proofs.parts.of_speaker.Goals as goal

pub convolve_both-requires : goal.convolve_both-requires
convolve_both-requires c =
    let a = c.args in
    parts_asked a.shape a.speaker a.row a.taps.now a.rings.now c.requires

pub returns : goal.returns
returns c =
    let a = c.args in
    parts_there a.shape a.speaker a.row a.taps.now a.rings.now c.requires
    (suc a.position) c.convolve_both.ensures
