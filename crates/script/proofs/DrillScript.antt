-- Document 02, E1, as one record. Assumes nothing.
use Rattle.cues.proofs.Halving.{holds_between}
use Rattle.script.specs.DrillScript.{DrillScript}
use Rattle.script.proofs.Played.{before_the_first}
use Rattle.script.proofs.Divided.{stretches, divided_alike}
use Rattle.script.proofs.Between.{between_two}
use Rattle.script.proofs.Cuts.{cut_each, heard_as_parts}

pub drill_script : DrillScript
drill_script = record {
  last = λ cues i f up l b. holds_between cues f i up l b.0 b.1;
  before = λ s cues input out after answer P z n p h k b. before_the_first s cues input out answer after P z n p h k b;
  divided = stretches;
  alike = divided_alike;
  between = between_two;
  separate = heard_as_parts;
  cuttable = λ cues order f xs good sound. cut_each order good cues sound f xs;
}
