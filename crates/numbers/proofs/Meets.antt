-- What is computed meets document 01's words. Assumes nothing.
use Rattle.lists.specs.Prelude.{refl, binary32, binary64}
use Rattle.numbers.specs.Computed.{root_answer}
use Rattle.numbers.specs.Promise.{NumbersMeet}
use Rattle.numbers.proofs.Narrows.{rounded_narrows}
use Rattle.numbers.proofs.Middle.{root_nearest}
use Rattle.numbers.proofs.Tests.{root_promised}

pub numbers_meet : NumbersMeet
numbers_meet = record {
  narrowing = rounded_narrows binary32;
  nearest_root = root_nearest binary64;
  rooting = λ x h. root_promised x (root_answer x) h refl;
}
