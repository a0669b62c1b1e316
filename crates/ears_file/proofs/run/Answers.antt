-- `ears_file::run` meets its contract: a bank that breaks the form, a failure, or a run with a good bank. Assumes
-- nothing.
use Rattle.lists.specs.Prelude.{refl, length-replicate}
use Rattle.formats.specs.Floats.{zero_float}
use Rattle.refusals.specs.Numbers.{number_of}
use Rattle.refusals.proofs.First.{not_accepted}
use Rattle.refusals.proofs.Numbers.{number_above}
use Rattle.ears_file.proofs.SetUp.{bank_refused, bank_answers}
use Rattle.ears_file.proofs.run.Goals as goal

pub returns-in-Err : goal.returns-in-Err
returns-in-Err g c =
    let r = c.in-Err.fault.refusal in
    bank_refused _ _ c.in-Err.ensures (length-replicate 8192 zero_float)
    (not_accepted (number_of r) (number_above r) refl) _ _ refl refl

pub returns : goal.returns
returns g c = bank_answers _ _ c.in-Ok.ensures refl _ c.play_with-run.ensures
