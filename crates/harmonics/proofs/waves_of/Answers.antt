-- `harmonics::waves_of` meets its contract. Assumes nothing.
use Rattle.lists.specs.Prelude.{of_bits, of_int, round}
use Rattle.harmonics.specs.Computed.{waves_of}
use Rattle.harmonics.proofs.waves_of.Goals as goal

pub returns : goal.returns
unfolding waves_of of_int round of_bits
returns c =
    let at_sin4 = c.before.before in
    let at_cos3 = at_sin4.before in
    let at_sin3 = at_cos3.before in
    let at_cos2 = at_sin3.before in
    let at_sin2 = at_cos2.before in
    let at_sin = at_sin2.before in
    let at_cos = at_sin.before in
    λ i. record {
      cos_el = at_cos.cos.ensures i;
      sin_el = at_sin.sin.ensures i;
      sin_2el = at_sin2.sin-2.ensures i;
      cos_az = at_cos2.cos-2.ensures i;
      sin_az = at_sin3.sin-3.ensures i;
      cos_2az = at_cos3.cos-3.ensures i;
      sin_2az = at_sin4.sin-4.ensures i;
      cos_3az = c.before.cos-4.ensures i;
      sin_3az = c.sin-5.ensures i;
    }
