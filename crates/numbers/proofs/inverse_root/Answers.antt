-- `numbers::inverse_root` meets its contract: a count above 0 has a root, and what `root` promises of it goes with the
-- value. Assumes nothing.
use Rattle.std.specs.Prelude.{◌<◌}
use Rattle.lists.specs.Prelude.{sym, ap, ◌∙◌, arith, pos, binary64, div, of_bits, of_int}
use Rattle.refusals.specs.Numbers.{told}
use Rattle.formats.specs.Floats.{zero_float, one_float, float}
use Rattle.numbers.specs.Computed.{Rooted}
use Rattle.numbers.specs.Normalization.{inverse_root_of}
use Rattle.numbers.proofs.RootAnswer.{root_value, counted_root}
use Rattle.numbers.proofs.Normalization.{inverse_accepted}
use Rattle.numbers.proofs.inverse_root.Goals as goal

pub unwrap-root-requires : goal.unwrap-root-requires
unwrap-root-requires c =
    let above : 0 < c.args.n = omega (arith, c.if-n-eq0.false) in
    counted_root c.args.n _ above c.ranges.n.fits c.root.ensures

pub returns : goal.returns
unfolding of_bits inverse_root_of of_int
returns c =
    let n = c.args.n in
    let there = ap (told zero_float) (sym c.unwrap-root.ensures) in
    record {
      bits =
          (λ i. record {
            refusal = 0;
            value = div binary64 one_float ((ap (λ (t : Rooted). t.value) (there ∙ c.root.ensures.bits)
                ∙ root_value (float (pos n))) i);
          })
          ∙ sym (inverse_accepted n c.if-n-eq0.false);
      words = λ h r q. ap (λ (t : Rooted). div binary64 one_float t.value)
          (there ∙ c.root.ensures.bits ∙ sym q.bits);
    }
