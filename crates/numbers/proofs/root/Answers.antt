-- `numbers::root` meets its contract: by the tests of the float, and above zero by the parts of its pattern and the
-- whole root of the first. Assumes nothing.
use Rattle.lists.specs.Prelude.{◌∙◌, T, binary64, fits, of_bits}
use denote.Floats.{passes}
use Rattle.formats.proofs.Patterns.{zero_bits}
use Rattle.numbers.proofs.Tests.{zero_answer, root_promised, when_zero, when_not_above}
use Rattle.numbers.proofs.Tests.{when_infinite, bits_positive, when_above, above_no_nan_bits}
use Rattle.numbers.proofs.root.Goals.{Start}
use Rattle.numbers.proofs.root.Goals as goal

-- what owning an `f64` tells: the format holds it
held : (c : Start) → T (fits binary64 c.args.x)
held c = passes (fits binary64 c.args.x) c.well_formed.0.1

pub returns-then-x : goal.returns-then-x
returns-then-x c = let s = c.before in root_promised s.args.x _ (held s)
    (when_zero s.args.x (rw (zero_bits binary64) at c.if-x.true))

pub parted-p-requires : goal.parted-p-requires
parted-p-requires c =
    let s = c.before.before.before in
    record {
      positive = bits_positive s.args.x (held s) (rw (zero_bits binary64) at c.before.if-x-2.true);
      finite =
          c.if-bits-lt9218868437227405312.true;
    }

pub float_from_bits-result : goal.float_from_bits-result
float_from_bits-result c =
    let w = c.before in
    let p = w.before in
    let i = p.before in
    let s = i.before.before.before in
    above_no_nan_bits s.args.x p.parted-p.result.digits p.parted-p.result.half w.whole_root-r.result
    (held s) (rw (zero_bits binary64) at i.before.if-x-2.true) i.if-bits-lt9218868437227405312.true p.parted-p.ensures
    w.whole_root-r.ensures

pub returns-then-bits-lt9218868437227405312 : goal.returns-then-bits-lt9218868437227405312
returns-then-bits-lt9218868437227405312 c =
    let w = c.before in
    let p = w.before in
    let i = p.before in
    let s = i.before.before.before in
    root_promised s.args.x _ (held s)
    (when_above s.args.x p.parted-p.result.digits p.parted-p.result.half w.whole_root-r.result (held s)
    (rw (zero_bits binary64) at i.before.if-x-2.true) i.if-bits-lt9218868437227405312.true p.parted-p.ensures
    w.whole_root-r.ensures)

pub returns-else-bits-lt9218868437227405312 : goal.returns-else-bits-lt9218868437227405312
unfolding of_bits
returns-else-bits-lt9218868437227405312 c =
    let s = c.before.before.before in
    root_promised s.args.x _ (held s)
    (zero_answer ∙ when_infinite s.args.x (held s) (rw (zero_bits binary64) at c.before.if-x-2.true)
    c.if-bits-lt9218868437227405312.false)

pub returns-else-x-2 : goal.returns-else-x-2
unfolding of_bits
returns-else-x-2 c =
    let s = c.before.before in
    root_promised s.args.x _ (held s)
    (zero_answer ∙ when_not_above s.args.x (rw (zero_bits binary64) at c.before.if-x.false)
    (rw (zero_bits binary64) at c.if-x-2.false))
