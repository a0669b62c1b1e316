-- `probe_hrtf::convolve_lent` meets its contract: where the arguments have the length of both lists, each is read from
-- its place on, and the sum is put. Assumes nothing.
use Rattle.lists.specs.Prelude.{arith}
use Rattle.probe_hrtf.proofs.Sums.{left, summed}
use Rattle.probe_hrtf.proofs.convolve_lent.Goals as goal

pub returns-then-args-behind : goal.returns-then-args-behind
returns-then-args-behind c =
    let a = c.args in
    let long = c.well_formed.0.1 in
    left a.args.now _ a.ring.now a.taps.now
    c.behind.ensures c.behind-at_taps.ensures (omega arith) c.if-args-behind.true

pub returns : goal.returns
returns c =
    let long = c.well_formed.0.1 in
    summed c.args.args.now _ _ _ c.behind.ensures c.behind-at_taps.ensures
    (omega arith) c.if-args-behind.false c.put_list.ensures
    c.convolve.ensures c.number.ensures
    c.get_list.ensures c.get_list-2.ensures
