-- `planes::mix_frame` meets its contract: `Judging`. Assumes nothing.
use Rattle.lists.specs.Prelude.{sym, ◌∙◌, true, false, or-true, or-false, ap, not}
use Rattle.planes.proofs.Framing.{judged_by, judging_more}
use Rattle.planes.proofs.Mixing.{output, output_is}
use Rattle.planes.proofs.mix_frame.Goals.{else-not-is_finite, then-not-is_finite}
use Rattle.planes.proofs.mix_frame.Goals as goal

pub loop-o-preserved : goal.loop-o-preserved
loop-o-preserved c =
    let tested = c.before in
    let put = tested.before.before.before.before in
    let mixes = put.before.before in
    let ends = mixes.before.before in
    let starts = ends.before in
    let at_loop = starts.before.before in
    let a = at_loop.before.before.before.before.args in
    let judge = judged_by at_loop.loop-o.damaged c.if-not-is_finite.damaged mixes.mix-x.result
    tested.before.widen.result
    tested.is_finite.result
    tested.before.widen.ensures.bits tested.is_finite.ensures in
    judging_more a.out.now a.out_stride a.out_frame a.outputs
    (output a.weights.now a.channels a.inputs.now a.stride a.frame) at_loop.loop-o.out
    at_loop.loop-o.damaged at_loop.loop-o.o at_loop.loop-o.invariant
    mixes.mix-x.result put.put_sample.new.xs c.if-not-is_finite.damaged starts.before.loop-o-test.true
    (output_is a.weights.now a.channels a.inputs.now a.stride a.frame at_loop.loop-o.o
    starts.place-from.result ends.onward-to.result mixes.mix-x.result starts.place-from.ensures
    ends.onward-to.ensures mixes.mix-x.ensures)
    put.put_sample.ensures
    (elim c.if-not-is_finite.branch [
      | then-not-is_finite w ↦ judge true (ap not w.if-not-is_finite.true)
          (w.damaged-is ∙ sym (or-true at_loop.loop-o.damaged))
      | else-not-is_finite w ↦ judge false
          (ap not w.if-not-is_finite.false) (w.damaged-is ∙ sym (or-false at_loop.loop-o.damaged))
    ])
