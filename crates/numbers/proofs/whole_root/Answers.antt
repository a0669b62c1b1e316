-- `numbers::whole_root` meets its contract: `Turn` is the invariant of its loop. Assumes nothing.
use Rattle.std.specs.Prelude.{◌<◌, ◌^◌}
use Rattle.lists.specs.Prelude.{arith}
use Rattle.numbers.proofs.Turns.{short_lt, no_digit, one_digit}
use Rattle.numbers.proofs.whole_root.Goals.{At-loop, else-trial-next, then-trial-next}
use Rattle.numbers.proofs.whole_root.Goals as goal

bound : (c : At-loop) → c.loop.root < 2 ^ 54
bound c = short_lt c.loop.root c.loop.counter c.loop.invariant.short c.loop.invariant.turn

pub overflow_mul-next : goal.overflow_mul-next
overflow_mul-next c = omega (arith, bound c.before)

pub overflow_add-next : goal.overflow_add-next
overflow_add-next c = omega (arith, bound c.before)

pub overflow_mul-trial : goal.overflow_mul-trial
overflow_mul-trial c = omega (arith, bound c.before)

pub overflow_add-trial : goal.overflow_add-trial
overflow_add-trial c = omega (arith, bound c.before)

pub loop-preserved : goal.loop-preserved
loop-preserved c =
    let l = c.loop in
    let m = c.args.m in
    elim c.if-trial-next.branch [
      | then-trial-next w ↦ rw (w.root-is, w.rest-is) (one_digit m l.left l.root l.rest l.counter l.invariant
          (omega (arith, c.loop-test.true)) w.if-trial-next.true)
      | else-trial-next w ↦ rw (w.root-is, w.rest-is)
          (no_digit m l.left l.root l.rest l.counter l.invariant
          (omega (arith, c.loop-test.true)) w.if-trial-next.false)
    ]
