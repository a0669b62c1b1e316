-- `big_endian::put` meets its contract. The digits stand from the last on, and what is left of the number has those
-- before them. Assumes nothing.
use Rattle.std.specs.Prelude.{◌≡◌, ◌<◌}
use Rattle.lists.specs.Prelude.{sym, ap, ◌∙◌, arith}
use Rattle.big_endian.proofs.Fields.{lies_true, written_out, put_from, put_none, put_next, put_all}
use Rattle.big_endian.proofs.Fields.{digits_left, all_left}
use Rattle.big_endian.proofs.put.Goals as goal

pub returns-then-not-lies_inside : goal.returns-then-not-lies_inside
returns-then-not-lies_inside c =
    sym (written_out _ _ _ _ (sym c.lies_inside.ensures ∙ c.if-not-lies_inside.true))

pub loop-k-init : goal.loop-k-init
loop-k-init c =
    let inside = lies_true _ _ _ (sym c.lies_inside.ensures ∙ c.if-not-lies_inside.false) in
    (omega arith, inside.0, inside.1, all_left _ _, put_none _ _ _ _)

pub loop-k-preserved : goal.loop-k-preserved
loop-k-preserved c =
    let turn = c.loop-k in
    let more : 0 < turn.k = omega arith in (
      omega arith,
      turn.invariant.1,
      turn.invariant.2,
      rw turn.invariant.3 (digits_left _ _ _ more turn.invariant.0),
      rw (turn.invariant.4, turn.invariant.3) (put_next _ _ _ _ _ more turn.invariant.0 turn.invariant.2),
    )

pub returns : goal.returns
returns c =
    let turn = c.loop-k in
    let done : turn.k ≡ 0 = omega arith in
    turn.invariant.4 ∙ ap (put_from _ _ _ _) done ∙ put_all _ _ _ _ turn.invariant.1 turn.invariant.2
