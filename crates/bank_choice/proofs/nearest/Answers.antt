-- `bank_choice::nearest` meets its contract. What is left of the walk ends where the whole does. Assumes nothing.
use Rattle.std.specs.Prelude.{◌≡◌, ◌+◌, ◌-◌, ◌<◌}
use Rattle.lists.specs.Prelude.{sym, ap, ◌∙◌, arith}
use mir.Syntax.{w16}
use mir.Val.{to_z, of_z}
use mir.Facts.{to_z-of_z}
use Rattle.bank_choice.specs.Computed.{nearer, nearest_from}
use Rattle.bank_choice.proofs.Takes.{nearer_below, nearest_next, nearest_end}
use Rattle.bank_choice.proofs.nearest.Goals as goal

pub loop-j-preserved : goal.loop-j-preserved
loop-j-preserved c =
    let args = c.args in
    let turn = c.loop-j in
    let p = to_z w16 (of_z w16 args.azimuth) in
    let q = to_z w16 (of_z w16 args.elevation) in
    let more : 0 < args.n - turn.j = omega arith in
    let found : c.nearer_row-best.result ≡ nearer args.azimuths.now args.elevations.now p q turn.best
    turn.j = c.nearer_row-best.ensures in
    let count : args.n - turn.j - 1 ≡ args.n - (turn.j + 1) = omega arith in (
      rw found (nearer_below _ _ p q turn.best turn.j args.n turn.invariant.0 c.loop-j-test.true),
      turn.invariant.1 ∙ nearest_next _ _ p q turn.best turn.j (args.n - turn.j) more ∙ rw (count, found),
    )

pub returns : goal.returns
returns c =
    let turn = c.loop-j in
    let done : c.args.n - turn.j ≡ 0 = omega arith in
    sym (rw (to_z-of_z c.ranges.azimuth, to_z-of_z c.ranges.elevation) at
    (turn.invariant.1 ∙ ap (nearest_from _ _ _ _ _ _) done ∙ nearest_end _ _ _ _ _ _))
