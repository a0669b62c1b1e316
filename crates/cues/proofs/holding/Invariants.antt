use Rattle.std.specs.Prelude.{◌-◌, ◌≤◌}
use Rattle.cues.proofs.Halving.{Halving}
use Rattle.cues.proofs.holding.Given as goal

-- what a turn of the search keeps; and that the frame behind the part is not before the one that is asked for
abbrev pub invariant-loop-s : goal.invariant-loop-s
invariant-loop-s l = record {
  halving : Halving l.cues l.frame l.s;
  after : l.frame ≤ l.s.next;
}

abbrev pub decreases-loop-s : goal.decreases-loop-s
decreases-loop-s l = l.s.hi - l.s.lo
