use Rattle.std.specs.Prelude.{◌≡◌, ◌+◌, ◌-◌, ◌*◌, ◌/◌}
use Rattle.angles.specs.Computed.{nest}
use Rattle.angles.proofs.outermost.Given as goal

abbrev pub invariant-loop-n : goal.invariant-loop-n
invariant-loop-n l = l.f ≡ nest l.y (l.last + 2 + 2 * l.n) (l.top / 2 - l.n)
