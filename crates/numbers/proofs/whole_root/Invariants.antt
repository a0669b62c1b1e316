use Rattle.numbers.proofs.Turns.{Turn}
use Rattle.numbers.proofs.whole_root.Given as goal

abbrev pub invariant-loop : goal.invariant-loop
invariant-loop l = Turn l.m l.left l.root l.rest l.counter
