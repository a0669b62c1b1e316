use Rattle.lists.specs.Prelude.{length}
use Rattle.lists.proofs.Filling.{Filling}
use Rattle.probe_bank.proofs.fillings.fill.Given as goal

abbrev pub invariant-loop-i : goal.invariant-loop-i
invariant-loop-i g l = Filling g.T.Filling.filling (length l.initial.list) l.initial.list l.list l.i
