use Rattle.probe_answer.proofs.Putting.{Put}
use Rattle.probe_answer.proofs.put_list.Given as goal

abbrev pub invariant-loop-element : goal.invariant-loop-element
invariant-loop-element g l = Put g.T.Field.WIDTH g.T.Field.bits l.list l.initial.out l.at l.out l.place l.element-index
