use Rattle.probe_request.proofs.Getting.{Got}
use Rattle.probe_request.proofs.get_list.Given as goal

abbrev pub invariant-loop-entry : goal.invariant-loop-entry
invariant-loop-entry g l = Got g.T.Field.read g.T.Field.WIDTH l.args l.at l.initial.list l.list l.place l.entry-index
