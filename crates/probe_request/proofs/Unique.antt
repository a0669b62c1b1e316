-- No two answers meet one promise. Assumes nothing.
use mir.Syntax.{Dict}
use denote.Param.Laws.{IsCopy, Laws}
use denote.RattleType.{RattleType}
use Rattle.std.specs.declared.clone.Clone as Clone
use Rattle.lists.specs.OneAnswer.{AllowsOneAnswer}
use Rattle.lists.proofs.Determined.{determined_by}
use Rattle.probe_request.specs.declared.Field.{Ghosts}
use Rattle.probe_request.specs.contracts.get_list as get_list
use Rattle.probe_request.proofs.get_list.Reads as get_list_reads
use Rattle.probe_request.specs.contracts.number as number
use Rattle.probe_request.proofs.number.Reads as number_reads
use Rattle.probe_request.specs.contracts.lent as lent
use Rattle.probe_request.proofs.lent.Reads as lent_reads
use Rattle.probe_request.specs.contracts.layout as layout
use Rattle.probe_request.proofs.layout.Reads as layout_reads
use Rattle.probe_request.specs.contracts.eight as eight
use Rattle.probe_request.proofs.eight.Reads as eight_reads
use Rattle.probe_request.specs.contracts.behind as behind
use Rattle.probe_request.proofs.behind.Reads as behind_reads

number_unique : AllowsOneAnswer number.ended number_reads.Learnt
number_unique κs a = determined_by (λ z h i. (h i, _))

lent_unique : AllowsOneAnswer lent.ended lent_reads.Learnt
lent_unique κs a = determined_by (λ z h i. (h i, _))

layout_unique : AllowsOneAnswer layout.ended layout_reads.Learnt
layout_unique κs a = determined_by (λ z h i. (h i, _))

eight_unique : AllowsOneAnswer eight.ended eight_reads.Learnt
eight_unique κs a = determined_by (λ z h i. (h i, _))

behind_unique : AllowsOneAnswer behind.ended behind_reads.Learnt
behind_unique κs a = determined_by (λ z h i. (h i, _))

-- of a list of any fields
module _ (T : RattleType) (laws : Laws T) (copy : IsCopy T) (field : Ghosts T.Denot) (dict : Dict)
    (cloned : Clone.Ghosts T.Denot) (clone : Dict) where
  get_list_unique : AllowsOneAnswer (get_list.ended T field dict cloned clone)
      (get_list_reads.Learnt T laws copy field dict cloned clone)
  get_list_unique κs a = determined_by (λ z h i. (_, (_, (_, (h i, _)))))
