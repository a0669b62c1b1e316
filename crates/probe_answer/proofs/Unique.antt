-- No two answers meet one promise: the place and the bytes, together. Assumes nothing.
use mir.Syntax.{Dict}
use denote.Param.Laws.{Laws}
use denote.RattleType.{RattleType}
use Rattle.lists.specs.OneAnswer.{AllowsOneAnswer}
use Rattle.lists.proofs.Determined.{determined_by}
use Rattle.probe_answer.specs.declared.Field.{Ghosts}
use Rattle.probe_answer.specs.contracts.put as put
use Rattle.probe_answer.proofs.put.Reads as put_reads
use Rattle.probe_answer.specs.contracts.put_bytes as put_bytes
use Rattle.probe_answer.proofs.put_bytes.Reads as put_bytes_reads
use Rattle.probe_answer.specs.contracts.put_list as put_list
use Rattle.probe_answer.proofs.put_list.Reads as put_list_reads
use Rattle.probe_answer.specs.contracts.put_refusal_and_f64s as put_refusal_and_f64s
use Rattle.probe_answer.proofs.put_refusal_and_f64s.Reads as put_refusal_and_f64s_reads
use Rattle.probe_answer.specs.contracts.put_played as put_played
use Rattle.probe_answer.proofs.put_played.Reads as put_played_reads

put_unique : AllowsOneAnswer put.ended put_reads.Learnt
put_unique κs a = determined_by (λ z h i. ((h i).place, (_, (_, ((h i).bytes, _)))))

put_bytes_unique : AllowsOneAnswer put_bytes.ended put_bytes_reads.Learnt
put_bytes_unique κs a = determined_by (λ z h i. ((h i).place, (_, ((h i).bytes, _))))

-- of a list of any fields
module _ (T : RattleType) (laws : Laws T) (field : Ghosts T.Denot) (dict : Dict) where
  put_list_unique : AllowsOneAnswer (put_list.ended T field dict) (put_list_reads.Learnt T laws field dict)
  put_list_unique κs a = determined_by (λ z h i. ((h i).place, (_, ((h i).bytes, _))))

put_refusal_and_f64s_unique : AllowsOneAnswer put_refusal_and_f64s.ended put_refusal_and_f64s_reads.Learnt
put_refusal_and_f64s_unique κs a = determined_by (λ z h i. ((h i).place, (_, (_, ((h i).bytes, _)))))

put_played_unique : AllowsOneAnswer put_played.ended put_played_reads.Learnt
put_played_unique κs a = determined_by (λ z h i. ((h i).place, (_, (_, (_, ((h i).bytes, _))))))
