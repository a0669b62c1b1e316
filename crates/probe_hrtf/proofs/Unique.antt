-- No two answers meet one promise. Assumes nothing.
use Rattle.lists.specs.OneAnswer.{AllowsOneAnswer}
use Rattle.lists.proofs.Determined.{determined_by}
use Rattle.probe_hrtf.specs.contracts.answer as answer
use Rattle.probe_hrtf.proofs.answer.Reads as answer_reads
use Rattle.probe_hrtf.specs.contracts.desk as desk
use Rattle.probe_hrtf.proofs.desk.Reads as desk_reads
use Rattle.probe_hrtf.specs.contracts.shape as shape
use Rattle.probe_hrtf.proofs.shape.Reads as shape_reads
use Rattle.probe_hrtf.specs.contracts.put_desk as put_desk
use Rattle.probe_hrtf.proofs.put_desk.Reads as put_desk_reads
use Rattle.probe_hrtf.specs.contracts.get_lists as get_lists
use Rattle.probe_hrtf.proofs.get_lists.Reads as get_lists_reads

-- of the count and the bytes, together
answer_unique : AllowsOneAnswer answer.ended answer_reads.Learnt
answer_unique κs a = determined_by (λ z h i. ((h i).place, (_, (_, ((h i).bytes, _)))))

desk_unique : AllowsOneAnswer desk.ended desk_reads.Learnt
desk_unique κs a = determined_by (λ z h i. (h i, _))

shape_unique : AllowsOneAnswer shape.ended shape_reads.Learnt
shape_unique κs a = determined_by (λ z h i. (h i, _))

put_desk_unique : AllowsOneAnswer put_desk.ended put_desk_reads.Learnt
put_desk_unique κs a = determined_by (λ z h i. ((h i).place, (_, ((h i).bytes, _))))

-- of the five lists and the place behind them, together
get_lists_unique : AllowsOneAnswer get_lists.ended get_lists_reads.Learnt
get_lists_unique κs a = determined_by
    (λ z h i. (
      (h i).end,
      (
        _,
        (
          _,
          (
            (h i).lists.inputs,
            ((h i).lists.weights, ((h i).lists.taps, ((h i).lists.rings, ((h i).lists.ears, _)))),
          ),
        ),
      ),
    ))
