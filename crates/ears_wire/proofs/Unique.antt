-- No two answers meet one promise. Assumes nothing.
use Rattle.std.specs.Prelude.{◌≡◌, Result}
use Rattle.lists.specs.Prelude.{ap, sym, ◌∙◌, ℕ}
use Rattle.refusals.specs.declared.Refusal.{Refusal}
use Rattle.refusals.proofs.Numbers.{told_apart}
use Rattle.ears_wire.specs.Promise.{Taken, taken_told, FramesTaken, Given, given_told, EarsGiven}
use Rattle.lists.specs.OneAnswer.{AllowsOneAnswer}
use Rattle.lists.proofs.Determined.{determined_by}
use Rattle.ears_wire.specs.contracts.frames_from_bytes as frames_from_bytes
use Rattle.ears_wire.proofs.frames_from_bytes.Reads as frames_from_bytes_reads
use Rattle.ears_wire.specs.contracts.bytes_from_ears as bytes_from_ears
use Rattle.ears_wire.proofs.bytes_from_ears.Reads as bytes_from_ears_reads
use Rattle.ears_wire.specs.contracts.keep_rest as keep_rest
use Rattle.ears_wire.proofs.keep_rest.Reads as keep_rest_reads
use Rattle.ears_wire.specs.contracts.count_on as count_on
use Rattle.ears_wire.proofs.count_on.Reads as count_on_reads
use Rattle.ears_wire.specs.contracts.frames_line as frames_line
use Rattle.ears_wire.proofs.frames_line.Reads as frames_line_reads
use Rattle.ears_wire.specs.contracts.refused_line as refused_line
use Rattle.ears_wire.proofs.refused_line.Reads as refused_line_reads
use Rattle.ears_wire.specs.contracts.refused_at_line as refused_at_line
use Rattle.ears_wire.proofs.refused_at_line.Reads as refused_at_line_reads

-- an answer is known by its number and what is beside it
taken_apart : (x y : Result ℕ Refusal) → taken_told x ≡ taken_told y → x ≡ y
taken_apart x y e = told_apart 0 x y (ap (λ (t : Taken). t.refusal) e) (ap (λ (t : Taken). t.frames) e)

given_apart : (x y : Result ℕ Refusal) → given_told x ≡ given_told y → x ≡ y
given_apart x y e = told_apart 0 x y (ap (λ (g : Given). g.refusal) e) (ap (λ (g : Given). g.bytes) e)

frames_from_bytes_unique : AllowsOneAnswer frames_from_bytes.ended frames_from_bytes_reads.Learnt
frames_from_bytes_unique κs a x y p q =
    let same = p ∙ sym q in
    λ i. (taken_apart x.0 y.0 (ap (λ (f : FramesTaken). f.answer) same) i, (_, (_, ((same i).inputs, _))))

bytes_from_ears_unique : AllowsOneAnswer bytes_from_ears.ended bytes_from_ears_reads.Learnt
bytes_from_ears_unique κs a x y p q =
    let same = p ∙ sym q in
    λ i. (given_apart x.0 y.0 (ap (λ (g : EarsGiven). g.answer) same) i, (_, (_, (_, ((same i).out, _)))))

keep_rest_unique : AllowsOneAnswer keep_rest.ended keep_rest_reads.Learnt
keep_rest_unique κs a = determined_by (λ z h i. (_, (h i, _)))

count_on_unique : AllowsOneAnswer count_on.ended count_on_reads.Learnt
count_on_unique κs a = determined_by (λ z h i. (h i, _))

frames_line_unique : AllowsOneAnswer frames_line.ended frames_line_reads.Learnt
frames_line_unique κs a = determined_by (λ z h i. ((h i).size, (_, (_, ((h i).out, _)))))

refused_line_unique : AllowsOneAnswer refused_line.ended refused_line_reads.Learnt
refused_line_unique κs a = determined_by (λ z h i. ((h i).size, (_, ((h i).out, _))))

refused_at_line_unique : AllowsOneAnswer refused_at_line.ended refused_at_line_reads.Learnt
refused_at_line_unique κs a = determined_by (λ z h i. ((h i).size, (_, (_, ((h i).out, _)))))
