-- No two answers meet one promise. Assumes nothing.
use Rattle.lists.specs.OneAnswer.{AllowsOneAnswer}
use Rattle.std.specs.Prelude.{◌≡◌, Result, Ok, Err}
use Rattle.std.specs.Result.{result_unwrap_or}
use Rattle.lists.specs.Prelude.{refl, sym, ap, ◌∙◌, ℕ}
use Rattle.bank_form.specs.Fault.{Fault, found}
use Rattle.bank_form.specs.declared.Fault.{Fault as FaultFound}
use Rattle.bank_form.proofs.Found.{found_apart}
use Rattle.bank.specs.declared.BankRead.{BankRead as Counts}
use Rattle.bank.specs.Reading.{BankRead, ReadOutcome, read_answer}
use Rattle.bank.specs.Writing.{BankWritten, WriteOutcome, written_answer}
use Rattle.bank.specs.contracts.read as read
use Rattle.bank.proofs.read.Reads as read_reads
use Rattle.bank.specs.contracts.read_start as read_start
use Rattle.bank.proofs.read_start.Reads as read_start_reads
use Rattle.bank.specs.contracts.write as write
use Rattle.bank.proofs.write.Reads as write_reads
use Rattle.bank.specs.contracts.to_version_2 as to_version_2
use Rattle.bank.proofs.to_version_2.Reads as to_version_2_reads
use Rattle.bank.specs.contracts.to_version_1 as to_version_1
use Rattle.bank.proofs.to_version_1.Reads as to_version_1_reads

abbrev told : ℕ → ℕ → Fault
told n at = record { refusal = n; offset = at }

abbrev counted : ℕ → ℕ → Counts
counted n l = record { rows = n; length = l }

-- an answer is known by what is told of it
pub read_apart : (x y : Result Counts FaultFound) → read_answer x ≡ read_answer y → x ≡ y
read_apart x y e = found_apart (counted 0 0) x y
    (refuses x ∙ ap (λ (r : BankRead). told r.refusal r.offset) e ∙ sym (refuses y))
    (reads x ∙ ap (λ (r : BankRead). counted r.rows r.length) e ∙ sym (reads y))
  where
    refuses : (r : Result Counts FaultFound) → found r
        ≡ told (read_answer r).refusal (read_answer r).offset
    refuses (Ok n) = refl
    refuses (Err f) = refl

    reads : (r : Result Counts FaultFound) → result_unwrap_or r (counted 0 0)
        ≡ counted (read_answer r).rows (read_answer r).length
    reads (Ok n) = refl
    reads (Err f) = refl

written_apart : (x y : Result ℕ FaultFound) → written_answer x ≡ written_answer y → x ≡ y
written_apart x y e = found_apart 0 x y
    (refuses x ∙ ap (λ (r : BankWritten). told r.refusal r.offset) e ∙ sym (refuses y))
    (writes x ∙ ap (λ (r : BankWritten). r.bytes) e ∙ sym (writes y))
  where
    refuses : (r : Result ℕ FaultFound) → found r
        ≡ told (written_answer r).refusal (written_answer r).offset
    refuses (Ok n) = refl
    refuses (Err f) = refl

    writes : (r : Result ℕ FaultFound) → result_unwrap_or r 0 ≡ (written_answer r).bytes
    writes (Ok n) = refl
    writes (Err f) = refl

read_unique : AllowsOneAnswer read.ended read_reads.Learnt
read_unique κs a x y p q =
    let same = p.bits ∙ sym q.bits in
    λ i. (
      read_apart x.0 y.0 (ap (λ (o : ReadOutcome). o.answer) same) i,
      (_, ((same i).azimuths, ((same i).elevations, ((same i).taps, _)))),
    )

read_start_unique : AllowsOneAnswer read_start.ended read_start_reads.Learnt
read_start_unique κs a x y p q =
    let same = p.bits ∙ sym q.bits in
    λ i. (
      read_apart x.0 y.0 (ap (λ (o : ReadOutcome). o.answer) same) i,
      (_, (_, ((same i).azimuths, ((same i).elevations, ((same i).taps, _))))),
    )

write_unique : AllowsOneAnswer write.ended write_reads.Learnt
write_unique κs a x y p q =
    let same = p ∙ sym q in
    λ i. (written_apart x.0 y.0 (ap (λ (o : WriteOutcome). o.answer) same) i, (_, (_, (_, (_, ((same i).file, _))))))

to_version_2_unique : AllowsOneAnswer to_version_2.ended to_version_2_reads.Learnt
to_version_2_unique κs a x y p q =
    let same = p.bits ∙ sym q.bits in
    λ i. (written_apart x.0 y.0 (ap (λ (o : WriteOutcome). o.answer) same) i, (_, ((same i).file, _)))

to_version_1_unique : AllowsOneAnswer to_version_1.ended to_version_1_reads.Learnt
to_version_1_unique κs a x y p q =
    let same = p.bits ∙ sym q.bits in
    λ i. (written_apart x.0 y.0 (ap (λ (o : WriteOutcome). o.answer) same) i, (_, ((same i).file, _)))
