-- No two answers meet one promise. Assumes nothing.
use Rattle.lists.specs.OneAnswer.{AllowsOneAnswer}
use Rattle.lists.specs.Prelude.{sym, ◌∙◌}
use Rattle.bank_form.proofs.Found.{found_once}
use Rattle.bank_check.specs.contracts.check_start as check_start
use Rattle.bank_check.proofs.check_start.Reads as check_start_reads
use Rattle.bank_check.specs.contracts.check_file as check_file
use Rattle.bank_check.proofs.check_file.Reads as check_file_reads
use Rattle.bank_check.specs.contracts.check_version as check_version
use Rattle.bank_check.proofs.check_version.Reads as check_version_reads

check_start_unique : AllowsOneAnswer check_start.ended check_start_reads.Learnt
check_start_unique κs a x y p q = λ i. (found_once x.0 y.0 (p.bits ∙ sym q.bits) i, _)

check_file_unique : AllowsOneAnswer check_file.ended check_file_reads.Learnt
check_file_unique κs a x y p q = λ i. (found_once x.0 y.0 (p.bits ∙ sym q.bits) i, _)

check_version_unique : AllowsOneAnswer check_version.ended check_version_reads.Learnt
check_version_unique κs a x y p q = λ i. (found_once x.0 y.0 (p.bits ∙ sym q.bits) i, _)
