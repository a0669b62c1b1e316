-- No two answers meet a promise. Of a conversion and of a root document 01's words alone allow one answer: the
-- equations beside them are a help to callers and nothing that has to be believed. Assumes nothing.
use Rattle.std.specs.Prelude.{◌≡◌}
use Rattle.lists.specs.Prelude.{sym, ◌∙◌, true, false, ℕ, zero, suc, zero-lt-suc, T, lt→ltb, Float, nan, inf, fin}
use Rattle.lists.specs.Prelude.{Format}
use Rattle.lists.specs.Prelude.{binary64, fits}
use lib.Ieee.Positive.{positive}
use Rattle.lists.specs.OneAnswer.{OneAnswer, AllowsOneAnswer}
use Rattle.lists.proofs.Determined.{determined_by}
use Rattle.formats.specs.Floats.{zero_float}
use Rattle.refusals.proofs.Numbers.{told_once}
use Rattle.formats.proofs.Grid.{zero_written}
use Rattle.numbers.specs.Conversions.{Narrows}
use Rattle.numbers.specs.Computed.{root_of, root_answer}
use Rattle.numbers.specs.Promise.{RootWords}
use Rattle.numbers.specs.Computed.{Rooted}
use Rattle.numbers.proofs.Narrows.{narrows_only}
use Rattle.numbers.proofs.Middle.{root_only}
use Rattle.numbers.specs.contracts.widen as widen
use Rattle.numbers.proofs.widen.Reads as widen_reads
use Rattle.numbers.specs.contracts.narrow as narrow
use Rattle.numbers.proofs.narrow.Reads as narrow_reads
use Rattle.numbers.specs.contracts.root as root
use Rattle.numbers.proofs.root.Reads as root_reads
use Rattle.numbers.specs.contracts.inverse_root as inverse_root
use Rattle.numbers.proofs.inverse_root.Reads as inverse_root_reads

pub widen_unique : AllowsOneAnswer widen.ended widen_reads.Learnt
widen_unique κs a = determined_by (λ z h i. (h.bits i, _))

pub narrow_unique : AllowsOneAnswer narrow.ended narrow_reads.Learnt
narrow_unique κs a = determined_by (λ z h i. (h.bits i, _))

pub root_unique : AllowsOneAnswer root.ended root_reads.Learnt
root_unique κs a x y p q = λ i. (told_once zero_float x.0 y.0 (p.bits ∙ sym q.bits) i, _)

inverse_root_unique : AllowsOneAnswer inverse_root.ended inverse_root_reads.Learnt
inverse_root_unique κs a x y p q = λ i. (told_once zero_float x.0 y.0 (p.bits ∙ sym q.bits) i, _)

-- ---- by document 01's words alone
pub narrows_unique : (f : Format) (x : Float) → OneAnswer (Narrows f x)
narrows_unique f x = determined_by (narrows_only f x)

same : (r : Rooted) {n : ℕ} {v : Float} → (r.refusal ≡ n) × (r.value ≡ v) → r ≡ record { refusal = n; value = v }
same r h = λ i. record { refusal = h.0 i; value = h.1 i }

pub root_words : (x : Float) (r : Rooted) → T (fits binary64 x) → RootWords x r → r ≡ root_answer x
unfolding root_of
root_words nan r h words = same r (words.refused tt)
root_words (inf s) r h words = same r (words.refused tt)
root_words (fin s zero e) r h words = same r (words.kept s (zero_written binary64 s e h))
root_words (fin true (suc m) e) r h words = same r (words.refused tt)
root_words (fin false (suc m) e) r h words =
    let p : T (positive (fin false (suc m) e)) = lt→ltb 0 (suc m) (zero-lt-suc m) in
    let near = words.nearest p in
    same r (near.0, root_only binary64 (fin false (suc m) e) r.value h p near.1)
