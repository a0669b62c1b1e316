-- What is kept of a file, its first bytes and its size, is enough of it, and there is such a file. Assumes nothing.
use Rattle.std.specs.Prelude.{◌≡◌, ◌++◌, ◌-◌}
use Rattle.lists.specs.Prelude.{refl, sym, ◌∙◌, subst, inl, List, ℕ, min, arith, ℤ, Float, length, take, replicate}
use Rattle.lists.specs.Prelude.{length-append, length-take, length-replicate, length-take-le, take_at}
use Rattle.lists.proofs.Lists.{take_min}
use Rattle.lists.proofs.ForAll.{forall_take, forall_append, forall_replicate}
use Rattle.big_endian.specs.Bytes.{IsByte, AreBytes}
use Rattle.bank_form.specs.Version.{largest_file}
use Rattle.bank_form.specs.FaultLaws.{Begins, TakenFrom}
use Rattle.bank_form.proofs.Start.{enough_kept}
use Rattle.bank.specs.Reading.{ReadOutcome, ReadStartPromise}
use Rattle.files.specs.Promise.{ReadSized, Found}

module _ (bytes : List ℕ) (size n : ℕ) (zs es : List ℤ) (xs : List Float) (o : ReadOutcome)
    (room : length bytes ≡ largest_file) where
  pub sized_reads : AreBytes bytes → n ≡ min size (length bytes) → ReadStartPromise (take n bytes) size zs es xs o
      → ReadSized bytes size zs es xs o
  sized_reads known e r =
      let long : length (take n bytes) ≡ n = length-take-le n bytes (omega (arith, e)) in
      let all : take size bytes ≡ take n bytes = sym (take_min bytes size n e) in
      record {
        are = known;
        each = λ file are kept.
            r.words file are (rw (long, enough_kept n size (omega (arith, e, room))) tt)
            (subst (λ (start : List ℕ). TakenFrom start size file) all kept);
      }

-- ---- a file of that size that begins so

module _ (bytes : List ℕ) (size : ℕ) (room : length bytes ≡ largest_file) where
  -- the bytes that were kept, and zeros for those that were counted
  file : List ℕ
  file = take size bytes ++ replicate (size - largest_file) 0

  file_long : length file ≡ size
  unfolding file
  file_long = length-append (take size bytes) (replicate (size - largest_file) 0)
      ∙ omega (arith, length-take size bytes, room, length-replicate {A = ℕ} (size - largest_file) 0)

  file_begins : Begins (take size bytes) size file
  unfolding file
  file_begins = record {
    long = file_long;
    same = take_at (take size bytes) (replicate (size - largest_file) 0)
        (length (take size bytes)) refl;
  }

  file_bytes : AreBytes bytes → AreBytes file
  unfolding file
  file_bytes are = forall_append IsByte 0 (take size bytes) (replicate (size - largest_file) 0)
      (forall_take IsByte 0 size bytes (omega arith) are)
      (forall_replicate IsByte 0 (size - largest_file) (omega arith))

  pub sized_found : (zs es : List ℤ) (xs : List Float) (o : ReadOutcome) → ReadSized bytes size zs es xs o
      → Found zs es xs o
  sized_found zs es xs o r =
      record { file = file; are = file_bytes r.are; reads = r.each file (file_bytes r.are) (inl file_begins) }
