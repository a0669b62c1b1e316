-- What a read leaves, and the bank that was found. Definitions only.
use Rattle.std.specs.Prelude.{◌≡◌, ◌+◌, ◌≤◌}
use Rattle.lists.specs.Prelude.{List, Bool, true, ℕ, min, max, ℤ, length, take, Float}
use Rattle.big_endian.specs.Bytes.{AreBytes}
use Rattle.bank_form.specs.FaultLaws.{TakenFrom}
use Rattle.bank.specs.Reading.{ReadOutcome, ReadPromise}

-- bytes are read behind those that are held, no more than `limit`, or one where that is 0: those that were there stay,
-- so many stand there now, and a read that failed has added none
pub record ReadBehind (held limit : ℕ) (before : List ℕ) (failed : Bool) (size : ℕ) (after : List ℕ) : Type 0 where
  pub more : min held (length before) ≤ size
  pub most : size ≤ min held (length before) + max 1 limit
  pub room : size ≤ length after
  pub none : failed ≡ true → size ≡ min held (length before)
  pub keeps : take held after ≡ take held before

-- what reading leaves for every file that the first `size` of these bytes, and `size`, were taken from
pub record ReadSized (bytes : List ℕ) (size : ℕ) (zs es : List ℤ) (xs : List Float) (o : ReadOutcome) : Type 0 where
  pub are : AreBytes bytes
  pub each : (file : List ℕ) → AreBytes file → TakenFrom (take size bytes) size file → ReadPromise file zs es xs o

-- what reading leaves for the bytes of some file
pub record Found (zs es : List ℤ) (xs : List Float) (o : ReadOutcome) : Type 0 where
  pub file : List ℕ
  pub are : AreBytes file
  pub reads : ReadPromise file zs es xs o
