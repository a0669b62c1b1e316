-- How an answer is put together (docs/PROBE.md, 'Operations'): its parts stand one behind the other, from the start of
-- the lent bytes on. Definitions only.
use Rattle.std.specs.Prelude.{◌+◌}
use Rattle.lists.specs.Prelude.{ℕ, cond, List, eqb, leb, Float, length}
use Rattle.big_endian.specs.Bytes.{bytes_of}
use Rattle.lists.specs.Placed.{placed}
use Rattle.big_endian.specs.Lists.{float_bytes, double_bytes}

-- an answer under way: the place where its next part goes, and the bytes as they stand
pub record Draft : Type 0 where
  pub place : ℕ
  pub bytes : List ℕ

abbrev pub draft : ℕ → List ℕ → Draft
draft place bytes = record { place = place; bytes = bytes }

-- nothing is put: so an answer begins, and so it is left where none is given, with a count of 0 and the bytes as they
-- were
abbrev pub none : List ℕ → Draft
none out = draft 0 out

-- and none where "the arguments have another length than the operation takes"
unfoldable pub taking : ℕ → List ℕ → List ℕ → Draft → Draft
taking size args out answer = cond (eqb (length args) size) answer (none out)

-- a place behind every list: 2 ^ 64 - 1
abbrev pub nowhere : ℕ
nowhere = 18446744073709551615

-- a part that has no room is left out, and so is all that would follow it
abbrev pub cut : Draft → Draft
cut d = draft nowhere d.bytes

infixl 60 ◌then◌
unfoldable pub ◌then◌ : Draft → List ℕ → Draft
d then part = cond (leb (d.place + length part) (length d.bytes))
    (draft (d.place + length part) (placed d.bytes d.place part)) (cut d)

-- a number in `count` bytes, of which no number has more than eight
abbrev pub then_field : Draft → ℕ → ℕ → Draft
then_field d count n = cond (leb count 8) (d then bytes_of count n) (cut d)

-- "refusal (1)", and numbers behind it, "f64, 8 each"
unfoldable pub refusal_and_doubles : ℕ → List Float → List ℕ → Draft
refusal_and_doubles refusal list out = none out then bytes_of 1 refusal then double_bytes list

-- "refusal (1), samples (8)", and the samples behind them, "f32, 4 each"
abbrev pub played : ℕ → ℕ → List Float → List ℕ → Draft
played refusal samples list out = none out then bytes_of 1 refusal then bytes_of 8 samples then float_bytes list
