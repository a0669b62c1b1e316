-- What the program computes: one number for how far a row is, the walk to the row where it is least, and tenths moved
-- up so that none is below zero. Definitions only. Nobody has to believe them: the promise says beside the walk that
-- the row it finds is the one that `Takes` names.
use Rattle.std.specs.Prelude.{◌+◌, ◌-◌, ◌*◌}
use Rattle.lists.specs.Prelude.{cond, List, ℕ, zero, suc, ltb, ℤ, pos, negsuc}
use Rattle.bank_choice.specs.Nearest.{away, elevation_away}

-- 1801 for each tenth of elevation, and the way round, which is at most 1800: so it is less exactly for a nearer row
-- (`key_nearer`, `nearer_key`)
unfoldable pub key : List ℤ → List ℤ → ℤ → ℤ → ℕ → ℕ
key zs es p q j = 1801 * elevation_away es q j + away zs p j

-- of two rows the nearer, and the one named first where they are as near
unfoldable pub nearer : List ℤ → List ℤ → ℤ → ℤ → ℕ → ℕ → ℕ
nearer zs es p q best j = cond (ltb (key zs es p q j) (key zs es p q best)) j best

-- the nearest among best and the k rows from j on
unfoldable pub nearest_from : List ℤ → List ℤ → ℤ → ℤ → ℕ → ℕ → ℕ → ℕ
nearest_from zs es p q best j zero = best
nearest_from zs es p q best j (suc k) = nearest_from zs es p q (nearer zs es p q best j) (j + 1) k

-- ten turns up; no contract cites it, since the program takes std's `abs_diff` of two tenths
unfoldable pub turned_up : ℤ → ℕ
turned_up (pos n) = 36000 + n
turned_up (negsuc n) = 35999 - n
