-- Document 01, 'Filter bank file': "Version byte [..]; a 4-byte length of all that follows; 2-byte row count 1..8;
-- 2-byte L; per row a signed 2-byte azimuth in tenths of a degree, -1799..1800, then L left taps, L right taps as f32
-- bits. Big-endian, nothing after." Document 02, E6: "Bank version 2 puts a signed 2-byte elevation in tenths [..]
-- after each azimuth". Definitions only.
use Rattle.std.specs.Prelude.{◌+◌, ◌*◌, ◌∷◌, ◌++◌}
use Rattle.lists.specs.Prelude.{ℕ, List, [], Float, length, take, drop}
use Rattle.std.specs.Int.{w16}
use Rattle.std.proofs.Common.{of_z}
use Rattle.big_endian.specs.Bytes.{bytes_of}
use Rattle.big_endian.specs.Lists.{float_bytes}
use Rattle.bank_form.specs.Bank.{Bank, Pair, rows, pairs}
use Rattle.bank_form.specs.Version.{elevation_bytes}

-- in version v a row of each pair, with the next 2 * l taps
unfoldable pub row_bytes : ℕ → List Pair → ℕ → List Float → List ℕ
row_bytes v [] l xs = []
row_bytes v (p ∷ ps) l xs = bytes_of 2 (of_z w16 p.azimuth)
    ++ (elevation_bytes v p.elevation ++ (float_bytes (take (2 * l) xs) ++ row_bytes v ps l (drop (2 * l) xs)))

abbrev pub all_rows : ℕ → Bank → List ℕ
all_rows v b = row_bytes v (pairs b) b.length b.taps

-- the version, how many bytes follow, the row count and L
unfoldable pub head_bytes : ℕ → ℕ → ℕ → ℕ → List ℕ
head_bytes v follow n l = bytes_of 1 v ++ (bytes_of 4 follow ++ (bytes_of 2 n ++ bytes_of 2 l))

-- a bank in version v: two counts of two bytes follow the length, and the rows
unfoldable pub encode : ℕ → Bank → List ℕ
encode v b = head_bytes v (2 + 2 + length (all_rows v b)) (rows b) b.length ++ all_rows v b
