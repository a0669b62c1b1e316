-- Document 02, E6: "Bank version 2 puts a signed 2-byte elevation in tenths [..] after each azimuth"; "Version 1 files
-- are still read, at elevation 0". What hangs on the version of a file, which is a number, and the sizes that follow
-- from it. Definitions only.
use Rattle.std.specs.Prelude.{◌+◌, ◌*◌}
use Rattle.lists.specs.Prelude.{ℕ, Bool, cond, List, [], eqb, ℤ, pos}
use Rattle.std.specs.Int.{w16}
use Rattle.std.proofs.Common.{of_z}
use Rattle.refusals.specs.Ranges.{within}
use Rattle.big_endian.specs.Bytes.{bytes_of}
use Rattle.big_endian.specs.Fields.{signed_at}

-- the versions that there are
abbrev pub is_version : ℕ → Bool
is_version v = within 1 2 v

-- the first in version 1, which has no elevations, and the second where there are some
abbrev pub without : {A : Type 0} → ℕ → A → A → A
without v a b = cond (eqb v 1) a b

-- ---- an elevation

-- how many bytes it has
abbrev pub elevation_size : ℕ → ℕ
elevation_size v = without v 0 2

unfoldable pub elevation_bytes : ℕ → ℤ → List ℕ
elevation_bytes v z = without v [] (bytes_of 2 (of_z w16 z))

-- that of the row at an offset, behind the azimuth
unfoldable pub elevation_at : ℕ → List ℕ → ℕ → ℤ
elevation_at v s at = without v (pos 0) (signed_at s (at + 2))

-- ---- a row, and the largest file

-- the bytes of a row: an azimuth, an elevation, and l taps for each ear
abbrev pub row_size : ℕ → ℕ → ℕ
row_size v l = 2 + elevation_size v + 8 * l

-- where the taps stand of the row at an offset
abbrev pub taps_at : ℕ → ℕ → ℕ
taps_at v at = at + 2 + elevation_size v

-- where the field stands with which its pair is read: the azimuth's in version 1, else the elevation's
abbrev pub pair_at : ℕ → ℕ → ℕ
pair_at v at = at + elevation_size v

-- the bytes of the largest row, and of the largest bank: the head, and 8 rows of 512 taps for each ear, with elevations
abbrev pub largest_row : ℕ
largest_row = row_size 2 512

abbrev pub largest_file : ℕ
largest_file = 9 + 8 * largest_row
