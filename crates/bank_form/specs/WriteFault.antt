-- Document 02, E2 and E6, of a bank that is to be written in version v: "The writer gives the same numbers, with the
-- offset where the field would stand." Definitions only. Counts are judged as numbers, whether or not they fit the
-- bytes that they would be written in. `WriterAsReader` of specs/FaultLaws.antt says that these are the reader's
-- faults.
use Rattle.std.specs.Prelude.{◌+◌, ◌*◌, ◌∷◌, ◌++◌}
use Rattle.lists.specs.Prelude.{ℕ, List, [], Float, take, drop}
use Rattle.bank_form.specs.Fault.{Fault}
use Rattle.lists.specs.Tables.{every}
use Rattle.refusals.specs.Ranges.{within}
use Rattle.bank_form.specs.Bank.{Bank, Pair, rows, pairs, is_azimuth, is_elevation, differ, is_tap}
use Rattle.bank_form.specs.Version.{row_size, taps_at, pair_at}
use Rattle.bank_form.specs.Fault.{sound, or_else, unless}

-- taps that would stand from `at` on
unfoldable pub taps_wrong : ℕ → List Float → Fault
taps_wrong at [] = sound
taps_wrong at (x ∷ xs) = or_else (unless (is_tap x) 18 at) (taps_wrong (at + 4) xs)

-- (20 is told at a field that version 1 does not have: no bank that version 1 holds has it, `Holds` of
-- specs/File.antt.) rows that would stand from `at` on in version v, behind rows with the pairs `before`: each has a
-- pair and the next 2 * l taps
unfoldable pub rows_wrong : ℕ → List Pair → List Pair → ℕ → List Float → ℕ → Fault
rows_wrong v before [] l xs at = sound
rows_wrong v before (p ∷ ps) l xs at =
    or_else (unless (is_azimuth p.azimuth) 17 at)
    (or_else (unless (is_elevation p.elevation) 20 (at + 2))
    (or_else (unless (every (λ (q : Pair). differ q p) before) 17 (pair_at v at))
    (or_else (taps_wrong (taps_at v at) (take (2 * l) xs))
    (rows_wrong v (before ++ (p ∷ [])) ps l (drop (2 * l) xs) (at + row_size v l)))))

-- the row count and L
abbrev pub counts_fault : ℕ → ℕ → Fault
counts_fault n l = or_else (unless (within 1 8 n) 15 5) (unless (within 1 512 l) 16 7)

unfoldable pub write_fault : ℕ → Bank → Fault
write_fault v b = or_else (counts_fault (rows b) b.length) (rows_wrong v [] (pairs b) b.length b.taps 9)
