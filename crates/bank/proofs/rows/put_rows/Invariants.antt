use Rattle.std.specs.Prelude.{◌≡◌, ◌<◌}
use Rattle.lists.specs.Prelude.{ℕ, pos, get_or, take}
use Rattle.lists.specs.Placed.{placed}
use Rattle.bank_form.specs.Bank.{pairs_of}
use Rattle.bank_form.specs.Encoding.{row_bytes}
use Rattle.bank_form.specs.FitsFields.{IsI16}
use Rattle.bank.proofs.rows.put_rows.Given as goal

abbrev pub invariant-loop-i : goal.invariant-loop-i
invariant-loop-i l =
    (l.file ≡ placed l.initial.file 9 (row_bytes l.version (take l.i (pairs_of l.azimuths l.elevations)) l.l l.taps))
    × ((j : ℕ) → j < l.i → IsI16 (get_or l.azimuths j (pos 0)))
    × ((j : ℕ) → j < l.i → IsI16 (get_or l.elevations j (pos 0)))
