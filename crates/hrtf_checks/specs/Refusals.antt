-- Document 01, 'Refusal numbers', those whose argument `process` has: 2, 4, 5, 7 and 8. Definitions only.
use Rattle.std.specs.Prelude.{◌*◌, ◌||◌, ◌∷◌}
use Rattle.lists.specs.Prelude.{ℕ, Bool, not, List, [], leb, eqb, length, get_or}
use Rattle.refusals.specs.Refusals.{Check, first_of, ◌when◌, outside}
use Rattle.lists.specs.Tables.{tab, any}
use Rattle.checks.specs.Finite.{has_nonfinite}
use Rattle.checks.specs.Lengths.{block_unfit}
use Rattle.hrtf_desk.specs.declared.Desk.{Desk}
use Rattle.hrtf_rings.specs.State.{State}
use Rattle.hrtf_checks.specs.declared.ConvolverShape.{ConvolverShape}
use Rattle.hrtf_checks.specs.Call.{BlockCall}

-- "a speaker's row isn't in the bank"
abbrev pub row_missing : List ℕ → ℕ → ℕ → Bool
row_missing rows speakers bank = any (tab 0 speakers (λ s. leb bank (get_or rows s 0)))

-- 2: "speakers or bank rows are not 1..8, or a speaker's row isn't in the bank, or channels not 1..16"
abbrev pub misshapen : ConvolverShape → List ℕ → Bool
misshapen h rows = outside h.speakers 8
    || (outside h.rows 8 || (outside h.channels 16 || row_missing rows h.speakers h.rows))

-- 5: "stride below the frame count, or a length other than planes x stride, rings speakers x L, weights .. speakers x
-- channels, taps 2 x bank rows x L"
abbrev pub convolver_unfit : ConvolverShape → ℕ → ℕ → ℕ → ℕ → ℕ → ℕ → ℕ → Bool
convolver_unfit h frames stride inputs weights taps rings ears =
    block_unfit inputs h.channels ears 2 stride frames || (not (eqb rings (h.speakers * h.length))
    || (not (eqb weights (h.speakers * h.channels)) || not (eqb taps (2 * h.rows * h.length))))

-- 8: "ring position or frames-to-go is not below L"
abbrev pub desk_out_of_range : Desk → ℕ → Bool
desk_out_of_range d L = leb L d.position || leb L d.to_go

abbrev pub call_checks : BlockCall → State → List Check
call_checks c t =
    2 when misshapen c.shape c.rows
    ∷ 4 when outside c.shape.length 512
    ∷ 5 when convolver_unfit c.shape c.frames c.stride (length c.inputs) (length c.weights)
    (length c.taps)
    (length t.rings) (length c.ears)
    ∷ 7 when (has_nonfinite c.weights || has_nonfinite c.taps)
    ∷ 8 when desk_out_of_range t.desk c.shape.length ∷ []

unfoldable pub refusal_of : BlockCall → State → ℕ
refusal_of c t = first_of (call_checks c t)
