-- What is answered to a request for the convolver (docs/PROBE.md, 'Operations', 17, 18 and 25). Definitions only.
use Rattle.std.specs.Prelude.{◌+◌, ◌*◌, ◌∷◌}
use Rattle.lists.specs.Prelude.{ℕ, suc, cond, List, [], eqb, Float}
use Rattle.formats.specs.Floats.{zero_float}
use Rattle.big_endian.specs.Bytes.{bytes_of}
use Rattle.big_endian.specs.Fields.{field_at}
use Rattle.big_endian.specs.Lists.{float_bytes, double_bytes, floats_at}
use Rattle.planes.specs.Sums.{dot}
use Rattle.hrtf_desk.specs.declared.Desk.{Desk}
use Rattle.hrtf_rings.specs.Unrolled.{unrolled}
use Rattle.hrtf.specs.Promise.{BlockTold, BlockOutcome, outcome}
use Rattle.hrtf.specs.Reset.{ResetOutcome, reset_outcome}
use Rattle.probe_request.specs.Requests.{samples_lent, cells_lent}
use Rattle.probe_answer.specs.Answers.{Draft, none, taking, ◌then◌}
use Rattle.probe_hrtf.specs.Requests.{desk_at, Lengths, lent_of, block_end, call_at, state_at, sum_taps, sum_end}

-- "ring position, frames-to-go (8 each)"
abbrev pub then_desk : Draft → Desk → Draft
then_desk d k = d then bytes_of 8 k.position then bytes_of 8 k.to_go

-- ---- 17 convolver block

-- "refusal (1), samples, unsettled, ring position, frames-to-go (8 each)"
abbrev pub then_counts : Draft → BlockTold → Draft
then_counts d p =
    then_desk (d then bytes_of 1 p.refusal then bytes_of 8 p.samples then bytes_of 8 p.unsettled) p.desk

-- "the r cells, the e samples", as they stand after the call
unfoldable pub block_shown : BlockOutcome → List ℕ → Draft
block_shown o out = then_counts (none out) o.answer then float_bytes o.rings then float_bytes o.ears

-- n of each list being lent
unfoldable pub block_by : Lengths → List ℕ → List ℕ → Draft
block_by n args out = taking (block_end n) args out (block_shown (outcome (call_at args n) (state_at args n)) out)

-- "Lists are lent at the lengths that the request says"
abbrev pub block_answer : List ℕ → List ℕ → Draft
block_answer args out = block_by (lent_of args) args out

-- ---- 18 convolver reset

-- "refusal (1), ring position, frames-to-go (8 each), the r cells"
unfoldable pub reset_shown : ResetOutcome → List ℕ → Draft
reset_shown o out = then_desk (none out then bytes_of 1 o.answer.refusal) o.answer.desk then float_bytes o.rings

-- "ring position, frames-to-go, speakers, L (8 each), the r cells (f32, 4 each)"
unfoldable pub reset_by_of : ℕ → List ℕ → List ℕ → Draft
reset_by_of r args out =
    taking (34 + 4 * r) args out
    (reset_shown (reset_outcome (desk_at args 2) (field_at args 18 8) (field_at args 26 8) (floats_at args 34 r)) out)

-- "r: ring cells lent (2)"
abbrev pub reset_answer : List ℕ → List ℕ → Draft
reset_answer args out = reset_by_of (cells_lent args 0) args out

-- ---- 25 convolve

-- what `hrtf_rings::convolve` promises of a ring, its newest cell and taps
abbrev pub sum_of : List Float → ℕ → List Float → Float
sum_of ring newest taps = dot zero_float (unrolled (suc newest) ring) taps

-- "newest (8), the r cells and the t taps (f32, 4 each)"
unfoldable pub sum_at : List ℕ → ℕ → ℕ → Float
sum_at args r t = sum_of (floats_at args 12 r) (field_at args 4 8) (floats_at args (sum_taps r) t)

-- "the sum (f64, 8)"
abbrev pub sum_shown : Float → List ℕ → Draft
sum_shown sum out = none out then double_bytes (sum ∷ [])

-- r cells and t taps being lent
unfoldable pub sum_by : ℕ → ℕ → List ℕ → List ℕ → Draft
sum_by r t args out = taking (sum_end r t) args out (sum_shown (sum_at args r t) out)

-- "r, t: ring cells and taps lent (2 each)"
abbrev pub sum_answer : List ℕ → List ℕ → Draft
sum_answer args out = sum_by (cells_lent args 0) (samples_lent args 2) args out

-- ---- "17 convolver block", "18 convolver reset", "25 convolve"; any other is not of this family

unfoldable pub answer_of : ℕ → List ℕ → List ℕ → Draft
answer_of operation args out =
    cond (eqb operation 17) (block_answer args out)
    (cond (eqb operation 18) (reset_answer args out)
    (cond (eqb operation 25) (sum_answer args out)
    (none out)))
