-- docs/PROBE.md, 'Operations', 9 to 13 and 15: the count of the bytes of an answer and what the lent bytes hold with
-- it, in the order of the page. Definitions only.
use Rattle.std.specs.Prelude.{◌+◌, ◌*◌, ◌∷◌}
use Rattle.lists.specs.Prelude.{ℕ, cond, List, [], eqb}
use Rattle.big_endian.specs.Fields.{field_at, double_at}
use Rattle.big_endian.specs.Lists.{doubles_at}
use Rattle.harmonics.specs.declared.Direction.{Direction}
use Rattle.matrix.specs.Promise as Rows
use Rattle.harmonics.specs.Promise as Harmonics
use Rattle.virtual_speaker.specs.Promise as Weighted
use Rattle.stereo.specs.Promise as Stereo
use Rattle.surround.specs.Promise as Surround
use Rattle.decoder_matrix.specs.Promise as Decoder
use Rattle.probe_request.specs.Requests.{layout_at, weights_lent}
use Rattle.probe_answer.specs.Answers.{Draft, none, taking, refusal_and_doubles}

-- "azimuth and elevation (f64, 8 each)"
abbrev pub direction_at : List ℕ → ℕ → Direction
direction_at args at = record { azimuth = double_at args at; elevation = double_at args (at + 8) }

-- 9 rows: "w: weights lent (2), order (8), the w weights"
unfoldable pub rows_answer : ℕ → List ℕ → List ℕ → Draft
rows_answer w args out = let r = Rows.outcome (field_at args 2 8) (doubles_at args 10 w) in taking (10 + 8 * w) args out
    (refusal_and_doubles r.refusal r.weights out)

-- 10 harmonics: "order (8), azimuth and elevation"
unfoldable pub harmonics_answer : List ℕ → List ℕ → Draft
harmonics_answer args out = let r = Harmonics.outcome (field_at args 0 8) (direction_at args 8) in taking 24 args out
    (refusal_and_doubles r.refusal r.gains out)

-- 11 weighted coefficients: "the same"
unfoldable pub weighted_answer : List ℕ → List ℕ → Draft
weighted_answer args out = let r = Weighted.outcome (field_at args 0 8) (direction_at args 8) in taking 24 args out
    (refusal_and_doubles r.refusal r.weights out)

-- 12 stereo gains: "position (f64, 8)", "left and right"
unfoldable pub stereo_answer : List ℕ → List ℕ → Draft
stereo_answer args out = let r = Stereo.outcome (double_at args 0) in taking 8 args out
    (refusal_and_doubles r.refusal (r.left ∷ r.right ∷ []) out)

-- 13 surround gains: "layout (9), azimuth (f64, 8)"
unfoldable pub surround_answer : List ℕ → List ℕ → Draft
surround_answer args out = let r = Surround.outcome (layout_at args 0) (double_at args 9) in taking 17 args out
    (refusal_and_doubles r.refusal r.gains out)

-- 15 decoder matrix: "w: weights lent (2), order (8), layout (9), the w weights"
unfoldable pub decoder_answer : ℕ → List ℕ → List ℕ → Draft
decoder_answer w args out =
    let r = Decoder.outcome (field_at args 2 8) (layout_at args 10) (doubles_at args 19 w) in
    taking (19 + 8 * w) args out (refusal_and_doubles r.refusal r.weights out)

-- the two that put weights over lent ones
unfoldable pub matrix_answer : ℕ → ℕ → List ℕ → List ℕ → Draft
matrix_answer operation w args out = cond (eqb operation 9) (rows_answer w args out) (decoder_answer w args out)

-- by the operation, and none to another one
unfoldable pub answer_of : ℕ → List ℕ → List ℕ → Draft
answer_of operation args out =
    cond (eqb operation 9) (rows_answer (weights_lent args 0) args out)
    (cond (eqb operation 10) (harmonics_answer args out)
    (cond (eqb operation 11) (weighted_answer args out)
    (cond (eqb operation 12) (stereo_answer args out)
    (cond (eqb operation 13) (surround_answer args out)
    (cond (eqb operation 15) (decoder_answer (weights_lent args 0) args out)
    (none out))))))
