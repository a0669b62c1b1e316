-- What the promise rules out: of every request for the decoder matrix the rows, and at the left end the right gain
-- before the left one. Assumes nothing.
use Rattle.std.specs.Prelude.{◌≡◌, ◌∷◌, ◌+◌, ◌*◌, ◌%◌, ◌^◌, ◌≤◌}
use Rattle.lists.specs.Prelude.{refl, sym, ap, ◌∙◌, List, [], ℕ, arith, length, Float, nan, binary64, of_int, of_bits}
use Rattle.lists.specs.Prelude.{of_fields, to_bits}
use Rattle.big_endian.specs.Bytes.{value_of}
use Rattle.big_endian.specs.Fields.{field_at, double_at}
use Rattle.big_endian.specs.Lists.{double_bytes, doubles_at}
use Rattle.decoder_matrix.specs.Promise as Decoder
use Rattle.stereo.specs.Promise.{StereoAnswer}
use Rattle.stereo.proofs.Drill.{at_minus_100}
use Rattle.probe_request.specs.Requests.{layout_at, weights_lent}
use Rattle.probe_answer.specs.Answers.{Draft, refusal_and_doubles}
use Rattle.probe_answer.proofs.Meets.{taken}
use Rattle.probe_answer.proofs.Standing.{same_entry, counted, other_arguments, doubles_known}
use Rattle.probe_gains.specs.Answers.{rows_answer, decoder_answer, stereo_answer, answer_of}

-- the decoder matrix is asked for, and answered as the rows are
rows_for_the_decoder_matrix : (args out : List ℕ) (r : Draft) → r ≡ answer_of 15 args out
    → length args ≡ 19 + 8 * weights_lent args 0 → r ≡ rows_answer (weights_lent args 0) args out → ⊥
unfolding answer_of rows_answer decoder_answer refusal_and_doubles
rows_for_the_decoder_matrix args out r is long e =
    let w = weights_lent args 0 in
    let o = Decoder.outcome (field_at args 2 8) (layout_at args 10) (doubles_at args 19 w) in
    other_arguments (19 + 8 * w) (10 + 8 * w) args out _ _ r is
    (counted o.refusal (double_bytes o.weights ∷ []) out) long (λ h. omega arith) e

-- the position -100, and the gains 0 and 1
abbrev left_end : List ℕ
left_end = 0xC0 ∷ 0x59 ∷ 0 ∷ 0 ∷ 0 ∷ 0 ∷ 0 ∷ 0 ∷ []

abbrev off : Float
off = of_bits binary64 0

abbrev on : Float
on = of_bits binary64 0x3FF0000000000000

-- at -100 the right gain, 0, stands before the left one, 1
left_and_right_exchanged : (out : List ℕ) (r : Draft) → r ≡ answer_of 12 left_end out → 17 ≤ length out
    → r ≡ refusal_and_doubles 0 (off ∷ on ∷ []) out → ⊥
unfolding answer_of stereo_answer double_at field_at value_of of_bits to_bits of_fields of_int
left_and_right_exchanged out r is room e =
    let shown : StereoAnswer → Draft = λ g. refusal_and_doubles g.refusal (g.left ∷ g.right ∷ []) out in
    let left_first : r ≡ refusal_and_doubles 0 (on ∷ off ∷ []) out = is ∙ sym (taken 8 left_end out _ refl)
    ∙ ap shown at_minus_100 in
    let same = doubles_known 0 (on ∷ off ∷ []) (off ∷ on ∷ []) out refl room (sym left_first ∙ e) in
    let bits : to_bits binary64 on % 256 ^ 8 ≡ to_bits binary64 off % 256 ^ 8 = same_entry 8 (to_bits binary64)
    (on ∷ off ∷ []) (off ∷ on ∷ []) 0 nan (omega arith) (omega arith) same in
    omega (arith, bits)
