-- What the promise rules out, of every request of the right length: a number read from a later byte, an answer behind
-- the start, and a refused root that is told as an accepted one. Assumes nothing.
use Rattle.std.specs.Prelude.{◌≡◌, ◌∷◌, ◌%◌, ◌^◌, ◌≤◌, ◌<◌}
use Rattle.lists.specs.Prelude.{refl, sym, ap, ◌∙◌, List, [], ℕ, arith, length, Float, binary32, binary64, of_bits}
use Rattle.lists.specs.Prelude.{to_bits, nan}
use Rattle.refusals.proofs.First.{answered_number}
use Rattle.formats.specs.Floats.{zero_float}
use Rattle.numbers.specs.Computed as Numbers
use Rattle.numbers.specs.Computed.{Rooted}
use Rattle.big_endian.specs.Fields.{field_at, float_at, double_at}
use Rattle.big_endian.specs.Lists.{float_bytes, double_bytes}
use Rattle.big_endian.proofs.Fields.{lies_out, field_out}
use Rattle.big_endian.proofs.Lists.{length_field_bytes}
use Rattle.probe_answer.specs.Answers.{Draft, draft, none, nowhere, ◌then◌, refusal_and_doubles}
use Rattle.probe_answer.proofs.Meets.{taken}
use Rattle.probe_answer.proofs.Standing.{then_same, same_entry, behind_the_start, first_told, taken_told}
use Rattle.probe_numbers.specs.Answers.{widen_answer, narrow_answer, root_answer, answer_of}

module _ (args out : List ℕ) (r : Draft) where
  -- the f32 is read from the second byte on, where one is missing: 0.0, whatever is asked for
  widened_from_a_later_byte : r ≡ answer_of 1 args out → length args ≡ 4 → 8 ≤ length out
      → 0 < to_bits binary64 (float_at args 0) % 256 ^ 8
      → r ≡ none out then double_bytes (float_at args 1 ∷ []) → ⊥
  unfolding answer_of widen_answer float_at of_bits to_bits
  widened_from_a_later_byte is four room some e =
      let late : field_at args 1 4 ≡ 0 = field_out args 1 4 (lies_out (length args) 1 4 (omega arith) (omega arith)) in
      let size : (x : Float) → length (double_bytes (x ∷ [])) ≡ 8 = λ x. length_field_bytes 8 (to_bits binary64)
      (x ∷ []) in
      let first = double_bytes (float_at args 0 ∷ []) in
      let later = double_bytes (float_at args 1 ∷ []) in
      let same : first ≡ later = then_same (none out) first later (size _ ∙ sym (size _))
      (omega (arith, size (float_at args 0))) (taken 4 args out _ four ∙ sym is ∙ e) in
      let bits : to_bits binary64 (float_at args 0) % 256 ^ 8 ≡ to_bits binary64 (float_at args 1) % 256 ^ 8 =
      same_entry 8
      (to_bits binary64) (float_at args 0 ∷ []) (float_at args 1 ∷ []) 0 nan (omega arith) (omega arith) same in
      let none : to_bits binary64 (float_at args 1) % 256 ^ 8 ≡ 0 =
      ap (λ (n : ℕ). to_bits binary64 (of_bits binary32 n) %
      256 ^ 8) late in
      omega (arith, bits, none)

  -- the answer stands four bytes behind the start
  narrowed_behind_the_start : r ≡ answer_of 2 args out → length args ≡ 8 → 4 ≤ length out → length out < nowhere
      → r ≡ draft 4 out then float_bytes (Numbers.narrowed (double_at args 0) ∷ []) → ⊥
  unfolding answer_of narrow_answer
  narrowed_behind_the_start is eight room h e =
      let part = float_bytes (Numbers.narrowed (double_at args 0) ∷ []) in
      let size = length_field_bytes 4 (to_bits binary32) (Numbers.narrowed (double_at args 0) ∷ []) in
      behind_the_start (part ∷ []) out 4 (omega arith) h (omega arith) room (taken 8 args out _ eight ∙ sym is ∙ e)

  -- a refused root is told as an accepted one
  refused_root_accepted : r ≡ answer_of 3 args out → length args ≡ 8 → 1 ≤ length out
      → Numbers.refusal_of (double_at args 0) ≡ 10 → field_at r.bytes 0 1 ≡ 0 → ⊥
  unfolding answer_of root_answer refusal_and_doubles
  refused_root_accepted is eight room ten e =
      let root = Numbers.root_answer (double_at args 0) in
      let told = taken_told 8 args out r is eight
      (first_told root.refusal (double_bytes (root.value ∷ []) ∷ []) out room) in
      let number : root.refusal ≡ Numbers.refusal_of (double_at args 0) =
      answered_number (record { refusal = 0; value = Numbers.root_of binary64 (double_at args 0) })
      (λ n. record { refusal = n; value = zero_float }) (λ (a : Rooted). a.refusal) refl
      (Numbers.refusal_of (double_at args 0)) refl in
      let k : root.refusal % 256 ^ 1 ≡ 10 = ap (λ (n : ℕ). n % 256 ^ 1) (number ∙ ten) in
      omega arith
