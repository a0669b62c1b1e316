-- The answer to a decoder block: of the block that `ambisonic_decoder` promises for what the request gives, or none.
-- Assumes nothing.
use Rattle.std.specs.Prelude.{◌≡◌, ◌+◌, ◌*◌}
use Rattle.lists.specs.Prelude.{ap, ◌∙◌, List, ℕ, arith, Float, length}
use Rattle.big_endian.specs.Fields.{field_at, float_at, double_at}
use Rattle.ambisonic_decoder.specs.Promise.{Decoded}
use Rattle.ambisonic_decoder.specs.Promise.{DecodedBlock, decoded_block}
use Rattle.probe_request.specs.Requests.{samples_lent, weights_lent, list_at}
use Rattle.probe_answer.specs.Answers.{Draft, none, played}
use Rattle.probe_answer.proofs.Meets.{taken, untaken}
use Rattle.probe_request.proofs.Requests.{inside}
use Rattle.probe_planes.specs.Answers.{decoded_answer, decode_lent, decode_answer}

module _ (args out : List ℕ) where
  pub decode_plays : (weights inputs planes weighed before after last : List Float) (outputs channels frames stride : ℕ)
      (r : Decoded) (d : Draft)
      → length args ≡ 38 + 8 * length weights + 4 * length inputs + 4 * length planes
      → weighed ≡ list_at double_at 8 args 38 weights → before
      ≡ list_at float_at 4 args (38 + 8 * length weights) inputs
      → after ≡ list_at float_at 4 args (38 + 8 * length weights + 4 * length inputs) planes
      → outputs ≡ field_at args 6 8 → channels ≡ field_at args 14 8 → frames ≡ field_at args 22 8
      → stride ≡ field_at args 30 8
      → record { answer = r; out = last } ≡ decoded_block weighed
      (record { outputs = outputs; channels = channels; frames = frames; stride = stride }) before after
      → d ≡ played r.refusal r.samples last out → d ≡ decoded_answer args (length weights) (length inputs)
      (length planes) out
  unfolding decoded_answer
  decode_plays weights inputs planes weighed before after last outputs channels frames stride r d long e f g eo ec ef es
      p q =
      let w = inside double_at 8 args 38 weights weighed e (omega arith) in
      let i = inside float_at 4 args (38 + 8 * length weights) inputs before f (omega arith) in
      let o = inside float_at 4 args (38 + 8 * length weights + 4 * length inputs) planes after g (omega arith) in
      q ∙ ap (λ (b : DecodedBlock). played b.answer.refusal b.answer.samples b.out out)
      (p ∙ (λ j. decoded_block (w j) (record { outputs = eo j; channels = ec j; frames = ef j; stride = es j }) (i j)
      (o j)))

  pub decode_none : (w i o : ℕ) → w ≡ weights_lent args 0 → i ≡ samples_lent args 2 → o ≡ samples_lent args 4
      → (length args ≡ 38 + 8 * w + 4 * i + 4 * o → ⊥) → none out ≡ decode_answer args out
  unfolding decode_answer
  decode_none w i o first second third h =
      untaken _ args out (decoded_answer args w i o out) h ∙ (λ j. decode_lent args (first j) (second j) (third j) out)

  pub decode_some : (d : Draft) (w i o : ℕ) → w ≡ weights_lent args 0 → i ≡ samples_lent args 2 → o
      ≡ samples_lent args 4
      → length args ≡ 38 + 8 * w + 4 * i + 4 * o
      → d ≡ decoded_answer args w i o out → d ≡ decode_answer args out
  unfolding decode_answer
  decode_some d w i o first second third h e =
      e ∙ taken _ args out (decoded_answer args w i o out) h
      ∙ (λ j. decode_lent args (first j) (second j) (third j) out)

-- the lists lent are as long as they are to be
pub decode_fits : (n w i o k l m : ℕ) → w ≡ k → i ≡ l → o ≡ m → n ≡ 38 + 8 * w + 4 * i + 4 * o
    → n ≡ 38 + 8 * k + 4 * l + 4 * m
decode_fits n w i o k l m p q r h = omega arith
