-- What the promise rules out: a panner block whose stride is below its frames told as played, and the inputs of a
-- refused decoder block shown in the place of its outputs. Assumes nothing.
use Rattle.std.specs.Prelude.{◌≡◌, ◌∷◌, ◌+◌, ◌*◌, ◌%◌, ◌^◌, ◌≤◌, ◌<◌}
use Rattle.lists.specs.Prelude.{refl, sym, ap, ◌∙◌, Bool, true, false, List, [], ℕ, zero, suc, arith, lt-ltb, ltb}
use Rattle.lists.specs.Prelude.{length, Float}
use Rattle.refusals.specs.Refusals.{first_of, ◌when◌}
use Rattle.refusals.proofs.First.{answered_accepted, answered_refused}
use Rattle.big_endian.specs.Bytes.{bytes_of}
use Rattle.big_endian.specs.Fields.{field_at, float_at}
use Rattle.big_endian.specs.Lists.{float_bytes, floats_at, doubles_at}
use Rattle.big_endian.proofs.Lists.{length_strided}
use Rattle.panner.specs.Commands.{order_refused, layout_refused, angle_refused}
use Rattle.panner.specs.Blocks as Panner
use Rattle.panner.specs.Promise as Panning
use Rattle.ambisonic_decoder.specs.Blocks.{refusal_of}
use Rattle.ambisonic_decoder.specs.Promise as Decoding
use Rattle.probe_request.specs.Requests.{samples_lent, weights_lent}
use Rattle.probe_answer.specs.Answers.{Draft, nowhere, played}
use Rattle.probe_answer.proofs.Meets.{taken}
use Rattle.probe_answer.proofs.Standing.{other_samples, first_told, taken_told}
use Rattle.probe_planes.specs.Answers.{pan_at, panned, panned_answer, pan_answer, decoded, decoded_answer}
use Rattle.probe_planes.specs.Answers.{decode_answer, answer_of}

-- ---- 14 panner block

-- a block that does not fit is refused
unfit_number : (a b c m f : Bool) → m ≡ true
    → 0 < first_of (1 when a ∷ 2 when b ∷ 3 when c ∷ 5 when m ∷ 6 when f ∷ []) %
    256 ^ 1
unfit_number true b c m f e = omega arith
unfit_number false true c m f e = omega arith
unfit_number false false true m f e = omega arith
unfit_number false false false true f e = omega arith
unfit_number false false false false f e = let z : ◌≡◌ {A = ℕ} 0 1 = cc in absurd (omega arith)

below_unfit : (s : Panner.PannedShape) (inputs outs : ℕ) → s.stride < s.frames
    → 0 < Panner.refusal_of s inputs outs % 256 ^ 1
below_unfit s inputs outs h =
    unfit_number (order_refused s.command) (layout_refused s.command s.layout) (angle_refused s.command)
    (Panner.panner_unfit inputs outs (Panner.planes_in s) s.stride s.frames) (ltb Panner.most_frames s.frames)
    (rw (lt-ltb s.stride s.frames h))

-- a block whose stride is below its frames is told as played
stride_below_the_frames : (args out : List ℕ) (r : Draft)
    → let i = samples_lent args 0 in let o = samples_lent args 2 in r ≡ answer_of 14 args out
    → length args ≡ 54 + 4 * i + 4 * o → 1 ≤ length out
    → field_at args 46 8 < field_at args 38 8 → field_at r.bytes 0 1 ≡ 0 → ⊥
unfolding pan_answer panned_answer
stride_below_the_frames args out r is long room below e =
    let i = samples_lent args 0 in
    let o = samples_lent args 2 in
    let b = panned args i o in
    let number = Panner.refusal_of (pan_at args) (length (floats_at args 54 i)) (length (floats_at args (54 + 4 * i) o))
    in
    let some : 0 < number % 256 ^ 1 = below_unfit (pan_at args) _ _ below in
    let refused : b.answer.refusal ≡ number = ap (λ (x : Panning.PannedBlock). x.answer.refusal)
    (answered_refused _ _ number (λ z. omega (arith, some, z))) in
    let told = taken_told (54 + 4 * i + 4 * o) args out r is long
    (first_told b.answer.refusal (bytes_of 8 b.answer.samples ∷ float_bytes b.out ∷ []) out room) in
    omega (arith, told, some, e, ap (λ (n : ℕ). n % 256 ^ 1) refused)

-- ---- 16 decoder block

-- a refused block leaves the outputs as they were
module _ (args : List ℕ) (w i o : ℕ) where
  abbrev outputs : List Float
  outputs = floats_at args (38 + 8 * w + 4 * i) o

  abbrev number : ℕ
  number =
      refusal_of (record {
        outputs = field_at args 6 8;
        channels = field_at args 14 8;
        frames = field_at args 22 8;
        stride = field_at args 30 8;
      }) (doubles_at args 38 w) (length (floats_at args (38 + 8 * w) i))
      (length outputs)

  refused_kept : (n : ℕ) → (decoded args w i o).answer.refusal ≡ suc n → (decoded args w i o).out ≡ outputs
  refused_kept n h = go number refl
    where
      go : (k : ℕ) → number ≡ k → (decoded args w i o).out ≡ outputs
      go zero e = let z : (decoded args w i o).answer.refusal ≡ 0 = ap
          (λ (b : Decoding.DecodedBlock). b.answer.refusal)
          (answered_accepted _ _ number e) in absurd (omega (arith, h, z))
      go (suc k) e = ap (λ (b : Decoding.DecodedBlock). b.out) (answered_refused _ _ number (λ z. omega (arith, e, z)))

-- the inputs of a refused block are shown, and there are not as many as outputs
inputs_shown : (args out : List ℕ) (r : Draft) (n : ℕ) → let w = weights_lent args 0 in let i = samples_lent args 2 in
    let o = samples_lent args 4 in let b = decoded args w i o in r ≡ answer_of 16 args out
    → length args ≡ 38 + 8 * w + 4 * i + 4 * o → 9 + 4 * o ≤ length out → length out < nowhere
    → b.answer.refusal ≡ suc n → (o ≡ i → ⊥)
    → r ≡ played b.answer.refusal b.answer.samples (floats_at args (38 + 8 * w) i) out → ⊥
unfolding decode_answer decoded_answer
inputs_shown args out r n is long room h refused differs e =
    let w = weights_lent args 0 in
    let i = samples_lent args 2 in
    let o = samples_lent args 4 in
    let b = decoded args w i o in
    let inputs = floats_at args (38 + 8 * w) i in
    let outs : length b.out ≡ o = ap length (refused_kept args w i o n refused)
    ∙ length_strided (float_at args) 4 (38 + 8 * w + 4 * i) o in
    let ins : length inputs ≡ i = length_strided (float_at args) 4 (38 + 8 * w) i in
    other_samples b.answer.refusal b.answer.samples b.out inputs out (omega arith) h
    (λ s. differs (omega arith)) (taken _ args out _ long ∙ sym is ∙ e)
