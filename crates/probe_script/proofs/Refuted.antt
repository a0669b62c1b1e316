-- What the promise rules out: the frames of a stretch at one cue too many counted, and all outputs lent shown where
-- some are asked for. Assumes nothing.
use Rattle.std.specs.Prelude.{◌≡◌, ◌∷◌, ◌+◌, ◌*◌, ◌%◌, ◌^◌, ◌≤◌, ◌<◌}
use Rattle.lists.specs.Prelude.{refl, sym, ap, ◌∙◌, true, List, [], ℕ, zero, suc, arith, length, replicate}
use Rattle.lists.specs.Prelude.{length-replicate, Float}
use Rattle.lists.proofs.Tables.{length_part}
use Rattle.big_endian.specs.Fields.{field_at}
use Rattle.big_endian.specs.Lists.{float_bytes, floats_at}
use Rattle.big_endian.proofs.Lists.{length_strided}
use Rattle.planes.proofs.Planes.{length_with_frames}
use Rattle.planes.proofs.Blocks.{block_refused, block_accepted}
use Rattle.cues.specs.declared.Cue.{Cue}
use Rattle.script.specs.Rendering.{Stretch, refusal_of, played_of}
use Rattle.script.specs.Promise as Promise
use Rattle.script.specs.Promise.{RenderedBlock, rendered_block}
use Rattle.script.proofs.Played.{cues_most}
use Rattle.probe_request.specs.Requests.{samples_lent, lent_by}
use Rattle.probe_answer.specs.Answers.{Draft, nowhere, played}
use Rattle.probe_answer.proofs.Standing.{other_samples, second_told}
use Rattle.probe_script.specs.Answers.{stretch_at, held_at, cue_at, cues_at, rendered, shown, rendered_answer, fits}
use Rattle.probe_script.specs.Answers.{answer_of}
use Rattle.probe_script.proofs.Shown.{fitting, shown_all}

-- ---- a stretch

module _ (s : Stretch) (cues : List Cue) (input out : List Float) where
  abbrev number : ℕ
  number = refusal_of s cues (length input) (length out)

  -- a refused one counts no frames
  uncounted : (number ≡ 0 → ⊥) → (rendered_block s cues input out).answer.samples ≡ 0
  uncounted h = ap (λ (b : RenderedBlock). b.answer.samples)
      (block_refused Promise.answer_of s.frames s.stride (played_of s cues input) out number h)

  -- the outputs stay as many
  as_many : length (rendered_block s cues input out).out ≡ length out
  as_many = go number refl
    where
      go : (k : ℕ) → number ≡ k → length (rendered_block s cues input out).out ≡ length out
      go zero e = ap (λ (b : RenderedBlock). length b.out)
          (block_accepted Promise.answer_of s.frames s.stride (played_of s cues input) out number e)
          ∙ length_with_frames out s.stride 0 (played_of s cues input)
      go (suc k) e = ap (λ (b : RenderedBlock). length b.out)
          (block_refused Promise.answer_of s.frames s.stride (played_of s cues input) out number
          (λ z. omega (arith, e, z)))

-- ---- 21 script

module _ (args out : List ℕ) (r : Draft) (is : r ≡ answer_of 21 args out) where
  abbrev c : ℕ
  c = field_at args 0 2

  abbrev i : ℕ
  i = samples_lent args 2

  abbrev o : ℕ
  o = field_at args 4 2

  abbrev at : ℕ
  at = field_at args 6 2

  abbrev n : ℕ
  n = lent_by args 8 2 16380

  abbrev planes : List Float
  planes = replicate o (held_at args)

  abbrev b : RenderedBlock
  b = rendered args c i planes

  module _ (fit : true ≡ fits c o at n) (long : length args ≡ 46 + 24 * c + 4 * i) where
    given : r ≡ rendered_answer args c i planes at n out
    given = is ∙ sym (shown_all args out c i o at n refl refl refl refl refl true fit refl long)

    -- the frames of a stretch at 257 cues are counted
    one_cue_too_many : c ≡ 257 → 9 ≤ length out → 0 < field_at r.bytes 1 8 → ⊥
    unfolding rendered_answer
    one_cue_too_many all room some =
        let input = floats_at args (46 + 24 * c) i in
        let refused : number (stretch_at args) (cues_at args c) input planes ≡ 0 → ⊥ = λ z.
        omega (
          arith,
          all,
          cues_most (stretch_at args) (cues_at args c) input planes z,
          length_strided (cue_at args) 24 46 c,
        ) in
        let none : b.answer.samples % 256 ^ 8 ≡ 0 = ap (λ (k : ℕ). k % 256 ^ 8)
        (uncounted (stretch_at args) (cues_at args c) input planes refused) in
        let told = (second_told b.answer.refusal 8 b.answer.samples (float_bytes (shown at n b.out) ∷ []) out
        (omega arith) room).value in
        let zero : field_at r.bytes 1 8 ≡ 0 = ap (λ (d : Draft). field_at d.bytes 1 8) given ∙ told ∙ none in
        omega arith

    -- all outputs are shown, though fewer are asked for
    all_shown : 9 + 4 * n ≤ length out → length out < nowhere → (n ≡ o → ⊥)
        → r ≡ played b.answer.refusal b.answer.samples b.out out → ⊥
    unfolding rendered_answer
    all_shown room h differs e =
        let every : length b.out ≡ o = as_many (stretch_at args) (cues_at args c) (floats_at args (46 + 24 * c) i)
        planes ∙ length-replicate o (held_at args) in
        let part : length (shown at n b.out) ≡ n = length_part b.out at n
        (omega (arith, every, (fitting c o at n true fit refl).within)) in
        other_samples b.answer.refusal b.answer.samples (shown at n b.out) b.out out (omega (arith, part))
        h (λ s. differs (omega (arith, s, part, every))) (sym given ∙ e)
