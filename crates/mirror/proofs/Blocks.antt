-- Where outputs have partners, the frames of a block of mirrored planes are those of the block exchanged
-- (`blocks_mirror`). Nothing of sums is needed: the frames that the second call reads are the mirrored frames. Assumes
-- nothing.
use Rattle.std.specs.Prelude.{◌≡◌, ◌||◌, ◌∷◌, ◌+◌, ◌*◌, ◌/◌, ◌≤◌, ◌<◌}
use Rattle.lists.specs.Prelude.{refl, sym, ap, ◌∙◌, Bool, not, cond, List, [], map, ℕ, zero, suc, zero-add, ℕ_discrete}
use Rattle.lists.specs.Prelude.{arith, eqb, length, get_or, Float, nan, neg}
use lib.Arith.{digits_div}
use Rattle.refusals.specs.Refusals.{Check, ◌when◌, outside, answered}
use Rattle.refusals.proofs.First.{or_off}
use Rattle.refusals.proofs.Chains.{none_holds}
use Rattle.lists.specs.Tables.{chunk}
use Rattle.lists.proofs.Tables.{length_tab, get_or_tab, tab_ext}
use Rattle.lists.proofs.Mapped.{map_tab}
use Rattle.checks.specs.Finite.{has_nonfinite}
use Rattle.checks.specs.Lengths.{unfit}
use Rattle.checks.proofs.Checks.{fitted}
use Rattle.planes.specs.Planes.{sample_at, frame_at, frames_of, with_frames}
use Rattle.planes.specs.Sums.{mixed, mixed_all}
use Rattle.planes.specs.Blocks.{block_of}
use Rattle.planes.proofs.Planes.{frames_read}
use Rattle.planes.proofs.Blocks.{block_accepted, block_refused}
use Rattle.ambisonic_decoder.specs.Blocks.{refusal_of, decoded}
use Rattle.ambisonic_decoder.specs.Promise.{answer_of, DecodedBlock, decoded_block}
use Rattle.matrix.specs.Mirror.{lateral, mirrored}
use Rattle.matrix.proofs.Mirror.{get_or_negated, tab_negated, length_negated}
use Rattle.mirror.specs.Blocks.{PartnersSwap, DecoderCall, mirrored_planes, MirrorCall, exchanged, BlocksMirror}

-- ---- a frame of mirrored planes is the mirrored frame

frame_mirrored : (xs : List Float) (stride planes n : ℕ) → n < stride
    → frame_at (mirrored_planes stride xs) stride planes n ≡ mirrored neg (frame_at xs stride planes n)
unfolding neg
frame_mirrored xs stride planes n h =
    tab_ext 0 planes (λ (p : ℕ). sample_at (mirrored_planes stride xs) stride p n)
    (λ (p : ℕ). cond (lateral p) (neg (sample_at xs stride p n)) (sample_at xs stride p n)) (λ p l. one p)
    ∙ sym (tab_negated neg lateral 0 planes (λ (p : ℕ). sample_at xs stride p n))
  where
    one : (p : ℕ) → sample_at (mirrored_planes stride xs) stride p n ≡ cond (lateral p) (neg (sample_at xs stride p n))
        (sample_at xs stride p n)
    one p =
        get_or_negated neg (λ (i : ℕ). lateral (i / stride)) nan refl 0 xs (p * stride + n)
        ∙ ap (λ (q : ℕ). cond (lateral q) (neg (sample_at xs stride p n)) (sample_at xs stride p n))
        (ap (λ (i : ℕ). i / stride) (zero-add (p * stride + n)) ∙ digits_div p h)

-- ---- the frames that a call plays

module _ (outputs channels : ℕ) (weights : List Float) where
  abbrev refusal : DecoderCall → ℕ
  refusal c = refusal_of (record { outputs = outputs; channels = channels; frames = c.frames; stride = c.stride })
      weights (length c.inputs) (length c.out)

  abbrev decoded_of : ℕ → ℕ → List Float → List (List Float)
  decoded_of frames stride inputs =
      decoded (record { outputs = outputs; channels = channels; frames = frames; stride = stride }) weights inputs

  abbrev frames_put : DecoderCall → List (List Float)
  frames_put c = decoded_of c.frames c.stride c.inputs

  abbrev block_at : DecoderCall → DecodedBlock
  block_at c = decoded_block weights (record {
    outputs = outputs;
    channels = channels;
    frames = c.frames;
    stride =
        c.stride;
  })
      c.inputs c.out

  abbrev read_from : DecoderCall → DecodedBlock → List (List Float)
  read_from c b = frames_of b.out c.stride outputs b.answer.samples

  -- the answer is told by the refusal and the frame count
  answer_is : (r frames stride : ℕ) (put : List (List Float)) (out : List Float)
      → (block_of answer_of r frames stride put out).answer ≡ answered r (answer_of 0 frames) (λ (n : ℕ). answer_of n 0)
  answer_is zero frames stride put out = refl
  answer_is (suc n) frames stride put out = refl

  -- where it is accepted the output planes fit
  out_fits : (c : DecoderCall) → refusal c ≡ 0 → (c.frames ≤ c.stride) × (length c.out ≡ outputs * c.stride)
  out_fits c e =
      let inputs_unfit : Bool = unfit (length c.inputs) channels c.stride c.frames in
      let out_unfit : Bool = unfit (length c.out) outputs c.stride c.frames in
      let weights_unfit : Bool = not (eqb (length weights) (outputs * channels)) in
      let checks : List Check = 2 when outside outputs 16 ∷ 2 when outside channels 16
      ∷ 5 when (inputs_unfit || out_unfit || weights_unfit) ∷ 7 when has_nonfinite weights ∷ [] in
      let lengths = (none_holds checks tt e).1.1.0 in
      fitted (length c.out) outputs c.stride c.frames
      (or_off inputs_unfit out_unfit (or_off (inputs_unfit || out_unfit) weights_unfit lengths).0).1

  -- and the frames that were put are read back
  played_accepted : (c : DecoderCall) → refusal c ≡ 0 → read_from c (block_at c) ≡ frames_put c
  played_accepted c e =
      let put = frames_put c in
      let count : length put ≡ c.frames = length_tab 0 c.frames _ in
      let fits = out_fits c e in
      ap (read_from c) (block_accepted answer_of c.frames c.stride put c.out (refusal c) e)
      ∙ ap (λ (k : ℕ). frames_of (with_frames c.out c.stride 0 put) c.stride outputs k) (sym count)
      ∙ frames_read outputs c.out c.stride put (omega (arith, count, fits.0)) fits.1
      (λ j l. ap length (get_or_tab 0 c.frames _ j [] (omega (arith, l, count))) ∙ length_tab 0 outputs _)

  played_refused : (c : DecoderCall) → (refusal c ≡ 0 → ⊥) → read_from c (block_at c) ≡ []
  played_refused c e =
      ap (read_from c) (block_refused answer_of c.frames c.stride (frames_put c) c.out (refusal c) e)

  module _ (partner : ℕ → ℕ) (partners : PartnersSwap outputs channels weights partner) where
    -- a frame of the outputs, of the mirrored frame
    pub frame_exchanged : (frame : List Float) → mixed_all outputs channels weights (mirrored neg frame)
        ≡ exchanged outputs partner (mixed_all outputs channels weights frame)
    frame_exchanged frame =
        tab_ext 0 outputs (λ (o : ℕ). mixed (chunk channels o weights) (mirrored neg frame))
        (λ (o : ℕ). get_or (mixed_all outputs channels weights frame) (partner o) nan)
        (λ o l. let inside : o < outputs = omega (arith, l) in
        partners.swaps o inside frame
        ∙ sym (get_or_tab 0 outputs (λ (q : ℕ). mixed (chunk channels q weights) frame) (partner o) nan
        (partners.inside o inside)
        ∙ ap (λ (q : ℕ). mixed (chunk channels q weights) frame) (zero-add (partner o))))

    -- and so every frame of a block whose planes fit
    frames_exchanged : (frames stride : ℕ) (inputs : List Float) → frames ≤ stride
        → decoded_of frames stride (mirrored_planes stride inputs) ≡ map (exchanged outputs partner)
        (decoded_of frames stride inputs)
    frames_exchanged frames stride inputs h =
        tab_ext 0 frames (λ (n : ℕ). mixed_all outputs channels weights
        (frame_at (mirrored_planes stride inputs) stride channels n))
        (λ (n : ℕ). exchanged outputs partner (mixed_all outputs channels weights (frame_at inputs stride channels n)))
        (λ n l. ap (mixed_all outputs channels weights) (frame_mirrored inputs stride channels n (omega (arith, l, h)))
        ∙ frame_exchanged (frame_at inputs stride channels n))
        ∙ sym (map_tab (exchanged outputs partner) 0 frames
        (λ (n : ℕ). mixed_all outputs channels weights (frame_at inputs stride channels n)))

    module _ (c d : DecoderCall) (m : MirrorCall c d) where
      -- the second call is lent lists of the same lengths, so it is refused as the first is
      refusal_same : refusal d ≡ refusal c
      refusal_same = cc (
        m.frames,
        m.stride,
        ap length m.inputs
            ∙ length_negated neg (λ (i : ℕ). lateral (i / c.stride)) 0 c.inputs,
        m.out,
      )

      put_exchanged : refusal c ≡ 0 → frames_put d ≡ map (exchanged outputs partner) (frames_put c)
      put_exchanged e = cc (m.frames, m.stride, m.inputs)
          ∙ frames_exchanged c.frames c.stride c.inputs (out_fits c e).0

      answer_same : (block_at d).answer ≡ (block_at c).answer
      answer_same =
          answer_is (refusal d) d.frames d.stride (frames_put d) d.out
          ∙ cc (refusal_same, m.frames)
          ∙ sym (answer_is (refusal c) c.frames c.stride (frames_put c) c.out)

      played_exchanged : read_from d (block_at d) ≡ map (exchanged outputs partner) (read_from c (block_at c))
      played_exchanged = elim (ℕ_discrete (refusal c) 0) [
        | yes e ↦ played_accepted d (refusal_same ∙ e) ∙ put_exchanged e
            ∙ ap (map (exchanged outputs partner)) (sym (played_accepted c e))
        | no e ↦ played_refused d (λ z. e (sym refusal_same ∙ z))
            ∙ ap (map (exchanged outputs partner)) (sym (played_refused c e))
      ]

    pub blocks_mirror : BlocksMirror outputs channels weights partner
    blocks_mirror = record {
      answers = λ c d m p q. ap (λ (b : DecodedBlock). b.answer) q ∙ answer_same c d m
          ∙ sym (ap (λ (b : DecodedBlock). b.answer) p);
      plays = λ c d m p q. ap (read_from d) q ∙ played_exchanged c d m
          ∙ ap (map (exchanged outputs partner)) (sym (ap (read_from c) p));
    }
