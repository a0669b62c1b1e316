-- What the promise says of single samples: an accepted stretch plays every frame that it is given, in every plane, by
-- the voice of its frame, and counts them; beyond the count a plane is as it was; what is refused by a number is
-- answered by it; and before the first cue every output is 0.0. Assumes nothing.
use Rattle.std.specs.Prelude.{◌≡◌, ◌∷◌, ◌+◌, ◌*◌, ◌≤◌, ◌<◌}
use Rattle.lists.specs.Prelude.{refl, sym, ap, ◌∙◌, Bool, true, false, cond, List, [], ℕ, zero-add, arith, ltb-false}
use Rattle.lists.specs.Prelude.{lt-leb, not-false, length, get_or, Float, nan}
use Rattle.refusals.specs.Refusals.{Check}
use Rattle.refusals.proofs.First.{or_off}
use Rattle.refusals.proofs.Chains.{Off, none_holds}
use Rattle.formats.specs.Floats.{zero_float}
use Rattle.lists.specs.Tables.{tab, any}
use Rattle.lists.proofs.Tables.{length_tab, get_or_tab}
use Rattle.checks.specs.Lengths.{unfit}
use Rattle.checks.proofs.Checks.{fitted}
use Rattle.channel.specs.Orders.{channels_of_order}
use Rattle.planes.specs.Planes.{sample_at, frames_of, with_frames}
use Rattle.planes.proofs.Planes.{with_frames_at, with_frames_other, frames_read}
use Rattle.planes.proofs.Blocks.{block_refused, block_accepted, block_refusal}
use Rattle.panner.specs.Blocks.{panner_unfit}
use Rattle.cues.specs.declared.Cue.{Cue}
use Rattle.cues.specs.Cues.{Voice, nobody, speaking, numbers_of, refused_each, rises, or_later, voice_at}
use Rattle.script.specs.Rendering.{Stretch, runs_past, most_cues, checks_of, refusal_of, spoken, played_of}
use Rattle.script.specs.Promise.{Rendered, answer_of, RenderedBlock, rendered_block, RenderPromise}
use Rattle.script.specs.DrillScript.{Before}
use Rattle.cues.proofs.Halving.{none_left}
use Rattle.script.proofs.Meets.{frame_of, played_is}

-- a voice speaks to every plane of the order
spoken_length : (order : ℕ) (v : Voice) (x : Float) → length (spoken order v x) ≡ channels_of_order order
spoken_length order nobody x = length_tab 0 (channels_of_order order) (λ p. zero_float)
spoken_length order (speaking d) x = length_tab 0 (channels_of_order order) _

-- ---- an accepted stretch
module _ (s : Stretch) (cues : List Cue) (input out : List Float)
    (z : refusal_of s cues (length input) (length out) ≡ 0) where
  abbrev checks : List Check
  checks = checks_of s (any (refused_each cues)) (rises (numbers_of cues)) (length cues) (length input) (length out)

  off : Off checks
  off = none_holds checks tt z

  fit : unfit (length out) (channels_of_order s.order) s.stride s.frames ≡ false
  fit =
      (or_off (unfit (length input) 1 s.stride s.frames)
      (unfit (length out) (channels_of_order s.order) s.stride s.frames)
      (or_off (panner_unfit (length input) (length out) (channels_of_order s.order) s.stride s.frames)
      (runs_past s.first s.frames) off.1.1.0).0).1

  pub room : s.frames ≤ s.stride
  room = (fitted (length out) (channels_of_order s.order) s.stride s.frames fit).0

  pub long : length out ≡ channels_of_order s.order * s.stride
  long = (fitted (length out) (channels_of_order s.order) s.stride s.frames fit).1

  pub cues_most : length cues ≤ most_cues
  cues_most = ltb-false most_cues (length cues) off.1.1.1.1.1.0

  pub cues_rise : rises (numbers_of cues) ≡ true
  cues_rise = not-false (rises (numbers_of cues)) off.1.1.1.1.0

  pub block_is : rendered_block s cues input out
      ≡ record {
        answer = answer_of 0 s.frames;
        out = with_frames out s.stride 0
            (tab 0 s.frames (frame_of s cues input));
      }
  block_is =
      block_accepted answer_of s.frames s.stride (played_of s cues input) out
      (refusal_of s cues (length input) (length out)) z
      ∙ ap (λ (fs : List (List Float)). record {
        answer = answer_of 0 s.frames;
        out = with_frames out s.stride 0 fs;
      }) (played_is s cues input)

  abbrev played : List (List Float)
  played = tab 0 s.frames (frame_of s cues input)

  size : length played ≡ s.frames
  size = length_tab 0 s.frames (frame_of s cues input)

  frame_is : (n : ℕ) → n < s.frames → get_or played n [] ≡ frame_of s cues input n
  frame_is n h = get_or_tab 0 s.frames (frame_of s cues input) n [] h ∙ ap (frame_of s cues input) (zero-add n)

  each : (j : ℕ) → j < length played → length (get_or played j []) ≡ channels_of_order s.order
  each j h = ap length (frame_is j (omega (arith, size))) ∙ spoken_length s.order (voice_at cues (s.first + j))
      (sample_at input s.stride 0 j)

  -- every frame, in every plane
  pub out_at : (n p : ℕ) → n < s.frames → p < channels_of_order s.order
      → sample_at (rendered_block s cues input out).out s.stride p n ≡ get_or (frame_of s cues input n) p nan
  out_at n p h k =
      ap (λ (b : RenderedBlock). sample_at b.out s.stride p n) block_is
      ∙ ap (λ (m : ℕ). sample_at (with_frames out s.stride 0 played) s.stride p m) (sym (zero-add n))
      ∙ with_frames_at (channels_of_order s.order) out s.stride 0 played p n (omega (arith, size)) k
      (omega (arith, size, room)) long each
      ∙ ap (λ (f : List Float). get_or f p nan) (frame_is n h)

  -- and all of them, read back as frames
  pub out_frames : frames_of (rendered_block s cues input out).out s.stride (channels_of_order s.order)
      (rendered_block s cues input out).answer.samples ≡ played
  out_frames =
      ap (λ (b : RenderedBlock). frames_of b.out s.stride (channels_of_order s.order) b.answer.samples)
      block_is
      ∙ ap (λ (n : ℕ). frames_of (with_frames out s.stride 0 played) s.stride (channels_of_order s.order) n)
      (sym size)
      ∙ frames_read (channels_of_order s.order) out s.stride played (omega (arith, size, room)) long each

  -- beyond the count nothing changes
  pub out_tail : (m p : ℕ) → s.frames ≤ m → m < s.stride
      → sample_at (rendered_block s cues input out).out s.stride p m
      ≡ sample_at out s.stride p m
  out_tail m p h k = ap (λ (b : RenderedBlock). sample_at b.out s.stride p m) block_is
      ∙ with_frames_other out s.stride 0 played p m k (omega (arith, size, room)) (λ i l e. omega (arith, size))

pub nobody_before : (cues : List Cue) (f : ℕ) → rises (numbers_of cues) ≡ true → Before cues f → voice_at cues f
    ≡ nobody
nobody_before [] f h b = refl
nobody_before (c ∷ cs) f h b =
    ap (λ (t : Bool). or_later (cond t (speaking c.direction) nobody) (voice_at cs f)) (lt-leb c.frame f b)
    ∙ ap (or_later nobody) (none_left c.frame cs f h b)

-- ---- what was answered
module _ (s : Stretch) (cues : List Cue) (input out : List Float) (answer : Rendered) (after : List Float)
    (P : RenderPromise s cues input out answer after) where
  abbrev refusal : ℕ
  refusal = refusal_of s cues (length input) (length out)

  -- the number given is the one that document 02 asks for
  pub refusal_is : answer.refusal ≡ refusal
  refusal_is = ap (λ (b : RenderedBlock). b.answer.refusal) P.bits
      ∙ block_refusal answer_of s.frames s.stride (played_of s cues input) out (λ (a : Rendered). a.refusal)
      (λ n m. refl) refusal

  -- a refusal counts nothing, and lent memory stays the same
  pub refused_unchanged : (answer.refusal ≡ 0 → ⊥) → (answer.samples ≡ 0) × (after ≡ out)
  refused_unchanged h =
      let e = P.bits ∙ block_refused answer_of s.frames s.stride (played_of s cues input) out refusal
      (λ z. h (refusal_is ∙ z)) in
      (ap (λ (b : RenderedBlock). b.answer.samples) e, ap (λ (b : RenderedBlock). b.out) e)

  module _ (z : answer.refusal ≡ 0) where
    accepted : refusal ≡ 0
    accepted = sym refusal_is ∙ z

    pub all_counted : answer.samples ≡ s.frames
    all_counted = ap (λ (b : RenderedBlock). b.answer.samples) (P.bits ∙ block_is s cues input out accepted)

    -- every frame is played, in every plane, by the voice of its frame
    pub every_frame : (n p : ℕ) → n < s.frames → p < channels_of_order s.order
        → sample_at after s.stride p n ≡ get_or
        (spoken s.order (voice_at cues (s.first + n)) (sample_at input s.stride 0 n)) p nan
    every_frame n p h k =
        ap (λ (b : RenderedBlock). sample_at b.out s.stride p n) P.bits
        ∙ out_at s cues input out accepted n p h k

    pub tail_kept : (m p : ℕ) → s.frames ≤ m → m < s.stride
        → sample_at after s.stride p m ≡ sample_at out s.stride p m
    tail_kept m p h k =
        ap (λ (b : RenderedBlock). sample_at b.out s.stride p m) P.bits
        ∙ out_tail s cues input out accepted m p h k

    -- before the first cue every output is 0.0, whatever the sample; and of no cues at all
    pub before_the_first : (n p : ℕ) → n < s.frames → p < channels_of_order s.order → Before cues (s.first + n)
        → sample_at after s.stride p n ≡ zero_float
    before_the_first n p h k b =
        every_frame n p h k
        ∙ ap (λ (v : Voice). get_or (spoken s.order v (sample_at input s.stride 0 n)) p nan)
        (nobody_before cues (s.first + n) (cues_rise s cues input out accepted) b)
        ∙ get_or_tab 0 (channels_of_order s.order) (λ q. zero_float) p nan k
