-- What the promise says of single samples: an accepted block plays every frame that it is given, in every plane, and
-- counts them; beyond the count a plane is as it was; what is refused by a number is answered by it. Assumes nothing.
use Rattle.std.specs.Prelude.{◌≡◌, ◌++◌, ◌*◌, ◌≤◌, ◌<◌}
use Rattle.lists.specs.Prelude.{refl, sym, ap, ◌∙◌, false, List, [], ℕ, zero-add, arith, ltb-false, length, get_or}
use Rattle.lists.specs.Prelude.{Float, nan, binary32, mul}
use Rattle.refusals.specs.Refusals.{Check}
use Rattle.refusals.proofs.Chains.{Off, none_holds}
use Rattle.numbers.specs.Computed.{narrowed}
use Rattle.lists.specs.Tables.{tab}
use Rattle.checks.specs.Lengths.{unfit}
use Rattle.planes.specs.Planes.{sample_at, with_frames}
use Rattle.checks.proofs.Checks.{or_off, fitted}
use Rattle.planes.proofs.Planes.{with_frames_at, with_frames_other}
use Rattle.lists.proofs.Tables.{length_tab, get_or_table}
use Rattle.panner.specs.Commands.{command_checks, gains_of_command}
use Rattle.panner.specs.Blocks.{PannedShape, most_frames, planes_in, block_checks, refusal_of, narrowed_all, panned}
use Rattle.panner.specs.Blocks.{frames_panned}
use Rattle.planes.proofs.Blocks.{block_refused, block_accepted, block_refusal}
use Rattle.panner.specs.Promise.{Panned, answer_of, PannedBlock, PannerPromise}
use Rattle.panner.proofs.Gains.{planes_most}

module _ (s : PannedShape) (input out : List Float) (answer : Panned) (after : List Float)
    (P : PannerPromise s input out answer after) where
  abbrev refusal : ℕ
  refusal = refusal_of s (length input) (length out)

  -- the number given is the one that document 01 asks for
  pub refusal_is : answer.refusal ≡ refusal
  refusal_is = ap (λ (b : PannedBlock). b.answer.refusal) P.bits
      ∙ block_refusal answer_of s.frames s.stride (frames_panned s input) out (λ (a : Panned). a.refusal)
      (λ n m. refl) refusal

  -- a refusal counts nothing, and lent memory stays the same
  pub refused_unchanged : (answer.refusal ≡ 0 → ⊥) → (answer.samples ≡ 0) × (after ≡ out)
  refused_unchanged h =
      let e = P.bits ∙ block_refused answer_of s.frames s.stride (frames_panned s input) out refusal
      (λ z. h (refusal_is ∙ z)) in
      (ap (λ (b : PannedBlock). b.answer.samples) e, ap (λ (b : PannedBlock). b.out) e)

  module _ (z : answer.refusal ≡ 0) where
    played : ◌≡◌ {A = PannedBlock} (record { answer = answer; out = after })
        (record {
          answer = record { refusal = 0; samples = s.frames };
          out = with_frames out s.stride 0 (frames_panned s input);
        })
    played = P.bits ∙ block_accepted answer_of s.frames s.stride (frames_panned s input) out refusal
        (sym refusal_is ∙ z)

    abbrev checks : List Check
    checks = command_checks s.command s.layout ++ block_checks s (length input) (length out)

    off : Off checks
    off = none_holds checks tt (sym refusal_is ∙ z)

    fit : unfit (length out) (planes_in s) s.stride s.frames ≡ false
    fit = (or_off (unfit (length input) 1 s.stride s.frames)
        (unfit (length out) (planes_in s) s.stride s.frames) off.1.1.1.0).1

    room : s.frames ≤ s.stride
    room = (fitted (length out) (planes_in s) s.stride s.frames fit).0

    long : length out ≡ planes_in s * s.stride
    long = (fitted (length out) (planes_in s) s.stride s.frames fit).1

    -- every frame is counted, and there are 4,096 at most
    pub all_counted : answer.samples ≡ s.frames
    all_counted = ap (λ (b : PannedBlock). b.answer.samples) played

    pub frames_most : s.frames ≤ most_frames
    frames_most = ltb-false most_frames s.frames off.1.1.1.1.0

    abbrev gains : List Float
    gains = gains_of_command s.command s.layout

    abbrev sample : ℕ → Float
    sample n = sample_at input s.stride 0 n

    abbrev frame : ℕ → List Float
    frame n = panned (planes_in s) (narrowed_all gains) (sample n)

    frame_is : (n : ℕ) → n < s.frames → get_or (frames_panned s input) n [] ≡ frame n
    frame_is n = get_or_table s.frames frame n []

    output_is : (n p : ℕ) → p < planes_in s → get_or (frame n) p nan ≡ mul binary32 (sample n)
        (narrowed (get_or gains p nan))
    output_is n p h =
        get_or_table (planes_in s) (λ k. mul binary32 (sample n) (get_or (narrowed_all gains) k nan)) p nan h
        ∙ ap (mul binary32 (sample n)) (get_or_table 16 (λ k. narrowed (get_or gains k nan)) p nan
        (omega (arith, planes_most s.command s.layout off.0 off.1.0)))

    size : length (frames_panned s input) ≡ s.frames
    size = length_tab 0 s.frames frame

    each : (j : ℕ) → j < length (frames_panned s input) → length (get_or (frames_panned s input) j []) ≡ planes_in s
    each j h = ap length (frame_is j (omega (arith, size)))
        ∙ length_tab 0 (planes_in s) (λ k. mul binary32 (sample j) (get_or (narrowed_all gains) k nan))

    -- every frame is played, in every plane
    pub every_frame : (n p : ℕ) → n < s.frames → p < planes_in s
        → sample_at after s.stride p n ≡ mul binary32 (sample_at input s.stride 0 n)
        (narrowed (get_or (gains_of_command s.command s.layout) p nan))
    every_frame n p h k =
        ap (λ (b : PannedBlock). sample_at b.out s.stride p n) played
        ∙ ap (λ (m : ℕ). sample_at (with_frames out s.stride 0 (frames_panned s input)) s.stride p m)
        (sym (zero-add n))
        ∙ with_frames_at (planes_in s) out s.stride 0 (frames_panned s input) p n (omega (arith, size)) k
        (omega (arith, size, room)) long each
        ∙ ap (λ (f : List Float). get_or f p nan) (frame_is n h)
        ∙ output_is n p k

    -- beyond the count nothing changes
    pub tail_kept : (m p : ℕ) → s.frames ≤ m → m < s.stride
        → sample_at after s.stride p m ≡ sample_at out s.stride p m
    tail_kept m p h k =
        ap (λ (b : PannedBlock). sample_at b.out s.stride p m) played
        ∙ with_frames_other out s.stride 0 (frames_panned s input) p m k (omega (arith, size, room))
        (λ j l e. omega (arith, size))

    -- no frames change nothing
    pub no_frames : s.frames ≡ 0 → after ≡ out
    no_frames e = ap (λ (b : PannedBlock). b.out) played
        ∙ ap (λ (n : ℕ). with_frames out s.stride 0 (tab 0 n frame)) e
