-- The answers to a record are those promised: an azimuth refused, and frames played. Assumes nothing.
use Rattle.std.specs.Prelude.{◌≡◌, ◌<◌}
use Rattle.lists.specs.Prelude.{refl, sym, ap, subst, ◌∙◌, List, [], flat_map, ℕ, lit≤, Float, length, get_or}
use Rattle.lists.specs.Prelude.{replicate}
use Rattle.refusals.proofs.First.{answered_accepted, answered_refused}
use Rattle.lists.proofs.Tables.{get_or_tab}
use Rattle.big_endian.specs.Fields.{float_at, double_at}
use Rattle.big_endian.specs.Lists.{float_bytes}
use Rattle.big_endian.proofs.Lists.{length_strided}
use Rattle.channel.specs.declared.Layout.TheVariants.{Surround51}
use Rattle.planes.specs.Planes as Planes
use Rattle.planes.specs.Planes.{sample_at, with_frames}
use Rattle.planes.proofs.Planes.{frames_read}
use Rattle.planes.proofs.Blocks.{block_accepted, block_refusal}
use Rattle.panner.specs.declared.Command.TheVariants.{Surround}
use Rattle.panner.specs.Promise.{Panned}
use Rattle.panner.specs.Commands.{gains_of_command}
use Rattle.panner.specs.Blocks.{PannedShape, refusal_of, narrowed_all, panned, frames_panned}
use Rattle.panner.specs.Promise.{answer_of, PannedBlock, PannerPromise}
use Rattle.demo_line.specs.Records.{Placed}
use Rattle.demo_line.specs.Records.{demo_command_at, demo_voice_at, demo_shape_at, demo_refusal_at, Places}

-- what the panner is asked for at an azimuth
abbrev shape_of : Float → PannedShape
shape_of azimuth = record { command = Surround azimuth; layout = Surround51; frames = 32; stride = 32 }

-- ---- what is promised of a record's bytes
module _ (bytes : List ℕ) where
  abbrev frames : List (List Float)
  frames = frames_panned (demo_shape_at bytes) (demo_voice_at bytes)

  abbrev frame : ℕ → List Float
  frame n = panned 6 (narrowed_all (gains_of_command (demo_command_at bytes) Surround51))
      (sample_at (demo_voice_at bytes) 32 0 n)

  six_channels : (n : ℕ) → n < length frames → length (get_or frames n []) ≡ 6
  six_channels n h = ap length (get_or_tab 0 32 frame n [] h)

  abbrev playing : Placed
  playing = record { refusal = 0; line = flat_map float_bytes frames }

  abbrev refusing : ℕ → Placed
  refusing n = record { refusal = n; line = replicate 768 0 }

  pub refused_is : (r : Placed) → Places bytes r → (demo_refusal_at bytes ≡ 0 → ⊥) → r
      ≡ refusing (demo_refusal_at bytes)
  refused_is r p h = p.bits ∙ answered_refused playing refusing (demo_refusal_at bytes) h

  pub played_is : (r : Placed) → Places bytes r → demo_refusal_at bytes ≡ 0 → r ≡ playing
  played_is r p z = p.bits ∙ answered_accepted playing refusing (demo_refusal_at bytes) z

-- ---- what the panner answers to what was read of them, over planes that are lent
module _ (bytes : List ℕ) (azimuth : Float) (voice out after : List Float) (answer : Panned)
    (azimuth_is : azimuth ≡ double_at bytes 0) (voice_is : voice ≡ demo_voice_at bytes) (long : length out ≡ 192)
    (given : PannerPromise (shape_of azimuth) voice out answer after) where
  promise : PannerPromise (demo_shape_at bytes) (demo_voice_at bytes) out answer after
  promise =
      subst (λ (v : List Float). PannerPromise (demo_shape_at bytes) v out answer after) voice_is
      (subst (λ (a : Float). PannerPromise (shape_of a) voice out answer after) azimuth_is given)

  abbrev refusal : ℕ
  refusal = refusal_of (demo_shape_at bytes) (length (demo_voice_at bytes)) (length out)

  -- the layout is offered and the lengths fit: there is the azimuth alone to refuse
  azimuth_alone : refusal ≡ demo_refusal_at bytes
  azimuth_alone j = refusal_of (demo_shape_at bytes) (length_strided (float_at bytes) 4 8 32 j) (long j)

  number : answer.refusal ≡ demo_refusal_at bytes
  number =
      ap (λ (b : PannedBlock). b.answer.refusal) promise.bits
      ∙ block_refusal answer_of 32 32 (frames bytes) out (λ (a : Panned). a.refusal) (λ n m. refl) refusal
      ∙ azimuth_alone

  pub place_refused : (answer.refusal ≡ 0 → ⊥) → Places bytes (refusing bytes answer.refusal)
  place_refused h =
      let same = answered_refused (playing bytes) (refusing bytes) (demo_refusal_at bytes) (λ z. h (number ∙ z)) in
      record { bits = ap (refusing bytes) number ∙ sym same; words = λ z. promise.words (azimuth_alone ∙ z) }

  module _ (z : answer.refusal ≡ 0) where
    accepted : demo_refusal_at bytes ≡ 0
    accepted = sym number ∙ z

    put : after ≡ with_frames out 32 0 (frames bytes)
    put =
        let same = block_accepted answer_of 32 32 (frames bytes) out refusal (azimuth_alone ∙ accepted) in
        ap (λ (b : PannedBlock). b.out) (promise.bits ∙ same)

    read : Planes.frames_of after 32 6 32 ≡ frames bytes
    read =
        ap (λ (o : List Float). Planes.frames_of o 32 6 32) put
        ∙ frames_read 6 out 32 (frames bytes) (lit≤ tt) long (six_channels bytes)

    pub place_played : (line : List ℕ) → line ≡ flat_map float_bytes (Planes.frames_of after 32 6 32)
        → Places bytes (record { refusal = 0; line = line })
    place_played line e =
        let line_is = e ∙ ap (flat_map float_bytes) read in
        let same = answered_accepted (playing bytes) (refusing bytes) (demo_refusal_at bytes) accepted in
        record {
          bits = (λ j. record { refusal = 0; line = line_is j }) ∙ sym same;
          words = λ k. promise.words (azimuth_alone ∙ k);
        }
