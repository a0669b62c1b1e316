-- A stretch in which one cue holds throughout is a block of the panner at that cue's command: the refusal, the count
-- and the output planes, beside every layout that the panner takes. And any stretch, cut where its cues are, is what
-- separate calls of the panner play, and 0.0 before the first cue. Assumes nothing.
use Rattle.std.specs.Prelude.{◌≡◌, ◌||◌, ◌∷◌, ◌++◌, ◌+◌, ◌^◌, ◌<◌}
use Rattle.lists.specs.Prelude.{refl, sym, ap, ◌∙◌, Bool, false, cond, List, [], map, ℕ, arith, ltb-false, le-ltb}
use Rattle.lists.specs.Prelude.{le-leb, length, get_or, Float}
use Rattle.refusals.proofs.First.{or_off}
use Rattle.refusals.proofs.Chains.{Off, off_accepts, none_holds}
use Rattle.lists.specs.Tables.{tab, any}
use Rattle.lists.proofs.Tables.{tab_ext}
use Rattle.channel.specs.Layouts.{channels_of, refuses_channels}
use Rattle.channel.specs.Orders.{channels_of_order}
use Rattle.channel.specs.declared.Layout.{Layout}
use Rattle.planes.specs.Planes as Planes
use Rattle.planes.specs.Planes.{sample_at, with_frames}
use Rattle.planes.proofs.Blocks.{block_accepted}
use Rattle.panner.specs.declared.Command.TheVariants.{Ambisonic}
use Rattle.panner.specs.Commands.{command_checks}
use Rattle.panner.specs.Blocks as Panner
use Rattle.panner.specs.Blocks.{most_frames}
use Rattle.panner.specs.Promise as Panner'
use Rattle.cues.specs.declared.Cue.{Cue}
use Rattle.cues.specs.Cues.{Voice, nobody, speaking, numbers_of, refused_each, rises, voice_at, nowhere}
use Rattle.cues.proofs.Cues.{each_good}
use Rattle.cues.proofs.Halving.{holds_between}
use Rattle.script.specs.Rendering.{Stretch, runs_past, checks_of, refusal_of, spoken, rendered}
use Rattle.script.specs.Promise.{answer_of, RenderedBlock, rendered_block}
use Rattle.script.specs.DrillScript.{Between, panned_at, as_rendered}
use Rattle.script.specs.Stretches.{Separate, Part, unspoken, separate, voice_in, samples_in, OneVoice, shape_in}
use Rattle.script.specs.Stretches.{Accepted, sounded_in, Cut, sounded_parts, samples_parts}
use Rattle.script.proofs.Meets.{frame_of, played_is}
use Rattle.script.proofs.Played.{block_is, cues_rise, out_frames}
use Rattle.script.proofs.Divided.{rendered_append}

module _ (s : Stretch) (cues : List Cue) (input out : List Float) (l : Layout) (i : ℕ)
    (z : refusal_of s cues (length input) (length out) ≡ 0) (good : refuses_channels (channels_of l) ≡ false)
    (in_List : i < length cues)
    (holds : (n : ℕ) → n < s.frames → voice_at cues (s.first + n) ≡ speaking (get_or cues i nowhere).direction) where
  abbrev shape : Panner.PannedShape
  shape = record {
    command = Ambisonic (get_or cues i nowhere).direction s.order;
    layout = l;
    frames = s.frames;
    stride = s.stride;
  }

  accepted : Panner.refusal_of shape (length input) (length out) ≡ 0
  accepted =
      let off = none_holds (checks_of s (any (refused_each cues)) (rises (numbers_of cues)) (length cues) (length input)
      (length out)) tt z in
      off_accepts (command_checks shape.command l ++ Panner.block_checks shape (length input) (length out)) (
        off.0,
        (
          good,
          (
            each_good cues i off.1.0 in_List,
            (
              (or_off (Panner.panner_unfit (length input) (length out) (channels_of_order s.order) s.stride
                  s.frames)
                  (runs_past s.first s.frames) off.1.1.0).0,
              (off.1.1.1.0, tt),
            ),
          ),
        ),
      )

  same : tab 0 s.frames (frame_of s cues input) ≡ Panner.frames_panned shape input
  same = tab_ext 0 s.frames (frame_of s cues input) _
      (λ n h. ap (λ (v : Voice). spoken s.order v (sample_at input s.stride 0 n)) (holds n (omega (arith, h))))

  pub between_cues : rendered_block s cues input out ≡ as_rendered (panned_at s cues i l input out)
  between_cues =
      block_is s cues input out z
      ∙ ap (λ (fs : List (List Float)). record {
        answer = answer_of 0 s.frames;
        out = with_frames out s.stride 0 fs;
      }) same
      ∙ sym (ap as_rendered (block_accepted Panner'.answer_of s.frames s.stride (Panner.frames_panned shape input)
      out
      (Panner.refusal_of shape (length input) (length out)) accepted))

-- the same, said by the frames of the cues: the stretch lies between cue i and the next, or behind the last
pub between_two : (s : Stretch) (cues : List Cue) (input out : List Float) (l : Layout) (i : ℕ)
    → refusal_of s cues (length input) (length out) ≡ 0 → refuses_channels (channels_of l) ≡ false → i < length cues
    → ((n : ℕ) → n < s.frames → Between cues i (s.first + n))
    → rendered_block s cues input out ≡ as_rendered (panned_at s cues i l input out)
between_two s cues input out l i z good in_List b =
    between_cues s cues input out l i z good in_List
    (λ n h. holds_between cues (s.first + n) i (cues_rise s cues input out z) in_List (b n h).0 (b n h).1)

-- ---- separate calls

-- one voice throughout
one_voice : (cues : List Cue) (order f : ℕ) (v : Voice) (xs : List Float) → OneVoice cues f v xs
    → rendered cues order f xs ≡ map (spoken order v) xs
one_voice cues order f v [] h = refl
one_voice cues order f v (x ∷ xs) h = λ i. spoken order (h.0 i) x ∷ one_voice cues order (f + 1) v xs h.1 i

-- a call of the panner plays what one cue's voice speaks: it is a stretch from frame 0 on of a list of that cue alone
module _ (order : ℕ) (c : Separate) (z : Panner.refusal_of (shape_in order c) (length c.input) (length c.out)
    ≡ 0) where
  abbrev alone : List Cue
  alone = record { frame = 0; direction = c.direction } ∷ []

  abbrev stretch : Stretch
  stretch = record { order = order; first = 0; frames = c.frames; stride = c.stride }

  abbrev panner_off : Off (command_checks (shape_in order c).command c.layout
      ++ Panner.block_checks (shape_in order c) (length c.input) (length c.out))
  panner_off = none_holds (command_checks (shape_in order c).command c.layout
      ++ Panner.block_checks (shape_in order c) (length c.input) (length c.out)) tt z

  accepted_alone : refusal_of stretch alone (length c.input) (length c.out) ≡ 0
  accepted_alone =
      let few = ltb-false most_frames c.frames panner_off.1.1.1.1.0 in
      off_accepts (checks_of stretch (any (refused_each alone)) (rises (numbers_of alone)) (length alone)
      (length c.input)
      (length c.out)) (
        panner_off.0,
        (
          ap (λ (t : Bool). t || false) panner_off.1.1.0,
          (
            ap (λ (t : Bool). t || runs_past 0 c.frames) panner_off.1.1.1.0
                ∙ le-ltb (2 ^ 64) (0 + c.frames) (omega (arith, few)),
            (panner_off.1.1.1.1.0, (refl, (refl, tt))),
          ),
        ),
      )

  voice_alone : (f : ℕ) → voice_at alone f ≡ speaking c.direction
  voice_alone f = ap (λ (t : Bool). cond t (speaking c.direction) nobody) (le-leb 0 f (omega arith))

  held_alone : (f : ℕ) (xs : List Float) → OneVoice alone f (speaking c.direction) xs
  held_alone f [] = tt
  held_alone f (x ∷ xs) = (voice_alone f, held_alone (f + 1) xs)

  panner_sounds : sounded_in order (separate c) ≡ map (spoken order (speaking c.direction)) (samples_in (separate c))
  panner_sounds =
      sym (ap (λ (b : RenderedBlock). Planes.frames_of b.out c.stride (channels_of_order order) b.answer.samples)
      (between_cues stretch alone c.input c.out c.layout 0 accepted_alone panner_off.1.0
      (omega arith) (λ n h. voice_alone (0 + n))))
      ∙ out_frames stretch alone c.input c.out accepted_alone
      ∙ sym (played_is stretch alone c.input)
      ∙ one_voice alone order 0 (speaking c.direction) (samples_in (separate c))
      (held_alone 0 (samples_in (separate c)))

sounds : (order : ℕ) (p : Part) → Accepted order p → sounded_in order p ≡ map (spoken order (voice_in p)) (samples_in p)
sounds order (unspoken xs) a = refl
sounds order (separate c) a = panner_sounds order c a

pub separate_calls : (cues : List Cue) (order f : ℕ) (ps : List Part) → Cut order cues f ps
    → rendered cues order f (samples_parts ps) ≡ sounded_parts order ps
separate_calls cues order f [] c = refl
separate_calls cues order f (p ∷ ps) c =
    rendered_append cues order f (samples_in p) (samples_parts ps)
    ∙ (λ i. (one_voice cues order f (voice_in p) (samples_in p) c.1 ∙ sym (sounds order p c.0)) i
    ++ separate_calls cues order (f + length (samples_in p)) ps c.2 i)
