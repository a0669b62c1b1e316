-- However a stretch is divided the frames are the same: samples in two parts, and calls one after another with refused
-- ones between. Assumes nothing.
use Rattle.std.specs.Prelude.{◌≡◌, ◌∷◌, ◌++◌, ◌+◌}
use Rattle.lists.specs.Prelude.{refl, sym, ap, ◌∙◌, List, [], ℕ, zero, suc, add-zero, arith, length, Float}
use Rattle.refusals.specs.Refusals.{answered}
use Rattle.lists.proofs.Tables.{length_tab}
use Rattle.channel.specs.Orders.{channels_of_order}
use Rattle.planes.specs.Planes.{sample_at, frames_of}
use Rattle.planes.proofs.Blocks.{block_refused}
use Rattle.cues.specs.declared.Cue.{Cue}
use Rattle.cues.specs.Cues.{voice_at}
use Rattle.script.specs.Rendering.{samples_of, spoken, rendered, played_of}
use Rattle.script.specs.Promise.{answer_of, RenderedBlock}
use Rattle.script.specs.Stretches.{RenderCall, stretch_of, refusal_at, next, fed, sounded, fed_all, sounded_all}
use Rattle.script.proofs.Meets.{played_is}
use Rattle.script.proofs.Played.{out_frames}

-- ---- samples in two parts
pub rendered_append : (cues : List Cue) (order f : ℕ) (xs ys : List Float)
    → rendered cues order f (xs ++ ys) ≡ rendered cues order f xs ++ rendered cues order (f + length xs) ys
rendered_append cues order f [] ys = ap (λ (g : ℕ). rendered cues order g ys) (sym (add-zero f))
rendered_append cues order f (x ∷ xs) ys =
    ap (λ (fs : List (List Float)). spoken order (voice_at cues f) x ∷ fs)
    (rendered_append cues order (f + 1) xs ys
    ∙ ap (λ (g : ℕ). rendered cues order (f + 1) xs ++ rendered cues order g ys) further)
  where
    further : f + 1 + length xs ≡ f + suc (length xs)
    further = omega arith

-- ---- calls one after another
module _ (cues : List Cue) (order : ℕ) where
  -- what a call plays is what is said of its samples; none where it is refused
  one : (c : RenderCall) (f r : ℕ) → refusal_at cues order c f ≡ r
      → sounded cues order c f ≡ rendered cues order f (fed cues order c f)
  one c f zero e =
      out_frames (stretch_of cues order c f) cues c.input c.out e
      ∙ sym (played_is (stretch_of cues order c f) cues c.input)
      ∙ ap (λ (n : ℕ). rendered cues order f (answered n (samples_of (stretch_of cues order c f) c.input) (λ m. [])))
      (sym e)
  one c f (suc r) e =
      ap (λ (b : RenderedBlock). frames_of b.out c.stride (channels_of_order order) b.answer.samples)
      (block_refused answer_of c.frames c.stride (played_of (stretch_of cues order c f) cues c.input) c.out
      (refusal_at cues order c f) (λ z. refused (sym e ∙ z)))
      ∙ ap (λ (n : ℕ). rendered cues order f (answered n (samples_of (stretch_of cues order c f) c.input) (λ m. [])))
      (sym e)
    where
      refused : suc r ≡ 0 → ⊥
      refused z = omega (arith, z)

  -- and it comes to the frame behind them
  comes_to : (c : RenderCall) (f r : ℕ) → refusal_at cues order c f ≡ r
      → next cues order c f ≡ f + length (fed cues order c f)
  comes_to c f zero e =
      ap (λ (n : ℕ). answered n (f + c.frames) (λ m. f)) e
      ∙ ap (λ (n : ℕ). f + n) (sym (length_tab 0 c.frames (sample_at c.input c.stride 0)))
      ∙ ap (λ (n : ℕ). f + length (answered n (samples_of (stretch_of cues order c f) c.input) (λ m. []))) (sym e)
  comes_to c f (suc r) e =
      ap (λ (n : ℕ). answered n (f + c.frames) (λ m. f)) e
      ∙ sym (add-zero f)
      ∙ ap (λ (n : ℕ). f + length (answered n (samples_of (stretch_of cues order c f) c.input) (λ m. []))) (sym e)

  -- so all that is heard is what is said of all the samples that are played, whatever the calls
  pub stretches : (f : ℕ) (cs : List RenderCall) → sounded_all cues order f cs ≡ rendered cues order f
      (fed_all cues order f cs)
  stretches f [] = refl
  stretches f (c ∷ cs) =
      (λ i. one c f (refusal_at cues order c f) refl i ++ stretches (next cues order c f) cs i)
      ∙ ap (λ (g : ℕ). rendered cues order f (fed cues order c f)
      ++ rendered cues order g (fed_all cues order (next cues order c f) cs))
      (comes_to c f (refusal_at cues order c f) refl)
      ∙ sym (rendered_append cues order f (fed cues order c f) (fed_all cues order (next cues order c f) cs))

  -- and two ways to divide the same samples are heard the same
  pub divided_alike : (f : ℕ) (cs ds : List RenderCall) → fed_all cues order f cs ≡ fed_all cues order f ds
      → sounded_all cues order f cs ≡ sounded_all cues order f ds
  divided_alike f cs ds e = stretches f cs ∙ ap (rendered cues order f) e ∙ sym (stretches f ds)
