-- Samples can be cut so that in each part one voice holds: one a part at the least. So whatever calls play them are
-- heard as calls of the panner. Assumes nothing.
use Rattle.std.specs.Prelude.{◌≡◌, ◌∷◌, ◌++◌, ◌+◌}
use Rattle.lists.specs.Prelude.{refl, sym, ap, subst, ◌∙◌, false, List, [], ℕ, mul-one, arith, length, replicate}
use Rattle.lists.specs.Prelude.{length-replicate, Float}
use Rattle.refusals.proofs.Chains.{off_accepts}
use Rattle.formats.specs.Floats.{zero_float}
use Rattle.lists.specs.Tables.{any}
use Rattle.checks.proofs.Checks.{planes_fit}
use Rattle.channel.specs.Orders.{refuses_order, channels_of_order}
use Rattle.channel.specs.declared.Layout.TheVariants.{Mono}
use Rattle.panner.specs.Commands.{command_checks}
use Rattle.panner.specs.Blocks as Panner
use Rattle.cues.specs.declared.Cue.{Cue}
use Rattle.cues.specs.Cues.{Voice, nobody, speaking, refused_each, voice_at}
use Rattle.cues.proofs.Cues.{Good, voice_good}
use Rattle.script.specs.Stretches.{RenderCall, fed_all, sounded_all, Separate, Part, unspoken, separate, voice_in}
use Rattle.script.specs.Stretches.{samples_in, OneVoice, shape_in, Accepted, Cut, sounded_parts, samples_parts}
use Rattle.script.specs.DrillScript.{SomeCut}
use Rattle.script.proofs.Divided.{stretches}
use Rattle.script.proofs.Between.{separate_calls}
use Rattle.script.specs.Rendering.{rendered}

-- one sample
abbrev part_of : ℕ → Voice → Float → Part
part_of order nobody x = unspoken (x ∷ [])
part_of order (speaking d) x = separate
    (record {
      direction = d;
      layout = Mono;
      frames = 1;
      stride = 1;
      input = x
          ∷ [];
      out = replicate (channels_of_order order) zero_float;
    })

one_sample : (order : ℕ) (v : Voice) (x : Float) → samples_in (part_of order v x) ≡ x ∷ []
one_sample order nobody x = refl
one_sample order (speaking d) x = refl

its_voice : (order : ℕ) (v : Voice) (x : Float) → v ≡ voice_in (part_of order v x)
its_voice order nobody x = refl
its_voice order (speaking d) x = refl

module _ (order : ℕ) (good : refuses_order order ≡ false) where
  -- the panner takes it
  taken : (v : Voice) (x : Float) → Good v → Accepted order (part_of order v x)
  taken nobody x g = tt
  taken (speaking d) x g = off_accepts
      (command_checks (shape_in order c).command Mono ++ Panner.block_checks (shape_in order c) 1 (length c.out))
      (good, (refl, (g, (fit, (refl, tt)))))
    where
      c : Separate
      c = record {
        direction = d;
        layout = Mono;
        frames = 1;
        stride = 1;
        input = x
            ∷ [];
        out = replicate (channels_of_order order) zero_float;
      }

      fit : Panner.panner_unfit 1 (length (replicate (channels_of_order order) zero_float)) (channels_of_order order) 1
          1 ≡ false
      fit = planes_fit (length (replicate (channels_of_order order) zero_float)) (channels_of_order order) 1 1
          (omega arith)
          (length-replicate (channels_of_order order) zero_float ∙ sym (mul-one (channels_of_order order)))

  module _ (cues : List Cue) (sound : any (refused_each cues) ≡ false) where
    pub cut_each : (f : ℕ) (xs : List Float) → SomeCut cues order f xs
    cut_each f [] = record { parts = []; cut = tt; all = refl }
    cut_each f (x ∷ xs) = one_more (cut_each (f + 1) xs)
      where
        one_more : SomeCut cues order (f + 1) xs → SomeCut cues order f (x ∷ xs)
        one_more rest = record {
          parts = part_of order (voice_at cues f) x ∷ rest.parts;
          cut = (
            taken (voice_at cues f) x (voice_good cues f sound),
            subst (OneVoice cues f (voice_in (part_of order (voice_at cues f) x)))
                (sym (one_sample order (voice_at cues f) x)) (its_voice order (voice_at cues f) x, tt),
            subst (λ (ys : List Float). Cut order cues (f + length ys) rest.parts)
                (sym (one_sample order (voice_at cues f) x)) rest.cut,
          );
          all = λ i. one_sample order (voice_at cues f) x i ++ rest.all i;
        }

-- calls that play samples which are cut at the cues
pub heard_as_parts : (cues : List Cue) (order f : ℕ) (cs : List RenderCall) (ps : List Part) → Cut order cues f ps
    → fed_all cues order f cs ≡ samples_parts ps → sounded_all cues order f cs ≡ sounded_parts order ps
heard_as_parts cues order f cs ps c e =
    stretches cues order f cs ∙ ap (rendered cues order f) e ∙ separate_calls cues order f ps c
