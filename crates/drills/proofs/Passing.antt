-- Planes that are lent to the convolver as `render` left them feed it the frames that `render` put. Assumes nothing.
use Rattle.std.specs.Prelude.{◌≡◌, ◌∷◌, ◌++◌}
use Rattle.lists.specs.Prelude.{refl, sym, ap, ◌∙◌, List, [], flat_map, ℕ, zero, suc, suc-ne-zero, Float}
use Rattle.refusals.specs.Refusals.{answered}
use Rattle.lists.proofs.Joined.{joined_none, joined_one, joined_append}
use Rattle.channel.specs.Orders.{channels_of_order}
use Rattle.planes.specs.Planes.{frames_of}
use Rattle.planes.proofs.Blocks.{block_refused, block_accepted}
use Rattle.cues.specs.declared.Cue.{Cue}
use Rattle.script.specs.Rendering.{played_of}
use Rattle.script.specs.Promise.{answer_of, RenderedBlock}
use Rattle.script.specs.Stretches as Script
use Rattle.hrtf_history.specs.Setup.{Setup, SameFilters}
use Rattle.hrtf_rings.specs.State.{State}
use Rattle.hrtf_checks.specs.Call.{BlockCall, setup, frames_in}
use Rattle.hrtf_checks.specs.Refusals.{refusal_of}
use Rattle.hrtf_runs.specs.Runs.{next, fed_by, fed, fed_all, CallsAlike}
use Rattle.drills.specs.Drills.{Planes, passing, outputs, leaves, inputs, takes}

-- the frames that stand in planes, so many channels being read
abbrev pub read : ℕ → Planes → List (List Float)
read channels p = frames_of p.list p.stride channels p.frames

abbrev pub read_all : ℕ → List Planes → List (List Float)
read_all channels ps = flat_map (read channels) ps

-- of a call by its number: those that it passes on, or none
read_by : (channels : ℕ) (p : Planes) (r n : ℕ) → r ≡ n → read_all channels (passing r p) ≡ answered n (read channels p)
    (λ k. [])
read_by channels p r zero e = ap (λ (m : ℕ). read_all channels (passing m p)) e ∙ joined_one (read channels) p
read_by channels p r (suc n) e = ap (λ (m : ℕ). read_all channels (passing m p)) e ∙ joined_none (read channels)

-- ---- `render`
module _ (cues : List Cue) (order : ℕ) where
  abbrev channels : ℕ
  channels = channels_of_order order

  put_one : (c : Script.RenderCall) (f n : ℕ) → Script.refusal_at cues order c f ≡ n
      → Script.sounded cues order c f ≡ read_all channels
      (passing (Script.refusal_at cues order c f) (outputs cues order c f))
  put_one c f zero e =
      ap (λ (b : RenderedBlock). frames_of (Script.block_at cues order c f).out c.stride channels
      b.answer.samples)
      (block_accepted answer_of c.frames c.stride (played_of (Script.stretch_of cues order c f) cues c.input)
      c.out (Script.refusal_at cues order c f) e)
      ∙ sym (read_by channels (outputs cues order c f) (Script.refusal_at cues order c f) 0 e)
  put_one c f (suc n) e =
      ap (λ (b : RenderedBlock). frames_of (Script.block_at cues order c f).out c.stride channels
      b.answer.samples)
      (block_refused answer_of c.frames c.stride (played_of (Script.stretch_of cues order c f) cues c.input)
      c.out (Script.refusal_at cues order c f) (λ z. suc-ne-zero n (sym e ∙ z)))
      ∙ sym (read_by channels (outputs cues order c f) (Script.refusal_at cues order c f) (suc n) e)

  pub put_all : (f : ℕ) (cs : List Script.RenderCall) → Script.sounded_all cues order f cs ≡ read_all channels
      (leaves cues order f cs)
  put_all f [] = sym (joined_none (read channels))
  put_all f (c ∷ cs) =
      (λ i. put_one c f (Script.refusal_at cues order c f) refl i ++ put_all (Script.next cues order c f) cs i)
      ∙ sym (joined_append (read channels) (passing (Script.refusal_at cues order c f) (outputs cues order c f))
      (leaves cues order (Script.next cues order c f) cs))

-- ---- the convolver
module _ (u : Setup) where
  fed_one : (c : BlockCall) (t : State) (n : ℕ) → refusal_of c t ≡ n → (refusal_of c t ≡ 0 → SameFilters (setup c) u)
      → fed c t ≡ read_all u.channels (passing (refusal_of c t) (inputs c))
  fed_one c t zero e same =
      ap (λ (n : ℕ). fed_by n (frames_in c)) e
      ∙ ap (λ (n : ℕ). frames_of c.inputs c.stride n c.frames) (same e).channels
      ∙ sym (read_by u.channels (inputs c) (refusal_of c t) 0 e)
  fed_one c t (suc n) e same =
      ap (λ (n : ℕ). fed_by n (frames_in c)) e ∙ sym (read_by u.channels (inputs c) (refusal_of c t) (suc n) e)

  pub fed_all_lem : (t : State) (cs : List BlockCall) → CallsAlike u t cs → fed_all t cs
      ≡ read_all u.channels (takes t cs)
  fed_all_lem t [] a = sym (joined_none (read u.channels))
  fed_all_lem t (c ∷ cs) a =
      (λ i. fed_one c t (refusal_of c t) refl a.0 i ++ fed_all_lem (next c t) cs a.1 i)
      ∙ sym (joined_append (read u.channels) (passing (refusal_of c t) (inputs c)) (takes (next c t) cs))
