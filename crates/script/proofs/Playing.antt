-- A turn of `render`: what it asks of the functions that it calls, and that what it leaves is a stretch of which a
-- segment more is played. Assumes nothing.
use Rattle.std.specs.Prelude.{◌≡◌, ◌+◌, ◌-◌, ◌^◌, ◌≤◌, ◌<◌}
use Rattle.lists.specs.Prelude.{sym, ap, ◌∙◌, subst, true, List, ℕ, min, arith, length, Float}
use Rattle.lists.proofs.Tables.{tab_from}
use Rattle.planes.specs.Planes.{sample_at, with_frames}
use Rattle.planes.proofs.Framing.{Parting, parting_part}
use Rattle.cues.specs.declared.Cue.{Cue}
use Rattle.cues.specs.declared.Held.{Held}
use Rattle.cues.specs.declared.Judgement.{Judgement}
use Rattle.cues.proofs.Cues.{Good, voice_good}
use Rattle.cues.specs.Cues.{Voice, voice_from, numbers_of, rises, voice_at}
use Rattle.script.specs.Promise.{Rendered}
use Rattle.script.specs.Rendering.{Stretch, refusal_of, spoken}
use Rattle.cues.specs.Promise.{judgement_of, voice_of, FindWords, FindPromise}
use Rattle.script.specs.Computed.{Speakable, Spoken, answer_by}
use Rattle.script.proofs.Meets.{frame_of, accepted_by, all_frames, good_order, none_refused, ends_in_time}
use Rattle.script.proofs.Meets.{cues_rise}

module _ (s : Stretch) (cues : List Cue) (input out : List Float) (j : Judgement) (J : j ≡ judgement_of cues)
    (answer : Rendered) (e : answer ≡ answer_by s j (length input) (length out)) (n : ℕ)
    (less : n < answer.samples) where
  accepted : refusal_of s cues (length input) (length out) ≡ 0
  accepted = accepted_by s cues input out j J answer e n less

  -- ---- what is asked
  pub frame_fits : s.first + n < 2 ^ 64
  frame_fits = let a = ends_in_time s cues input out j J answer e accepted in let b = all_frames s cues input out j J
      answer e accepted in omega (arith, a, b, less)

  rising : rises (numbers_of cues) ≡ true
  rising = cues_rise s cues input out j J answer e accepted

  module _ (f : ℕ) (h : Held) (F : FindPromise cues f h) where
    H : FindWords cues f h
    H = F.words rising

    pub asked : (n ≤ answer.samples) × Speakable s.order h
    asked = (
      omega (arith, less),
      record {
        order_good = good_order s cues input out j J answer e accepted;
        direction_good = λ d on. subst Good (sym H.voice ∙ ap voice_from on)
            (voice_good cues f (none_refused s cues input out j J answer e accepted));
      },
    )

    -- ---- what is left
    module _ (at : f ≡ s.first + n) (after : List Float)
        (p : Parting out s.stride 0 answer.samples (frame_of s cues input) after n) (m : ℕ) (next : List Float)
        (S : (m ≡ min (n + h.left) answer.samples)
        × (next ≡ with_frames after s.stride n (Spoken s.order h s.stride n m input))) where
      further : n < m
      further = let l = H.some in let q = S.0 in omega (arith, l, q, less)

      within : m ≤ answer.samples
      within = let q = S.0 in omega (arith, q)

      same : (i : ℕ) → n ≤ i → i < n + (m - n) → spoken s.order (voice_of h) (sample_at input s.stride 0 i)
          ≡ frame_of s cues input i
      same i a b = ap (λ (v : Voice). spoken s.order v (sample_at input s.stride 0 i))
          (H.voice ∙ sym (H.stays (i - n) near) ∙ ap (voice_at cues) place)
        where
          near : i - n < h.left
          near = let q = S.0 in omega (arith, a, b, q)

          place : f + (i - n) ≡ s.first + i
          place = omega (arith, at, a)

      pub turned : Parting out s.stride 0 answer.samples (frame_of s cues input) next m
      turned =
          parting_part out s.stride 0 answer.samples (frame_of s cues input) after n p m next
          (omega (arith, further)) within
          (S.1 ∙ ap (with_frames after s.stride n)
          (tab_from n (m - n) (λ i. spoken s.order (voice_of h) (sample_at input s.stride 0 i))
          (frame_of s cues input) same))

      pub nearer : answer.samples - m < answer.samples - n
      nearer = omega (arith, further, within)
