-- The answer is the one promised: that the last frame is past the largest number; the whole, of a stretch that was
-- refused and of one that was played; and that the gains of every cue are those promised. Assumes nothing.
use Rattle.std.specs.Prelude.{◌≡◌, ◌∷◌, ◌+◌, ◌-◌, ◌^◌, ◌≤◌, ◌<◌}
use Rattle.lists.specs.Prelude.{refl, sym, ap, ◌∙◌, subst, Bool, true, false, not, ⊎_elim, List, [], ℕ, zero, suc}
use Rattle.lists.specs.Prelude.{sub-zero, suc-ne-zero, arith, lt-ltb, le-ltb, ltb-false, not-false, ltb, length, Float}
use Rattle.refusals.specs.Refusals.{first_of, answered}
use Rattle.refusals.proofs.First.{answered_accepted, or_off}
use Rattle.refusals.proofs.Chains.{Off, none_holds}
use Rattle.lists.specs.Tables.{tab, any}
use Rattle.lists.proofs.Lists.{less_or_at_most}
use Rattle.channel.specs.Orders.{refuses_order, channels_of_order}
use Rattle.planes.specs.Planes.{sample_at, with_frames}
use Rattle.planes.proofs.Blocks.{refused_with_lem, played_with}
use Rattle.harmonics.specs.Promise.{refuses_direction}
use Rattle.harmonics.specs.Promise as Harmonics
use Rattle.harmonics.proofs.Laws.{accepted, outcome_kept, refusal_is}
use Rattle.panner.specs.Blocks.{panner_unfit}
use Rattle.planes.proofs.Framing.{Parting, parting_all}
use Rattle.cues.specs.declared.Cue.{Cue}
use Rattle.cues.specs.declared.Judgement.{Judgement}
use Rattle.cues.specs.Cues.{numbers_of, refused_each, rises, voice_at}
use Rattle.script.specs.Rendering.{Stretch, runs_past, checks_of, refusal_of, spoken, rendered, samples_of, played_of}
use Rattle.script.specs.Promise.{Rendered, answer_of, rendered_block, AllPromised, RenderPromise}
use Rattle.cues.specs.Promise.{judgement_of}
use Rattle.script.specs.Computed.{refusal_by, answer_by}

pub past_is : (first frames : ℕ) → first < 2 ^ 64 → (frames ≡ 0 → ⊥)
    → ltb (18446744073709551615 - first) (frames - 1) ≡ ltb (2 ^ 64) (first + frames)
past_is first frames h n =
    ⊎_elim
    (λ (l : 18446744073709551615 - first < frames - 1). lt-ltb _ _ l
    ∙ sym (lt-ltb (2 ^ 64) (first + frames) (omega (arith, l, h))))
    (λ (l : frames - 1 ≤ 18446744073709551615 - first). le-ltb _ _ l
    ∙ sym (le-ltb (2 ^ 64) (first + frames) (omega (arith, l, h, n))))
    (less_or_at_most (18446744073709551615 - first) (frames - 1))

-- ---- the gains of an accepted list
pub promised_all : (order : ℕ) (cues : List Cue) → refuses_order order ≡ false → any (refused_each cues) ≡ false
    → AllPromised order cues
promised_all order [] o h = tt
promised_all order (c ∷ cs) o h =
    let d = c.direction in
    let off = or_off (refuses_direction d) (any (refused_each cs)) h in
    let none : Harmonics.refusal_of order d ≡ 0 = accepted order d o off.0 in (
      subst (λ (n : ℕ). Harmonics.HarmonicsPromise order d
          (record { refusal = n; gains = (Harmonics.outcome order d).gains }))
          (refusal_is order d (Harmonics.outcome order d) (outcome_kept order d) ∙ none) (outcome_kept order d),
      promised_all order cs o off.1,
    )

-- ---- what is played, by the number of the frame within the stretch
abbrev pub frame_of : Stretch → List Cue → List Float → ℕ → List Float
frame_of s cues input n = spoken s.order (voice_at cues (s.first + n)) (sample_at input s.stride 0 n)

rendered_is : (cues : List Cue) (order first i n : ℕ) (x : ℕ → Float)
    → rendered cues order (first + i) (tab i n x) ≡ tab i n (λ k. spoken order (voice_at cues (first + k)) (x k))
rendered_is cues order first i zero x = refl
rendered_is cues order first i (suc n) x =
    ap (λ (l : List (List Float)). spoken order (voice_at cues (first + i)) (x i) ∷ l)
    (ap (λ (f : ℕ). rendered cues order f (tab (suc i) n x)) next ∙ rendered_is cues order first (suc i) n x)
  where
    next : first + i + 1 ≡ first + suc i
    next = omega arith

pub played_is : (s : Stretch) (cues : List Cue) (input : List Float)
    → played_of s cues input ≡ tab 0 s.frames (frame_of s cues input)
played_is s cues input = ap (λ (f : ℕ). rendered cues s.order f (samples_of s input)) from_first
    ∙ rendered_is cues s.order s.first 0 s.frames (sample_at input s.stride 0)
  where
    from_first : s.first ≡ s.first + 0
    from_first = omega arith

-- ---- the whole
module _ (s : Stretch) (cues : List Cue) (input out : List Float) (j : Judgement) (J : j ≡ judgement_of cues)
    (answer : Rendered) (e : answer ≡ answer_by s j (length input) (length out)) where
  abbrev number : ℕ
  number = refusal_of s cues (length input) (length out)

  not_not : (b : Bool) → not (not b) ≡ b
  not_not true = refl
  not_not false = refl

  number_is : refusal_by s j (length input) (length out) ≡ number
  number_is = λ i. first_of (checks_of s (refused i) (J i).rising (J i).seen (length input) (length out))
    where
      refused : not j.good ≡ any (refused_each cues)
      refused = ap (λ (r : Judgement). not r.good) J ∙ not_not (any (refused_each cues))

  answer_is : answer ≡ answered number (answer_of 0 s.frames) (λ n. answer_of n 0)
  answer_is = e ∙ ap (λ (n : ℕ). answered n (answer_of 0 s.frames) (λ m. answer_of m 0)) number_is

  off : number ≡ 0 → Off (checks_of s (any (refused_each cues)) (rises (numbers_of cues)) (length cues) (length input)
      (length out))
  off z = none_holds (checks_of s (any (refused_each cues)) (rises (numbers_of cues)) (length cues) (length input)
      (length out)) tt z

  -- where something is left to play the stretch is accepted
  by_number : (n : ℕ) → n ≡ number → 0 < (answered n (answer_of 0 s.frames) (λ m. answer_of m 0)).samples → number ≡ 0
  by_number zero z l = sym z
  by_number (suc n) z l = absurd (nothing l)
    where
      nothing : 0 < 0 → ⊥
      nothing l = omega (arith, l)

  pub accepted_by : (n : ℕ) → n < answer.samples → number ≡ 0
  accepted_by n l = by_number number refl (subst (λ (a : Rendered). 0 < a.samples) answer_is (omega (arith, l)))

  module _ (z : number ≡ 0) where
    samples_are : answer ≡ answer_of 0 s.frames
    samples_are = answer_is ∙ answered_accepted (answer_of 0 s.frames) (λ n. answer_of n 0) number z

    pub all_frames : answer.samples ≡ s.frames
    all_frames = ap (λ (a : Rendered). a.samples) samples_are

    pub good_order : refuses_order s.order ≡ false
    good_order = (off z).0

    pub none_refused : any (refused_each cues) ≡ false
    none_refused = (off z).1.0

    pub ends_in_time : s.first + s.frames ≤ 2 ^ 64
    ends_in_time = ltb-false (2 ^ 64) (s.first + s.frames)
        (or_off (panner_unfit (length input) (length out) (channels_of_order s.order) s.stride s.frames)
        (runs_past s.first s.frames) (off z).1.1.0).1

    pub cues_rise : rises (numbers_of cues) ≡ true
    cues_rise = not-false (rises (numbers_of cues)) (off z).1.1.1.1.0

  pub answers : (after : List Float) (n : ℕ) → Parting out s.stride 0 answer.samples (frame_of s cues input) after
      n → answer.samples ≤ n → RenderPromise s cues input out answer after
  answers after n p l =
      record { bits = by_case number refl; words = λ z. promised_all s.order cues (good_order z) (none_refused z) }
    where
      laid : after ≡ with_frames out s.stride 0 (tab 0 answer.samples (frame_of s cues input))
      laid = parting_all out s.stride 0 answer.samples (frame_of s cues input) after n p l
          ∙ ap (λ (m : ℕ). with_frames out s.stride 0 (tab 0 m (frame_of s cues input))) (sub-zero answer.samples)

      by_case : (m : ℕ) → m ≡ number → record { answer = answer; out = after } ≡ rendered_block s cues input out
      by_case zero q =
          ap (λ (a : Rendered). record { answer = a; out = after }) (samples_are (sym q))
          ∙ played_with answer_of s.frames s.stride (played_of s cues input) out number after (sym q)
          (laid ∙ ap (λ (m : ℕ). with_frames out s.stride 0 (tab 0 m (frame_of s cues input))) (all_frames (sym q))
          ∙ ap (with_frames out s.stride 0) (sym (played_is s cues input)))
      by_case (suc m) q =
          let nil : answer ≡ answer_of (suc m) 0 = answer_is
          ∙ ap (λ (r : ℕ). answered r (answer_of 0 s.frames) (λ k. answer_of k 0)) (sym q) in
          let same : after ≡ out = laid
          ∙ ap (λ (a : Rendered). with_frames out s.stride 0 (tab 0 a.samples (frame_of s cues input))) nil in
          (λ i. record { answer = nil i; out = same i })
          ∙ refused_with_lem answer_of s.frames s.stride (played_of s cues input) out (suc m) number q (suc-ne-zero m)
