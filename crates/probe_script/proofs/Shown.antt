-- The answer to a stretch of a drill script: the cues that a request gives are read, the block that `script` promises
-- for them is shown in part, or there is no answer. Assumes nothing.
use Rattle.std.specs.Prelude.{◌≡◌, ◌&&◌, ◌+◌, ◌-◌, ◌*◌, ◌≤◌, ◌<◌}
use Rattle.lists.specs.Prelude.{sym, ap, ◌∙◌, Bool, true, false, not, and-eq-true_iff, List, ⊎_elim, ℕ, arith, le-leb}
use Rattle.lists.specs.Prelude.{lt-leb, leb-true, not-true, not-false, leb, length, take, drop, replicate, length-take}
use Rattle.lists.specs.Prelude.{length-replicate, Float}
use Rattle.lists.proofs.Tests.{cond_true, cond_false}
use Rattle.lists.proofs.Lists.{less_or_at_most, take_replicate}
use Rattle.lists.proofs.Tables.{take_tab, part_is}
use Rattle.big_endian.specs.Fields.{field_at, float_at, double_at}
use Rattle.big_endian.specs.Lists.{strided}
use Rattle.cues.specs.declared.Cue.{Cue}
use Rattle.script.specs.Promise.{Rendered}
use Rattle.script.specs.Promise.{RenderedBlock, rendered_block}
use Rattle.probe_request.specs.Requests.{samples_lent, lent_by, list_at}
use Rattle.probe_request.proofs.Requests.{inside}
use Rattle.probe_answer.specs.Answers.{Draft, none, taking, played}
use Rattle.probe_answer.proofs.Meets.{taken, untaken}
use Rattle.probe_script.specs.Answers.{held_at, cue_at, cues_at, rendered, shown, rendered_answer, fits, script_lent}
use Rattle.probe_script.specs.Answers.{script_answer}

-- ---- the cues

pub cue_read : (args : List ℕ) (at frame : ℕ) (azimuth elevation : Float) → frame ≡ field_at args at 8
    → azimuth ≡ double_at args (at + 8) → elevation ≡ double_at args (at + 16)
    → ◌≡◌ {A = Cue} (record { frame = frame; direction = record { azimuth = azimuth; elevation = elevation } })
    (cue_at args at)
cue_read args at frame azimuth elevation f a e =
    λ i. record { frame = f i; direction = record { azimuth = a i; elevation = e i } }

-- the first of them
pub first_cues : (args : List ℕ) (c : ℕ) → c ≤ 257 → take c (cues_at args 257) ≡ cues_at args c
unfolding strided
first_cues args c h = take_tab 0 c 257 (λ (j : ℕ). cue_at args (46 + j * 24)) h

-- ---- the room

module _ (c o at n : ℕ) where
  pub many_cues : 257 < c → false ≡ fits c o at n
  many_cues h = sym (rw (lt-leb c 257 h))

  module _ (few : c ≤ 257) where
    pub many_outputs : 16400 < o → false ≡ fits c o at n
    many_outputs h = sym (rw (le-leb c 257 few, lt-leb o 16400 h))

    module _ (room : o ≤ 16400) where
      pub begins_behind : o < at → false ≡ fits c o at n
      begins_behind h = sym (rw (le-leb c 257 few, le-leb o 16400 room, lt-leb (at + n) o (omega arith)))

      pub lies_inside : at ≤ o → leb n (o - at) ≡ fits c o at n
      lies_inside h =
          let all : leb (at + n) o ≡ fits c o at n = sym (rw (le-leb c 257 few, le-leb o 16400 room)) in
          ⊎_elim (λ s. lt-leb n (o - at) s ∙ sym (lt-leb (at + n) o (omega arith)))
          (λ s. le-leb n (o - at) s ∙ sym (le-leb (at + n) o (omega arith))) (less_or_at_most (o - at) n) ∙ all

-- so where it is told that they fit, they do
pub record Fitting (c o at n : ℕ) : Type 0 where
  pub few : c ≤ 257
  pub room : o ≤ 16400
  pub within : at + n ≤ o

pub fitting : (c o at n : ℕ) (b : Bool) → b ≡ fits c o at n → not b ≡ false → Fitting c o at n
fitting c o at n b e h =
    let one = (and-eq-true_iff (leb c 257) (leb o 16400 && leb (at + n) o)).0 (sym e ∙ not-false b h) in
    let two = (and-eq-true_iff (leb o 16400) (leb (at + n) o)).0 one.1 in
    record { few = leb-true c 257 one.0; room = leb-true o 16400 two.0; within = leb-true (at + n) o two.1 }

-- the part of a new list that is lent
pub lent_first : {A : Type 0} (x : A) (o most : ℕ) → o ≤ most → o ≡ length (take o (replicate most x))
lent_first x o most h = omega (arith, length-take o (replicate most x), length-replicate most x)

-- so the lists lent are as long as they are to be
pub lends : (size c i o at n k l : ℕ) → i ≡ k → o ≡ l → Fitting c o at n → size ≡ 46 + 24 * c + 4 * i
    → (c ≤ 257) × (size ≡ 46 + 24 * c + 4 * k) × (at + n ≤ l)
lends size c i o at n k l e g fit h = (fit.few, omega arith, omega (arith, fit.within))

-- ---- the block

module _ (args : List ℕ) (c : ℕ) where
  pub renders : (input before planes last : List Float) (cues : List Cue) (order first frames stride : ℕ) (r : Rendered)
      → c ≤ 257 → length args ≡ 46 + 24 * c + 4 * length input
      → before ≡ list_at float_at 4 args (46 + 24 * c) input → cues ≡ cues_at args 257 → order ≡ field_at args 10 8
      → first ≡ field_at args 18 8 → frames ≡ field_at args 26 8 → stride ≡ field_at args 34 8
      → record { answer = r; out = last } ≡ rendered_block
      (record { order = order; first = first; frames = frames; stride = stride }) (take c cues) before planes
      → record { answer = r; out = last } ≡ rendered args c (length input) planes
  renders input before planes last cues order first frames stride r few long e g eo ef en es p =
      let i = inside float_at 4 args (46 + 24 * c) input before e (omega arith) in
      let list : take c cues ≡ cues_at args c = ap (take c) g ∙ first_cues args c few in
      p ∙ (λ j. rendered_block (record { order = eo j; first = ef j; frames = en j; stride = es j }) (list j) (i j)
      planes)

  pub shows : (i : ℕ) (planes last : List Float) (at n : ℕ) (out : List ℕ) (r : Rendered) (d : Draft)
      → record { answer = r; out = last } ≡ rendered args c i planes
      → d ≡ played r.refusal r.samples (take (at + n - at) (drop at last)) out
      → d ≡ rendered_answer args c i planes at n out
  unfolding rendered_answer
  shows i planes last at n out r d e p =
      p ∙ ap (λ (l : List Float). played r.refusal r.samples l out) (part_is at n last)
      ∙ ap (λ (b : RenderedBlock). played b.answer.refusal b.answer.samples (shown at n b.out) out) e

-- ---- the answer

module _ (args out : List ℕ) (c i o at n : ℕ) (ec : c ≡ field_at args 0 2) (ei : i ≡ samples_lent args 2)
    (eo : o ≡ field_at args 4 2) (ea : at ≡ field_at args 6 2) (en : n ≡ lent_by args 8 2 16380) where
  as_asked : script_lent args c i o at n out ≡ script_answer args out
  unfolding script_answer
  as_asked j = script_lent args (ec j) (ei j) (eo j) (ea j) (en j) out

  module _ (b : Bool) (is : b ≡ fits c o at n) where
    pub no_room : not b ≡ true → none out ≡ script_answer args out
    no_room h = sym (cond_false _ _ (sym is ∙ not-true b h)) ∙ as_asked

    module _ (h : not b ≡ false) where
      there : taking (46 + 24 * c + 4 * i) args out (rendered_answer args c i (replicate o (held_at args)) at n out)
          ≡ script_answer args out
      there = sym (cond_true _ _ (sym is ∙ not-false b h)) ∙ as_asked

      pub no_length : (length args ≡ 46 + 24 * c + 4 * i → ⊥) → none out ≡ script_answer args out
      no_length other = untaken _ args out _ other ∙ there

      pub shown_all : length args ≡ 46 + 24 * c + 4 * i → rendered_answer args c i (replicate o (held_at args)) at n out
          ≡ script_answer args out
      shown_all long = taken _ args out _ long ∙ there

      -- of an array that holds it throughout
      pub shown_lent : (held : Float) (d : Draft) → held ≡ held_at args → length args ≡ 46 + 24 * c + 4 * i
          → d ≡ rendered_answer args c i (take o (replicate 16400 held)) at n out → d ≡ script_answer args out
      shown_lent held d e long p =
          let planes : take o (replicate 16400 held) ≡ replicate o (held_at args) = take_replicate o 16400 held
          (fitting c o at n b is h).room ∙ ap (replicate o) e in
          p ∙ ap (λ (l : List Float). rendered_answer args c i l at n out) planes ∙ shown_all long
