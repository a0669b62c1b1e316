-- From what the block leaves to what `process` promises, and from filled rings to what `reset` promises. What document
-- 01 says besides of a call: zero frames change nothing, and frames beyond the count are as they were. Assumes nothing.
use Rattle.std.specs.Prelude.{◌≡◌, ◌*◌, ◌≤◌, ◌<◌, Result, Ok, IsOk}
use Rattle.lists.specs.Prelude.{refl, sym, ap, ◌∙◌, subst, List, [], ℕ, zero, suc, zero-add, arith, length, get_or}
use Rattle.lists.specs.Prelude.{replicate, take, Float, nan}
use Rattle.formats.specs.Floats.{zero_float}
use Rattle.refusals.specs.Numbers.{number_of}
use Rattle.refusals.specs.declared.Refusal.{Refusal}
use Rattle.refusals.proofs.Numbers.{number_above, accepted_ok}
use Rattle.refusals.proofs.First.{answered_refused}
use Rattle.refusals.proofs.Chains.{Off, FirstAt, number_at, first_holds, off_accepts, none_holds}
use Rattle.planes.specs.Planes.{sample_at, frame_at, frames_of, with_frames}
use Rattle.lists.proofs.Tables.{length_tab}
use Rattle.checks.proofs.Checks.{is_equal, not_outside}
use Rattle.planes.proofs.Planes.{with_frames_at, with_frames_other}
use Rattle.hrtf_desk.specs.declared.Desk.{Desk}
use Rattle.hrtf_desk.specs.Numbers.{zeroed}
use Rattle.hrtf_history.specs.Setup.{Setup}
use Rattle.hrtf_history.specs.History.{ear_samples, heard, unsettled_in, after}
use Rattle.hrtf_history.proofs.Pieces.{length_heard, heard_from, two_each}
use Rattle.hrtf_rings.specs.State.{State}
use Rattle.hrtf_rings.specs.Computed.{state_left, played_by_rings, unsettled_count_by_desk}
use Rattle.hrtf_rings.specs.Held.{held_in, after_frames, Represents}
use Rattle.hrtf_rings.proofs.Blocks.{played_held, left_is, counted_is, played_heard, counted_told, left_kept}
use Rattle.hrtf_rings.proofs.Blocks.{fresh_represents}
use Rattle.hrtf_checks.specs.Call.{BlockCall, setup, frames_in}
use Rattle.hrtf_checks.specs.Refusals.{refusal_of}
use Rattle.hrtf.specs.declared.BlockAnswer.{BlockAnswer}
use Rattle.hrtf.specs.Promise.{BlockOutcome, block_told, refused, accepted, outcome_by, outcome, state_after}
use Rattle.hrtf.specs.Promise.{ProcessPromise}
use Rattle.hrtf.specs.Reset.{reset_checks, reset_refusal, ResetOutcome, reset_by_of, reset_outcome, ResetPromise}
use Rattle.hrtf.specs.Computed.{block_computed, BlockPlayed}
use Rattle.hrtf_checks.proofs.Refusing.{ears_fit, waits, ready}

-- ---- a call

pub outcome_by_lem : (c : BlockCall) (t : State) (k : ℕ) → refusal_of c t ≡ k → outcome c t ≡ outcome_by k c t
unfolding outcome
outcome_by_lem c t k e = ap (λ (n : ℕ). outcome_by n c t) e

-- THE LAW: of every state in which a call is accepted, the program's steps make what is promised
accepted_computed : (c : BlockCall) (t : State) → refusal_of c t ≡ 0 → accepted c t ≡ block_computed c t
accepted_computed c t e =
    let u = setup c in
    let room = (ready c t e).ringed in
    let within = (ready c t e).within in
    let count : unsettled_in u t.desk.to_go [] (frames_in c) ≡ unsettled_count_by_desk u t (frames_in c) = sym
    (counted_is u t
    (frames_in c) room within (waits c t e)) in
    let state : after_frames u t (frames_in c) ≡ state_left u t (frames_in c) = sym
    (left_is u t (frames_in c) room within) in
    let sums : heard u (held_in u t) (frames_in c) ≡ played_by_rings u t (frames_in c) = sym
    (played_held u t (frames_in c) room
    within) in
    λ i. record {
      answer = record { refusal = 0; samples = c.frames; unsettled = count i; desk = (state i).desk };
      rings = (state i).rings;
      ears = with_frames c.ears c.stride 0 (sums i);
    }

pub outcome_computed : (c : BlockCall) (t : State) → refusal_of c t ≡ 0 → outcome c t ≡ block_computed c t
outcome_computed c t e = outcome_by_lem c t 0 e ∙ accepted_computed c t e

-- the equation says it all
promised : (c : BlockCall) (t : State) (o : BlockOutcome) → o ≡ outcome c t → ProcessPromise c t o
promised c t o e =
    record {
      bits = e;
      words = λ past r z. subst (λ (q : BlockOutcome). Represents (setup c) (after (setup c) past (frames_in c))
          (state_after q)) (sym (e ∙ outcome_computed c t z)) (left_kept (setup c) past t r (frames_in c));
    }

-- an accepted call over a past that rings and desk stand for: document 01's sums over it stand in the ear planes, and
-- the count is over it
module _ (c : BlockCall) (t : State) (o : BlockOutcome) (p : ProcessPromise c t o) (past : List (List Float))
    (r : Represents (setup c) past t) (z : refusal_of c t ≡ 0) where
  pub ears_over : o.ears ≡ with_frames c.ears c.stride 0 (heard (setup c) past (frames_in c))
  ears_over = ap (λ (q : BlockOutcome). q.ears) (p.bits ∙ outcome_computed c t z)
      ∙ ap (with_frames c.ears c.stride 0) (played_heard (setup c) past t r (frames_in c))

  pub unsettled_over : o.answer.unsettled ≡ unsettled_in (setup c) 0 past (frames_in c)
  unsettled_over = ap (λ (q : BlockOutcome). q.answer.unsettled) (p.bits ∙ outcome_computed c t z)
      ∙ counted_told (setup c) past t r (frames_in c)

-- a refusal has a number
pub has_number : (r : Refusal) → number_of r ≡ 0 → ⊥
has_number r e = let above : 0 < number_of r = number_above r in omega arith

pub promised_refused : (c : BlockCall) (t : State) (n : ℕ) → n ≡ refusal_of c t → (n ≡ 0 → ⊥)
    → ProcessPromise c t (refused n c t)
promised_refused c t n e some = promised c t (refused n c t)
    (sym (outcome_by_lem c t n (sym e) ∙ answered_refused (accepted c t) (λ k. refused k c t) n some))

pub promised_accepted : (c : BlockCall) (t : State) (rings₁ ears₁ : List Float) (desk₁ : Desk) (more : ℕ)
    → 0 ≡ refusal_of c t
    → BlockPlayed c t rings₁ ears₁ desk₁ more
    → ProcessPromise c t (record {
      answer =
          record { refusal = 0; samples = c.frames; unsettled = more; desk = desk₁ };
      rings = rings₁;
      ears = ears₁;
    })
promised_accepted c t rings₁ ears₁ desk₁ more e b =
    promised c t (record {
      answer =
          record { refusal = 0; samples = c.frames; unsettled = more; desk = desk₁ };
      rings = rings₁;
      ears = ears₁;
    })
    (b ∙ sym (outcome_computed c t (sym e)))

-- a call that is not refused has an answer
pub process_ok : (c : BlockCall) (t : State) (r : Result BlockAnswer Refusal) {rings ears : List Float}
    → refusal_of c t ≡ 0
    → ProcessPromise c t (record { answer = block_told t.desk r; rings = rings; ears = ears }) → IsOk r
process_ok c t r e p = accepted_ok r (ap (λ (o : BlockOutcome). o.answer.refusal) (p.bits ∙ outcome_computed c t e))

-- what is promised of an answer that is accepted, said of what it holds
pub block_promised : {c : BlockCall} {t : State} {r : Result BlockAnswer Refusal} {a : BlockAnswer}
    {rings ears : List Float} → r ≡ Ok a
    → ProcessPromise c t (record { answer = block_told t.desk r; rings = rings; ears = ears })
    → ProcessPromise c t (record { answer = block_told t.desk (Ok a); rings = rings; ears = ears })
block_promised {c} {t} {rings = rings} {ears = ears} e =
    subst (λ (r : Result BlockAnswer Refusal). ProcessPromise c t
    (record { answer = block_told t.desk r; rings = rings; ears = ears })) e

-- zero frames change nothing
pub none_played : (c : BlockCall) (t : State) → refusal_of c t ≡ 0 → c.frames ≡ 0
    → outcome c t ≡ record {
      answer =
          record { refusal = 0; samples = c.frames; unsettled = 0; desk = t.desk };
      rings = t.rings;
      ears = c.ears;
    }
none_played c t e z = outcome_computed c t e ∙ ap by (ap (frames_of c.inputs c.stride c.shape.channels) z)
  where
    by : List (List Float) → BlockOutcome
    by fs =
        record {
          answer = record {
            refusal = 0;
            samples = c.frames;
            unsettled = unsettled_count_by_desk (setup c) t fs;
            desk = (state_left (setup c) t fs).desk;
          };
          rings = (state_left (setup c) t fs).rings;
          ears = with_frames c.ears c.stride 0 (played_by_rings (setup c) t fs);
        }

-- two ear samples for each frame
pub all_heard : (c : BlockCall) (past : List (List Float)) → length (heard (setup c) past (frames_in c)) ≡ c.frames
all_heard c past = length_heard (setup c) past (frames_in c)
    ∙ length_tab 0 c.frames (frame_at c.inputs c.stride c.shape.channels)

-- the ear samples at frame n: document 01's sums over the call's signals up to it, newest first, and then those that
-- the rings held
pub ear_at : (c : BlockCall) (t : State) → refusal_of c t ≡ 0 → (ear n : ℕ) → ear < 2 → n < c.frames
    → sample_at (outcome c t).ears c.stride ear n ≡ get_or
    (ear_samples (setup c) (after (setup c) (held_in (setup c) t) (take (suc n) (frames_in c)))) ear nan
ear_at c t e ear n he hn =
    let u = setup c in
    let past = held_in (setup c) t in
    let fs = frames_in c in
    let many : length fs ≡ c.frames = length_tab 0 c.frames
    (frame_at c.inputs c.stride c.shape.channels) in
    ap (λ (o : BlockOutcome). sample_at o.ears c.stride ear n) (outcome_by_lem c t 0 e)
    ∙ ap (sample_at (with_frames c.ears c.stride 0 (heard u past fs)) c.stride ear) (sym (zero-add n))
    ∙ with_frames_at 2 c.ears c.stride 0 (heard u past fs) ear n (omega (arith, hn, all_heard c past)) he
    (omega (arith, all_heard c past, (ears_fit c t e).0)) (ears_fit c t e).1 (two_each u past fs)
    ∙ ap (λ (l : List Float). get_or l ear nan) (heard_from u past fs n [] (omega (arith, hn, many)))

-- frames of a plane beyond the count are unchanged
pub beyond : (c : BlockCall) (t : State) → refusal_of c t ≡ 0 → (plane i : ℕ) → c.frames ≤ i → i < c.stride
    → sample_at (outcome c t).ears c.stride plane i ≡ sample_at c.ears c.stride plane i
beyond c t e plane i h lt =
    ap (λ (o : BlockOutcome). sample_at o.ears c.stride plane i) (outcome_by_lem c t 0 e)
    ∙ with_frames_other c.ears c.stride 0 (heard (setup c) (held_in (setup c) t) (frames_in c)) plane i lt
    (omega (arith, all_heard c (held_in (setup c) t), (ears_fit c t e).0))
    (λ k b q. omega (arith, all_heard c (held_in (setup c) t), b, q))

-- ---- a reset

module _ (speakers L : ℕ) (rings : List Float) where
  -- the number of the first test that fails
  pub reset_refuses : (k : ℕ) → FirstAt k (reset_checks speakers L rings)
      → reset_refusal speakers L rings ≡ number_at k (reset_checks speakers L rings)
  unfolding reset_refusal
  reset_refuses k h = first_holds k (reset_checks speakers L rings) h

  pub reset_accepts : Off (reset_checks speakers L rings) → reset_refusal speakers L rings ≡ 0
  unfolding reset_refusal
  reset_accepts h = off_accepts (reset_checks speakers L rings) h

module _ (d : Desk) (speakers L : ℕ) (rings : List Float) where
  pub reset_by : (k : ℕ) → reset_refusal speakers L rings ≡ k → reset_outcome d speakers L rings ≡ reset_by_of k d rings
  unfolding reset_outcome
  reset_by k e = ap (λ (n : ℕ). reset_by_of n d rings) e

  -- an accepted reset is given at least one cell, and exactly those of the speakers
  reset_fits : reset_refusal speakers L rings ≡ 0 → (0 < L) × (length rings ≡ speakers * L)
  unfolding reset_refusal
  reset_fits e = let off = none_holds (reset_checks speakers L rings) tt e in
      ((not_outside L 512 off.1.0).0, is_equal (length rings) (speakers * L) off.1.1.0)

  reset_promised : (o : ResetOutcome) → o ≡ reset_outcome d speakers L rings → ResetPromise d speakers L rings o
  reset_promised o e =
      record {
        bits = e;
        words = λ z u es eL. subst
            (λ (p : ResetOutcome). Represents u [] (record { rings = p.rings; desk = p.answer.desk }))
            (sym (e ∙ reset_by 0 z))
            (subst (λ (n : ℕ). Represents u [] (record { rings = replicate n zero_float; desk = zeroed }))
            (cells u es eL ∙ sym (reset_fits z).1)
            (fresh_represents u (subst (λ (n : ℕ). 0 < n) (sym eL) (reset_fits z).0)));
      }
    where
      cells : (u : Setup) → u.speakers ≡ speakers → u.L ≡ L → u.speakers * u.L ≡ speakers * L
      cells u es eL = ap (λ (n : ℕ). n * u.L) es ∙ ap (λ (n : ℕ). speakers * n) eL

  -- the number that is given
  number_by : (n : ℕ) → (reset_by_of n d rings).answer.refusal ≡ n
  number_by zero = refl
  number_by (suc n) = refl

  pub reset_number : (o : ResetOutcome) → ResetPromise d speakers L rings o
      → o.answer.refusal ≡ reset_refusal speakers L rings
  unfolding reset_outcome
  reset_number o r = ap (λ (p : ResetOutcome). p.answer.refusal) r.bits ∙ number_by (reset_refusal speakers L rings)

  pub reset_refused : (k : ℕ) → reset_refusal speakers L rings ≡ suc k
      → ResetPromise d speakers L rings (record { answer = record { refusal = suc k; desk = d }; rings = rings })
  reset_refused k e =
      reset_promised (record { answer = record { refusal = suc k; desk = d }; rings = rings })
      (sym (reset_by (suc k) e))

  pub reset_accepted : (rings₁ : List Float) → reset_refusal speakers L rings ≡ 0
      → rings₁ ≡ replicate (length rings) zero_float
      → ResetPromise d speakers L rings (record { answer = record { refusal = 0; desk = zeroed }; rings = rings₁ })
  reset_accepted rings₁ e f =
      reset_promised (record { answer = record { refusal = 0; desk = zeroed }; rings = rings₁ })
      (ap (λ (l : List Float). record { answer = record { refusal = 0; desk = zeroed }; rings = l }) f
      ∙ sym (reset_by 0 e))
