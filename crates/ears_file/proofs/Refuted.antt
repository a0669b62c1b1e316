-- What the promise of `run` rules out, whatever the bank and the line are: a refusal by another number than 9 and 13 to
-- 20, a part frame with a place, a refusal with a count, a failure that ends as a run that was played, and more
-- unsettled frames than frames. And what that of `result_line` does. Assumes nothing.
use Rattle.std.specs.Prelude.{◌≡◌, ◌∷◌, ◌⊎◌, ◌+◌, ◌≤◌, ◌<◌}
use Rattle.lists.specs.Prelude.{sym, ap, ◌∙◌, Bool, true, false, cond, List, [], inl, inr, ⊎_elim, ℕ, zero, suc, arith}
use Rattle.lists.specs.Prelude.{length, get_or, Float}
use Rattle.lists.proofs.Tests.{cond_true, cond_false}
use Rattle.refusals.specs.Refusals.{answered}
use Rattle.refusals.proofs.First.{not_accepted, answered_refused}
use Rattle.lists.specs.Placed.{placed}
use Rattle.lists.proofs.Placed.{placed_start}
use Rattle.lists.proofs.Lists.{one_at_most}
use Rattle.lists.specs.Tables.{chunk}
use Rattle.lists.proofs.Tables.{length_tab}
use Rattle.bank_form.specs.Fault.{bank_in, fault}
use Rattle.bank_form.specs.FaultLaws.{NumberAndPlace}
use Rattle.bank_form.proofs.Walk.{same_number}
use Rattle.bank_form.proofs.Places.{numbers_and_places}
use Rattle.hrtf_history.specs.Setup.{Setup}
use Rattle.hrtf_history.specs.Signals.{signals}
use Rattle.hrtf_history.specs.History.{unsettled, unsettled_in}
use Rattle.ears_wire.specs.Records.{whole_in_of, rest_in}
use Rattle.ears_wire.specs.Frames.{frame_of, line_frames}
use Rattle.ears_file.specs.declared.Ended.{Ended}
use Rattle.ears_file.specs.declared.RunOutcome.{RunOutcome}
use Rattle.ears_wire.specs.Counting.{counted_on}
use Rattle.ears_wire.specs.Line.{refused_word, refused_line, refused_at_line}
use Rattle.ears_wire.proofs.Drill.{refused_fourteen}
use Rattle.ears_wire.specs.Promise.{LineGiven, line_given, Lined}
use Rattle.ears_wire.proofs.Meets.{line_accepted, line_empty}
use Rattle.ears_file.specs.Lines.{setup_with, part_frame, refused_bank, rest_refusal, item_ten, refusal_line}
use Rattle.ears_file.specs.Lines.{result_line}
use Rattle.ears_file.specs.Promise.{Answers}

-- one of three ends
one_of_three : (f : Bool) (b t : ℕ) (e x y : Ended) → e ≡ cond f part_frame
    (answered b (answered t x (λ n. part_frame)) (λ n. y)) → (e ≡ x) ⊎ ((e ≡ part_frame) ⊎ (e ≡ y))
one_of_three true b t e x y q = inr (inl q)
one_of_three false zero zero e x y q = inl q
one_of_three false zero (suc t) e x y q = inr (inl q)
one_of_three false (suc b) t e x y q = inr (inr q)

-- of frames no more are unsettled than there are
unsettled_few : (u : Setup) (go : ℕ) (past fs : List (List Float)) → unsettled_in u go past fs ≤ length fs
unsettled_few u go past [] = omega arith
unsettled_few u go past (f ∷ fs) =
    omega (arith, one_at_most (unsettled u go (signals u f ∷ past)), unsettled_few u go (signals u f ∷ past) fs)

module _ (r : RunOutcome) (a : Answers r) where
  -- a run is played, or its line ends inside a frame, or its bank is refused
  played : Ended
  played =
      let line = a.ends.line in
      record {
        refusal = 0;
        place = 0;
        frames = counted_on 0 (whole_in_of 24 line);
        unsettled = counted_on 0 (unsettled_in (setup_with (bank_in a.bank)) 0 [] (line_frames line));
      }

  by_end : {A : Type 0} → (r.ended ≡ played → A) → (r.ended ≡ part_frame → A)
      → (r.ended ≡ refused_bank (fault a.bank) → A) → A
  unfolding played
  by_end p q s =
      ⊎_elim p (⊎_elim q s)
      (one_of_three r.failed (fault a.bank).refusal (rest_refusal (length (rest_in 24 a.ends.line)))
      r.ended played (refused_bank (fault a.bank)) a.ends.bits)

  number : {e : Ended} → r.ended ≡ e → r.ended.refusal ≡ e.refusal
  number q = ap (λ (y : Ended). y.refusal) q

  no_number : r.ended ≡ played → r.ended.refusal ≡ 0
  unfolding played
  no_number q = number q

  -- a refused bank has a number of its own
  bank_number : {A : Type 0} → (r.ended.refusal ≡ 0 → A) → (13 ≤ r.ended.refusal → r.ended.refusal ≤ 20 → A)
      → r.ended ≡ refused_bank (fault a.bank) → A
  bank_number none some q =
      ⊎_elim (λ s. none (number q ∙ same_number s))
      (λ (p : NumberAndPlace (length a.bank) (fault a.bank)). some (omega (arith, p.least, number q))
      (omega (arith, p.most, number q)))
      (numbers_and_places a.bank)

  refused_otherwise : (r.ended.refusal ≡ 0 → ⊥) → (r.ended.refusal ≡ 9 → ⊥)
      → (13 ≤ r.ended.refusal → r.ended.refusal ≤ 20 → ⊥) → ⊥
  refused_otherwise some part bank = by_end (λ p. some (no_number p)) (λ q. part (number q)) (bank_number some bank)

  part_frame_with_a_place : r.ended.refusal ≡ 9 → (r.ended.place ≡ 0 → ⊥) → ⊥
  part_frame_with_a_place nine other =
      by_end (λ p. omega (arith, nine, no_number p)) (λ q. other (ap (λ (y : Ended). y.place) q))
      (bank_number (λ z. omega (arith, nine, z)) (λ low high. omega (arith, nine, low)))

  refused_with_counts : (r.ended.refusal ≡ 0 → ⊥) → 0 < r.ended.frames + r.ended.unsettled → ⊥
  refused_with_counts some h = by_end (λ p. some (no_number p)) none none
    where
      none : {n at : ℕ} → r.ended ≡ record { refusal = n; place = at; frames = 0; unsettled = 0 } → ⊥
      none q = omega (arith, h, ap (λ (y : Ended). y.frames) q, ap (λ (y : Ended). y.unsettled) q)

  failed_as_played : r.failed ≡ true → r.ended.refusal ≡ 0 → ⊥
  failed_as_played f z =
      omega (
        arith,
        z,
        number (a.ends.bits ∙ cond_true part_frame (item_ten a.bank a.ends.line) f),
      )

  more_unsettled_than_frames : r.ended.frames < r.ended.unsettled → ⊥
  unfolding played
  more_unsettled_than_frames h =
      let line = a.ends.line in
      let few = unsettled_few (setup_with (bank_in a.bank)) 0 [] (line_frames line) in
      let many : length (line_frames line) ≡ whole_in_of 24 line = length_tab 0 (whole_in_of 24 line)
      (λ i. frame_of (chunk 24 i line)) in
      by_end
      (λ p. omega (arith, h, few, many, ap (λ (y : Ended). y.frames) p, ap (λ (y : Ended). y.unsettled) p))
      (λ q. omega (arith, h, ap (λ (y : Ended). y.frames) q, ap (λ (y : Ended). y.unsettled) q))
      (λ q. omega (arith, h, ap (λ (y : Ended). y.frames) q, ap (λ (y : Ended). y.unsettled) q))

-- ---- what is told

module _ (r : RunOutcome) (out : List ℕ) (size : ℕ) (after : List ℕ) (lined : Lined out (result_line r) size after)
  where
    -- a line for a run that failed
    failed_run_has_a_line : r.failed ≡ true → (size ≡ 0 → ⊥) → ⊥
    failed_run_has_a_line f some =
        some (ap (λ (g : LineGiven). g.size) (lined ∙ ap (line_given out) (cond_true _ _ f) ∙ line_empty out))

    -- a refusal told as a count: its first letter is an r, and not an f
    refusal_told_as_frames : r.failed ≡ false → r.ended.refusal ≡ 9 → 64 ≤ length out → get_or after 0 0 ≡ 102 → ⊥
    unfolding refused_line refused_word
    refusal_told_as_frames f nine room e =
        let told : result_line r ≡ refused_line 9 = cond_false _ _ f
        ∙ answered_refused _ (refusal_line r.ended) _ (not_accepted 9 (omega arith) nine)
        ∙ ap (refusal_line r.ended) nine in
        let first : get_or after 0 0 ≡ 114 =
        ap (λ (l : List ℕ). get_or l 0 0)
        (ap (λ (g : LineGiven). g.out) (lined ∙ line_accepted out (result_line r) room) ∙ ap (placed out 0) told
        ∙ placed_start out (refused_line 9)) in
        let same : ◌≡◌ {A = ℕ} 102 114 = sym e ∙ first in omega (arith, same)

    -- a bank's refusal told without its place: `refused 14` and a newline has eleven bytes, `refused 14 at 1` sixteen
    bank_told_without_its_place : r.failed ≡ false → r.ended.refusal ≡ 14 → r.ended.place ≡ 1 → 64 ≤ length out
        → size ≡ 11 → ⊥
    bank_told_without_its_place f fourteen one room e =
        let told : result_line r ≡ refused_at_line 14 1 =
        cond_false _ _ f ∙ answered_refused _ (refusal_line r.ended) _ (not_accepted 14 (omega arith) fourteen)
        ∙ ap (refusal_line r.ended) fourteen ∙ ap (refused_at_line 14) one in
        let long : size ≡ 16 = ap (λ (g : LineGiven). g.size) (lined ∙ line_accepted out (result_line r) room)
        ∙ ap length (told ∙ refused_fourteen) in
        let same : ◌≡◌ {A = ℕ} 11 16 = sym e ∙ long in omega (arith, same)
