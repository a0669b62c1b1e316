-- `script::render` meets its contract: what a turn asks and what it leaves is `Playing`, and what the loop comes to is
-- `Meets`. Assumes nothing.
use Rattle.std.specs.Prelude.{◌≡◌}
use Rattle.lists.specs.Prelude.{ℕ, sym, arith, length}
use Rattle.std.proofs.lemmas.Result.{err_from_is_err_and}
use Rattle.refusals.proofs.First.{answered_accepted, answered_by_lem}
use Rattle.refusals.proofs.Numbers.{number_above}
use Rattle.planes.proofs.Framing.{parting_none}
use Rattle.cues.specs.declared.Judgement.{Judgement}
use Rattle.script.specs.Rendering.{Stretch}
use Rattle.script.specs.Promise.{answer_of}
use Rattle.script.specs.Computed.{refusal_by, answer_by}
use Rattle.script.proofs.Meets.{frame_of, answers}
use Rattle.script.proofs.Playing.{asked, frame_fits, turned}
use Rattle.script.proofs.render.Goals as goal

-- what is answered where nothing is refused
played_so : (s : Stretch) (j : Judgement) (input out : ℕ) → 0 ≡ refusal_by s j input out
    → answer_of 0 s.frames ≡ answer_by s j input out
played_so s j input out e =
    sym (answered_accepted (answer_of 0 s.frames) (λ (n : ℕ). answer_of n 0) (refusal_by s j input out) (sym e))

pub returns-in_err-check : goal.returns-in_err-check
returns-in_err-check c =
    let a = c.args in
    let s : Stretch = record { order = a.order; first = a.first; frames = a.frames; stride = a.stride } in
    let j = c.judged-judged in
    let p = err_from_is_err_and c.from_residual.result c.from_residual.ensures.1 in
    rw (p.1, p.2) (answers s a.cues.now a.input.now a.out.now j.result j.ensures _
    (answered_by_lem (answer_of 0 s.frames) (λ (n : ℕ). answer_of n 0)
    (refusal_by s j.result (length a.input.now) (length a.out.now)) _ (number_above _) (sym c.in_err-check.ensures))
    a.out.now 0 (parting_none a.out.now s.stride 0 0 (frame_of s a.cues.now a.input.now)) (omega arith))

pub frame_of-requires : goal.frame_of-requires
frame_of-requires c =
    let a = c.args in
    let s : Stretch = record { order = a.order; first = a.first; frames = a.frames; stride = a.stride } in
    let j = c.judged-judged in
    frame_fits s a.cues.now a.input.now a.out.now j.result j.ensures (answer_of 0 s.frames)
    (played_so s j.result (length a.input.now) (length a.out.now) c.in_ok-check.ensures) c.loop-done.done
    c.loop-done-test.true

pub speak-done-requires : goal.speak-done-requires
speak-done-requires c =
    let a = c.args in
    let s : Stretch = record { order = a.order; first = a.first; frames = a.frames; stride = a.stride } in
    let j = c.judged-judged in
    asked s a.cues.now a.input.now a.out.now j.result j.ensures (answer_of 0 s.frames)
    (played_so s j.result (length a.input.now) (length a.out.now) c.in_ok-check.ensures) c.loop-done.done
    c.loop-done-test.true c.frame_of.result c.holding-held.result c.holding-held.ensures

pub loop-done-preserved : goal.loop-done-preserved
loop-done-preserved c =
    let a = c.args in
    let s : Stretch = record { order = a.order; first = a.first; frames = a.frames; stride = a.stride } in
    let j = c.judged-judged in
    turned s a.cues.now a.input.now a.out.now j.result j.ensures (answer_of 0 s.frames)
    (played_so s j.result (length a.input.now) (length a.out.now) c.in_ok-check.ensures) c.loop-done.done
    c.loop-done-test.true c.frame_of.result c.holding-held.result c.holding-held.ensures c.frame_of.ensures
    c.loop-done.out c.loop-done.invariant c.speak-done.result c.speak-done.new.out c.speak-done.ensures

pub returns : goal.returns
returns c =
    let a = c.args in
    let s : Stretch = record { order = a.order; first = a.first; frames = a.frames; stride = a.stride } in
    let j = c.judged-judged in
    answers s a.cues.now a.input.now a.out.now j.result j.ensures (answer_of 0 s.frames)
    (played_so s j.result (length a.input.now) (length a.out.now) c.in_ok-check.ensures) c.loop-done.out
    c.loop-done.done c.loop-done.invariant c.loop-done-test.false
