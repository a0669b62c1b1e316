-- `replay::replay_in` meets its contract: judged first, and played in turns where nothing is refused. Assumes nothing.
use Rattle.std.specs.Prelude.{◌≡◌, Option, Some, Ok, Err}
use Rattle.std.proofs.lemmas.Result.{err_from_is_err_and}
use Rattle.refusals.specs.Numbers.{number_of}
use Rattle.refusals.specs.declared.Refusal.{Refusal}
use Rattle.hrtf.proofs.Meets.{has_number}
use Rattle.lists.specs.Prelude.{sym, subst, ◌∙◌, length, List, Float}
use Rattle.hrtf_rings.specs.State.{State}
use Rattle.stamps.specs.Arrivals.{Expected}
use Rattle.stamps.specs.declared.Planned.{Planned}
use Rattle.replay.specs.declared.Replayed.{Replayed}
use Rattle.replay.specs.declared.play.Turned.{Turned}
use Rattle.replay.specs.Recording.{Recording}
use Rattle.replay.specs.Promise.{refusal_in, replay_told, ReplayPromise}
use Rattle.replay.specs.Computed.{recording_of, state_with, BlockAndStateFit, EarsFit, TurnsPlayed}
use Rattle.replay.specs.Computed.{plan_in, start_of, answered_of}
use Rattle.replay.proofs.Judging.{refusal_is, good, kept, room}
use Rattle.replay.proofs.Meets.{promised_refused, promised_accepted}
use Rattle.replay.proofs.replay_in.Goals as goal

-- of a recording, what is expected, and rings, desk and ears: what a replay answers that is refused, or was played
module _ (l : Recording) (x : Expected) (t : State) (ears : List Float) where
  answers_refused : (r : Refusal) → number_of r ≡ refusal_in l x t (length ears)
      → ReplayPromise l x t ears (record { answer = replay_told t.desk x (Err r); rings = t.rings; ears = ears })
  answers_refused r e = promised_refused l x t ears (number_of r) e (has_number r)

  answers_played : (first last : Turned) (rings₁ ears₁ : List Float) {told : Option Planned} (plan : Planned)
      (r : Replayed)
      → refusal_in l x t (length ears) ≡ 0 → r ≡ answered_of plan last → first ≡ start_of t.desk x
      → TurnsPlayed l first t.rings ears last rings₁ ears₁ → last.at ≡ l.frames
      → told ≡ Some plan
      → told ≡ plan_in x l.frames l.stride l.stamps l.shape.channels (length l.inputs) l.ear_stride (length ears)
      → ReplayPromise l x t ears (record { answer = replay_told t.desk x (Ok r); rings = rings₁; ears = ears₁ })
  answers_played first last rings₁ ears₁ plan r e er ef played over is ep =
      subst (λ (r : Replayed). ReplayPromise l x t ears
      (record { answer = replay_told t.desk x (Ok r); rings = rings₁; ears = ears₁ })) (sym er)
      (promised_accepted l x t ears e last rings₁ ears₁
      (subst (λ (first : Turned). TurnsPlayed l first t.rings ears last rings₁ ears₁) ef played) over plan
      (sym is ∙ ep))

pub returns-in_err-plan : goal.returns-in_err-plan
returns-in_err-plan c =
    let a = c.args in
    let line = recording_of a.shape a.frames a.stride a.stamps.now a.inputs.now a.weights.now a.row_of.now a.taps.now
    a.ear_stride in
    let t = state_with a.desk a.rings.now in
    let judged = c.in_err-plan.ensures.refusal
    ∙ refusal_is line a.expected t (length a.ears.now) a.block.now a.block_ears.now _ a.plan
    c.requires.block_value.0 c.requires.block_value.1 c.refusal-judged.ensures c.requires.plan_value in
    let p = err_from_is_err_and c.from_residual.result c.from_residual.ensures.1 in
    rw (p.1, p.2) (answers_refused line a.expected t a.ears.now _ judged)

pub play-last-requires : goal.play-last-requires
play-last-requires c =
    let a = c.args in
    let line = recording_of a.shape a.frames a.stride a.stamps.now a.inputs.now a.weights.now a.row_of.now a.taps.now
    a.ear_stride in
    let t = state_with a.desk a.rings.now in
    let judged = c.in_ok-plan.ensures.refusal
    ∙ refusal_is line a.expected t (length a.ears.now) a.block.now a.block_ears.now _ a.plan
    c.requires.block_value.0 c.requires.block_value.1 c.refusal-judged.ensures c.requires.plan_value in
    let e = sym judged in
    record {
      recording_checked = good line a.expected t (length a.ears.now) e;
      block_and_state_fit =
          subst (λ (first : Turned). BlockAndStateFit line (state_with first.desk a.rings.now) a.block.now
          a.block_ears.now) (sym c.start.ensures)
          (kept line a.expected t (length a.ears.now) e a.block.now a.block_ears.now c.requires.block_value.0
          c.requires.block_value.1);
      ears_fit = subst (EarsFit line) (sym c.start.ensures) (room line a.expected t (length a.ears.now) e);
    }

pub returns : goal.returns
returns c =
    let a = c.args in
    let line = recording_of a.shape a.frames a.stride a.stamps.now a.inputs.now a.weights.now a.row_of.now a.taps.now
    a.ear_stride in
    let t = state_with a.desk a.rings.now in
    let judged = c.in_ok-plan.ensures.refusal
    ∙ refusal_is line a.expected t (length a.ears.now) a.block.now a.block_ears.now _ a.plan
    c.requires.block_value.0 c.requires.block_value.1 c.refusal-judged.ensures c.requires.plan_value in
    let e = sym judged in
    answers_played line a.expected t a.ears.now _ _ _ _ c.in_ok-plan.plan _ e c.answered.ensures c.start.ensures
    c.play-last.ensures.turns_played c.play-last.ensures.over c.in_ok-plan.ensures.planned c.requires.plan_value
