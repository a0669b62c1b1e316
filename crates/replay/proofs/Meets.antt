-- From the judgement and the turns to what `replay` promises. Assumes nothing.
use Rattle.std.specs.Prelude.{◌≡◌, ◌++◌, ◌≤◌, ◌<◌}
use Rattle.lists.specs.Prelude.{sym, ap, ◌∙◌, subst, List, [], append-nil, ℕ, zero-add, arith, length}
use Rattle.lists.specs.Prelude.{drop_of_length-le, Float}
use Rattle.refusals.specs.Refusals.{answered}
use Rattle.refusals.proofs.First.{answered_refused}
use Rattle.lists.proofs.Tables.{length_tab}
use Rattle.planes.specs.Planes.{sample_at, frames_of, with_frames}
use Rattle.planes.proofs.Planes.{with_frames_other, frames_read}
use Rattle.hrtf_rings.specs.State.{State}
use Rattle.hrtf_rings.specs.Held.{held_in, Represents}
use Rattle.std.specs.Prelude.{Some}
use Rattle.stamps.specs.Arrivals.{Expected}
use Rattle.stamps.specs.declared.Planned.{Planned}
use Rattle.stamps.specs.Counts.{out_in, planned_of}
use Rattle.stamps.specs.Events.{Event, events_of}
use Rattle.stamps.proofs.Recordings.{feeds_out}
use Rattle.replay.specs.declared.play.Turned.{Turned}
use Rattle.replay.specs.Recording.{Recording, setup_in, stamps_in, recorded_at, recording_in, events_in}
use Rattle.replay.specs.Heard.{heard_by, unsettled_by, after_by, after_events}
use Rattle.replay.specs.Promise.{refusal_in, ReplayOutcome, refused, accepted, outcome, replay_state_after}
use Rattle.replay.specs.Promise.{ReplayPromise}
use Rattle.replay.specs.Computed.{state_with, plan_in, state_left_by, played_by, unsettled_played_by, silent_frame_of}
use Rattle.replay.specs.Computed.{start_of, events_at, TurnsPlayed}
use Rattle.replay.proofs.Judging.{stands, plan_is, stamps_are, fits_ears}
use Rattle.replay.proofs.Hearing.{length_heard_by, two_each_by, played_by_held, counted_by_is, left_by_is}
use Rattle.replay.proofs.Hearing.{left_by_kept}

module _ (l : Recording) (x : Expected) (t : State) (ears : List Float) where
  abbrev pub answered_by : ℕ → ReplayOutcome
  answered_by k = answered k (accepted l x t ears) (λ n. refused n x t ears)

  pub outcome_by_lem : (k : ℕ) → refusal_in l x t (length ears) ≡ k → outcome l x t ears ≡ answered_by k
  unfolding outcome
  outcome_by_lem k e = ap answered_by e

  -- what is answered where a plan, a count of unsettled frames, a state and ears are known
  abbrev pub answering : Planned → ℕ → State → List Float → ReplayOutcome
  answering plan n s ys =
      record {
        answer = record {
          refusal = 0;
          samples = plan.out;
          unsettled = n;
          late = plan.late;
          silent = plan.silent;
          resets = plan.resets;
          desk = s.desk;
          expected = plan.expected;
        };
        rings = s.rings;
        ears = ys;
      }

  -- what the steps of an accepted replay make of it
  abbrev pub computed : ReplayOutcome
  computed =
      answering (planned_of x (stamps_in l)) (unsettled_played_by (setup_in l) t (events_in l x))
      (state_left_by (setup_in l) t (events_in l x))
      (with_frames ears l.ear_stride 0 (played_by (setup_in l) t (events_in l x)))

  -- THE LAW: of every state in which a replay is accepted, the program's steps make what is promised
  accepted_computed : refusal_in l x t (length ears) ≡ 0 → accepted l x t ears ≡ computed
  accepted_computed e =
      let u = setup_in l in
      let es = events_in l x in
      let sure = stands l x t (length ears) e in
      let count : unsettled_by u t.desk.to_go [] es ≡ unsettled_played_by u t es = sym
      (counted_by_is u t es sure.ringed
      sure.within sure.waits) in
      let state : after_events u t es ≡ state_left_by u t es = sym (left_by_is u t es sure.ringed sure.within) in
      let sums : heard_by u (held_in u t) es ≡ played_by u t es = sym (played_by_held u t es sure.ringed
      sure.within) in
      λ i. answering (planned_of x (stamps_in l)) (count i) (state i) (with_frames ears l.ear_stride 0 (sums i))

  pub outcome_computed : refusal_in l x t (length ears) ≡ 0 → outcome l x t ears ≡ computed
  outcome_computed e = outcome_by_lem 0 e ∙ accepted_computed e

  -- the equation says it all
  promised : (o : ReplayOutcome) → o ≡ outcome l x t ears → ReplayPromise l x t ears o
  promised o e =
      record {
        bits = e;
        words = λ past r z. subst
            (λ (q : ReplayOutcome). Represents (setup_in l) (after_by (setup_in l) past (events_in l x))
            (replay_state_after q))
            (sym (e ∙ outcome_computed z)) (left_by_kept (setup_in l) past t (events_in l x) r);
      }

  pub promised_refused : (n : ℕ) → n ≡ refusal_in l x t (length ears) → (n ≡ 0 → ⊥)
      → ReplayPromise l x t ears (refused n x t ears)
  promised_refused n e some = promised (refused n x t ears)
      (sym (outcome_by_lem n (sym e) ∙ answered_refused (accepted l x t ears) (λ k. refused k x t ears) n some))

  -- ---- what stands in the ear planes

  module _ (e : refusal_in l x t (length ears) ≡ 0) where
    abbrev pairs : List (List Float)
    pairs = heard_by (setup_in l) (held_in (setup_in l) t) (events_in l x)

    pub all_heard : length pairs ≡ out_in x (stamps_in l)
    all_heard =
        length_heard_by (setup_in l) (held_in (setup_in l) t) (events_in l x)
        ∙ feeds_out (silent_frame_of l.shape.channels) x (recording_in l)
        ∙ ap (out_in x) (stamps_are l x t (length ears) e)

    -- the frames that came out, read from the planes: what the convolver played
    pub ears_read : frames_of (outcome l x t ears).ears l.ear_stride 2 (outcome l x t ears).answer.samples
        ≡ played_by (setup_in l) t (events_in l x)
    ears_read =
        let fit = fits_ears l x t (length ears) e in
        let sure = stands l x t (length ears) e in
        ap (λ (o : ReplayOutcome). frames_of o.ears l.ear_stride 2 o.answer.samples) (outcome_by_lem 0 e)
        ∙ ap (frames_of (with_frames ears l.ear_stride 0 pairs) l.ear_stride 2) (sym all_heard)
        ∙ frames_read 2 ears l.ear_stride pairs (omega (arith, all_heard, fit.1)) fit.0
        (two_each_by (setup_in l) (held_in (setup_in l) t) (events_in l x))
        ∙ sym (played_by_held (setup_in l) t (events_in l x) sure.ringed sure.within)

    -- frames of a plane beyond the count are unchanged
    pub beyond : (plane i : ℕ) → out_in x (stamps_in l) ≤ i → i < l.ear_stride
        → sample_at (outcome l x t ears).ears l.ear_stride plane i ≡ sample_at ears l.ear_stride plane i
    beyond plane i h lt =
        ap (λ (o : ReplayOutcome). sample_at o.ears l.ear_stride plane i) (outcome_by_lem 0 e)
        ∙ with_frames_other ears l.ear_stride 0 pairs plane i lt
        (omega (arith, all_heard, (fits_ears l x t (length ears) e).1))
        (λ k b q. omega (arith, all_heard, b, q, h))

    -- no recorded frames change nothing, of what is expected neither
    pub none_replayed : l.frames ≡ 0
        → outcome l x t ears
        ≡ record {
          answer = record {
            refusal = 0;
            samples = 0;
            unsettled = 0;
            late = 0;
            silent = 0;
            resets = 0;
            desk = t.desk;
            expected = x;
          };
          rings = t.rings;
          ears = ears;
        }
    none_replayed z = outcome_computed e ∙ ap by
        (λ i. record {
          shape = l.shape;
          frames = z i;
          stride = l.stride;
          stamps = l.stamps;
          inputs = l.inputs;
          weights = l.weights;
          rows = l.rows;
          taps = l.taps;
          ear_stride = l.ear_stride;
        })
      where
        by : Recording → ReplayOutcome
        by m =
            answering (planned_of x (stamps_in m)) (unsettled_played_by (setup_in m) t (events_in m x))
            (state_left_by (setup_in m) t (events_in m x))
            (with_frames ears m.ear_stride 0 (played_by (setup_in m) t (events_in m x)))

  -- ---- played to the end

  module _ (e : refusal_in l x t (length ears) ≡ 0) (last : Turned) (rings₁ ears₁ : List Float)
      (turns : TurnsPlayed l (start_of t.desk x) t.rings ears last rings₁ ears₁)
      (over : last.at ≡ l.frames) where
    nothing_left : events_at l last.expected last.at ≡ []
    nothing_left =
        let beyond : length (recording_in l) ≤ last.at = omega (
          arith,
          over,
          length_tab 0 l.frames (recorded_at l.stamps l.shape.channels l.stride l.inputs),
        ) in
        ap (events_of (silent_frame_of l.shape.channels) last.expected) (drop_of_length-le (recording_in l) beyond)

    all_gone : turns.gone ≡ events_in l x
    all_gone = sym (turns.split ∙ ap (λ (es : List (Event (List Float))). turns.gone ++ es) nothing_left
        ∙ append-nil turns.gone)

    pub promised_accepted : (plan : Planned) → Some plan ≡ plan_in x l.frames l.stride l.stamps l.shape.channels
        (length l.inputs) l.ear_stride (length ears)
        → ReplayPromise l x t ears (answering plan last.unsettled (state_with last.desk rings₁) ears₁)
    promised_accepted plan ep =
        let u = setup_in l in
        let planned : plan ≡ planned_of x (stamps_in l) =
        cc (plan_is l x t (length ears) e (Some plan) ep) in
        let counts : last.unsettled ≡ unsettled_played_by u t (events_in l x) = turns.counts
        ∙ zero-add (unsettled_played_by u t turns.gone) ∙ ap (unsettled_played_by u t) all_gone in
        let leaves : state_with last.desk rings₁ ≡ state_left_by u t (events_in l x) = turns.leaves
        ∙ ap (state_left_by u t) all_gone in
        let sounds : ears₁ ≡ with_frames ears l.ear_stride 0 (played_by u t (events_in l x)) =
        turns.sounds ∙ ap (λ (es : List (Event (List Float))). with_frames ears l.ear_stride 0 (played_by u t es))
        all_gone in
        promised (answering plan last.unsettled (state_with last.desk rings₁) ears₁)
        ((λ i. answering (planned i) (counts i) (leaves i) (sounds i)) ∙ sym (outcome_computed e))
